-- How long the knots and poles of a fit are, and that what stands in the output slices is the fit itself. Assumes nothing.
use mathlib.Core.Path.{◌≡◌, refl, sym, ◌∙◌, ap, subst}
use mathlib.Core.Bool.{true, false}
use mathlib.Core.List.{List, ◌++◌}
use mathlib.Core.Option.{Option, none, some}
use Prim.Native.Nat.{ℕ, ◌+◌, ◌*◌, ◌<◌, ◌≤◌}
use native.Mathlib.Omega.{arith}
use lib.ListN.{length, take, drop}
use lib.Ieee.{Float, nan}
use Rattle.places.specs.Loops.{Outcome, outcome}
use Rattle.places.specs.Places.{joined, laid, all_below}
use Rattle.places.proofs.PlaceLaws.{list_of_all, length-joined, part-laid, laid_copy}
use Rattle.geometry.specs.declared.Point.{Point}
use Rattle.geometry.specs.Doubles.{at, largest, is_finite}
use Rattle.cholesky.specs.Cholesky.{substitute_symmetric_band}
use Rattle.knots.specs.Knots.{bezier_knots, approximation_knots}
use Rattle.knots.proofs.KnotLaws.{length_bezier, length-spread}
use Rattle.knots.proofs.ParameterLaws.{when-some}
use Rattle.tables.specs.BasisTable.{BasisTable}
use Rattle.solving.specs.LeastSquares.{right_hand, solved_lines, least_squares}
use Rattle.tables.specs.Directions.{Direction}
use Rattle.solving.proofs.SquareLaws.{length-right, length_substituted}
use Rattle.refinement.proofs.RoundLaws.{refined-grows}
use Rattle.fitting.specs.declared.Mark.TheVariants.{Refined, Spread, Interpolated}
use Rattle.fitting.specs.Marks.{mark_of}
use Rattle.fitting.specs.Within.{Candidate, Marked, refined, spread, interpolated, chosen, interpolate, spread_alone, pole_count, table_on, candidate, candidate_of, fit_on, fit_on_spread, fit_with_refined_knots}
use Rattle.fitting.proofs.ToleranceLaws.{Lawful, search_cases, spread-flat, poles-spread}
use Rattle.fitting.proofs.RefinedLaws.{next_knots, refined_on}

-- ---- lengths of poles

solved-long : (t : BasisTable) (m lines : ℕ) (point : ℕ → ℕ → Point) (o : Outcome (List Float)) (poles : List Float) → solved_lines t m lines point o ≡ some poles → length poles ≡ lines * (3 * m)
unfolding solved_lines
solved-long t m lines point (outcome false lower) poles e = let z : ◌≡◌ {A = ℕ} 0 1 = cc in absurd (omega arith)
solved-long t m lines point (outcome true lower) poles e =
    let line : ℕ → List Float = λ r. substitute_symmetric_band t.degree m lower (right_hand t m (point r)) in
    let all : List Float = joined lines line in
    sym (ap length (when-some (all_below (length all) (λ i. is_finite (at all i))) all poles e))
    ∙ length-joined lines (3 * m) line (λ r h. length_substituted t.degree m lower (right_hand t m (point r)) ∙ length-right t m (point r))

pub length_solved : (t : BasisTable) (m lines : ℕ) (point : ℕ → ℕ → Point) (poles : List Float) → least_squares t m lines point ≡ some poles → length poles ≡ lines * (3 * m)
unfolding least_squares
length_solved t m lines point poles e = solved-long t m lines point _ poles e

-- ---- a fit on given knots
pub record IsFit (d : Direction) (flat : List Float) (f : Candidate) : Type 0 where
  pub flat_is : f.flat ≡ flat
  pub distances_are : f.distances ≡ d.distances (table_on d flat) (pole_count d.degree flat) f.poles
  pub poles-long : length f.poles ≡ d.lines * (3 * pole_count d.degree flat)

private-fit : (d : Direction) (flat : List Float) (o : Option (List Float)) → least_squares (table_on d flat) (pole_count d.degree flat) d.lines d.point ≡ o → (f : Candidate) → candidate_of d flat (table_on d flat) o ≡ some f → IsFit d flat f
unfolding candidate_of candidate
private-fit d flat none h f e = let z : ◌≡◌ {A = ℕ} 0 1 = cc in absurd (omega arith)
private-fit d flat (some poles) h f e =
    let q : candidate d flat (table_on d flat) poles ≡ f = cc in
    subst (IsFit d flat) q
    (record { flat_is = refl; distances_are = refl; poles-long = length_solved (table_on d flat) (pole_count d.degree flat) d.lines d.point poles h })

pub fit_on_is : (d : Direction) (flat : List Float) (f : Candidate) → fit_on d flat ≡ some f → IsFit d flat f
unfolding fit_on
fit_on_is d flat f e = private-fit d flat (least_squares (table_on d flat) (pole_count d.degree flat) d.lines d.point) refl f e

-- ---- a fit on knots that have a property

pub record FitOn (P : List Float → Type 0) (d : Direction) (f : Candidate) : Type 0 where
  pub knots : List Float
  pub has : P knots
  pub own : IsFit d knots f

-- lengths of knots: at least degree + 1, at most those of an interpolation
pub record Sized (d : Direction) (flat : List Float) : Type 0 where
  pub low : d.degree + 1 ≤ length flat
  pub high : length flat ≤ length d.params + d.degree + 1

abbrev pub From : Direction → Candidate → Type 0
From d f = FitOn (Sized d) d f

-- by refinement: what the first round's knots have and each round keeps
pub refined-fit : (P : List Float → Type 0) (d : Direction) (t : Float) → P (bezier_knots d.degree)
    → ((flat all : List Float) (f : Candidate) → P flat → next_knots d t flat f ≡ some all → P all)
    → (f : Candidate) → fit_with_refined_knots d t ≡ some f → FitOn P d f
refined-fit P d t first keeps f e =
    let r = refined_on d t P keeps first f e in
    record { knots = r.flat; has = r.has; own = fit_on_is d r.flat f r.own }

pub refined_from : (d : Direction) (t : Float) → d.degree + 1 ≤ length d.params → (f : Candidate) → fit_with_refined_knots d t ≡ some f → From d f
refined_from d t h f e =
    let l = length_bezier d.degree in
    refined-fit (Sized d) d t (record { low = omega (arith, l); high = omega (arith, l) })
    (λ flat all g s q. let r = refined-grows d.params (table_on d flat).firsts (d.deviations g.distances) (largest g.distances) t d.degree flat all q s.low in record { low = omega (arith, r.0, s.low); high = omega (arith, r.1) })
    f e

-- on spread knots
pub spread-fit : (P : List Float → Type 0) (d : Direction) (c : ℕ) → P (approximation_knots d.params c d.degree) → (f : Candidate) → fit_on_spread d c ≡ some f → FitOn P d f
unfolding fit_on_spread
spread-fit P d c has f e = record { knots = approximation_knots d.params c d.degree; has = has; own = fit_on_is d (approximation_knots d.params c d.degree) f e }

pub spread_sized : (d : Direction) (c : ℕ) → c ≤ length d.params → Sized d (approximation_knots d.params c d.degree)
spread_sized d c h = let l = length-spread d.params c d.degree in record { low = omega (arith, l); high = omega (arith, l) }

pub spread_from : (d : Direction) (c : ℕ) (f : Candidate) → c < length d.params → fit_on_spread d c ≡ some f → From d f
spread_from d c f h e = spread-fit (Sized d) d c (spread_sized d c (omega arith)) f e

-- ---- what stands in a slice is what was handed out
pub taken : (xs ys : List Float) → length xs ≤ length ys → take (length xs) (laid 0 (length xs) (at xs) ys) ≡ xs
taken xs ys h = part-laid 0 (length xs) (at xs) ys nan (omega arith) ∙ list_of_all (length xs) xs nan refl

-- the places beyond stay
pub handed_copy : (xs ys : List Float) → length xs ≤ length ys → xs ++ drop (length xs) ys ≡ laid 0 (length xs) (at xs) ys
handed_copy xs ys h = sym (laid_copy xs ys nan h)

-- ---- from the mark that is handed back to the fit behind it
pub refined_mark : (a : Marked) (x : Float) → mark_of a ≡ Refined x → (f : Candidate) × (a ≡ refined f)
unfolding mark_of
refined_mark (refined f) x e = (f, refl)
refined_mark (spread c f) x e = let z : ◌≡◌ {A = ℕ} 0 1 = cc in absurd (omega arith)
refined_mark (interpolated f) x e = let z : ◌≡◌ {A = ℕ} 0 1 = cc in absurd (omega arith)
refined_mark (chosen f) x e = let z : ◌≡◌ {A = ℕ} 0 1 = cc in absurd (omega arith)

pub spread_mark : (a : Marked) (x : Float) → mark_of a ≡ Spread x → (c : ℕ) × ((f : Candidate) × (a ≡ spread c f))
unfolding mark_of
spread_mark (refined f) x e = let z : ◌≡◌ {A = ℕ} 0 1 = cc in absurd (omega arith)
spread_mark (spread c f) x e = (c, (f, refl))
spread_mark (interpolated f) x e = let z : ◌≡◌ {A = ℕ} 0 1 = cc in absurd (omega arith)
spread_mark (chosen f) x e = let z : ◌≡◌ {A = ℕ} 0 1 = cc in absurd (omega arith)

pub interpolated_mark : (a : Marked) (x : Float) → mark_of a ≡ Interpolated x → (f : Candidate) × (a ≡ interpolated f)
unfolding mark_of
interpolated_mark (refined f) x e = let z : ◌≡◌ {A = ℕ} 0 1 = cc in absurd (omega arith)
interpolated_mark (spread c f) x e = let z : ◌≡◌ {A = ℕ} 0 1 = cc in absurd (omega arith)
interpolated_mark (interpolated f) x e = (f, refl)
interpolated_mark (chosen f) x e = let z : ◌≡◌ {A = ℕ} 0 1 = cc in absurd (omega arith)

-- ---- the spread search alone
pub alone_cases : (d : Direction) → Lawful d → (t : Float) (Q : Marked → Type 0) → ((c : ℕ) (f : Candidate) → From d f → pole_count d.degree f.flat ≡ c → Q (spread c f)) → Q (interpolated (interpolate d)) → Q (spread_alone d t)
unfolding spread_alone
alone_cases d lawful t Q a b =
    search_cases d lawful Q (interpolated (interpolate d)) (length d.params) t
    (λ c f h i. a c f (spread_from d c f h i.own) (ap (pole_count d.degree) (spread-flat d lawful c f i.own) ∙ poles-spread d.params c d.degree))
    (λ x. b)
