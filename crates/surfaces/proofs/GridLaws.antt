-- Demand 3 along u of what a grid call hands out follows from the rest of its contract, whatever the program. Assumes nothing.
use mathlib.Core.Path.{◌≡◌, refl, sym, ◌∙◌, ap, subst}
use mathlib.Core.Bool.{true, ◌||◌}
use mathlib.Core.List.{List}
use mathlib.Core.Option.{Option, none, some}
use Prim.Native.Nat.{ℕ, ◌+◌, ◌-◌, ◌*◌, ◌≤◌}
use native.Mathlib.Nat.{mul-le-mul}
use native.Mathlib.Omega.{arith}
use lib.Dec.{eqb}
use lib.ListN.{length, take}
use lib.Ieee.{Float, le}
use Rattle.places.specs.Places.{laid, some_below}
use Rattle.geometry.specs.declared.Point.{Point}
use Rattle.geometry.specs.Doubles.{◌⊗◌, ◌⊘◌, one, double, at}
use Rattle.bspline.specs.declared.Refusal.{Refusal}
use Rattle.bspline.specs.declared.Refusal.TheVariants.{ConfusedPoints}
use Rattle.knots.specs.declared.Metric.{Metric}
use Rattle.knots.specs.Parameters.{Lines, added_lines, from_zero_to_one, shared_parameters}
use Rattle.knots.specs.Knots.{averaged_knot, averaged_knots}
use Rattle.knots.proofs.ParameterLaws.{unless-some, length-zero_to-one}
use Rattle.tables.specs.BasisTable.{basis_table}
use Rattle.tables.specs.Deviations.{grid_distances}
use Rattle.tables.specs.Directions.{Direction, grid_rows, grid_columns, transposed}
use Rattle.fitting.specs.declared.Mark.TheVariants.{Refined, Spread}
use Rattle.fitting.specs.Within.{Candidate, Marked, refined, spread, interpolated, pole_count, candidate, interpolate, fit_with_refined_knots, fewer_or, fit_within_fewest, passes_on_spread}
use Rattle.fitting.specs.Marks.{unmarked, fit_of}
use Rattle.fitting.specs.Tolerance.{NoneAbove, Fails}
use Rattle.knots.proofs.KnotLaws.{length_clamped}
use Rattle.fitting.proofs.ToleranceLaws.{Lawful, rows_lawful, columns_lawful, search_cases, spread-flat, poles-spread, within-fewest-kept}
use Rattle.making.proofs.HandedLaws.{Sized, From, taken, spread_from, refined_from, alone_cases, refined_mark, spread_mark}
use Rattle.grids.specs.declared.GridFit.{GridFit}
use Rattle.checks.specs.declared.SurfaceCall.TheVariants.{ApproximateWithin}
use Rattle.checks.specs.GridChecks.{Grid, GridLent, grid_room_of, grid_checks, GridShaped, GridRoomy, counts_verdict}
use Rattle.making.specs.Results.{fit_to}
use Rattle.grids.specs.Grids.{GridResult, u_parameters, v_parameters, along_v, along_u, row_share, rows_within, fit_grid_by, grid_checked, grid_fit_with, grid_fit, grid_result_of, grid_answer_of, surface_poles, grid_handed, GridCall, GridKept, ApproximatesGridWithin, HandsOutGrid, row_aim, column_aim, after_rows, beside_rows, GridAnswer}
use Rattle.grids.proofs.SurfaceLaws.{length-transposed}
use Rattle.checks.proofs.GridCheckLaws.{Degrees, grid_gives, degrees-under}
use Rattle.std.specs.Prelude.{Ok, Err}
use Rattle.bspline.specs.Refusals.{Verdict, pass}

-- ---- a grid's direction: what its fit is, whatever the mark
pub record Sound (d : Direction) (a : Marked) : Type 0 where
  pub from-refined : (f : Candidate) → a ≡ refined f → From d f
  pub from-spread : (c : ℕ) (f : Candidate) → a ≡ spread c f → From d f × (pole_count d.degree f.flat ≡ c)
  pub sized : Sized d (unmarked a).flat

from_sized : (d : Direction) (f : Candidate) → From d f → Sized d f.flat
from_sized d f h = subst (Sized d) (sym h.own.flat_is) h.has

sound-refined : (d : Direction) (f : Candidate) → From d f → Sound d (refined f)
unfolding unmarked
sound-refined d f h =
    record {
      from-refined = λ g e. let q : f ≡ g = cc in subst (From d) q h;
      from-spread = λ c g e. let z : ◌≡◌ {A = ℕ} 0 1 = cc in absurd (omega arith);
      sized = from_sized d f h;
    }

sound-spread : (d : Direction) (c : ℕ) (f : Candidate) → From d f → pole_count d.degree f.flat ≡ c → Sound d (spread c f)
unfolding unmarked
sound-spread d c f h p =
    record {
      from-refined = λ g e. let z : ◌≡◌ {A = ℕ} 0 1 = cc in absurd (omega arith);
      from-spread = λ n g e. let q : c ≡ n = cc in let i : f ≡ g = cc in (subst (From d) i h, rw (← i, ← q) p);
      sized = from_sized d f h;
    }

sound-interpolated : (d : Direction) → Sound d (interpolated (interpolate d))
unfolding unmarked interpolate candidate averaged_knots
sound-interpolated d =
    let l = length_clamped (length d.params) d.degree (averaged_knot d.params d.degree) in
    record {
      from-refined = λ g e. let z : ◌≡◌ {A = ℕ} 0 1 = cc in absurd (omega arith);
      from-spread = λ n g e. let z : ◌≡◌ {A = ℕ} 0 1 = cc in absurd (omega arith);
      sized = record { low = omega (arith, l); high = omega (arith, l) };
    }

pub fewest_sound : (d : Direction) → Lawful d → (t : Float) → d.degree + 1 ≤ length d.params → Sound d (fit_within_fewest d t)
unfolding fit_within_fewest fewer_or
fewest_sound d lawful t h = go (fit_with_refined_knots d t) refl
  where
    below : (f : Candidate) → From d f → pole_count d.degree f.flat ≤ length d.params
    below f i = let s = from_sized d f i in let hi = s.high in omega arith

    go : (o : Option Candidate) → fit_with_refined_knots d t ≡ o → Sound d (fewer_or d t o)
    go none e = alone_cases d lawful t (Sound d) (λ c f i p. sound-spread d c f i p) (sound-interpolated d)
    go (some f) e =
        let i = refined_from d t h f e in
        search_cases d lawful (Sound d) (refined f) (pole_count d.degree f.flat) t
        (λ c g k s. sound-spread d c g (spread_from d c g (omega (arith, below f i)) s.own) (ap (pole_count d.degree) (spread-flat d lawful c g s.own) ∙ poles-spread d.params c d.degree))
        (λ x. sound-refined d f i)

-- ---- lengths
pub shared_long : (v : Metric) (lines n : ℕ) (point : ℕ → ℕ → Point) (params : List Float) → shared_parameters v lines n point ≡ some params → length params ≡ n
unfolding shared_parameters
shared_long v lines n point params e =
    let added : Lines = added_lines v lines n point in
    let g : ℕ → Float = λ k. at added.sums k ⊗ (one ⊘ double added.used) in
    let all : List Float = from_zero_to_one n g in
    sym (ap length (unless-some (eqb added.used 0 || some_below (n - 1) (λ k. le (at all (k + 1)) (at all k))) all params e)) ∙ length-zero_to-one n g

-- `GridKept`, over the direction and the distances that it speaks of
record GridKeptBy (d : Direction) (distances : GridFit → List Float) (t : Float) (r : GridAnswer) : Type 0 where
  refined_within : (f : GridFit) (x : Float) → r ≡ Ok f → f.u.mark ≡ Refined x → NoneAbove t (distances f)
  spread_within : (f : GridFit) (x : Float) → r ≡ Ok f → f.u.mark ≡ Spread x → NoneAbove t (distances f)
  spread_passes : (f : GridFit) (x : Float) → r ≡ Ok f → f.u.mark ≡ Spread x → passes_on_spread d t f.u.poles ≡ true
  one_below_fails : (f : GridFit) (x : Float) → r ≡ Ok f → f.u.mark ≡ Spread x → Fails d t (f.u.poles - 1)

-- ---- an accepted grid
u_lawful : (g : Grid) (us vs : List Float) (v : Candidate) → Lawful (along_u g.metric.factor g.points g.shape us vs v)
unfolding along_u
u_lawful g us vs v = columns_lawful g.metric.factor g.points (basis_table v.flat g.shape.v vs) (pole_count g.shape.v v.flat) v.poles g.shape.u us

v_lawful : (g : Grid) (vs : List Float) → Lawful (along_v g.metric.factor g.points g.shape vs)
unfolding along_v
v_lawful g vs = rows_lawful g.metric.factor g.points g.shape.rows g.shape.v vs

u_sound : (g : Grid) (us vs : List Float) (v : Candidate) (t : Float) → g.shape.u + 1 ≤ length us → Sound (along_u g.metric.factor g.points g.shape us vs v) (fit_within_fewest (along_u g.metric.factor g.points g.shape us vs v) t)
unfolding along_u grid_columns
u_sound g us vs v t h = fewest_sound (along_u g.metric.factor g.points g.shape us vs v) (u_lawful g us vs v) t h

v_sized : (g : Grid) (vs : List Float) (t : Float) → g.shape.v + 1 ≤ length vs
    → (g.shape.v + 1 ≤ length (unmarked (rows_within g t vs)).flat) × (length (unmarked (rows_within g t vs)).flat ≤ length vs + g.shape.v + 1)
unfolding rows_within along_v grid_rows
v_sized g vs t h = let s = (fewest_sound (along_v g.metric.factor g.points g.shape vs) (v_lawful g vs) (row_share ⊗ t) h).sized in (s.low, s.high)

module _ (g : Grid) (t : Float) (l l' : GridLent) (us vs : List Float) (n : length us ≡ g.shape.rows) (m : length vs ≡ g.shape.cols) (shaped : GridShaped (length g.points) g.shape) (room : GridRoomy g.shape (grid_room_of l)) (degrees : Degrees g.shape) where
  abbrev marked_v : Marked
  marked_v = rows_within g t vs

  abbrev along_u' : Direction
  along_u' = along_u g.metric.factor g.points g.shape us vs (unmarked marked_v)

  abbrev marked_u : Marked
  marked_u = fit_within_fewest along_u' t

  distances_of : GridFit → List Float
  distances_of f =
      grid_distances g.metric.factor
      (basis_table (take (f.u.poles + g.shape.u + 1) l'.u_flat) g.shape.u us)
      (basis_table (take (f.v.poles + g.shape.v + 1) l'.v_flat) g.shape.v vs)
      f.v.poles
      (take (3 * f.u.poles * f.v.poles) l'.poles)
      g.points

  abbrev handed_fit : GridFit
  handed_fit = record { u = fit_of g.shape.u marked_u; v = fit_of g.shape.v marked_v }

  module _ (u_flat : l'.u_flat ≡ laid 0 (length (unmarked marked_u).flat) (at (unmarked marked_u).flat) l.u_flat)
      (v_flat : l'.v_flat ≡ laid 0 (length (unmarked marked_v).flat) (at (unmarked marked_v).flat) l.v_flat)
      (poles : l'.poles ≡ laid 0 (length (surface_poles g.shape (unmarked marked_u) (unmarked marked_v))) (at (surface_poles g.shape (unmarked marked_u) (unmarked marked_v))) l.poles) where
    -- what stands in the slices is the fit c over v's
    grid-handed : (c : Candidate) → unmarked marked_u ≡ c → From along_u' c → distances_of handed_fit ≡ c.distances
    unfolding distances_of fit_of along_u grid_columns surface_poles
    grid-handed c w h =
        let v = unmarked marked_v in
        let lo = h.has.low in
        let hi = h.has.high in
        let vz = v_sized g vs t (omega (arith, shaped.cols_two, degrees.v-under)) in
        let vlo = vz.0 in
        let vhi = vz.1 in
        let ul = room.for_uflat in
        let vl = room.for_vflat in
        let pl = room.for_poles in
        let fs : length c.flat ≡ length h.knots = ap length h.own.flat_is in
        let p : ℕ = length c.flat - g.shape.u - 1 in
        let q : ℕ = length v.flat - g.shape.v - 1 in
        let a : p + g.shape.u + 1 ≡ length c.flat = omega arith in
        let b : q + g.shape.v + 1 ≡ length v.flat = omega arith in
        let pr : p ≤ g.shape.rows = omega arith in
        let qc : q ≤ g.shape.cols = omega arith in
        let pq : p * q ≤ g.shape.rows * g.shape.cols = mul-le-mul pr qc in
        let sl : length (transposed q p c.poles) ≡ 3 * (q * p) = length-transposed q p c.poles in
        let s : 3 * p * q ≡ length (transposed q p c.poles) = omega arith in
        let x : take (p + g.shape.u + 1) l'.u_flat ≡ h.knots = rw (a, u_flat, w) (taken c.flat l.u_flat (omega arith)) ∙ h.own.flat_is in
        let y : take (q + g.shape.v + 1) l'.v_flat ≡ v.flat = rw (b, v_flat) (taken v.flat l.v_flat (omega arith)) in
        let z : take (3 * p * q) l'.poles ≡ transposed q p c.poles = rw (s, poles, w) (taken (transposed q p c.poles) l.poles (omega arith)) in
        let k : p ≡ length h.knots - g.shape.u - 1 = omega arith in
        rw (w, x, y, z, k) (sym h.own.distances_are)

    accepted-kept : (r : GridAnswer) → r ≡ Ok handed_fit → GridKeptBy along_u' distances_of t r
    unfolding fit_of along_u grid_columns unmarked
    accepted-kept r answer =
        let d = along_u' in
        let k = within-fewest-kept d (u_lawful g us vs (unmarked marked_v)) t in
        let o = u_sound g us vs (unmarked marked_v) t (omega (arith, shaped.rows_two, degrees.u-under)) in
        record {
          refined_within = λ f x e h.
              let q : handed_fit ≡ f = cc in
              let c = refined_mark marked_u x (ap (λ (i : GridFit). i.u.mark) q ∙ h) in
              subst (NoneAbove t) (sym (ap distances_of (sym q) ∙ grid-handed c.0 (ap unmarked c.1) (o.from-refined c.0 c.1))) (k.refined_within c.0 c.1);
          spread_within = λ f x e h.
              let q : handed_fit ≡ f = cc in
              let c = spread_mark marked_u x (ap (λ (i : GridFit). i.u.mark) q ∙ h) in
              subst (NoneAbove t) (sym (ap distances_of (sym q) ∙ grid-handed c.1.0 (ap unmarked c.1.1) (o.from-spread c.0 c.1.0 c.1.1).0)) (k.spread_within c.0 c.1.0 c.1.1);
          spread_passes = λ f x e h.
              let q : handed_fit ≡ f = cc in
              let c = spread_mark marked_u x (ap (λ (i : GridFit). i.u.mark) q ∙ h) in
              let p : f.u.poles ≡ c.0 = ap (λ (i : GridFit). i.u.poles) (sym q) ∙ ap (λ (a : Marked). pole_count g.shape.u (unmarked a).flat) c.1.1 ∙ (o.from-spread c.0 c.1.0 c.1.1).1 in
              rw p (k.spread_passes c.0 c.1.0 c.1.1);
          one_below_fails = λ f x e h.
              let q : handed_fit ≡ f = cc in
              let c = spread_mark marked_u x (ap (λ (i : GridFit). i.u.mark) q ∙ h) in
              let p : f.u.poles ≡ c.0 = ap (λ (i : GridFit). i.u.poles) (sym q) ∙ ap (λ (a : Marked). pole_count g.shape.u (unmarked a).flat) c.1.1 ∙ (o.from-spread c.0 c.1.0 c.1.1).1 in
              rw p (k.one_below_fails c.0 c.1.0 c.1.1);
        }

-- ---- each way through
grid_stopped : (g : Grid) (c : Refusal) (x : GridResult) (r : GridAnswer) → r ≡ grid_answer_of g.shape (grid_checked (Err c) x) → r ≡ Err c
unfolding grid_checked grid_answer_of
grid_stopped g c x r e = e

refused-kept : (g : Grid) (t : Float) (l' : GridLent) (r : GridAnswer) (c : Refusal) → r ≡ Err c → GridKept g t l' r
refused-kept g t l' r c e =
    record {
      refined_within = λ f x q m. let z : ◌≡◌ {A = ℕ} 0 1 = cc in absurd (omega arith);
      spread_within = λ f x q m. let z : ◌≡◌ {A = ℕ} 0 1 = cc in absurd (omega arith);
      spread_passes = λ f x q m. let z : ◌≡◌ {A = ℕ} 0 1 = cc in absurd (omega arith);
      one_below_fails = λ f x q m. let z : ◌≡◌ {A = ℕ} 0 1 = cc in absurd (omega arith);
    }

-- the result of a grid that passes its first checks, by its parameters and counts
abbrev within_of : Grid → Float → Option (List Float) → Option (List Float) → Verdict → GridResult
within_of g t o₁ o₂ w = grid_fit_with w (fit_grid_by (ApproximateWithin t) g) o₁ o₂

u_confused : (g : Grid) (t : Float) (o₂ : Option (List Float)) (k : Verdict) (r : GridAnswer) → r ≡ grid_answer_of g.shape (grid_checked pass (within_of g t none o₂ k)) → r ≡ Err ConfusedPoints
unfolding grid_checked grid_fit_with grid_answer_of
u_confused g t o₂ k r e = e

v_confused : (g : Grid) (t : Float) (us : List Float) (k : Verdict) (r : GridAnswer) → r ≡ grid_answer_of g.shape (grid_checked pass (within_of g t (some us) none k)) → r ≡ Err ConfusedPoints
unfolding grid_checked grid_fit_with grid_answer_of
v_confused g t us k r e = e

counts_stopped : (g : Grid) (t : Float) (us vs : List Float) (c : Refusal) (r : GridAnswer) → r ≡ grid_answer_of g.shape (grid_checked pass (within_of g t (some us) (some vs) (Err c))) → r ≡ Err c
unfolding grid_checked grid_fit_with grid_answer_of
counts_stopped g t us vs c r e = e

module _ (g : Grid) (t : Float) (l l' : GridLent) (r : GridAnswer) where
  passed-kept : (us vs : List Float) → u_parameters g ≡ some us → v_parameters g ≡ some vs → GridShaped (length g.points) g.shape → GridRoomy g.shape (grid_room_of l) → Degrees g.shape
      → r ≡ grid_answer_of g.shape (grid_checked pass (within_of g t (some us) (some vs) pass))
      → l'.u_flat ≡ grid_handed (λ u v. length u.flat) (λ u v. at u.flat) (grid_checked pass (within_of g t (some us) (some vs) pass)) l.u_flat
      → l'.v_flat ≡ grid_handed (λ u v. length v.flat) (λ u v. at v.flat) (grid_checked pass (within_of g t (some us) (some vs) pass)) l.v_flat
      → l'.poles ≡ grid_handed (λ u v. length (surface_poles g.shape u v)) (λ u v. at (surface_poles g.shape u v)) (grid_checked pass (within_of g t (some us) (some vs) pass)) l.poles
      → GridKept g t l' r
  unfolding grid_checked grid_fit_with fit_grid_by rows_within row_aim column_aim fit_to after_rows beside_rows grid_answer_of grid_handed distances_of
  passed-kept us vs p q shaped room degrees a b c d =
      let k = accepted-kept g t l l' us vs (shared_long g.metric g.shape.cols g.shape.rows _ us p) (shared_long g.metric g.shape.rows g.shape.cols _ vs q) shaped room degrees b c d r a in
      record {
        refined_within = λ f x e m. rw (p, q) (k.refined_within f x e m);
        spread_within = λ f x e m. rw (p, q) (k.spread_within f x e m);
        spread_passes = λ f x e m. rw (p, q) (k.spread_passes f x e m);
        one_below_fails = λ f x e m. rw (p, q) (k.one_below_fails f x e m);
      }

  -- who hands the call's result out keeps demand 3. The slices that the call was judged by are m: those that were lent, or none.
  pub grid-handed-kept : (m : GridLent) → (grid_checks g (grid_room_of m) ≡ pass → grid_checks g (grid_room_of l) ≡ pass) → HandsOutGrid g.shape (grid_result_of (ApproximateWithin t) g m) l l' r → GridKept g t l' r
  unfolding grid_fit grid_result_of
  grid-handed-kept m lends i = go (grid_checks g (grid_room_of m)) refl (u_parameters g) refl (v_parameters g) refl (counts_verdict (ApproximateWithin t) g.shape) refl i.answer i.u_flat i.v_flat i.poles
    where
      go : (w : Verdict) → grid_checks g (grid_room_of m) ≡ w → (o₁ : Option (List Float)) → u_parameters g ≡ o₁ → (o₂ : Option (List Float)) → v_parameters g ≡ o₂ → (k : Verdict) → counts_verdict (ApproximateWithin t) g.shape ≡ k
          → r ≡ grid_answer_of g.shape (grid_checked w (within_of g t o₁ o₂ k))
          → l'.u_flat ≡ grid_handed (λ u v. length u.flat) (λ u v. at u.flat) (grid_checked w (within_of g t o₁ o₂ k)) l.u_flat
          → l'.v_flat ≡ grid_handed (λ u v. length v.flat) (λ u v. at v.flat) (grid_checked w (within_of g t o₁ o₂ k)) l.v_flat
          → l'.poles ≡ grid_handed (λ u v. length (surface_poles g.shape u v)) (λ u v. at (surface_poles g.shape u v)) (grid_checked w (within_of g t o₁ o₂ k)) l.poles
          → GridKept g t l' r
      go (Err c) e o₁ e₁ o₂ e₂ k e₃ a f h p = refused-kept g t l' r c (grid_stopped g c (within_of g t o₁ o₂ k) r a)
      go (Ok p₀) e none e₁ o₂ e₂ k e₃ a f h p = refused-kept g t l' r ConfusedPoints (u_confused g t o₂ k r a)
      go (Ok p₀) e (some us) e₁ none e₂ k e₃ a f h p = refused-kept g t l' r ConfusedPoints (v_confused g t us k r a)
      go (Ok p₀) e (some us) e₁ (some vs) e₂ (Err c) e₃ a f h p = refused-kept g t l' r c (counts_stopped g t us vs c r a)
      go (Ok p₀) e (some us) e₁ (some vs) e₂ (Ok p₁) e₃ a f h p = passed-kept us vs e₁ e₂ (grid_gives g (grid_room_of l) (lends e)).0 (grid_gives g (grid_room_of l) (lends e)).1 (degrees-under t g.shape e₃) a f h p

-- Demand 3 needs no proof of the program: it follows from the call's equations.
pub approximates_grid-within : (g : Grid) (t : Float) (l l' : GridLent) (r : GridAnswer) → GridCall (ApproximateWithin t) g l l' r → ApproximatesGridWithin g t l l' r
approximates_grid-within g t l l' r call = record { call = call; kept = grid-handed-kept g t l l' r l (λ e. e) call.hands }
