-- The rows' fit and the columns' over it, as they stand in their regions, are the definition's, and so is what is handed out of them. Assumes nothing.
use mathlib.Core.Path.{◌≡◌, refl, sym, ◌∙◌, ap, subst}
use mathlib.Core.List.{List}
use Prim.Native.Nat.{ℕ, ◌-◌}
use lib.ListN.{length}
use lib.Ieee.{Float}
use Rattle.std.specs.Prelude.{[], Ok, Err}
use Rattle.places.specs.Places.{laid}
use Rattle.geometry.specs.Doubles.{at}
use Rattle.bspline.specs.declared.Refusal.{Refusal}
use Rattle.knots.specs.Knots.{distinct_knots, knot_at, multiplicity_at}
use Rattle.tables.specs.Directions.{Direction, transposed}
use Rattle.checks.specs.declared.Shape.{Shape}
use Rattle.checks.specs.declared.SurfaceCall.{SurfaceCall}
use Rattle.checks.specs.declared.given.Grid.{Grid}
use Rattle.checks.specs.declared.slices.GridOutput.{GridOutput}
use Rattle.checks.specs.GridChecks.{GridLent}
use Rattle.checks.specs.Slices.{grid_in, grid_lent_with}
use Rattle.fitting.specs.declared.Fit.{Fit}
use Rattle.fitting.specs.declared.Job.{Job}
use Rattle.fitting.specs.declared.room.Regions.{Regions}
use Rattle.fitting.specs.Within.{Marked}
use Rattle.fitting.specs.Marks.{unmarked, fit_of}
use Rattle.fitting.specs.Jobs.{direction_of, candidate_in, poles_in}
use Rattle.making.specs.declared.Standing.{Standing}
use Rattle.making.specs.declared.StandingFit.{StandingFit}
use Rattle.making.specs.Results.{FitResult, fit_to}
use Rattle.making.specs.Runs.{Made, made_in, marked_as, standing_in, StandsIn, Makes}
use Rattle.grids.specs.declared.GridFit.{GridFit}
use Rattle.grids.specs.Grids.{GridResult, grid_refused, grid_accepted, along_u, row_aim, column_aim, beside_rows, after_rows, fit_grid_by, grid_answer_of, surface_poles, grid_handed, HandsOutGrid, GridAnswer}
use Rattle.grids.specs.GridRuns.{stood, count_of, columns_over, TableStands, RowsJob, OverRows, ColumnsJob, placed, HandsDirection, HandsBoth, HandsStood, HandsBothStood}
use Rattle.grids.proofs.SurfaceLaws.{length-transposed}
use Rattle.grids.proofs.FitLaws.{stood-flat, stood-poles, stood-count, handed_back}
use Rattle.grids.proofs.DirectionLaws.{rows_direction, columns_direction}

-- ---- a refusal leaves what is lent
pub refused : {h : Shape} {fit : GridResult} {c : Refusal} {l : GridLent} → fit ≡ grid_refused c → HandsOutGrid h fit l l (Err c)
unfolding grid_answer_of grid_handed
refused {h} {fit} {c} {l} e =
    subst (λ (f : GridResult). HandsOutGrid h f l l (Err c)) (sym e)
    (record { answer = refl; poles = refl; u_flat = refl; u_knots = refl; u_mults = refl; v_flat = refl; v_knots = refl; v_mults = refl })

-- ---- after the rows

-- the columns' fit, by the rows'
abbrev next : SurfaceCall → Grid → List Float → List Float → Marked → FitResult
next call g us vs v = fit_to (column_aim call) (along_u g.metric.factor g.points.now g.shape us vs (unmarked v))

module _ (call : SurfaceCall) {g : Grid} {vs : List Float} {j : Job} (r : RowsJob g vs j) (n : length vs ≡ g.shape.cols) {g' : Regions} {a : Made} (made : Makes j (fit_to (row_aim call) (direction_of j)) g' a) (us : List Float) where
  rows_made : fit_grid_by call (grid_in g) us vs ≡ after_rows (made_in a (standing_in j g')) (next call g us vs)
  unfolding fit_grid_by
  rows_made =
      ap (λ (d : Direction). after_rows (fit_to (row_aim call) d) (next call g us vs)) (sym (rows_direction r n)) ∙ ap (λ (f : FitResult). after_rows f (next call g us vs)) made.answer

  pub rows_fail : (c : Refusal) → a ≡ Err c → fit_grid_by call (grid_in g) us vs ≡ grid_refused c
  unfolding made_in after_rows
  rows_fail c e = rows_made ∙ ap (λ (b : Made). after_rows (made_in b (standing_in j g')) (next call g us vs)) e

  rows_stand : (x : Standing) → a ≡ Ok x → fit_grid_by call (grid_in g) us vs ≡ beside_rows (standing_in j g' x) (next call g us vs (standing_in j g' x))
  unfolding made_in after_rows
  rows_stand x e = rows_made ∙ ap (λ (b : Made). after_rows (made_in b (standing_in j g')) (next call g us vs)) e

-- the fit stands as well with its table
module _ {j : Job} {g g' : Regions} (t : TableStands j g g') where
  pub stands_still : {x : Standing} → StandsIn j g x → StandsIn j g' x
  stands_still s = record { most = rw t.fit s.most; unread = rw t.fit s.unread; few = rw t.count s.few }

  same_fit : (x : Standing) → standing_in j g' x ≡ standing_in j g x
  unfolding standing_in
  same_fit x =
      ap (λ (n : ℕ). marked_as x.mark (n - j.degree - 1) (candidate_in j g')) t.count ∙ ap (marked_as x.mark (g.knots.count - j.degree - 1)) t.fit

-- so the columns are fitted over it
pub rows_over : (call : SurfaceCall) {g : Grid} (us vs : List Float) {j : Job} {g' g'' : Regions} {x : Standing} {a : Made} → RowsJob g vs j → length vs ≡ g.shape.cols
    → Makes j (fit_to (row_aim call) (direction_of j)) g' a → a ≡ Ok x → TableStands j g' g''
    → fit_grid_by call (grid_in g) us vs ≡ beside_rows (standing_in j g'' x) (next call g us j.params.now (standing_in j g'' x))
rows_over call {g} us vs {j} {g'} {g''} {x} r n made e t =
    rows_stand call r n made us x e
    ∙ ap (λ (v : Marked). beside_rows v (next call g us vs v)) (sym (same_fit t x))
    ∙ ap (λ (ps : List Float). beside_rows (standing_in j g'' x) (next call g us ps (standing_in j g'' x))) (sym r.params)

pub same_hands : {h : Shape} {fit fit' : GridResult} {l l' : GridLent} {r : GridAnswer} → fit ≡ fit' → HandsOutGrid h fit' l l' r → HandsOutGrid h fit l l' r
same_hands {h} {fit} {fit'} {l} {l'} {r} e x = subst (λ (f : GridResult). HandsOutGrid h f l l' r) (sym e) x

-- ---- the columns, over the rows' fit

module _ (call : SurfaceCall) {g : Grid} {rows : StandingFit} {us : List Float} {j : Job} (o : OverRows g rows) (c : ColumnsJob g rows us j) {g' : Regions} {a : Made}
    (made : Makes j (fit_to (column_aim call) (direction_of j)) g' a) where
  columns_made : columns_over call g rows us ≡ beside_rows (stood rows) (made_in a (standing_in j g'))
  columns_made = ap (beside_rows (stood rows)) (sym (ap (fit_to (column_aim call)) (columns_direction o c)) ∙ made.answer)

  pub columns_fail : (e : Refusal) → a ≡ Err e → columns_over call g rows us ≡ grid_refused e
  unfolding made_in beside_rows
  columns_fail e z = columns_made ∙ ap (λ (b : Made). beside_rows (stood rows) (made_in b (standing_in j g'))) z

  pub columns_stand : (x : Standing) → a ≡ Ok x → columns_over call g rows us ≡ grid_accepted (standing_in j g' x) (stood rows)
  unfolding made_in beside_rows
  columns_stand x z = columns_made ∙ ap (λ (b : Made). beside_rows (stood rows) (made_in b (standing_in j g'))) z

-- ---- handing out

fits-same : (a a' b b' : Fit) → a ≡ a' → b ≡ b' → ◌≡◌ {A = GridFit} (record { u = a; v = b }) (record { u = a'; v = b' })
fits-same a a' b b' e f = rw (e, f)

-- what is handed out of fits, where they stand
pub stood_direction : (x : StandingFit) {flat flat' knots knots' : List Float} {mults mults' : List ℕ} {r : Fit} → HandsDirection (placed x) flat flat' knots knots' mults mults' r
    → HandsStood x flat flat' knots knots' mults mults' r
stood_direction x h = record { answer = h.answer ∙ sym (handed_back x); poles = h.poles; handed = h.handed }

pub stood_both : (rows columns : StandingFit) → columns.job.lines.lines ≡ count_of rows → {o o' : GridOutput} {r : GridFit} → HandsBoth (placed rows) (placed columns) o o' r
    → HandsBothStood rows columns o o' r
stood_both rows columns lines {o} {o'} {r} h = record {
  u = stood_direction columns h.u;
  v = stood_direction rows h.v;
  surface = rw lines h.surface;
  same = h.same;
}

module _ (h : Shape) (rows columns : StandingFit) (v_degree : rows.job.degree ≡ h.v) (u_degree : columns.job.degree ≡ h.u) where
  surface_is : surface_poles h (unmarked (stood columns)) (unmarked (stood rows)) ≡ transposed (count_of rows) (count_of columns) (poles_in columns.job columns.at.now)
  unfolding surface_poles
  surface_is = rw (← v_degree, ← u_degree, stood-count rows, stood-count columns, stood-poles columns)

  pub hands_grid : {fit : GridResult} {o o' : GridOutput} {r : GridFit} → fit ≡ grid_accepted (stood columns) (stood rows) → HandsBothStood rows columns o o' r
      → HandsOutGrid h fit (grid_lent_with o [] []) (grid_lent_with o' [] []) (Ok r)
  unfolding grid_answer_of grid_handed
  hands_grid {fit} {o} {o'} {r} e out =
      let u : Marked = stood columns in
      let v : Marked = stood rows in
      let s : List Float = transposed (count_of rows) (count_of columns) (poles_in columns.job columns.at.now) in
      subst (λ (f : GridResult). HandsOutGrid h f (grid_lent_with o [] []) (grid_lent_with o' [] []) (Ok r)) (sym e)
      (record {
        answer =
            ap Ok
            (fits-same r.u (fit_of h.u u) r.v (fit_of h.v v)
            (out.u.answer ∙ ap (λ (d : ℕ). fit_of d u) u_degree)
            (out.v.answer ∙ ap (λ (d : ℕ). fit_of d v) v_degree));
        poles =
            out.surface
            ∙ ap (λ (k : ℕ). laid 0 k (at s) o.poles.now) (sym (length-transposed (count_of rows) (count_of columns) (poles_in columns.job columns.at.now)))
            ∙ ap (λ (l : List Float). laid 0 (length l) (at l) o.poles.now) (sym surface_is);
        u_flat = out.u.handed.for_flat ∙ ap (λ (l : List Float). laid 0 (length l) (at l) o.uflat.now) (sym (stood-flat columns));
        u_knots = out.u.handed.runs.values ∙ ap (λ (l : List Float). laid 0 (distinct_knots l) (knot_at l) o.uknots.now) (sym (stood-flat columns));
        u_mults = out.u.handed.runs.multiplicities ∙ ap (λ (l : List Float). laid 0 (distinct_knots l) (multiplicity_at l) o.umults.now) (sym (stood-flat columns));
        v_flat = out.v.handed.for_flat ∙ ap (λ (l : List Float). laid 0 (length l) (at l) o.vflat.now) (sym (stood-flat rows));
        v_knots = out.v.handed.runs.values ∙ ap (λ (l : List Float). laid 0 (distinct_knots l) (knot_at l) o.vknots.now) (sym (stood-flat rows));
        v_mults = out.v.handed.runs.multiplicities ∙ ap (λ (l : List Float). laid 0 (distinct_knots l) (multiplicity_at l) o.vmults.now) (sym (stood-flat rows));
      })

  -- the same of both as they are placed, where the columns have as many lines as the rows' fit has poles
  pub hands_placed : columns.job.lines.lines ≡ count_of rows → {fit : GridResult} {o o' : GridOutput} {r : GridFit} → fit ≡ grid_accepted (stood columns) (stood rows)
      → HandsBoth (placed rows) (placed columns) o o' r → HandsOutGrid h fit (grid_lent_with o [] []) (grid_lent_with o' [] []) (Ok r)
  hands_placed lines e out = hands_grid e (stood_both rows columns lines out)
