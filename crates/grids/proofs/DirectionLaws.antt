-- The directions that a grid's fits are made along are the definition's. Assumes nothing.
use mathlib.Core.Path.{◌≡◌, refl, sym, ◌∙◌, ap}
use mathlib.Core.List.{List}
use Prim.Native.Nat.{ℕ}
use lib.ListN.{length}
use lib.Ieee.{Float}
use Rattle.geometry.specs.declared.Point.{Point}
use Rattle.knots.specs.OnLines.{on_lines}
use Rattle.tables.specs.declared.basis_table.TablePlaces.{TablePlaces}
use Rattle.tables.specs.BasisTable.{BasisTable, basis_table, parameter_count}
use Rattle.tables.specs.Deviations.{row_distances, grid_distances, largest_over_rows, largest_over_columns, largest_within}
use Rattle.tables.specs.Layout.{table_in, Reads}
use Rattle.tables.specs.Directions.{Direction, row_point, column_point, transposed, grid_rows, grid_columns}
use Rattle.checks.specs.declared.given.Grid.{Grid}
use Rattle.fitting.specs.declared.Job.{Job}
use Rattle.fitting.specs.declared.Kind.{Kind}
use Rattle.fitting.specs.declared.Kind.TheVariants.{Ladder, Rows, Columns}
use Rattle.fitting.specs.Within.{Candidate, pole_count}
use Rattle.fitting.specs.Marks.{unmarked}
use Rattle.fitting.specs.Jobs.{distances_by, deviations_by, within_by, direction_of}
use Rattle.making.specs.declared.StandingFit.{StandingFit}
use Rattle.grids.specs.Grids.{along_v, along_u}
use Rattle.grids.specs.GridRuns.{stood, count_of, RowsJob, OverRows, OnSurface, ColumnsJob}
use Rattle.grids.proofs.FitLaws.{stood-flat, stood-poles, stood-count}

-- ---- the rows, along v

abbrev rows_by : ℕ → List Float → ℕ → (ℕ → ℕ → Point) → Float → List Float → Direction
rows_by degree params lines point f s =
    record {
      degree = degree;
      params = params;
      lines = lines;
      point = point;
      distances = λ t m poles. row_distances f lines t m poles s;
      deviations = largest_over_rows lines (length params);
      within = largest_within;
    }

rows_by-same : (d d' : ℕ) (ps ps' : List Float) (l l' : ℕ) (q q' : ℕ → ℕ → Point) (f f' : Float) (s s' : List Float) → d ≡ d' → ps ≡ ps' → l ≡ l' → q ≡ q' → f ≡ f' → s ≡ s'
    → rows_by d ps l q f s ≡ rows_by d' ps' l' q' f' s'
rows_by-same d d' ps ps' l l' q q' f f' s s' a b c e g h = rw (a, b, c, e, g, h)

-- a job of a kind
abbrev of_kind : Job → Kind → Direction
of_kind j k =
    record {
      degree = j.degree;
      params = j.params.now;
      lines = j.lines.lines;
      point = on_lines j.lines;
      distances = distances_by j.factor j.lines k;
      deviations = deviations_by j.lines.lines (length j.params.now) k;
      within = within_by k;
    }

of_rows : (j : Job) → of_kind j Rows ≡ rows_by j.degree j.params.now j.lines.lines (on_lines j.lines) j.factor j.lines.points.now
unfolding distances_by deviations_by within_by
of_rows j = refl

pub rows_direction : {g : Grid} {vs : List Float} {j : Job} → RowsJob g vs j → length vs ≡ g.shape.cols → direction_of j ≡ along_v g.metric.factor g.points.now g.shape vs
unfolding direction_of along_v grid_rows
rows_direction {g} {vs} {j} r n =
    ap (of_kind j) r.kind
    ∙ of_rows j
    ∙ rows_by-same _ _ _ _ _ _ _ _ _ _ _ _ r.degree r.params r.lines (r.points ∙ ap (row_point g.points.now) (sym n)) r.factor r.list

-- ---- the columns, along u

abbrev columns_by : ℕ → List Float → ℕ → (ℕ → ℕ → Point) → Float → BasisTable → List Float → Direction
columns_by degree params lines point f v s =
    record {
      degree = degree;
      params = params;
      lines = lines;
      point = point;
      distances = λ t m poles. grid_distances f t v lines (transposed lines m poles) s;
      deviations = largest_over_columns (length params) (parameter_count v);
      within = largest_within;
    }

columns_by-same : (d d' : ℕ) (ps ps' : List Float) (l l' : ℕ) (q q' : ℕ → ℕ → Point) (f f' : Float) (v v' : BasisTable) (s s' : List Float)
    → d ≡ d' → ps ≡ ps' → l ≡ l' → q ≡ q' → f ≡ f' → v ≡ v' → s ≡ s'
    → columns_by d ps l q f v s ≡ columns_by d' ps' l' q' f' v' s'
columns_by-same d d' ps ps' l l' q q' f f' v v' s s' a b c e g h i = rw (a, b, c, e, g, h, i)

of_columns : (j : Job) (k : Kind) (points : List Float) (t : TablePlaces) → OnSurface k (λ s. (s.points.now ≡ points) × Reads t s.across)
    → of_kind j k ≡ columns_by j.degree j.params.now j.lines.lines (on_lines j.lines) j.factor (table_in t) points
unfolding distances_by deviations_by within_by
of_columns j Ladder points t s = absurd s
of_columns j Rows points t s = absurd s
of_columns j (Columns s) points t e = rw (e.0, e.1.0, e.1.2, e.1.3)

pub columns_direction : {g : Grid} {rows : StandingFit} {us : List Float} {j : Job} → OverRows g rows → ColumnsJob g rows us j
    → direction_of j ≡ along_u g.metric.factor g.points.now g.shape us rows.job.params.now (unmarked (stood rows))
unfolding direction_of along_u grid_columns
columns_direction {g} {rows} {us} {j} o c =
    let v : Candidate = unmarked (stood rows) in
    let n : count_of rows ≡ pole_count g.shape.v v.flat = sym (stood-count rows) ∙ ap (λ (d : ℕ). pole_count d v.flat) o.job.degree in
    let t : table_in rows.at.now.fit.table ≡ basis_table v.flat g.shape.v rows.job.params.now = o.table ∙ ap (λ (l : List Float). basis_table l g.shape.v rows.job.params.now) (sym (stood-flat rows)) in
    let q : on_lines j.lines ≡ column_point v.poles (pole_count g.shape.v v.flat) = c.points ∙ ap (λ (l : List Float). column_point l (count_of rows)) (sym (stood-poles rows)) ∙ ap (column_point v.poles) n in
    of_columns j j.kind g.points.now rows.at.now.fit.table c.kind
    ∙ columns_by-same _ _ _ _ _ _ _ _ _ _ _ _ _ _ c.degree c.params (c.lines ∙ n) q c.factor t refl
