-- The room that both directions' fits have in the work and in the index, and what their aims ask. Assumes nothing.
use mathlib.Core.Path.{◌≡◌, refl, sym, ◌∙◌, ap, subst}
use mathlib.Core.List.{List}
use Prim.Native.Nat.{ℕ, ◌+◌, ◌*◌, ◌≤◌, ◌<◌, max}
use native.Mathlib.Omega.{arith}
use native.Mathlib.Nat.{mul-le-mul, mul-le-mul_right}
use lib.ListN.{length}
use lib.Ieee.{Float}
use Rattle.bspline.specs.Refusals.{pass}
use Rattle.bspline.proofs.CheckLaws.{both_pass}
use Rattle.tables.specs.Layout.{Reads}
use Rattle.checks.specs.declared.Aim.{Aim}
use Rattle.checks.specs.declared.Shape.{Shape}
use Rattle.checks.specs.declared.SurfaceCall.{SurfaceCall}
use Rattle.checks.specs.declared.SurfaceCall.TheVariants.{Approximate, ApproximateWithin}
use Rattle.checks.specs.declared.given.Grid.{Grid}
use Rattle.checks.specs.declared.slices.GridOutput.{GridOutput}
use Rattle.checks.specs.LadderChecks.{aim_verdict}
use Rattle.checks.specs.GridChecks.{GridShaped, GridRoomy, grid_room_of, counts_verdict}
use Rattle.checks.specs.Slices.{grid_lent_with}
use Rattle.checks.proofs.CheckLaws.{aim-under}
use Rattle.fitting.specs.declared.Job.{Job}
use Rattle.fitting.specs.declared.Kind.{Kind}
use Rattle.fitting.specs.declared.Kind.TheVariants.{Ladder, Rows, Columns}
use Rattle.fitting.specs.declared.room.Sizes.{Sizes}
use Rattle.fitting.specs.declared.room.Regions.{Regions}
use Rattle.fitting.specs.Room.{places_of, HasSizes}
use Rattle.fitting.specs.Solves.{curve_places}
use Rattle.fitting.specs.Jobs.{sizes_of, HasRegions}
use Rattle.making.specs.declared.StandingFit.{StandingFit}
use Rattle.making.specs.declared.saved.SavedFit.{SavedFit}
use Rattle.making.specs.Saving.{saved_places, HasSaved}
use Rattle.grids.specs.Grids.{row_aim, column_aim}
use Rattle.grids.specs.GridRuns.{rows_sizes, columns_sizes, ColumnsRoom, RowsRoom, HasGridOutput, HasParams, RowsJob, OverRows, OnSurface, ColumnsJob}

-- ---- the aims

aims-pass : (call : SurfaceCall) (h : Shape) → counts_verdict call h ≡ pass → (aim_verdict (column_aim call) h.rows h.u ≡ pass) × (aim_verdict (row_aim call) h.cols h.v ≡ pass)
unfolding counts_verdict aim_verdict column_aim row_aim
aims-pass (Approximate m n) h e = both_pass _ _ e
aims-pass (ApproximateWithin t) h e = both_pass _ _ e

module _ {call : SurfaceCall} {g : Grid} {u v : ℕ} (p : HasParams call g u v) where
  column_passes : aim_verdict (column_aim call) g.shape.rows g.shape.u ≡ pass
  column_passes = (aims-pass call g.shape p.counts).0

  row_passes : aim_verdict (row_aim call) g.shape.cols g.shape.v ≡ pass
  row_passes = (aims-pass call g.shape p.counts).1

  -- the degrees are below the points
  pub u_under : g.shape.u < g.shape.rows
  u_under = aim-under (column_aim call) g.shape.rows g.shape.u column_passes p.shaped.u_low

  pub v_under : g.shape.v < g.shape.cols
  v_under = aim-under (row_aim call) g.shape.cols g.shape.v row_passes p.shaped.v_low

-- ---- sizes, and regions of them

sized-same : (p p' n n' l l' c c' : ℕ) → p ≡ p' → n ≡ n' → l ≡ l' → c ≡ c'
    → ◌≡◌ {A = Sizes} (record { degree = p; count = n; lines = l; curve = c }) (record { degree = p'; count = n'; lines = l'; curve = c' })
sized-same p p' n n' l l' c c' a b d e = rw (a, b, d, e)

rows-sized : {g : Grid} {vs : List Float} {j : Job} → RowsJob g vs j → length vs ≡ g.shape.cols → sizes_of j ≡ rows_sizes g.shape
unfolding curve_places
rows-sized r n = sized-same _ _ _ _ _ _ _ _ r.degree (ap length r.params ∙ n) r.lines (ap curve_places r.kind)

curve-long : (k : Kind) (rows : StandingFit) (n : ℕ) (points : List Float) → OnSurface k (λ s. (s.points.now ≡ points) × Reads rows.at.now.fit.table s.across) → rows.at.now.fit.table.poles ≡ n → curve_places k ≡ 3 * n
unfolding curve_places
curve-long Ladder rows n points k e = absurd k
curve-long Rows rows n points k e = absurd k
curve-long (Columns s) rows n points k e = rw (k.1.1, e)

columns-sized : {g : Grid} {rows : StandingFit} {us : List Float} {j : Job} → OverRows g rows → ColumnsJob g rows us j → length us ≡ g.shape.rows → sizes_of j ≡ columns_sizes g.shape j.lines.lines
columns-sized {g} {rows} {us} {j} o c n =
    sized-same _ _ _ _ _ _ _ _ c.degree (ap length c.params ∙ n) refl (curve-long j.kind rows j.lines.lines g.points.now c.kind (o.poles ∙ sym c.lines))

-- regions of a job's sizes, with room for any fit of it
module _ {j : Job} {z : Sizes} (e : z ≡ sizes_of j) {at : Regions} {s : SavedFit} (h : HasSizes z at)
    (flat : length s.flat.now ≡ z.count + z.degree + 1) (poles : length s.poles.now ≡ 3 * (z.lines * z.count)) where
  sized : HasRegions j at × HasSaved j s
  sized = let a = rw e at flat in let b = rw e at poles in (subst (λ (y : Sizes). HasSizes y at) e h, record { flat = omega (arith, a); poles = omega (arith, b) })

  module _ {call : SurfaceCall} {g : Grid} {u v : ℕ} (p : HasParams call g u v) {aim : Aim} where
    pub rows_asked : {vs : List Float} → RowsJob g vs j → length vs ≡ v → aim ≡ row_aim call → HasRegions j at × HasSaved j s × (aim_verdict aim (length j.params.now) j.degree ≡ pass)
    rows_asked {vs} r n a =
        let m : length j.params.now ≡ g.shape.cols = ap length r.params ∙ n ∙ p.for_v in
        (sized.0, sized.1, rw (a, m, r.degree) (row_passes p))

    pub columns_asked : {rows : StandingFit} {us : List Float} → ColumnsJob g rows us j → length us ≡ u → aim ≡ column_aim call → HasRegions j at × HasSaved j s × (aim_verdict aim (length j.params.now) j.degree ≡ pass)
    columns_asked {rows} {us} c n a =
        let m : length j.params.now ≡ g.shape.rows = ap length c.params ∙ n ∙ p.for_u in
        (sized.0, sized.1, rw (a, m, c.degree) (column_passes p))

-- ---- room

-- the rows' regions
pub rows_within : {g : Grid} {vs : List Float} {j : Job} {z : Sizes} {w i : ℕ} → RowsJob g vs j → length vs ≡ g.shape.cols → z ≡ sizes_of j → RowsRoom g.shape w i
    → places_of z + saved_places z + (places_of (columns_sizes g.shape g.shape.cols) + saved_places (columns_sizes g.shape g.shape.cols)) ≤ w
rows_within {g} {vs} {j} {z} {w} {i} r n e room =
    subst (λ (y : Sizes). places_of y + saved_places y + (places_of (columns_sizes g.shape g.shape.cols) + saved_places (columns_sizes g.shape g.shape.cols)) ≤ w) (sym (e ∙ rows-sized r n)) room.for_work

-- the columns' regions, which are no more than the grid's columns
pub columns_within : {g : Grid} {rows : StandingFit} {us : List Float} {j : Job} {z : Sizes} {w i : ℕ} → OverRows g rows → ColumnsJob g rows us j → length us ≡ g.shape.rows → z ≡ sizes_of j → ColumnsRoom g.shape w i
    → places_of z + saved_places z ≤ w
unfolding places_of
columns_within {g} {rows} {us} {j} o c n e room =
    let few : j.lines.lines ≤ g.shape.cols = omega (arith, c.lines, rows.stands.few.most, o.params) in
    let a : j.lines.lines * g.shape.rows ≤ g.shape.cols * g.shape.rows = mul-le-mul_right g.shape.rows few in
    rw (e ∙ columns-sized o c n) (omega (arith, room.for_work, few))

-- what the checks give
v-places : (h : Shape) → h.v * h.cols ≤ max h.u h.v * max h.rows h.cols
v-places h = mul-le-mul {n₁ = h.v} {m₁ = h.cols} {n₂ = max h.u h.v} {m₂ = max h.rows h.cols} (omega arith) (omega arith)

u-places : (h : Shape) → h.u * h.rows ≤ max h.u h.v * max h.rows h.cols
u-places h = mul-le-mul {n₁ = h.u} {m₁ = h.rows} {n₂ = max h.u h.v} {m₂ = max h.rows h.cols} (omega arith) (omega arith)

pub room_after : (h : Shape) (o : GridOutput) (work : List Float) (index : List ℕ) {places w : ℕ} → GridShaped places h → GridRoomy h (grid_room_of (grid_lent_with o work index)) → length work ≤ h.rows + h.cols + w
    → HasGridOutput h o × RowsRoom h w (length index)
unfolding places_of
room_after h o work index s r k = (
  record {
    poles = r.for_poles;
    u = record { few = omega (arith, s.rows_most, s.u_high); for_flat = r.for_uflat; for_knots = r.for_uknots; for_mults = r.for_umults };
    v = record { few = omega (arith, s.cols_most, s.v_high); for_flat = r.for_vflat; for_knots = r.for_vknots; for_mults = r.for_vmults };
  },
  record { for_work = omega (arith, v-places h, u-places h, r.for_work, s.u_high, s.v_high, k); for_index = omega (arith, r.for_index) },
)
