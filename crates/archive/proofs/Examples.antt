-- The reader takes the curve of document 01's cases M 1, 3 and 4, whatever its poles, at each of its parameters, its ends included: so there are curves that the theorem speaks
-- of, and what the archive reads of such a curve is the fit's own point. Assumes nothing.
use mathlib.Core.Path.{◌≡◌}
use mathlib.Core.List.{List, [], ◌∷◌}
use Prim.Native.Nat.{ℕ, ◌<◌}
use lib.ListN.{length}
use lib.Ieee.{Float, le, lt, eq, is_nan, of_bits, binary64}
use Rattle.places.specs.Places.{list_of, joined, some_below, count_below}
use Rattle.geometry.specs.Doubles.{is_finite}
use Rattle.bspline.specs.Refusals.{pass, degree_verdict}
use Rattle.bspline.specs.Reader.{flat_knots, too_large, sizes_verdict, knots_verdict, not_readable, reader_verdict, curve_point, Reading}
use Rattle.bspline.proofs.CheckLaws.{reads}
use Rattle.knots.specs.declared.Metric.{Metric}
use Rattle.knots.specs.Knots.{equal_from, run_length, run_start, distinct_knots, knot_at, multiplicity_at}
use Rattle.fitting.specs.declared.Fit.{Fit}
use Rattle.checks.specs.declared.Call.{Call}
use Rattle.checks.specs.LadderChecks.{Lent, point_count}
use Rattle.ladders.specs.Ladders.{LadderCall}
use Rattle.archive.specs.Archive.{archived_poles, archived_knots, archived_mults, ReadsArchived, parameter_of, fit_point}
use Rattle.archive.proofs.ArchiveLaws.{archive_reads_fit}
use Rattle.std.specs.Prelude.{Ok}

abbrev bits : ℕ → Float
bits b = of_bits binary64 b

-- 0, 0, 0, 0.375, 1, 1, 1
abbrev averaged : List Float
averaged = bits 0 ∷ bits 0 ∷ bits 0 ∷ bits 0x3fd8_0000_0000_0000 ∷ bits 0x3ff0_0000_0000_0000 ∷ bits 0x3ff0_0000_0000_0000 ∷ bits 0x3ff0_0000_0000_0000 ∷ []

-- read at u, as it is handed out: of four poles their number alone matters
abbrev Taken : List Float → Float → Type 0
Taken poles u = reader_verdict poles 2 (list_of (distinct_knots averaged) (knot_at averaged)) (list_of (distinct_knots averaged) (multiplicity_at averaged)) u ≡ pass

-- at 0, 0.25, 0.5 and 1
pub averaged_taken : (poles : List Float) → length poles ≡ 12 → Taken poles (bits 0) × Taken poles (bits 0x3fd0_0000_0000_0000) × Taken poles (bits 0x3fe0_0000_0000_0000) × Taken poles (bits 0x3ff0_0000_0000_0000)
unfolding le lt eq is_nan of_bits list_of joined some_below count_below is_finite flat_knots too_large sizes_verdict degree_verdict knots_verdict not_readable reader_verdict equal_from run_length run_start distinct_knots knot_at multiplicity_at
averaged_taken poles e = (rw e, rw e, rw e, rw e)

-- a call's curve over these knots, read at a point's own parameter: it is taken at 0, so the theorem says what it gives
pub averaged_read : (call : Call) (s : List Float) (v : Metric) (l l' : Lent) (f : Fit) → LadderCall call s 2 v l l' (Ok f) → length (archived_poles f l') ≡ 12
    → archived_knots f l' ≡ list_of (distinct_knots averaged) (knot_at averaged) → archived_mults f l' ≡ list_of (distinct_knots averaged) (multiplicity_at averaged)
    → (k : ℕ) → k < point_count s → (r : Reading) → ReadsArchived 2 f l' (parameter_of v s 2 k) r → r ≡ Ok (fit_point v s 2 f l' k)
averaged_read call s v l l' f h twelve knots mults k g r there =
    let q = curve_point (flat_knots (archived_knots f l') (archived_mults f l')) 2 (archived_poles f l') (bits 0) in
    let passes : reader_verdict (archived_poles f l') 2 (archived_knots f l') (archived_mults f l') (bits 0) ≡ pass = rw (knots, mults) (averaged_taken (archived_poles f l') twelve).0 in
    let here = reads (archived_poles f l') 2 (archived_knots f l') (archived_mults f l') (bits 0) (Ok q) (rw passes) in
    (archive_reads_fit call s 2 v l l' f h).same (bits 0) q here k g r there
