-- Those of the spans after lo that begin at or below u stand first. Assumes nothing.
use native.Mathlib.Omega.{arith}
use Prim.Native.Nat.{ℕ, ◌+◌, ◌-◌, ◌≤◌, ◌<◌}
use mathlib.Core.Path.{◌≡◌, sym, ap, ◌∙◌}
use mathlib.Core.Bool.{Bool, true, false}
use mathlib.Core.List.{List}
use lib.Ieee.{Float, nan, le}
use lib.ListN.{length, get_or}
use borrow.Author.Rules.{rules}
use Rattle.std.proofs.lemmas.List.{get_or_default}
use Rattle.std.proofs.lemmas.List.Sorted.{IsPartitionPoint-from_clause}
use Rattle.std.specs.List.Sorted.{IsPartitionedBy}
use Rattle.places.specs.Regions.{part}
use Rattle.places.proofs.RegionLaws.{length_part, get_d_part}
use Rattle.bspline.specs.Spans.{begins}
use Rattle.bspline.proofs.SpanLaws.{last_with-point}
use Rattle.bspline.proofs.spans.halve.Goals as goal

-- a knot of the part, as one of the flat knots
begins_in : (flat : List Float) (from to : ℕ) (u d : Float) (i : ℕ) → to ≤ length flat → from + i < to → le (get_or (part from to flat) i d) u ≡ begins flat u (from + i)
begins_in flat from to u d i h l = ap (λ (x : Float). le x u) (get_d_part from to flat i d l ∙ get_or_default flat (from + i) d nan (omega arith))

pub returns : goal.returns
returns c =
    let a = c.args in
    let flat = a.flat.now in
    let from = a.lo + 1 in
    let to = a.lo + a.count in
    let knots : List Float = part from to flat in
    let n : length knots ≡ to - from = length_part from to flat (omega arith) in
    let inside : (i : ℕ) (d : Float) → i < length knots → le (get_or knots i d) a.u ≡ begins flat a.u (from + i) = λ i d l. begins_in flat from to a.u d i (omega arith) (omega arith) in
    let parted : IsPartitionedBy (λ x. le x a.u) knots = λ i j d h l e.
    inside i d (omega arith) ∙ c.requires.begin_first (from + i) (from + j) (omega arith) (omega arith) (sym (inside j d l) ∙ e) in
    let point = IsPartitionPoint-from_clause (λ x. le x a.u) knots _ c.partition_point.ensures.partitioned parted (λ b r q k. search rules) in
    let bound = c.partition_point.ensures.bound in
    let there : (P : Bool) (s : ℕ) → a.lo < s → s ≤ a.lo + (a.count - 1) → le (get_or knots (s - from) nan) a.u ≡ P → begins flat a.u s ≡ P = λ P s h l e.
    let place : from + (s - from) ≡ s = omega arith in
    ap (begins flat a.u) (sym place) ∙ sym (inside (s - from) nan (omega arith)) ∙ e in
    sym (last_with-point (begins flat a.u) a.lo (a.count - 1) c.partition_point.result (omega arith)
    (λ s h l. there true s h (omega arith) (point.0 (s - from) nan (omega arith) (omega arith)))
    (λ s h l. there false s (omega arith) l (point.1 (s - from) nan (omega arith) (omega arith))))
