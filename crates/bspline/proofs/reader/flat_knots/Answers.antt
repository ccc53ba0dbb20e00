-- The invariant: the runs of the knots passed stand in the first places, and as many places are left as the multiplicities that follow need. Assumes nothing.
use mathlib.Core.Path.{◌≡◌, ap, ◌∙◌}
use Prim.Native.Nat.{ℕ, ◌+◌, ◌≤◌}
use native.Mathlib.Omega.{arith}
use mathlib.Core.List.{[], ◌∷◌, ◌++◌}
use lib.Ieee.{nan}
use lib.ListN.{length, replicate}
use Rattle.std.proofs.lemmas.Slice.Zip.{zip_turn, zip_end}
use Rattle.std.proofs.lemmas.List.{length_push}
use Rattle.places.specs.Regions.{part}
use Rattle.places.proofs.RegionLaws.{length_part}
use Rattle.bspline.proofs.ReaderLaws.{flat_start, flat-next, flat_end, sum_step}
use Rattle.bspline.proofs.reader.flat_knots.Goals as goal

pub loop-knot-init : goal.loop-knot-init
loop-knot-init c = flat_start _ _ _

pub slice_bounds-fill-end : goal.slice_bounds-fill-end
slice_bounds-fill-end c =
    let turn = zip_turn c.args.knots.now c.args.mults.now c.loop-knot.yielded _ _ c.next.new.self _ (cc) (cc) c.loop-knot.yielded_by _ c.in-Some.is c.next.ensures.steps in
    let m = turn.3 0 in
    let step = sum_step c.args.mults.now (length c.loop-knot.yielded) turn.1 in
    omega (arith, c.loop-knot.invariant.left)

pub loop-knot-preserved : goal.loop-knot-preserved
loop-knot-preserved c =
    let turn = zip_turn c.args.knots.now c.args.mults.now c.loop-knot.yielded _ _ c.next.new.self _ (cc) (cc) c.loop-knot.yielded_by _ c.in-Some.is c.next.ensures.steps in
    let end = c.loop-knot.end in
    let out = c.loop-knot.out in
    let m = c.in-Some.mult.now in
    let x = c.in-Some.knot.now in
    let k = length c.loop-knot.yielded in
    let step = sum_step c.args.mults.now k turn.1 in
    let mult = turn.3 0 in
    let fits : end + m ≤ length out = omega (arith, c.loop-knot.invariant.left) in
    let long : length (part end (end + m) out) ≡ m = length_part end (end + m) out fits ∙ omega arith in
    let filled : c.fill.new.self ≡ replicate m x = c.fill.ensures.after (λ y e. e) ∙ ap (λ (n : ℕ). replicate n x) long in
    let next : length (c.loop-knot.yielded ++ ((c.in-Some.knot, c.in-Some.mult) ∷ [])) ≡ k + 1 = length_push _ _ in
    rw (filled, next) (flat-next _ _ _ out end k turn.1 (omega arith) c.loop-knot.invariant m x mult (turn.2 nan))

pub returns : goal.returns
returns c =
    let ends = zip_end c.args.knots.now c.args.mults.now c.loop-knot.yielded _ _ c.next.new.self _ (cc) (cc) c.loop-knot.yielded_by c.in-None.is c.next.ensures.steps in
    flat_end _ _ _ _ _ _ (omega arith) (omega arith) c.loop-knot.invariant
