-- The loop's invariant: the worst deviations of the first s spans stand at the front. Span s starts at place s or after it, so its squares are still there, and the
-- root of the largest of them is the largest of their roots. Assumes nothing.
use Rattle.std.proofs.Common.{◌≡◌, length, sym, refl, ap, ◌∙◌, arith, length-set, rules}
use lib.Ieee.{nan}
use Rattle.places.specs.Places.{list_of}
use Rattle.places.specs.Regions.{part}
use Rattle.places.proofs.PlaceLaws.{length-list_of, list_of-more}
use Rattle.places.proofs.GatheredLaws.{front-next, front-part}
use Rattle.geometry.specs.Doubles.{largest}
use Rattle.geometry.specs.Root.{sqrt_of, roots_of}
use Rattle.geometry.proofs.Roots.{roots-part, Held, held-each, held-part, largest_roots}
use Rattle.refinement.specs.Refinement.{start_of, end_of, worst_of, span_worsts}
use Rattle.refinement.proofs.SpanLaws.{start_next, span_inside}
use Rattle.refinement.proofs.spans.Spans.find_worsts.Goals as goal

pub loop-s-init : goal.loop-s-init
unfolding list_of start_of
loop-s-init c = (refl, (refl, refl))

pub bounds-squares-s : goal.bounds-squares-s
bounds-squares-s c =
    let a = c.args.self in
    let in_List = span_inside (length a.params.now) a.ends.now a.rising a.within c.loop-s.s (omega arith) in
    omega arith

pub loop-s-preserved : goal.loop-s-preserved
unfolding worst_of
loop-s-preserved c =
    let old = c.args.squares.now in
    let ends = c.args.self.ends.now in
    let s = c.loop-s.s in
    let from = start_of ends s in
    let to = end_of ends s in
    let in_List = span_inside (length c.args.self.params.now) ends c.args.self.rising c.args.self.within s (omega arith) in
    let xs = list_of s (worst_of (roots_of old) ends) in
    let n : length xs ≡ s = length-list_of s (worst_of (roots_of old) ends) in
    let same = front-part xs old from to (omega arith) in
    let held : Held (part from to old) = held-part from to old (held-each old (search rules)) in
    let v : c.sqrt.result ≡ worst_of (roots_of old) ends s =
    c.sqrt.ensures
    ∙ ap sqrt_of (c.largest_of-most.ensures ∙ rw (c.loop-s.invariant.0, c.loop-s.invariant.1.1, same))
    ∙ sym (largest_roots (part from to old) held)
    ∙ ap largest (roots-part from to old) in (
      sym (start_next ends s),
      (
        simp length-set c.loop-s.invariant.1.0,
        rw (list_of-more, ← v, c.loop-s.invariant.1.1) (front-next xs old s c.sqrt.result nan (sym n) (omega arith)),
      ),
    )

pub returns : goal.returns
unfolding span_worsts
returns c = let e : c.loop-s.s ≡ length c.args.self.ends.now = omega arith in rw e at c.loop-s.invariant.1.1
