-- The words are laid in the part that is lent, and so in the whole. Assumes nothing.
use Rattle.std.proofs.Common.{◌≡◌, length, ◌/◌, arith, length-take-le}
use borrow.Author.Count.{below_more}
use Rattle.places.proofs.PlaceLaws.{laid0-next}
use Rattle.replay_list.proofs.Loops.{laid_lent}
use Rattle.replay_list.proofs.lines.read_lines.Goals as goal

pub loop-k-preserved : goal.loop-k-preserved
loop-k-preserved c =
    let h = c.loop-k.invariant in
    let d = c.in_ok-word.ensures in
    record { lines = below_more _ _ h.lines d.0; words = laid0-next _ _ _ _ _ h.words d.1 }

pub returns : goal.returns
returns c =
    let h = c.loop-k.invariant in
    let n = length c.args.text.now / 17 in
    let e : c.loop-k.k ≡ n = omega (arith, length-take-le n c.args.words.now c.if-words-n.false) in
    (record { whole = omega arith; each = rw e at h.lines }, c.if-words-n.false, laid_lent n c.loop-k.k _ c.args.words.now _ c.if-words-n.false (omega arith) h.words)
