-- Each knot passed ends a span at or below t. Assumes nothing.
use Prim.Native.Nat.{◌+◌, ◌-◌}
use native.Mathlib.Omega.{arith}
use mathlib.Core.Path.{◌≡◌, ◌∙◌}
use mathlib.Core.List.{List}
use lib.Ieee.{Float, le}
use lib.ListN.{length}
use borrow.Author.Rules.{rules}
use Rattle.std.specs.List.{prefix_len}
use Rattle.std.proofs.lemmas.Iterator.{YieldsList-from_slice}
use Rattle.std.proofs.lemmas.Iterator.Search.{YieldsList-from_take_while}
use Rattle.std.proofs.lemmas.Iterator.Consumers.{count_from_yields_List}
use Rattle.std.proofs.lemmas.List.Folds.{length-prefix_len}
use Rattle.places.specs.Regions.{part}
use Rattle.bspline.proofs.SpanLaws.{span_from_is}
use Rattle.bspline.proofs.spans.advance.Goals as goal

pub returns : goal.returns
returns c =
    let a = c.args in
    let flat = a.flat.now in
    let ends : List Float = part (a.span + 1) (length flat - a.degree - 1) flat in
    let passed : c.count.result ≡ prefix_len (λ x. le x a.t) ends =
    count_from_yields_List c.take_while.result _ c.count.ensures.ran
    (YieldsList-from_take_while _ (λ x. le x a.t) (YieldsList-from_slice ends cc) c.take_while.ensures.closure c.take_while.ensures.done (λ x b q k. search rules))
    ∙ length-prefix_len _ ends in
    let all : length flat - a.degree - 1 - (a.span + 1) ≡ length flat - a.degree - 2 - a.span = omega arith in
    rw (passed, all) (span_from_is flat a.t (length flat - a.degree - 2 - a.span) a.span (omega arith))
