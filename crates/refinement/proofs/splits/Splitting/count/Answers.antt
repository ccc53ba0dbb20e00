-- The spans below the number of all that split, counted one by one. Assumes nothing.
use Rattle.std.proofs.Common.{ℕ, Bool, length, ◌∙◌, rules, tests, refl, arith}
use Rattle.std.proofs.lemmas.Iterator.{YieldsList-from_range}
use Rattle.std.proofs.lemmas.Iterator.Consumers.{YieldsList-at, YieldsList-from_filter, count_from_yields_List}
use Rattle.refinement.specs.Refinement.{splits}
use Rattle.refinement.proofs.SplitLaws.{count_chosen}
use Rattle.refinement.proofs.splits.Splitting.count.Goals as goal

pub returns : goal.returns
returns c =
    let a = c.args.self in
    let n = length a.spans.ends.now in
    let p : ℕ → Bool = splits a.spans.ends.now a.worsts.now a.tolerance a.threshold in
    count_from_yields_List c.filter.result c.count.result c.count.ensures.ran
    (YieldsList-from_filter _ p (YieldsList-at c.filter.ensures.source (YieldsList-from_range 0 n n refl (omega arith))) c.filter.ensures.closure (λ x r q k. search (rules, tests)))
    ∙ count_chosen p n
