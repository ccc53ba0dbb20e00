-- Values beside their words, as the chain goes through them. Assumes nothing.
use Rattle.std.proofs.Common.{rules, tests, ◌∙◌, eqb}
use Rattle.std.proofs.lemmas.Iterator.{YieldsList-from_slice, YieldsList-from_zip}
use Rattle.std.proofs.lemmas.Iterator.Search.{all_from_yields_List}
use Rattle.replay_list.proofs.ValueLaws.{side_by_side}
use Rattle.replay_list.proofs.values.same_words.Goals as goal

pub returns-then-words-values : goal.returns-then-words-values
returns-then-words-values g c =
    all_from_yields_List (λ (x, w). eqb (g.T.Worded.word x) w) c.all.new.self _ c.all.result c.all.ensures.ran
    (YieldsList-from_zip (YieldsList-from_slice c.args.values.now cc) (YieldsList-from_slice c.args.words.now cc))
    (λ x b q k. search (rules, tests))
    ∙ side_by_side g.T.Worded.word c.args.values.now c.args.words.now c.if-words-values.true
