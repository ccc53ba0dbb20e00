-- The call's slices hold the fit that the definition gives (the law `call-right`), and that is printed. Assumes nothing.
use Rattle.std.proofs.Common.{rules, subst}
use Rattle.card_printer.specs.Answer.{Put}
use Rattle.card.proofs.AnswerLaws.{call-right}
use Rattle.card.proofs.answer.fit_card.Goals as goal

pub put_handed-requires-clause-few : goal.put_handed-requires-clause-few
put_handed-requires-clause-few c = (call-right _ _ c.call_of-call.ensures _ _ _ _ _ c.requires.points c.fit_ladder-fitted.ensures.call).0

pub returns-clause-put : goal.returns-clause-put
returns-clause-put c = subst (Put _ _ _ _) (call-right _ _ c.call_of-call.ensures _ _ _ _ _ c.requires.points c.fit_ladder-fitted.ensures.call).1 (search rules)
