-- A word has 16 digits, whatever its first ones are. Assumes nothing.
use mathlib.Core.Path.{◌≡◌, ap, ◌∙◌, subst}
use native.Mathlib.Omega.{arith}
use lib.ListN.{take}
use Rattle.card_text.specs.Text.{digits, word_text, double_text}
use Rattle.card_text.proofs.NumberLaws.{sixteen}
use Rattle.card_printer.specs.Answer.{Puts}
use Rattle.card_printer.proofs.text.Text.put_double.Goals as goal

pub returns-clause-puts : goal.returns-clause-puts
unfolding word_text
returns-clause-puts c =
    let n = c.hex-n.result in
    let w = c.to_word.result in
    let d = c.hex-n.ensures.len in
    let long = sixteen w n (omega arith) d.0 d.2 in
    let e : take n c.hex-n.new.out ≡ word_text w = c.hex-n.ensures.digits ∙ ap (λ k. digits 16 k w) long in
    let f : word_text w ≡ double_text c.args.x = ap word_text c.to_word.ensures in
    subst (Puts _ _) (e ∙ f) c.put.ensures
