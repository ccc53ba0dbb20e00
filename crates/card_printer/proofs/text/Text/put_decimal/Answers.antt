-- The digits that `io::decimal` finds are the fewest, and a number of 64 bits has at most 20. Assumes nothing.
use mathlib.Core.Path.{◌≡◌, sym, ◌∙◌, subst}
use Rattle.card_text.specs.Text.{digits, decimal_text}
use Rattle.card_text.proofs.NumberLaws.{fewest}
use Rattle.card_printer.specs.Answer.{Puts}
use Rattle.card_printer.proofs.text.Text.put_decimal.Goals as goal

pub returns-clause-puts : goal.returns-clause-puts
returns-clause-puts c =
    let f = c.decimal-n.ensures.len in
    let e : decimal_text c.args.x ≡ digits 10 c.decimal-n.result c.args.x = fewest c.args.x c.decimal-n.result c.ranges.x.fits f.0 f.1 f.2 in
    subst (Puts _ _) (c.decimal-n.ensures.digits ∙ sym e) c.put.ensures
