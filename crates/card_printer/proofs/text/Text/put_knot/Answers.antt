-- The fields one after the other. Assumes nothing.
use Rattle.card_printer.proofs.PutLaws.{puts_puts}
use Rattle.card_printer.proofs.text.Text.put_knot.Goals as goal

pub returns-clause-puts : goal.returns-clause-puts
returns-clause-puts c = puts_puts c.put_double.ensures.puts (puts_puts c.put.ensures (puts_puts c.put_decimal.ensures.puts c.put-2.ensures))
