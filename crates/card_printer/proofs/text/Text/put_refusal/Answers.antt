-- The two lines one after the other. Assumes nothing.
use Rattle.card_printer.proofs.PutLaws.{puts_puts}
use Rattle.card_printer.proofs.text.Text.put_refusal.Goals as goal

pub returns : goal.returns
returns c = rw (← c.from.ensures) (puts_puts c.put.ensures (puts_puts c.put_decimal.ensures.puts c.put-2.ensures))
