-- The six parts one after the other. Assumes nothing.
use Rattle.card_printer.proofs.PutLaws.{puts_puts}
use Rattle.card_printer.proofs.text.Text.put_curve.Goals as goal

pub returns : goal.returns
returns c =
    puts_puts
    (puts_puts
    (puts_puts
    (puts_puts
    (puts_puts c.put.ensures c.put_values.ensures.puts)
    c.put-2.ensures)
    c.put_knots.ensures.puts)
    c.put-3.ensures)
    c.put_poles.ensures.puts
