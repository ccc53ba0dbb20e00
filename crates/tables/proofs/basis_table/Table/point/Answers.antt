-- The values of parameter k are lent as a part of all. Assumes nothing.
use native.Mathlib.Omega.{arith}
use Prim.Native.Nat.{◌+◌}
use mathlib.Core.Path.{◌≡◌, ◌∙◌}
use lib.ListN.{length}
use Rattle.tables.specs.Layout.{table_of}
use Rattle.tables.proofs.ReadingLaws.{point_in}
use Rattle.tables.proofs.basis_table.Table.point.Goals as goal

pub returns : goal.returns
returns c =
    let r = c.row-row.ensures in
    let long : length c.row-row.result.values.now ≡ c.args.self.now.degree + 1 = omega (arith, c.row-row.result.long, r.place.0) in
    c.pole_sum.ensures ∙ rw (long, r.place.1, r.values) (point_in (table_of c.args.self.now) c.args.poles.now c.args.start c.args.k)
