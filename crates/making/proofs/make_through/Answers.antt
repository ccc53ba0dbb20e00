-- The interpolation that stands in the regions is the definition's. Assumes nothing.
use Rattle.std.proofs.Common.{rules}
use Rattle.making.proofs.MakeLaws.{made_through}
use Rattle.making.proofs.make_through.Goals as goal

pub returns : goal.returns
returns c = search (rules, made_through)
