-- The line's sums, and where no two neighbours are confused, those sums rescaled. Assumes nothing.
use Rattle.std.proofs.Common.{◌≡◌, length, arith, rules}
use Rattle.std.proofs.lemmas.List.{drop_at}
use Rattle.knots.proofs.ParameterLaws.{ladder-refused, ladder-accepted, found_here, nothing_found}
use Rattle.knots.proofs.parameters.point_parameters.Goals as goal

pub returns-then-sums : goal.returns-then-sums
returns-then-sums c =
    let a = c.args in
    let n = a.line.count in
    let e = c.line_sums-sums.ensures in
    let long : length c.line_sums-sums.new.out ≡ n = search rules in
    nothing_found n n _ a.out.now (drop_at _ _ n long) (ladder-refused a.metric n _ (omega arith) _ _ e.come_to e.stand c.if-sums.true)

pub returns : goal.returns
returns c =
    let a = c.args in
    let n = a.line.count in
    let e = c.line_sums-sums.ensures in
    let long : length c.rescale.new.out ≡ n = search rules in
    found_here n n _ _ a.out.now long (drop_at _ _ n long) (ladder-accepted a.metric n _ (omega arith) _ _ e.come_to e.stand c.if-sums.false _ c.rescale.ensures)
