-- The parameters along u stand in the first places of the work and those along v behind them; where both are found and the counts pass, the fits follow. Assumes nothing.
use Rattle.std.proofs.Common.{rules, ◌≡◌, sym, ap, ◌∙◌, ◌+◌, ◌≤◌, length, take, Err}
use Rattle.std.proofs.Math.Option.{some}
use Rattle.bspline.specs.Refusals.{pass}
use Rattle.checks.specs.Slices.{grid_in}
use Rattle.grids.proofs.RoomLaws.{room_after}
use Rattle.grids.proofs.GridRunLaws.{refused, same_hands}
use Rattle.grids.proofs.GridCallLaws.{u_shared, v_shared, u_none, v_none, counts_stop, counts_pass}
use Rattle.grids.proofs.fits.fit_passed.Goals as goal

pub returns-in_err-shared_parameters-clause-hands : goal.returns-in_err-shared_parameters-clause-hands
returns-in_err-shared_parameters-clause-hands c =
    let a = c.args in
    let u = u_shared a.grid c.columns_of.result c.columns_of.ensures.points c.columns_of.ensures.counts in
    let q = c.in_err-shared_parameters.ensures.answer in
    let f : c.from_residual.result ≡ Err c.in_err-shared_parameters.field-0.0 = search rules in
    rw (f, q.1) (refused (u_none a.call (grid_in a.grid) (sym u ∙ q.0)))

pub returns-in_err-shared_parameters-2-clause-hands : goal.returns-in_err-shared_parameters-2-clause-hands
returns-in_err-shared_parameters-2-clause-hands c =
    let a = c.args in
    let u = u_shared a.grid c.columns_of.result c.columns_of.ensures.points c.columns_of.ensures.counts in
    let v = v_shared a.grid c.rows_of.result c.rows_of.ensures.points.0 c.rows_of.ensures.counts in
    let q = c.in_ok-shared_parameters.ensures.answer in
    let z = c.in_err-shared_parameters-2.ensures.answer in
    let f : c.from_residual-in_err-shared_parameters-2.result ≡ Err c.in_err-shared_parameters-2.field-0.0 = search rules in
    rw (f, z.1) (refused (v_none a.call (grid_in a.grid) _ (sym u ∙ q) (sym v ∙ z.0)))

pub returns-in_err-check_counts-clause-hands : goal.returns-in_err-check_counts-clause-hands
returns-in_err-check_counts-clause-hands c =
    let a = c.args in
    let u = u_shared a.grid c.columns_of.result c.columns_of.ensures.points c.columns_of.ensures.counts in
    let v = v_shared a.grid c.rows_of.result c.rows_of.ensures.points.0 c.rows_of.ensures.counts in
    let k : c.check_counts.result ≡ Err c.in_err-check_counts.field-0.0 = search rules in
    let f : c.from_residual-in_err-check_counts.result ≡ Err c.in_err-check_counts.field-0.0 = search rules in
    rw f (refused (counts_stop a.call (grid_in a.grid) _ (sym u ∙ c.in_ok-shared_parameters.ensures.answer) _ (sym v ∙ c.in_ok-shared_parameters-2.ensures.answer) _ (sym c.check_counts.ensures ∙ k)))

pub fit_rows-requires-clause-room : goal.fit_rows-requires-clause-room
fit_rows-requires-clause-room c =
    let a = c.args in
    let w : length a.work.now ≤ a.grid.shape.rows + a.grid.shape.cols + length c.split_at_mut-v_params.result.1.now = search rules in
    room_after a.grid.shape a.out.now a.work.now a.index.now c.requires.shaped c.requires.roomy w

pub returns-clause-hands : goal.returns-clause-hands
returns-clause-hands c =
    let a = c.args in
    let u = u_shared a.grid c.columns_of.result c.columns_of.ensures.points c.columns_of.ensures.counts in
    let v = v_shared a.grid c.rows_of.result c.rows_of.ensures.points.0 c.rows_of.ensures.counts in
    let us : take c.columns_of.result.count c.shared_parameters.new.out ≡ c.split_at_mut-u_params.result.0.now = search rules in
    let vs : take c.rows_of.result.count c.shared_parameters-2.new.out ≡ c.split_at_mut-v_params.result.0.now = search rules in
    let k : c.check_counts.result ≡ pass = search rules in
    same_hands
    (counts_pass a.call (grid_in a.grid) _ (sym u ∙ c.in_ok-shared_parameters.ensures.answer ∙ ap some us) _ (sym v ∙ c.in_ok-shared_parameters-2.ensures.answer ∙ ap some vs)
    (sym c.check_counts.ensures ∙ k)) c.fit_rows.ensures.hands
