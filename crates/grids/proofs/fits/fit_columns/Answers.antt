-- The columns are fitted over the rows' fit, which stays as it is. Assumes nothing.
use Rattle.std.proofs.Common.{rules, ◌≡◌, refl, arith, Ok, Err}
use Rattle.making.specs.declared.StandingFit.{StandingFit}
use Rattle.grids.proofs.RoomLaws.{u_under, columns_asked, columns_within}
use Rattle.grids.proofs.GridRunLaws.{refused, columns_fail, columns_stand, hands_placed}
use Rattle.grids.proofs.fits.fit_columns.Goals as goal

pub columns_job-job-requires-clause-params : goal.columns_job-job-requires-clause-params
columns_job-job-requires-clause-params c = (c.requires.params.for_u, u_under c.requires.params)

pub split_at_mut-near-requires : goal.split_at_mut-near-requires
split_at_mut-near-requires c =
    let room = columns_within c.requires.over c.columns_job-job.ensures.job c.requires.params.for_u c.sizes-sizes.ensures.sizes c.requires.room.1 in
    omega (arith, c.places.ensures, room)

pub new-saved-requires : goal.new-saved-requires
new-saved-requires c =
    let room = columns_within c.requires.over c.columns_job-job.ensures.job c.requires.params.for_u c.sizes-sizes.ensures.sizes c.requires.room.1 in
    (c.sizes-sizes.ensures.small, omega (arith, room, c.places.ensures, c.split_at_mut-near.ensures.back_len))

pub make_direction-requires : goal.make_direction-requires
make_direction-requires c =
    columns_asked c.sizes-sizes.ensures.sizes c.new-at.ensures c.new-saved.ensures.flat c.new-saved.ensures.poles c.requires.params c.columns_job-job.ensures.job refl c.column_aim.ensures

pub returns-in_err-standing-clause-hands : goal.returns-in_err-standing-clause-hands
returns-in_err-standing-clause-hands c =
    let m : c.make_direction.result ≡ Err c.in_err-standing.field-0.0 = search rules in
    let r : c.from_residual.result ≡ Err c.in_err-standing.field-0.0 = search rules in
    rw r (refused (columns_fail c.args.call c.requires.over c.columns_job-job.ensures.job (rw c.column_aim.ensures at c.make_direction.ensures) _ m))

pub invariant_of-made : goal.invariant_of-made
invariant_of-made c = record { regions = c.make_direction.ensures.regions; stands = c.make_direction.ensures.standing c.in_ok-standing.standing (search rules) }

pub returns-clause-hands : goal.returns-clause-hands
returns-clause-hands c =
    let m : c.make_direction.result ≡ Ok c.in_ok-standing.standing = search rules in
    let made : StandingFit =
    record { job = c.columns_job-job.result; at = _; standing = c.in_ok-standing.standing; regions = c.make_direction.ensures.regions; stands = c.make_direction.ensures.standing c.in_ok-standing.standing m } in
    hands_placed c.args.grid.shape c.args.rows made c.requires.over.job.degree c.columns_job-job.ensures.job.degree c.columns_job-job.ensures.job.lines
    (columns_stand c.args.call c.requires.over c.columns_job-job.ensures.job (rw c.column_aim.ensures at c.make_direction.ensures) _ m) (rw (c.new.ensures, c.new-2.ensures) at c.hand_both.ensures)
