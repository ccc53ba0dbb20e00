-- The rows' fit stands in its regions with its table, and the columns are fitted over it. Assumes nothing.
use Rattle.std.proofs.Common.{rules, ◌≡◌, refl, arith, Ok, Err}
use Rattle.grids.proofs.RoomLaws.{v_under, rows_asked, rows_within}
use Rattle.grids.proofs.GridRunLaws.{refused, rows_fail, rows_over, stands_still, same_hands}
use Rattle.grids.proofs.fits.fit_rows.Goals as goal

pub rows_job-job-requires-clause-params : goal.rows_job-job-requires-clause-params
rows_job-job-requires-clause-params c = (c.requires.params.for_v, v_under c.requires.params)

pub split_at_mut-near-requires : goal.split_at_mut-near-requires
split_at_mut-near-requires c =
    let room = rows_within c.rows_job-job.ensures c.requires.params.for_v c.sizes-sizes.ensures.sizes c.requires.room.1 in
    omega (arith, c.places.ensures, room)

pub split_at_mut-put_by-requires : goal.split_at_mut-put_by-requires
split_at_mut-put_by-requires c =
    let room = rows_within c.rows_job-job.ensures c.requires.params.for_v c.sizes-sizes.ensures.sizes c.requires.room.1 in
    omega (arith, c.places.ensures, c.saved_places.ensures, c.split_at_mut-near.ensures.back_len, room)

pub make_direction-requires : goal.make_direction-requires
make_direction-requires c =
    rows_asked c.sizes-sizes.ensures.sizes c.new-at.ensures c.new-saved.ensures.flat c.new-saved.ensures.poles c.requires.params c.rows_job-job.ensures refl c.row_aim.ensures

pub returns-in_err-standing-clause-hands : goal.returns-in_err-standing-clause-hands
returns-in_err-standing-clause-hands c =
    let m : c.make_direction.result ≡ Err c.in_err-standing.field-0.0 = search rules in
    let r : c.from_residual.result ≡ Err c.in_err-standing.field-0.0 = search rules in
    rw r (refused (rows_fail c.args.call c.rows_job-job.ensures c.requires.params.for_v (rw c.row_aim.ensures at c.make_direction.ensures) _ _ m))

pub fill_table-requires : goal.fill_table-requires
fill_table-requires c = (c.make_direction.ensures.regions, (c.make_direction.ensures.standing c.in_ok-standing.standing (search rules)).few)

pub invariant_of-rows : goal.invariant_of-rows
invariant_of-rows c = record { regions = c.fill_table.ensures.regions; stands = stands_still c.fill_table.ensures (c.make_direction.ensures.standing c.in_ok-standing.standing (search rules)) }

pub fit_columns-requires-clause-room : goal.fit_columns-requires-clause-room
fit_columns-requires-clause-room c =
    let room = rows_within c.rows_job-job.ensures c.requires.params.for_v c.sizes-sizes.ensures.sizes c.requires.room.1 in (
      c.requires.room.0,
      record {
        for_work = omega (arith, c.places.ensures, c.saved_places.ensures, c.split_at_mut-near.ensures.back_len, c.split_at_mut-put_by.ensures.back_len, room);
        for_index = search rules;
      },
    )

pub returns-clause-hands : goal.returns-clause-hands
returns-clause-hands c =
    let m : c.make_direction.result ≡ Ok c.in_ok-standing.standing = search rules in
    same_hands (rows_over c.args.call _ _ c.rows_job-job.ensures c.requires.params.for_v (rw c.row_aim.ensures at c.make_direction.ensures) m c.fill_table.ensures) c.fit_columns.ensures.hands
