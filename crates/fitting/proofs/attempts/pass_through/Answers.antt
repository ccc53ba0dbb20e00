-- The table and the poles on the averaged knots that were laid. Assumes nothing.
use Rattle.std.proofs.Common.{rules}
use Rattle.fitting.proofs.AttemptLaws.{through_lines, through_poles, through_measurable, passes}
use Rattle.fitting.proofs.attempts.pass_through.Goals as goal

pub pass-requires-clause-has_lines : goal.pass-requires-clause-has_lines
pass-requires-clause-has_lines c =
    let k = c.lay_averaged in
    let f = c.fill in
    through_lines c.args.job c.args.at.now c.requires k.new.self k.ensures f.new.self f.ensures.filled f.ensures.poles_after

pub pass-requires-clause-as_many : goal.pass-requires-clause-as_many
pass-requires-clause-as_many c =
    let k = c.lay_averaged in
    let f = c.fill in
    through_poles c.args.job c.args.at.now c.requires k.new.self k.ensures f.new.self f.ensures.filled f.ensures.poles_after

pub measure-requires : goal.measure-requires
measure-requires c =
    let k = c.lay_averaged in
    let f = c.fill in
    let p = c.pass in
    through_measurable c.args.job c.args.at.now c.requires k.new.self k.ensures f.new.self f.ensures.filled f.ensures.poles_after p.new.self p.ensures

pub returns-clause-passed : goal.returns-clause-passed
returns-clause-passed c =
    let k = c.lay_averaged in
    let f = c.fill in
    let p = c.pass in
    let m = c.measure in
    passes c.args.job c.args.at.now c.requires k.new.self k.ensures f.new.self f.ensures.filled f.ensures.poles_after p.new.self p.ensures _ (search rules) _ m.ensures
