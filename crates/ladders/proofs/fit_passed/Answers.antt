-- The parameters stand in the first places of the work, and what the call makes of them is handed out; or there are none, and nothing is. Assumes nothing.
use mathlib.Core.Path.{◌∙◌, ap}
use Rattle.geometry.specs.declared.Point.{Point}
use Rattle.std.proofs.Common.{rules, ℕ}
use Rattle.ladders.proofs.RunLaws.{passed_none, passed_some}
use Rattle.ladders.proofs.fit_passed.Goals as goal

pub returns-in_err-point_parameters-clause-hands : goal.returns-in_err-point_parameters-clause-hands
returns-in_err-point_parameters-clause-hands c =
    let points = c.line.ensures.there ∙ ap (λ (f : ℕ → ℕ → Point). f 0) c.line_of.ensures.points.0 in
    passed_none c.args.call _ _ _ c.line.result (c.line.ensures.as_many ∙ c.line_of.ensures.counts.1) points _ c.in_err-point_parameters.field-0.0 _ c.in_err-point_parameters.ensures.answer (search rules)

pub returns-clause-hands : goal.returns-clause-hands
returns-clause-hands c =
    let points = c.line.ensures.there ∙ ap (λ (f : ℕ → ℕ → Point). f 0) c.line_of.ensures.points.0 in
    passed_some c.args.call _ _ _ c.line.result (c.line.ensures.as_many ∙ c.line_of.ensures.counts.1) points c.point_parameters.new.out _ _ _ (search rules) c.in_ok-point_parameters.ensures.answer c.fit_params.ensures.hands
