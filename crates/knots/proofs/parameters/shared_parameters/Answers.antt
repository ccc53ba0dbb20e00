-- The lines' sums, then those sums rescaled by one reciprocal, then the test that they rise. Assumes nothing.
use Rattle.std.proofs.Common.{◌≡◌, ◌∙◌, ℕ, ◌+◌, ◌-◌, ◌<◌, Bool, true, false, cond, List, length, MatchBool, ap, rules}
use Rattle.std.proofs.Math.Option.{none, some}
use Rattle.std.specs.Float.{Float}
use Rattle.std.specs.Float.Ieee.{le}
use Rattle.geometry.specs.Doubles.{at}
use Rattle.knots.proofs.ParameterLaws.{some_from, found_here, nothing_found}
use Rattle.knots.proofs.SharedLaws.{shared-none, shared-some, behind_two}
use Rattle.knots.proofs.parameters.shared_parameters.Goals as goal

-- some value is at or below the one before it
abbrev Falls : Bool → List Float → Type 0
Falls r xs = MatchBool r ((k : ℕ) × (k < length xs - 1) × (le (at xs (k + 1)) (at xs k) ≡ true)) ((k : ℕ) → k < length xs - 1 → le (at xs (k + 1)) (at xs k) ≡ false)

pub returns-then-used-eq0 : goal.returns-then-used-eq0
returns-then-used-eq0 c =
    let a = c.args in
    let n = a.lines.count in
    nothing_found n _ _ a.out.now (rw c.split_at_mut-params.ensures.back (behind_two n _ _ a.out.now (search rules) (search rules)))
    (shared-none a.metric a.lines.lines n _ _ _ c.add_lines-used.ensures.added c.if-used-eq0.true)

pub returns-then-any : goal.returns-then-any
returns-then-any c =
    let a = c.args in
    let n = a.lines.count in
    let falls : Falls c.any.result c.rescale.new.out = search rules in
    nothing_found n _ _ a.out.now (rw c.split_at_mut-params.ensures.back (behind_two n _ _ a.out.now (search rules) (search rules)))
    (shared-some a.metric a.lines.lines n _ _ _ c.add_lines-used.ensures.added c.if-used-eq0.false (search rules) _ _ c.rescale.ensures (some_from c.any.result _ _ falls)
    ∙ ap (λ (b : Bool). cond b none (some c.rescale.new.out)) c.if-any.true)

pub returns : goal.returns
returns c =
    let a = c.args in
    let n = a.lines.count in
    let falls : Falls c.any.result c.rescale.new.out = search rules in
    found_here n _ c.rescale.new.out _ a.out.now (search rules) (rw c.split_at_mut-params.ensures.back (behind_two n _ _ a.out.now (search rules) (search rules)))
    (shared-some a.metric a.lines.lines n _ _ _ c.add_lines-used.ensures.added c.if-used-eq0.false (search rules) _ _ c.rescale.ensures (some_from c.any.result _ _ falls)
    ∙ ap (λ (b : Bool). cond b none (some c.rescale.new.out)) c.if-any.false)
