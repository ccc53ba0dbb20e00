-- Two ends are filled, one after the other, and the knots between them stay. Assumes nothing.
use Rattle.std.proofs.Common.{refl}
use Rattle.knots.proofs.KnotLaws.{ends-filled}
use Rattle.knots.proofs.clamped.clamp_ends.Goals as goal

pub returns : goal.returns
returns c =
    let a = c.args in
    ends-filled a.poles a.degree a.flat.now c.fill.new.self _ c.fill-2.new.self _ c.requires.apart c.requires.room
    (c.fill.ensures.after (λ y e. e)) refl (c.fill-2.ensures.after (λ y e. e)) refl
