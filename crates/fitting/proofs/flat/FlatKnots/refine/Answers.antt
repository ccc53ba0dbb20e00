-- The round of the knots that stand there, in its own words. Assumes nothing.
use mathlib.Core.Path.{refl, sym, ◌∙◌}
use Rattle.fitting.specs.Flat.{next_in}
use Rattle.fitting.proofs.FlatLaws.{round_none, round_some}
use Rattle.fitting.proofs.flat.FlatKnots.refine.Goals as goal

pub returns-in_err-self : goal.returns-in_err-self
unfolding next_in
returns-in_err-self c = record {
  answer = rw c.from_residual.ensures (round_none _ (sym c.in_err-self.was ∙ c.refine.ensures.value));
  grows = rw c.from_residual.ensures tt;
  places = c.refine.auto.flat;
  degree = refl;
  firsts = c.refine.auto.firsts;
  values = refl;
  for_squares = c.refine.auto.squares;
  for_fresh = c.refine.auto.fresh;
}

pub returns : goal.returns
unfolding next_in
returns c =
    let r = round_some _ _ _ _ _ _ _ _ _ _ (sym c.in_ok-self.was ∙ c.refine.ensures.value) c.refine.ensures.flat_after c.requires.least c.requires.inside in
    record {
      answer = r.0;
      grows = r.1;
      places = c.refine.auto.flat;
      degree = refl;
      firsts = c.refine.auto.firsts;
      values = refl;
      for_squares = c.refine.auto.squares;
      for_fresh = c.refine.auto.fresh;
    }
