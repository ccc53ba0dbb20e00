-- A round of splitting on the flat knots that stand in their places: whether it gave more, and which. Assumes nothing.
use mathlib.Core.Path.{◌≡◌, refl, sym, ◌∙◌, ap}
use mathlib.Core.List.{List}
use mathlib.Core.Option.{Option, none, some}
use Prim.Native.Nat.{ℕ, ◌+◌, ◌≤◌, ◌<◌}
use native.Mathlib.Omega.{arith}
use Rattle.std.specs.Prelude as prelude
use lib.ListN.{length, take, drop}
use lib.Seq.{length-take-le, take_at}
use lib.Ieee.{Float}
use Rattle.refinement.specs.Refinement.{refined_knots}
use Rattle.refinement.specs.Round.{round_of, flat_after}
use Rattle.refinement.proofs.RoundLaws.{refined-grows}

-- a round that gave no count has no knots
pub round_none : (o : Option (List Float)) → prelude.None ≡ round_of o → o ≡ none
round_none none e = refl
round_none (some all) e = let z : ◌≡◌ {A = prelude.Option ℕ} prelude.None (prelude.Some (length all)) = e in cc

-- a round of n parameters on the first l of the places
module _ (params deviations places places' : List Float) (firsts : List ℕ) (most tolerance : Float) (degree l m : ℕ) where
  abbrev refined : Option (List Float)
  refined = refined_knots params firsts deviations most tolerance degree (take l places)

  -- one that gave a count has so many, which stand there
  pub round_some : prelude.Some m ≡ round_of (refined_knots params firsts deviations most tolerance degree (take l places))
      → places' ≡ flat_after (refined_knots params firsts deviations most tolerance degree (take l places)) places
      → degree < l → l ≤ length places
      → (refined_knots params firsts deviations most tolerance degree (take l places) ≡ some (take m places')) × ((l < m) × (m ≤ length params + degree))
  round_some e put low inside = by_knots refined refl e put
    where
      by_knots : (o : Option (List Float)) → refined ≡ o → prelude.Some m ≡ round_of o → places' ≡ flat_after o places → (refined ≡ some (take m places')) × ((l < m) × (m ≤ length params + degree))
      by_knots none q e there = let z : ◌≡◌ {A = prelude.Option ℕ} (prelude.Some m) prelude.None = e in cc
      by_knots (some all) q e there =
          let long : length (take l places) ≡ l = length-take-le l places inside in
          let g = refined-grows params firsts deviations most tolerance degree (take l places) all q (omega arith) in
          let same : length all ≡ m = cc in
          let stands : take m places' ≡ all = ap (take m) there ∙ take_at all (drop (length all) places) m same in
          (q ∙ ap some (sym stands), (omega (arith, g.0), omega (arith, g.1)))
