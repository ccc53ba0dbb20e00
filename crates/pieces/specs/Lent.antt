-- What the functions on lent lists say where they answer by a bool. Definitions only.
use Rattle.std.specs.Prelude.{◌≡◌, Bool, cond, List, ℕ, take, drop, Float}
use Rattle.std.proofs.Math.Option.{Option, none, some}

-- The n parameters that were looked for: r says whether there are any, and then they stand in the first n places. Places from m on stay.
pub record Found (parameters : Option (List Float)) (n m : ℕ) (out out' : List Float) (r : Bool) : Type 0 where
  pub answer : parameters ≡ cond r (some (take n out')) none
  pub rest : drop m out' ≡ drop m out
