-- What the loops do to the places that are laid so far. Assumes nothing.
use Rattle.std.proofs.Common.{◌≡◌, ℕ, ◌≤◌, List, ◌++◌, length, take, drop, arith, length-take-le}
use Rattle.places.specs.Places.{laid}
use Rattle.places.proofs.PlaceLaws.{laid_none, laid0-next, laid-part}

pub ruleset laying = (laid_none, laid0-next)

-- Once all the n places that are lent are laid, so are the first n of the whole.
pub laid_lent : {A : Type 0} (n k : ℕ) (f : ℕ → A) (xs out : List A) → n ≤ length xs → k ≡ length (take n xs) → out ≡ laid 0 k f (take n xs) → out ++ drop n xs ≡ laid 0 n f xs
laid_lent n k f xs out h e l =
    let all : k ≡ n = omega (arith, length-take-le n xs h) in
    rw (l, all) (laid-part 0 n n f xs (omega arith) (omega arith))
