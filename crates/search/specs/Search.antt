-- The pole-count search (`fit_with_fewest_poles`). Definitions only.
-- It looks for the fewest poles above `degree` and below `last` that pass a test: by steps of 1, 2, 4, .. up from the degree while they stay below `high`,
-- then by halving. What it finds passes, and the count one below fails; it is the least of all only if passing is monotone in the count. `low` fails the test or is the degree; `high` passes it or is `last`, which is never tried.
-- Once `low + step` reaches `high` it stays there, since `low` only rises and `high` only falls: so the three numbers say which phase it is.
use Rattle.std.specs.Prelude.{ℕ, zero, suc, ◌+◌, ◌-◌, ◌*◌, ◌/◌, Bool, cond, List, [], ◌∷◌, leb, ltb, Option, Some, None}
use Rattle.search.specs.declared.Search.{Search}

-- the search before its first try
abbrev pub start : ℕ → ℕ → Search
start degree last = record { low = degree; high = last; step = 1 }

-- how far apart `low` and `high` are, and whether the next try is a step up
abbrev pub width : Search → ℕ
width s = s.high - s.low

abbrev pub galloping : Search → Bool
galloping s = ltb s.step (width s)

-- the count to try, where the search is not over
abbrev pub count_of : Search → ℕ
count_of s = s.low + cond (galloping s) s.step (width s / 2)

-- the next count to try: none where `low` and `high` are neighbours, and the search is over
abbrev pub next_of : Search → Option ℕ
next_of s = cond (leb (width s) 1) None (Some (count_of s))

-- the search after a count that passes, and after one that fails
abbrev pub fitted_at : Search → ℕ → Search
fitted_at s count = record { low = s.low; high = count; step = s.step }

abbrev pub failed_at : Search → ℕ → Search
failed_at s count = record { low = count; high = s.high; step = cond (galloping s) (s.step * 2) s.step }

-- one try: the state in, the next one out; nothing changes once the search is over
unfoldable pub turn : (ℕ → Bool) → Search → Search
turn passes s = cond (leb (width s) 1) s (cond (passes (count_of s)) (fitted_at s (count_of s)) (failed_at s (count_of s)))

-- so many tries
unfoldable pub turns : (ℕ → Bool) → ℕ → Search → Search
turns passes zero s = s
turns passes (suc k) s = turns passes k (turn passes s)

-- the count that the search ends with
abbrev pub answer : ℕ → Search → Option ℕ
answer last s = cond (ltb s.high last) (Some s.high) None

-- `last` turns are enough: each narrows the search
unfoldable pub fewest : (ℕ → Bool) → ℕ → ℕ → Option ℕ
fewest passes degree last = answer last (turns passes last (start degree last))

-- the counts tried, in order
unfoldable pub tried : (ℕ → Bool) → ℕ → Search → List ℕ
tried passes zero s = []
tried passes (suc k) s = cond (leb (width s) 1) [] (count_of s ∷ tried passes k (turn passes s))
