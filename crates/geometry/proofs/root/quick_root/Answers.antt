-- `root::quick_root` meets its contract: what passes the last test is the nearest whole number, whatever the guess was. Assumes nothing.
use Rattle.std.proofs.Common.{◌≡◌, ℕ, ◌+◌, ◌*◌, ◌/◌, ◌%◌, ◌^◌, ◌<◌, ◌≤◌, arith}
use Rattle.geometry.proofs.QuickLaws.{root-fits, root-below, square-fits, leading-below, leading-above, step_fits, cross-fits, is_nearest}
use Rattle.geometry.proofs.root.quick_root.Goals as goal

-- the leading digits
abbrev leading : ℕ → ℕ → ℕ
leading n y = n / 2 ^ 30 * y / 2 ^ 32

-- where the rest is small: the other digits, and how large all is
module _ (n y r : ℕ) (lo : 2 ^ 60 ≤ n) (hi : n < 2 ^ 62) (guess : y < 2 ^ 32) (rest : (r + leading n y * leading n y) % 2 ^ 64 ≡ n) (small : r / 2 ^ 3 < leading n y) where
  abbrev others : ℕ
  others = (r / 2 ^ 3 * y + 140660178944) / 2 ^ 38

  below : leading n y < 2 ^ 31
  below = leading-below n (leading n y) r lo hi (root-below n y hi guess) rest small

  above : 2 ^ 29 ≤ leading n y
  above = leading-above n (leading n y) r lo hi (root-below n y hi guess) rest small

  step : r / 2 ^ 3 * y < 2 ^ 63
  step = step_fits n (leading n y) r lo hi (root-below n y hi guess) rest small y guess

  others-fits : others < 2 ^ 26
  others-fits = let s = step in omega arith

  cross : (leading n y + 2) * others < 2 ^ 58
  cross = cross-fits (leading n y) others below others-fits

pub overflow_mul-q : goal.overflow_mul-q
overflow_mul-q c = record { fits = root-fits c.args.n c.args.y c.requires.1 c.requires.2 }

pub overflow_mul-q-2 : goal.overflow_mul-q-2
overflow_mul-q-2 c = record { fits = square-fits (leading c.args.n c.args.y) (root-below c.args.n c.args.y c.requires.1 c.requires.2) }

pub overflow_mul-c : goal.overflow_mul-c
overflow_mul-c c = let l = step _ c.args.y _ c.requires.0 c.requires.1 c.requires.2 c.wrapping_sub_u64-r.ensures.value c.if-r-q.false in omega arith

pub overflow_add-c : goal.overflow_add-c
overflow_add-c c = let l = step _ c.args.y _ c.requires.0 c.requires.1 c.requires.2 c.wrapping_sub_u64-r.ensures.value c.if-r-q.false in omega arith

pub overflow_add-square : goal.overflow_add-square
overflow_add-square c = let l = below _ c.args.y _ c.requires.0 c.requires.1 c.requires.2 c.wrapping_sub_u64-r.ensures.value c.if-r-q.false in omega arith

pub overflow_mul-square : goal.overflow_mul-square
overflow_mul-square c = let l = cross _ c.args.y _ c.requires.0 c.requires.1 c.requires.2 c.wrapping_sub_u64-r.ensures.value c.if-r-q.false in omega arith

pub overflow_mul-square-2 : goal.overflow_mul-square-2
overflow_mul-square-2 c = let l = cross _ c.args.y _ c.requires.0 c.requires.1 c.requires.2 c.wrapping_sub_u64-r.ensures.value c.if-r-q.false in omega arith

pub overflow_add-square-2 : goal.overflow_add-square-2
overflow_add-square-2 c =
    let x = cross _ c.args.y _ c.requires.0 c.requires.1 c.requires.2 c.wrapping_sub_u64-r.ensures.value c.if-r-q.false in
    let b = below _ c.args.y _ c.requires.0 c.requires.1 c.requires.2 c.wrapping_sub_u64-r.ensures.value c.if-r-q.false in
    omega arith

pub overflow_mul-r : goal.overflow_mul-r
overflow_mul-r c = let l = below _ c.args.y _ c.requires.0 c.requires.1 c.requires.2 c.wrapping_sub_u64-r.ensures.value c.if-r-q.false in omega arith

pub overflow_add-r : goal.overflow_add-r
overflow_add-r c = let l = below _ c.args.y _ c.requires.0 c.requires.1 c.requires.2 c.wrapping_sub_u64-r.ensures.value c.if-r-q.false in omega arith

pub overflow_mul-q-3 : goal.overflow_mul-q-3
overflow_mul-q-3 c = let l = below _ c.args.y _ c.requires.0 c.requires.1 c.requires.2 c.wrapping_sub_u64-r.ensures.value c.if-r-q.false in omega arith

pub overflow_sub-q : goal.overflow_sub-q
overflow_sub-q c = let l = above _ c.args.y _ c.requires.0 c.requires.1 c.requires.2 c.wrapping_sub_u64-r.ensures.value c.if-r-q.false in omega arith

pub overflow_mul-result : goal.overflow_mul-result
overflow_mul-result c = let l = below _ c.args.y _ c.requires.0 c.requires.1 c.requires.2 c.wrapping_sub_u64-r.ensures.value c.if-r-q.false in omega arith

pub overflow_add-result : goal.overflow_add-result
overflow_add-result c =
    let b = below _ c.args.y _ c.requires.0 c.requires.1 c.requires.2 c.wrapping_sub_u64-r.ensures.value c.if-r-q.false in
    let o = others-fits _ c.args.y _ c.requires.0 c.requires.1 c.requires.2 c.wrapping_sub_u64-r.ensures.value c.if-r-q.false in
    omega arith

pub returns-then-wrapping_sub_u64-q : goal.returns-then-wrapping_sub_u64-q
returns-then-wrapping_sub_u64-q c =
    let n = c.args.n in
    let y = c.args.y in
    is_nearest n (leading n y) c.wrapping_sub_u64-r.result c.requires.0 c.requires.1 (root-below n y c.requires.1 c.requires.2) c.wrapping_sub_u64-r.ensures.value c.if-r-q.false
    _ _ c.wrapping_sub_u64.ensures.value c.if-wrapping_sub_u64-q.true
