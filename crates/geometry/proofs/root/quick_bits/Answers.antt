-- `root::quick_bits` meets its contract: the nearest whole number to the root of the scaled digits makes the pattern of the root. Assumes nothing.
use Rattle.std.proofs.Common.{◌≡◌, ℕ, ◌+◌, ◌*◌, ◌/◌, ◌%◌, ◌^◌, ◌<◌, ◌≤◌, ap, ◌∙◌, subst, arith}
use Rattle.geometry.specs.RootSteps.{root_bits, nearest_to}
use Rattle.geometry.proofs.Steps.{doubled}
use Rattle.geometry.proofs.QuickLaws.{nearest-below, moved, nearest-bits}
use Rattle.geometry.proofs.Patterns.{high-number}
use Rattle.geometry.proofs.root.quick_bits.Goals as goal

-- the digits, and the power of two
abbrev digits : ℕ → ℕ
digits b = 2 ^ 52 + b % 2 ^ 52

abbrev power : ℕ → ℕ
power b = b / 2 ^ 52 + 1021

scaled : (b : ℕ) → (2 ^ 52 ≤ digits b * (1 + power b % 2)) × (digits b * (1 + power b % 2) < 2 ^ 54)
scaled b = doubled (digits b) (power b) (omega arith) (omega arith)

-- the digits as the quick way takes them
abbrev shifted : ℕ → ℕ
shifted b = digits b * 2 ^ (8 + power b % 2) % 2 ^ 64

is-scaled : (b : ℕ) → shifted b ≡ digits b * (1 + power b % 2) * 256
is-scaled b = moved (digits b) (power b) (omega arith) (omega arith)

-- what was found is the nearest
found : (c : goal.In_ok-q) → (let b = c.args.b in nearest_to (digits b * (1 + power b % 2) * 2 ^ 52) c.in_ok-q.q)
found c =
    let b = c.args.b in
    let e : shifted b * 2 ^ 44 ≡ digits b * (1 + power b % 2) * 2 ^ 52 = let i = is-scaled b in omega arith in
    subst (λ (n : ℕ). nearest_to n c.in_ok-q.q) e c.in_ok-q.ensures

pub quick_root-requires : goal.quick_root-requires
quick_root-requires c =
    let b = c.args.b in
    let d = scaled b in
    let e = is-scaled b in
    let lo : 2 ^ 60 ≤ shifted b = omega arith in
    let hi : shifted b < 2 ^ 62 = omega arith in
    (lo, hi, c.reciprocal.ensures)

pub overflow_add-result : goal.overflow_add-result
overflow_add-result c =
    let b = c.args.b in
    let d = scaled b in
    let l = nearest-below (digits b * (1 + power b % 2) * 2 ^ 52) c.in_ok-q.q (omega arith) (found c) in
    omega arith

pub returns : goal.returns
returns c =
    let b = c.args.b in
    nearest-bits (digits b) (power b) c.in_ok-q.q (omega arith) (omega arith) (found c) ∙ ap root_bits (high-number b (let h = c.requires.0 in omega arith))
