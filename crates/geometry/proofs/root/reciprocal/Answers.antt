-- `root::reciprocal` meets its contract: whatever the table holds, no product is too large. Assumes nothing.
use Rattle.std.proofs.Common.{ℕ, ◌/◌, ◌%◌, ◌^◌, ◌<◌, arith}
use Rattle.geometry.proofs.QuickLaws.{fall-fits, away-fits, bend-fits}
use Rattle.geometry.proofs.root.reciprocal.Goals as goal

-- the distance from a range's lower end
abbrev away : ℕ → ℕ
away b = b / 2 ^ 21 % 8388608

near : (b : ℕ) → away b < 2 ^ 23
near b = omega arith

pub overflow_mul-t : goal.overflow_mul-t
overflow_mul-t c = record { fits = fall-fits (away c.args.b) (near c.args.b) c.word-word.result }

pub overflow_mul-t-2 : goal.overflow_mul-t-2
overflow_mul-t-2 c = let h = away-fits (away c.args.b) (near c.args.b) in omega arith

pub overflow_mul-t-3 : goal.overflow_mul-t-3
overflow_mul-t-3 c = record { fits = bend-fits (away c.args.b) (near c.args.b) c.word-word.result }
