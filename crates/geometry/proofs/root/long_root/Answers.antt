-- From the whole root of n one division gives that of n with 52 digits more. Assumes nothing.
use Rattle.std.proofs.Common.{arith}
use Rattle.geometry.proofs.Steps.{limits, as_is, one_less}
use Rattle.geometry.proofs.root.long_root.Goals as goal

pub overflow_add-q : goal.overflow_add-q
overflow_add-q c = let l = limits c.args.s.q c.args.s.rest c.requires.0 c.requires.1 c.requires.2 in omega arith

pub overflow_mul-more : goal.overflow_mul-more
overflow_mul-more c = let l = limits c.args.s.q c.args.s.rest c.requires.0 c.requires.1 c.requires.2 in omega arith

pub overflow_mul-less : goal.overflow_mul-less
overflow_mul-less c = let l = limits c.args.s.q c.args.s.rest c.requires.0 c.requires.1 c.requires.2 in omega arith

pub overflow_mul-result : goal.overflow_mul-result
overflow_mul-result c = let l = limits c.args.s.q c.args.s.rest c.requires.0 c.requires.1 c.requires.2 in omega arith

pub overflow_add-result : goal.overflow_add-result
overflow_add-result c = let l = limits c.args.s.q c.args.s.rest c.requires.0 c.requires.1 c.requires.2 in omega arith

pub overflow_sub-result-else-less-more-3 : goal.overflow_sub-result-else-less-more-3
overflow_sub-result-else-less-more-3 c = let l = limits c.args.s.q c.args.s.rest c.requires.0 c.requires.1 c.requires.2 in omega arith

pub returns-then-less-more : goal.returns-then-less-more
returns-then-less-more c = as_is c.args.s.q c.args.s.rest c.requires.0 c.requires.1 c.requires.2 c.if-less-more.true

pub returns-else-less-more : goal.returns-else-less-more
returns-else-less-more c = one_less c.args.s.q c.args.s.rest c.requires.0 c.requires.1 c.requires.2 c.if-less-more.false
