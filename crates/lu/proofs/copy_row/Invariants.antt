-- The loop's invariant: the places passed are copied. Assumes nothing.
use mathlib.Core.Path.{◌≡◌}
use lib.ListN.{take}
use Rattle.lu.proofs.copy_row.Given as goal

abbrev pub invariant-loop-m : goal.invariant-loop-m
invariant-loop-m l = take l.m l.to ≡ take l.m l.from
