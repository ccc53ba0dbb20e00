-- The invariant: the first k rows stand in their places, and the search stands at the span of the parameter before, from which it can go on. Assumes nothing.
use mathlib.Core.Path.{◌≡◌}
use Rattle.tables.specs.Rows.{SpanFits}
use Rattle.tables.proofs.TableLaws.{TableTo}
use Rattle.tables.proofs.basis_table.fill_table.Given as goal

abbrev pub invariant-loop-k : goal.invariant-loop-k
invariant-loop-k l =
    (l.rows.flat.now ≡ l.flat) × (l.rows.degree ≡ l.degree) × SpanFits l.rows.flat.now l.rows.degree l.rows.span
    × TableTo l.flat l.degree l.params l.fn.firsts l.firsts l.fn.values l.values l.rows.span l.k
