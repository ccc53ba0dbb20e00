-- The points of lines as the program holds them. Definitions only.
use Rattle.std.specs.Prelude.{ℕ}
use Rattle.geometry.specs.declared.Point.{Point}
use Rattle.knots.specs.declared.lines.Line.{Line}
use Rattle.knots.specs.declared.lines.Lines.{Lines}
use Rattle.knots.specs.Lines.{line_of, lines_of}

-- point k of a line
abbrev pub on_line : Line → ℕ → Point
on_line l = line_of l.points.now l.start l.stride

-- point k of line r
abbrev pub on_lines : Lines → ℕ → ℕ → Point
on_lines l = lines_of l.points.now l.pitch l.stride
