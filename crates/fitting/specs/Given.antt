-- What is given to be fitted along a direction. Definitions only.
use Rattle.std.specs.Prelude.{◌≡◌, List, ℕ, ◌*◌, ◌≤◌, ◌<◌, length, Float}
use Rattle.knots.specs.declared.lines.Lines.{Lines}
use Rattle.tables.specs.Layout.{HasTable}
use Rattle.fitting.specs.declared.Kind.{Kind}
use Rattle.fitting.specs.declared.Surface.{Surface}
use Rattle.fitting.specs.declared.Kind.TheVariants.{Ladder, Rows, Columns}

-- Lines of n points each, by what they are: a ladder is one line; a grid's points stand row after row; the columns of the row poles are as many as v's table has
-- poles, and the grid's points stand beside them.
pub record HasKind (n : ℕ) (l : Lines) (kind : Kind) : Type 0 where
  pub ladder : kind ≡ Ladder → (l.lines ≡ 1) × (3 * n ≤ length l.points.now)
  pub rows : kind ≡ Rows → 3 * (l.lines * n) ≤ length l.points.now
  pub columns : (s : Surface) → kind ≡ Columns s → HasTable s.across × ((s.across.poles ≡ l.lines) × (3 * (n * length s.across.firsts.now) ≤ length s.points.now))

-- more parameters than the degree, and up to 64 lines with a point for each
pub record HasJob (degree : ℕ) (params : List Float) (l : Lines) (kind : Kind) : Type 0 where
  pub low : 1 ≤ degree
  pub high : degree ≤ 25
  pub under : degree < length params
  pub few : length params ≤ 1024
  pub points : l.count ≡ length params
  pub one : 1 ≤ l.lines
  pub most : l.lines ≤ 64
  pub by_kind : HasKind (length params) l kind
