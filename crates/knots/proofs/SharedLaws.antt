-- The laws of a grid's parameters: a line that is skipped, a line that is added, and the averages. Assumes nothing.
use mathlib.Core.Path.{◌≡◌, sym, ◌∙◌, ap}
use mathlib.Core.Bool.{Bool, true, false, cond}
use mathlib.Core.List.{List, ◌∷◌, ◌++◌, append_assoc}
use mathlib.Core.Option.{none, some}
use Prim.Native.Nat.{ℕ, ◌+◌, ◌-◌, ◌≤◌}
use native.Mathlib.Omega.{arith}
use borrow.Author.Tests.{ne_eqb}
use lib.ListN.{length, set, drop, replicate, length-set, length-append, length-drop}
use lib.Seq.{get_or-drop, get_or-set_other, take_all, drop_at, drop-drop}
use Rattle.std.proofs.Common.{◌≢◌}
use lib.Ieee.{Float, nan, le}
use Rattle.places.specs.Places.{list_of, some_below}
use Rattle.places.specs.Regions.{part}
use Rattle.places.proofs.RegionLaws.{length_part}
use Rattle.places.proofs.LoopLaws.{each_last, each_done}
use Rattle.places.proofs.PlaceLaws.{list_of-same}
use Rattle.geometry.specs.declared.Point.{Point}
use Rattle.geometry.specs.Doubles.{◌⊕◌, ◌⊗◌, ◌⊘◌, nought, one, double, at, sum_below}
use Rattle.knots.specs.declared.Metric.{Metric}
use Rattle.knots.specs.declared.parameters.LineSums.{LineSums}
use Rattle.knots.specs.Parameters.{confusion, chords, step_sums, from_zero_to_one, Lines, add_line, added_lines, shared_parameters}
use Rattle.knots.specs.Calls.{line_chords, line_sums}
use Rattle.knots.proofs.ParameterLaws.{length-zero_to-one}

-- the places behind the first
abbrev behind : List Float → List Float
behind xs = part 1 (length xs) xs

length-behind : (xs : List Float) → length (behind xs) ≡ length xs - 1
length-behind xs = length_part 1 (length xs) xs (omega arith)

behind-at : (xs : List Float) (k : ℕ) → at (behind xs) k ≡ at xs (k + 1)
behind-at xs k =
    let e : 1 + k ≡ k + 1 = omega arith in
    ap (λ (l : List Float). at l k) (take_all (length xs - 1) (drop 1 xs) (omega (arith, length-drop 1 xs))) ∙ get_or-drop 1 xs k nan ∙ ap (at xs) e

-- the places behind the first n and the next n
pub behind_two : (n : ℕ) (p q out : List Float) → length p ≡ n → length q ≡ n → drop (n + n) (p ++ (q ++ drop n (drop n out))) ≡ drop (n + n) out
behind_two n p q out h k = ap (drop (n + n)) (sym (append_assoc p q _)) ∙ drop_at (p ++ q) _ (n + n) (rw length-append (omega arith)) ∙ drop-drop n n out

-- One line, by what it is summed up to
module _ (v : Metric) (n : ℕ) (point : ℕ → Point) (used : ℕ) (sums : List Float) (line : LineSums) (e : line ≡ line_sums v n point) where
  abbrev lines : Lines
  lines = record { used = used; sums = sums }

  pub line_skipped : le line.chords.length confusion ≡ true → lines ≡ add_line v n point lines
  unfolding add_line line_sums line_chords
  line_skipped c = rw (sym (ap (λ (l : LineSums). le l.chords.length confusion) e) ∙ c)

  pub line-added : le line.chords.length confusion ≡ false → length sums ≡ n → 1 ≤ n → (own more : List Float) → own ≡ step_sums v.spacing n (chords v.factor n point)
      → more ≡ list_of (length (behind (set sums 0 nought))) (λ k. at (behind (set sums 0 nought)) k ⊕ at (behind own) k ⊗ (one ⊘ line.total))
      → record { used = used + 1; sums = nought ∷ more } ≡ add_line v n point lines
  unfolding add_line line_sums line_chords
  line-added c l h own more d f =
      let m : length (behind (set sums 0 nought)) ≡ n - 1 = rw length-behind (simp length-set (omega arith)) in
      let same : more ≡ list_of (n - 1) (λ k. at sums (k + 1) ⊕ at own (k + 1) ⊗ (one ⊘ line.total)) =
      f ∙ rw m (list_of-same (n - 1) _ _ (λ k i. let z : k + 1 ≢ 0 = omega arith in rw (behind-at, get_or-set_other sums 0 (k + 1) nought nan z, behind-at))) in
      rw (sym (ap (λ (l : LineSums). le l.chords.length confusion) e) ∙ c, same, d, e)

-- a line is counted once, or not at all
pub counted : (v : Metric) (n : ℕ) (point : ℕ → Point) (lines after : Lines) → after ≡ add_line v n point lines → after.used ≤ lines.used + 1
unfolding add_line
counted v n point lines after e = most (le (sum_below (n - 1) (at (chords v.factor n point))) confusion) after lines _ (omega arith) e
  where
    most : (b : Bool) (x l m : Lines) → m.used ≤ l.used + 1 → x ≡ cond b l m → x.used ≤ l.used + 1
    most true x l m h e = omega (arith, ap (λ (y : Lines). y.used) e)
    most false x l m h e = omega (arith, ap (λ (y : Lines). y.used) e)

-- no line, and one more
pub added-none : (v : Metric) (n : ℕ) (point : ℕ → ℕ → Point) → record { used = 0; sums = replicate n nought } ≡ added_lines v 0 n point
unfolding added_lines
added-none v n point = sym (each_done 0 0 _ _ (omega arith))

pub added_more : (v : Metric) (r n : ℕ) (point : ℕ → ℕ → Point) → added_lines v (r + 1) n point ≡ add_line v n (point r) (added_lines v r n point)
unfolding added_lines
added_more v r n point = each_last 0 r _ _ (omega arith)

-- the averages of the lines that were added
module _ (v : Metric) (lines n : ℕ) (point : ℕ → ℕ → Point) (used : ℕ) (sums : List Float) (a : record { used = used; sums = sums } ≡ added_lines v lines n point) where
  used_is : (added_lines v lines n point).used ≡ used
  used_is = sym (ap (λ (l : Lines). l.used) a)

  sums_are : (added_lines v lines n point).sums ≡ sums
  sums_are = sym (ap (λ (l : Lines). l.sums) a)

  pub shared-none : used ≡ 0 → shared_parameters v lines n point ≡ none
  unfolding shared_parameters
  shared-none e = rw (used_is, e)

  pub shared-some : (used ≡ 0 → ⊥) → length sums ≡ n → (params : List Float) (falls : Bool) → params ≡ from_zero_to_one (length sums) (λ k. at sums k ⊗ (one ⊘ double used))
      → falls ≡ some_below (length params - 1) (λ k. le (at params (k + 1)) (at params k))
      → shared_parameters v lines n point ≡ cond falls none (some params)
  unfolding shared_parameters
  shared-some z l params falls f g =
      let p : params ≡ from_zero_to_one n (λ k. at sums k ⊗ (one ⊘ double used)) = rw l at f in
      let m : length params ≡ n = ap length p ∙ length-zero_to-one n _ in
      rw (used_is, ne_eqb used 0 z, sums_are, ← p, g, m)
