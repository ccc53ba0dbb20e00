-- The two substitutions satisfy the textbook's equations: of one line of points, and of lines that are solved together. Assumes nothing.
use mathlib.Core.Path.{◌≡◌, refl}
use mathlib.Core.List.{List}
use Prim.Native.Nat.{ℕ, ◌+◌, ◌-◌, ◌*◌, ◌<◌, ◌≤◌}
use native.Mathlib.Omega.{arith}
use lib.ListN.{length}
use lib.Ieee.{Float}
use Rattle.places.specs.Loops.{each, down}
use Rattle.places.proofs.PlaceLaws.{row_inside}
use Rattle.places.proofs.RegionLaws.{length-each, length-down, length_part}
use Rattle.geometry.specs.Doubles.{◌⊘◌, one}
use Rattle.bands.specs.Bands.{reach}
use Rattle.bands.proofs.InPlace.{rows_up, rows_down}
use Rattle.cholesky.specs.Cholesky.{lower_entry, forward_point, forward_row, back_point, back_row, substitute_symmetric_band}
use Rattle.cholesky.specs.Textbook.{IsForward, IsBack, Solves}
use Rattle.cholesky.specs.Together.{line_at, EachLine}
use Rattle.cholesky.proofs.Lengths.{length_forward-row, length-back-row}

pub is_forward : (h n : ℕ) (L B : List Float) → 3 * n ≤ length B → IsForward h n L B (each 0 n (forward_row h L) B)
unfolding forward_row forward_point
is_forward h n L B fits =
    record {
      row = λ i c below three.
          rows_up (λ i. i - h) (λ i. i) (λ i k. lower_entry h L i k) (λ i. one ⊘ lower_entry h L i i) (forward_row h L) (λ i l. refl) n B fits i c below three (omega arith);
      long = length-each (forward_row h L) (length_forward-row h L) 0 n B;
    }

pub is_back : (h n : ℕ) (L Y : List Float) → 3 * n ≤ length Y → IsBack h n L Y (down n (back_row h n L) Y)
unfolding back_row back_point
is_back h n L Y fits =
    record {
      row = λ i c below three.
          rows_down (λ i. i + 1) (reach h n) (λ i k. lower_entry h L k i) (λ i. one ⊘ lower_entry h L i i) (back_row h n L) (λ i l. refl) n Y fits i c below three (omega arith);
      long = length-down (back_row h n L) (length-back-row h n L) n Y;
    }

-- of the definition that the contracts cite
pub solves : (h n : ℕ) (L B : List Float) → 3 * n ≤ length B → Solves h n L B (substitute_symmetric_band h n L B)
unfolding substitute_symmetric_band
solves h n L B fits =
    let f = is_forward h n L B fits in
    record {
      between = each 0 n (forward_row h L) B;
      forward = f;
      back = is_back h n L (each 0 n (forward_row h L) B) (omega (arith, f.long));
    }

-- and of lines that are solved together: each is solved by itself
pub solves_lines : (lines h n : ℕ) (L w w' : List Float) → 3 * (lines * n) ≤ length w → EachLine n lines (λ (r : ℕ). substitute_symmetric_band h n L) w w'
    → (r : ℕ) → r < lines → Solves h n L (line_at n r w) (line_at n r w')
solves_lines lines h n L w w' fits e r below =
    let p : ℕ = 3 * (r * n) in
    let long : length (line_at n r w) ≡ p + 3 * n - p = length_part p (p + 3 * n) w (omega (arith, row_inside r lines n below)) in
    rw (e.line r below) (solves h n L (line_at n r w) (omega arith))
