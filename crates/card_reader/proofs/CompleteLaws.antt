-- Every card's text is read to its end. Assumes nothing.
use Prim.Native.Nat.{ℕ, zero, suc, ◌+◌, ◌*◌, ◌/◌, ◌%◌, ◌^◌, ◌≤◌, ◌<◌, min}
use mathlib.Core.Path.{◌≡◌, refl, sym, ap, ◌∙◌}
use mathlib.Core.Bool.{false, ◌&&◌}
use Rattle.std.proofs.Math.Bool.{and-false}
use mathlib.Core.List.{List, [], ◌∷◌, ◌++◌, append_assoc, append-nil}
use native.Mathlib.Numerals.{add-one}
use native.Mathlib.Nat.{pow-suc, pow-zero, div-add-mod', mod-lt, mod-eq_of_lt, div-lt_iff_lt-mul, one-le-pow, add-zero, zero-add}
use native.Mathlib.Omega.{arith}
use lib.Dec.{eqb, ltb, lit<, lit≤}
use lib.ListN.{length}
use Rattle.std.specs.Prelude.{Option, Some, None}
use borrow.Author.Tests.{ltb-true, lt-ltb, eq-eqb, ne_eqb}
use Rattle.card_text.specs.Text.{glyph, digits, word_text, decimal_text, coordinate_names}
use Rattle.card_reader.specs.Card.{head_names, spacing_text, tolerance_text, Row, row_text, rows_text, head_text, card_text, HeadFits, RowFits, RowsFit, Bounded}
use Rattle.card_reader.specs.Reading.{no_digits, reached, next, head, card_of, more, after, word_next, degree_next, literal_next}
use Rattle.card_reader.specs.declared.Head.{Head}
use Rattle.card_reader.specs.declared.Card.{Card}
use Rattle.knots.specs.declared.Spacing.{Spacing}
use Rattle.knots.specs.declared.Spacing.TheVariants as spacing
use Rattle.card_reader.specs.declared.Digits.{Digits}
use Rattle.card_reader.specs.declared.State.{State}
use Rattle.card_reader.specs.declared.State.TheVariants.{Names, Degree, Chordal, Bound, Axes, X, Y, Z}
use Rattle.card_reader.specs.declared.steps.Word.TheVariants.{More, Whole}
use Rattle.card_reader.proofs.CaseLaws.{test}
use Rattle.card_text.proofs.NumberLaws.{Plain, plain, shorter, decimal-digits}
use Rattle.card_reader.proofs.DigitLaws.{digit_glyph}
use Rattle.card_reader.proofs.SoundLaws.{number, rows, rows_after, to_spacing, to_tolerance, to_axes, head_end, count-more}

-- the state and the rows read
pub record Page : Type 0 where
  pub state : State
  pub points : List Row

abbrev page : State → List Row → Page
page s ps = record { state = s; points = ps }

unfoldable pub read : Page → List ℕ → Page
read p [] = p
read p (b ∷ t) = read (page (next p.state b) (rows p.state b p.points)) t

pub read_is : (s : State) (ps : List Row) (t : List ℕ) → read (page s ps) t ≡ page (after s t) (rows_after s t ps)
unfolding read after rows_after
read_is s ps [] = refl
read_is s ps (b ∷ t) = read_is (next s b) (rows s b ps) t

read-append : (p : Page) (a b : List ℕ) → read p (a ++ b) ≡ read (read p a) b
unfolding read
read-append p [] b = refl
read-append p (x ∷ a) b = read-append (page (next p.state x) (rows p.state x p.points)) a b

-- two parts, one after the other
then : (p : Page) {q r : Page} (a b : List ℕ) → read p a ≡ q → read q b ≡ r → read p (a ++ b) ≡ r
then p {q} {r} a b e f = read-append p a b ∙ ap (λ (g : Page). read g b) e ∙ f

-- ---- words

glyph_range : (d : ℕ) → d < 16 → (48 ≤ glyph d) × (glyph d < 103)
glyph_range d h = test (λ g. (48 ≤ g) × (g < 103)) (ltb d 10) _ _ (λ e. omega (arith, ltb-true d 10 e)) (λ e. omega arith)

word_more : (k v d end : ℕ) → k < 16 → d < 16 → word_next (number k v) (glyph d) end ≡ Some (More (number (k + 1) (v * 16 + d)))
unfolding word_next
word_more k v d end h l = rw (ne_eqb k 16 (λ e. omega arith), digit_glyph d l)

-- a state's next digit
abbrev Goes : (Digits → State) → List Row → Type 0
Goes f ps = (k v d : ℕ) → k < 16 → d < 16 → (next (f (number k v)) (glyph d) ≡ f (number (k + 1) (v * 16 + d))) × (rows (f (number k v)) (glyph d) ps ≡ ps)

module _ (f : Digits → State) (ps : List Row) (ok : Goes f ps) where
  read_word : (k v : ℕ) → k ≤ 16 → v < 16 ^ k → read (page (f no_digits) ps) (digits 16 k v) ≡ page (f (number k v)) ps
  unfolding read
  read_word zero v h l = let z : v ≡ 0 = omega (arith, pow-zero 16) in rw z
  read_word (suc k) v h l =
      let p = pow-suc 16 k in
      let q : v / 16 < 16 ^ k = (div-lt_iff_lt-mul {k = 16} {x = v} {y = 16 ^ k} (omega arith)).1 (omega arith) in
      let r : v % 16 < 16 = mod-lt v (omega arith) in
      let s : v / 16 * 16 + v % 16 ≡ v = div-add-mod' v 16 in
      let o = ok k (v / 16) (v % 16) (omega arith) r in
      then (page (f no_digits) ps) (digits 16 k (v / 16)) _ (read_word k (v / 16) (omega arith) q)
      (λ i. page ((o.0 ∙ ap (λ m. f (number m (v / 16 * 16 + v % 16))) (add-one k) ∙ ap (λ m. f (number (suc k) m)) s) i) (o.1 i))

-- a word and the byte after it
module _ (f : Digits → State) (ps : List Row) (ok : Goes f ps) where
  pass_word : (w : ℕ) (t : List ℕ) {q : Page} → w < 2 ^ 64 → read (page (f (number 16 w)) ps) t ≡ q → read (page (f no_digits) ps) (word_text w ++ t) ≡ q
  unfolding word_text
  pass_word w t h e = then (page (f no_digits) ps) (digits 16 16 w) t (read_word f ps ok 16 w (lit≤ tt) h) e

word_end : (v end : ℕ) → word_next (number 16 v) end end ≡ Some (Whole v)
unfolding word_next
word_end v end = rw (eq-eqb end end refl)

not_n : (d : ℕ) → d < 16 → eqb (glyph d) 110 ≡ false
not_n d h = let r = glyph_range d h in ne_eqb (glyph d) 110 (λ e. omega arith)

bound-more : (d : ℕ) (s : Spacing) (ps : List Row) → Goes (Bound d s) ps
unfolding reached rows
bound-more d s ps k v c h l = (rw (not_n c l, and-false (eqb k 0), word_more k v c 10 h l), refl)

x-more : (c : Card) (ps : List Row) → Goes (X c) ps
unfolding reached rows
x-more c ps k v d h l = (rw (word_more k v d 32 h l), refl)

y-more : (c : Card) (x : ℕ) (ps : List Row) → Goes (Y c x) ps
unfolding reached rows
y-more c x ps k v d h l = (rw (word_more k v d 32 h l), refl)

z-more : (c : Card) (x y : ℕ) (ps : List Row) → Goes (Z c x y) ps
unfolding reached rows
z-more c x y ps k v d h l = (rw (word_more k v d 10 h l), rw (word_more k v d 10 h l))

-- ---- the degree

not_blank : (d : ℕ) → d < 16 → eqb (glyph d) 32 ≡ false
not_blank d h = let r = glyph_range d h in ne_eqb (glyph d) 32 (λ e. omega arith)

no_zero : (k v : ℕ) → (0 < k → 0 < v) → (ltb 0 k && eqb v 0) ≡ false
no_zero zero v r = refl
no_zero (suc k) v r = let p : 0 < v = r (omega arith) in rw (ne_eqb v 0 (λ e. omega arith)) (and-false (ltb 0 (suc k)))

degree-more : (k v d : ℕ) → k < 9 → (0 < k → 0 < v) → d < 10 → degree_next (number k v) (glyph d) ≡ Some (Degree (number (k + 1) (v * 10 + d)))
unfolding degree_next
degree-more k v d q r h =
    rw (not_blank d (omega arith), digit_glyph d (omega arith), lt-ltb d 10 h, ne_eqb k 9 (λ e. omega arith), no_zero k v r)

read-degree : (k v : ℕ) → k < 9 → Plain k v → read (page (Degree no_digits) []) (digits 10 (suc k) v) ≡ page (Degree (number (suc k) v)) []
unfolding read reached rows
read-degree zero v h p =
    let l : v < 10 = p.small in
    rw (mod-eq_of_lt l, degree-more 0 0 v (lit< tt) (λ o. absurd (omega arith)) l, zero-add v)
read-degree (suc k) v h p =
    let s : v / 10 * 10 + v % 10 ≡ v = div-add-mod' v 10 in
    let r : v % 10 < 10 = mod-lt v (omega arith) in
    let q = p.large (omega arith) in
    let w = pow-suc 10 k in
    let o = one-le-pow k 10 (omega arith) in
    let big : 0 < v / 10 = omega arith in
    then (page (Degree no_digits) []) (digits 10 (suc k) (v / 10)) _ (read-degree k (v / 10) (omega arith) (shorter k v p))
    (rw (degree-more (suc k) (v / 10) (v % 10) (omega arith) (λ z. big) r, add-one, s))

-- ---- the head

abbrev start : Page
start = page (Names 0) []

at-degree : read start head_names ≡ page (Degree no_digits) []
unfolding read reached rows literal_next
at-degree = refl

degree_end : (k v : ℕ) → read (page (Degree (number (suc k) v)) []) (32 ∷ []) ≡ page (Chordal v 0) []
unfolding read reached rows degree_next
degree_end k v = rw (lt-ltb 0 (suc k) (omega arith))

at-spacing : (d : ℕ) → d < 10 ^ 9 → read start (to_spacing d) ≡ page (Chordal d 0) []
at-spacing d h =
    let p = plain 8 d h in
    let k = p.0 in
    let l : k < 9 = (let m = p.1 in omega arith) in
    let e : decimal_text d ≡ digits 10 (suc k) d = decimal-digits k d 20 p.2 (omega arith) in
    then start head_names _ at-degree
    (then (page (Degree no_digits) []) (decimal_text d) _ (ap (read (page (Degree no_digits) [])) e ∙ read-degree k d l p.2) (degree_end k d))

spacing_end : (d : ℕ) (s : Spacing) → read (page (Chordal d 0) []) (spacing_text s ++ (32 ∷ [])) ≡ page (Bound d s no_digits) []
unfolding read reached rows literal_next
spacing_end d spacing.Chordal = refl
spacing_end d spacing.Centripetal = refl

at-tolerance : (d : ℕ) (s : Spacing) → d < 10 ^ 9 → read start (to_tolerance d s) ≡ page (Bound d s no_digits) []
at-tolerance d s h = then start (to_spacing d) _ (at-spacing d h) (spacing_end d s)

bound_end : (d : ℕ) (s : Spacing) (w : ℕ) → read (page (Bound d s (number 16 w)) []) (10 ∷ []) ≡ page (Axes (head d s (Some w)) 0) []
unfolding read reached rows
bound_end d s w = rw (word_end w 10)

without_end : (d : ℕ) (s : Spacing) → read (page (Bound d s no_digits) []) (tolerance_text None ++ (10 ∷ [])) ≡ page (Axes (head d s None) 0) []
unfolding read reached rows literal_next
without_end d s = refl

tolerance_end : (d : ℕ) (s : Spacing) (t : Option ℕ) → Bounded t → read (page (Bound d s no_digits) []) (tolerance_text t ++ (10 ∷ [])) ≡ page (Axes (head d s t) 0) []
tolerance_end d s None h = without_end d s
tolerance_end d s (Some w) h = pass_word (Bound d s) [] (bound-more d s []) w (10 ∷ []) h (bound_end d s w)

at_axes : (h : Head) → HeadFits h → read start (to_axes h) ≡ page (Axes h 0) []
at_axes h f = then start (to_tolerance h.degree h.spacing) _ (at-tolerance h.degree h.spacing f.degree) (tolerance_end h.degree h.spacing h.tolerance f.tolerance)

axes_end : (h : Head) → read (page (Axes h 0) []) coordinate_names ≡ page (X (card_of h 0) no_digits) []
unfolding read reached rows literal_next
axes_end h = refl

at-points : (h : Head) → HeadFits h → read start (head_text h) ≡ page (X (card_of h 0) no_digits) []
at-points h f = ap (read start) (sym (head_end h)) ∙ then start (to_axes h) coordinate_names (at_axes h f) (axes_end h)

-- ---- the points

x_end : (c : Card) (x : ℕ) (ps : List Row) → read (page (X c (number 16 x)) ps) (32 ∷ []) ≡ page (Y c x no_digits) ps
unfolding read reached rows
x_end c x ps = rw (word_end x 32)

y_end : (c : Card) (x y : ℕ) (ps : List Row) → read (page (Y c x (number 16 y)) ps) (32 ∷ []) ≡ page (Z c x y no_digits) ps
unfolding read reached rows
y_end c x y ps = rw (word_end y 32)

z_end : (c : Card) (x y z : ℕ) (ps : List Row) → read (page (Z c x y (number 16 z)) ps) (10 ∷ []) ≡ page (X (card_of c.head (more c.points)) no_digits) (ps ++ (record { x = x; y = y; z = z } ∷ []))
unfolding read reached rows
z_end c x y z ps = rw (word_end z 10)

at_row : (c : Card) (ps : List Row) (p : Row) → RowFits p → read (page (X c no_digits) ps) (row_text p) ≡ page (X (card_of c.head (more c.points)) no_digits) (ps ++ (p ∷ []))
at_row c ps p f =
    pass_word (X c) ps (x-more c ps) p.x _ f.x
    (then (page (X c (number 16 p.x)) ps) (32 ∷ []) _ (x_end c p.x ps)
    (pass_word (Y c p.x) ps (y-more c p.x ps) p.y _ f.y
    (then (page (Y c p.x (number 16 p.y)) ps) (32 ∷ []) _ (y_end c p.x p.y ps)
    (pass_word (Z c p.x p.y) ps (z-more c p.x p.y ps) p.z _ f.z
    (z_end c p.x p.y p.z ps)))))

at_rows : (h : Head) (m : ℕ) (ps qs : List Row) → RowsFit qs → read (page (X (card_of h (min 65 m)) no_digits) ps) (rows_text qs) ≡ page (X (card_of h (min 65 (m + length qs))) no_digits) (ps ++ qs)
unfolding read
at_rows h m ps [] f =
    let a = sym (add-zero m) in
    let b = sym (append-nil ps) in
    λ i. page (X (card_of h (min 65 (a i))) no_digits) (b i)
at_rows h m ps (q ∷ qs) f =
    let c : more (min 65 m) ≡ min 65 (m + 1) = count-more (min 65 m) m refl in
    let n : m + 1 + length qs ≡ m + suc (length qs) = omega arith in
    then (page (X (card_of h (min 65 m)) no_digits) ps) (row_text q) (rows_text qs)
    (at_row (card_of h (min 65 m)) ps q f.0 ∙ ap (λ k. page (X (card_of h k) no_digits) (ps ++ (q ∷ []))) c)
    (at_rows h (m + 1) (ps ++ (q ∷ [])) qs f.1 ∙ (λ i. page (X (card_of h (min 65 (n i))) no_digits) (append_assoc ps (q ∷ []) qs i)))

pub at-card : (h : Head) (ps : List Row) → HeadFits h → RowsFit ps → read start (card_text h ps) ≡ page (X (card_of h (min 65 (length ps))) no_digits) ps
at-card h ps f g =
    then start (head_text h) (rows_text ps) (at-points h f)
    (at_rows h 0 [] ps g ∙ ap (λ k. page (X (card_of h (min 65 k)) no_digits) ps) (zero-add (length ps)))
