-- What the reader has seen: in each state the text read so far is the front of a card's text. Assumes nothing.
use Prim.Native.Nat.{ℕ, zero, suc, ◌+◌, ◌*◌, ◌^◌, ◌≤◌, ◌<◌, min}
use mathlib.Core.Path.{◌≡◌, refl, sym, ap, ◌∙◌, subst}
use mathlib.Core.Bool.{Bool, true, false}
use mathlib.Core.List.{List, [], ◌∷◌, ◌++◌, append_assoc, append-nil}
use native.Mathlib.Numerals.{add-one}
use native.Mathlib.Nat.{pow-suc, pow-le-pow_right}
use native.Mathlib.Omega.{arith}
use lib.Dec.{eqb, ltb, lit<}
use lib.ListN.{length, get_or, take, length-append}
use lib.Seq.{take-suc, take_all}
use borrow.Author.Tests.{eqb-true, ltb-true, ltb-false}
use Rattle.std.specs.Prelude.{None, unwrap_or, option_map}
use Rattle.card_text.specs.Text.{digits, word_text, decimal_text, line, coordinate_names}
use Rattle.card_reader.specs.Card.{head_names, spacing_text, tolerance_text, Row, row, row_text, rows_text, head_text, card_text, HeadFits, RowFits, RowsFit}
use Rattle.card_reader.specs.Reading.{no_digits, digit_more, reached, next, DigitsOf, on_word, on_whole, word_next, head, card_of, more, after}
use Rattle.card_reader.specs.declared.Head.{Head}
use Rattle.card_reader.specs.declared.Card.{Card}
use Rattle.knots.specs.declared.Spacing.{Spacing}
use Rattle.knots.specs.declared.Spacing.TheVariants as spacing
use Rattle.card_reader.specs.declared.Digits.{Digits}
use Rattle.card_reader.specs.declared.State.{State}
use Rattle.card_reader.specs.declared.State.TheVariants.{Names, Degree, Chordal, Centripetal, Bound, Without, Axes, X, Y, Z, Unreadable}
use Rattle.card_reader.proofs.CaseLaws.{test, literal_cases, word_parts, word_cases, degree_cases, both, Reaches}
use Rattle.card_text.proofs.NumberLaws.{digits_more, decimal-digits}
use Rattle.card_reader.proofs.DigitLaws.{IsGlyph, glyph_digit}
use Rattle.card_reader.proofs.RangeLaws.{none_yet, one_digit_more}

-- ---- the front of a card's text before each part

abbrev pub to_spacing : ℕ → List ℕ
to_spacing d = head_names ++ (decimal_text d ++ (32 ∷ []))

abbrev pub to_tolerance : ℕ → Spacing → List ℕ
to_tolerance d s = to_spacing d ++ (spacing_text s ++ (32 ∷ []))

abbrev pub to_axes : Head → List ℕ
to_axes h = to_tolerance h.degree h.spacing ++ (tolerance_text h.tolerance ++ (10 ∷ []))

abbrev pub to_y : Head → List Row → ℕ → List ℕ
to_y h ps x = card_text h ps ++ (word_text x ++ (32 ∷ []))

abbrev pub to_z : Head → List Row → ℕ → ℕ → List ℕ
to_z h ps x y = to_y h ps x ++ (word_text y ++ (32 ∷ []))

-- ---- what is known in each state, of the text read and the rows read

pub record InDegree (r : Digits) : Type 0 where
  pub digits : DigitsOf 10 9 r
  pub plain : 1 < r.count → 10 ^ r.count ≤ r.value * 10

pub record InHead (d : ℕ) (ps : List Row) : Type 0 where
  pub degree : d < 10 ^ 9
  pub rows : ps ≡ []

pub record InRows (c : Card) (ps : List Row) : Type 0 where
  pub head : HeadFits c.head
  pub rows : RowsFit ps
  pub count : c.points ≡ min 65 (length ps)

abbrev pub Seen : State → List Row → List ℕ → Type 0
Seen (Names k) ps t = (t ≡ take k head_names) × (k < 25) × (ps ≡ [])
Seen (Degree r) ps t = (t ≡ head_names ++ digits 10 r.count r.value) × InDegree r × (ps ≡ [])
Seen (Chordal d k) ps t = (t ≡ to_spacing d ++ take k (spacing_text spacing.Chordal ++ (32 ∷ []))) × (k < 8) × InHead d ps
Seen (Centripetal d k) ps t = (t ≡ to_spacing d ++ take k (spacing_text spacing.Centripetal ++ (32 ∷ []))) × (k < 12) × InHead d ps
Seen (Bound d s r) ps t = (t ≡ to_tolerance d s ++ digits 16 r.count r.value) × DigitsOf 16 16 r × InHead d ps
Seen (Without d s k) ps t = (t ≡ to_tolerance d s ++ take k (tolerance_text None ++ (10 ∷ []))) × (k < 5) × InHead d ps
Seen (Axes h k) ps t = (t ≡ to_axes h ++ take k coordinate_names) × (k < 6) × HeadFits h × (ps ≡ [])
Seen (X c r) ps t = (t ≡ card_text c.head ps ++ digits 16 r.count r.value) × DigitsOf 16 16 r × InRows c ps
Seen (Y c x r) ps t = (t ≡ to_y c.head ps x ++ digits 16 r.count r.value) × DigitsOf 16 16 r × InRows c ps × (x < 2 ^ 64)
Seen (Z c x y r) ps t = (t ≡ to_z c.head ps x y ++ digits 16 r.count r.value) × DigitsOf 16 16 r × InRows c ps × (x < 2 ^ 64) × (y < 2 ^ 64)
Seen Unreadable ps t = Unit

-- the rows after a byte
unfoldable pub rows : State → ℕ → List Row → List Row
rows (Z c x y r) b ps = on_whole (λ z. ps ++ (row x y z ∷ [])) ps (word_next r b 10)
rows _ b ps = ps

-- ---- a byte more

module _ {t : List ℕ} (f p : List ℕ) (b : ℕ) (e : t ≡ f ++ p) where
  grow : (q : List ℕ) → p ++ (b ∷ []) ≡ q → t ++ (b ∷ []) ≡ f ++ q
  grow q h = ap (λ (l : List ℕ). l ++ (b ∷ [])) e ∙ append_assoc f p (b ∷ []) ∙ ap (λ (l : List ℕ). f ++ l) h

fresh : {t g : List ℕ} → t ≡ g → t ≡ g ++ []
fresh {t} {g} e = e ∙ sym (append-nil g)

-- a byte more of a fixed text
fixed_more : (l : List ℕ) (k b : ℕ) → k < length l → b ≡ get_or l k 0 → take k l ++ (b ∷ []) ≡ take (k + 1) l
fixed_more l k b h e = rw (add-one, take-suc l k 0 h, e)

fixed_end : (l : List ℕ) (k b : ℕ) → k + 1 ≡ length l → b ≡ get_or l k 0 → take k l ++ (b ∷ []) ≡ l
fixed_end l k b h e = fixed_more l k b (omega arith) e ∙ take_all (k + 1) l (omega arith)

abbrev pub number : ℕ → ℕ → Digits
number k v = record { count = k; value = v }

-- a digit more
digit-more : (base : ℕ) (r : Digits) (b d : ℕ) → IsGlyph b d → d < base → digits base r.count r.value ++ (b ∷ []) ≡ digits base (r.count + 1) (r.value * base + d)
digit-more base r b d g l = sym (digits_more base r.count r.value d l ∙ ap (λ c. digits base r.count r.value ++ (c ∷ [])) g.byte)

-- a number's last digit is read
degree_end : (k v : ℕ) → 0 < k → InDegree (number k v) → decimal_text v ≡ digits 10 k v
degree_end zero v n h = absurd (omega arith)
degree_end (suc k) v n h =
    let e = pow-suc 10 k in
    let d = h.digits in
    let p = h.plain in
    decimal-digits k v 20 (record { small = d.1; large = λ o. let q = p (omega arith) in omega arith }) (omega arith)

degree-fits : (r : Digits) → InDegree r → r.value < 10 ^ 9
degree-fits r h = let p : 10 ^ r.count ≤ 10 ^ 9 = pow-le-pow_right (omega arith) h.digits.0 in let d = h.digits.1 in omega arith

degree-more : (r : Digits) (d : ℕ) → (r.count ≡ 9 → ⊥) → ((0 < r.count) × (r.value ≡ 0) → ⊥) → d < 10 → InDegree r → InDegree (digit_more 10 r d)
degree-more r d n z l h = record {
  digits = one_digit_more 10 9 r d h.digits n l;
  plain = λ o. let some : 0 < r.count = omega arith in rw (add-one, pow-suc 10 r.count) (go some (λ e. z (some, e)) (ltb 1 r.count) refl);
}
  where
    go : 0 < r.count → (r.value ≡ 0 → ⊥) → (t : Bool) → ltb 1 r.count ≡ t → 10 ^ r.count * 10 ≤ (r.value * 10 + d) * 10
    go o m true e = let p = h.plain (ltb-true _ _ e) in omega arith
    go o m false e = let f : r.count ≡ 1 = omega (arith, ltb-false 1 r.count e) in rw f (omega arith)

lines : (c u v w : List ℕ) → c ++ (u ++ (32 ∷ [])) ++ (v ++ (32 ∷ [])) ++ (w ++ (10 ∷ [])) ≡ c ++ line u (v ∷ w ∷ [])
lines c u v w = simp append_assoc

rows_text-more : (ps : List Row) (p : Row) → rows_text (ps ++ (p ∷ [])) ≡ rows_text ps ++ row_text p
rows_text-more [] p = append-nil (row_text p)
rows_text-more (q ∷ ps) p = ap (λ (l : List ℕ). row_text q ++ l) (rows_text-more ps p) ∙ sym (append_assoc (row_text q) (rows_text ps) (row_text p))

-- the card's text with a row more
row_more : (h : Head) (ps : List Row) (x y z : ℕ) →
    to_z h ps x y ++ (word_text z ++ (10 ∷ [])) ≡ card_text h (ps ++ (record { x = x; y = y; z = z } ∷ []))
row_more h ps x y z = lines (card_text h ps) (word_text x) (word_text y) (word_text z) ∙ append_assoc (head_text h) (rows_text ps) _ ∙ ap (λ (l : List ℕ). head_text h ++ l) (sym (rows_text-more ps (row x y z)))

rows_more : (ps : List Row) (p : Row) → RowsFit ps → RowFits p → RowsFit (ps ++ (p ∷ []))
rows_more [] p f g = (g, tt)
rows_more (q ∷ ps) p f g = (f.0, rows_more ps p f.1 g)

pub count-more : (n m : ℕ) → n ≡ min 65 m → more n ≡ min 65 (m + 1)
count-more n m e = test (λ k. k ≡ min 65 (m + 1)) (ltb n 65) _ _ (λ l. omega (arith, ltb-true n 65 l)) (λ l. omega (arith, ltb-false n 65 l))

-- a word's last digit is read
whole : (base k v b end : ℕ) → k ≡ 16 → b ≡ end → digits base k v ++ (b ∷ []) ≡ digits base 16 v ++ (end ∷ [])
whole base k v b end f l = rw (f, l)

word_fits : (k v : ℕ) → DigitsOf 16 16 (number k v) → k ≡ 16 → v < 2 ^ 64
word_fits k v h f = rw f at h.1

none : (g : Head) (ps : List Row) → ps ≡ [] → head_text g ≡ card_text g ps
none g ps e = rw e (sym (append-nil (head_text g)))

-- what is known after the byte b
abbrev Then : ℕ → List Row → List ℕ → State → Type 0
Then b ps t s = Seen s ps (t ++ (b ∷ []))

-- the head's text ends in the names of the coordinates
pub head_end : (h : Head) → to_axes h ++ coordinate_names ≡ head_text h
unfolding head_text
head_end h = simp append_assoc

module _ (b : ℕ) (ps : List Row) (t : List ℕ) where
  seen_names : (k : ℕ) → Seen (Names k) ps t → Then b ps t (next (Names k) b)
  unfolding reached
  seen_names k h =
      literal_cases (Then b ps t) head_names k b (Degree no_digits) (Names (k + 1))
      (λ e l. (grow [] (take k head_names) b h.0 head_names (fixed_end head_names k b l e), record { digits = none_yet 10 9; plain = λ o. absurd (omega arith) }, h.2))
      (λ e l. (grow [] (take k head_names) b h.0 _ (fixed_more head_names k b h.1 e), omega arith, h.2))
      tt

  seen-degree : (r : Digits) → Seen (Degree r) ps t → Then b ps t (next (Degree r) b)
  unfolding reached
  seen-degree r h =
      degree_cases (Then b ps t) r b
      (λ e z. (
        fresh (grow head_names (digits 10 r.count r.value) b h.0 _ (ap (λ l. l ++ (b ∷ [])) (sym (degree_end r.count r.value z h.1)) ∙ ap (λ c. decimal_text r.value ++ (c ∷ [])) e)),
        lit< tt,
        record { degree = degree-fits r h.1; rows = h.2 },
      ))
      (λ d e l n z. (grow head_names (digits 10 r.count r.value) b h.0 _ (digit-more 10 r b d (glyph_digit b d e) l), degree-more r d n z l h.1, h.2))
      tt

  seen_chordal : (d k : ℕ) → Seen (Chordal d k) ps t → Then b ps t (next (Chordal d k) b)
  unfolding reached
  seen_chordal d k h =
      both (Reaches (Then b ps t)) (eqb k 1) (eqb b 101) _ _
      (λ e f. (grow (to_spacing d) (take k field) b h.0 _ (other (eqb-true k 1 e) (eqb-true b 101 f)), lit< tt, h.2))
      (λ n. literal_cases (Then b ps t) field k b (Bound d spacing.Chordal no_digits) (Chordal d (k + 1))
      (λ e l. (fresh (grow (to_spacing d) (take k field) b h.0 _ (fixed_end field k b l e)), none_yet 16 16, h.2))
      (λ e l. (grow (to_spacing d) (take k field) b h.0 _ (fixed_more field k b h.1 e), omega arith, h.2))
      tt)
    where
      field : List ℕ
      field = spacing_text spacing.Chordal ++ (32 ∷ [])

      other : k ≡ 1 → b ≡ 101 → take k (spacing_text spacing.Chordal ++ (32 ∷ [])) ++ (b ∷ []) ≡ take 2 (spacing_text spacing.Centripetal ++ (32 ∷ []))
      other p q = rw (p, q)

  seen_centripetal : (d k : ℕ) → Seen (Centripetal d k) ps t → Then b ps t (next (Centripetal d k) b)
  unfolding reached
  seen_centripetal d k h =
      literal_cases (Then b ps t) field k b (Bound d spacing.Centripetal no_digits) (Centripetal d (k + 1))
      (λ e l. (fresh (grow (to_spacing d) (take k field) b h.0 _ (fixed_end field k b l e)), none_yet 16 16, h.2))
      (λ e l. (grow (to_spacing d) (take k field) b h.0 _ (fixed_more field k b h.1 e), omega arith, h.2))
      tt
    where
      field : List ℕ
      field = spacing_text spacing.Centripetal ++ (32 ∷ [])

  seen_without : (d : ℕ) (s : Spacing) (k : ℕ) → Seen (Without d s k) ps t → Then b ps t (next (Without d s k) b)
  unfolding reached
  seen_without d s k h =
      literal_cases (Then b ps t) field k b (Axes (head d s None) 0) (Without d s (k + 1))
      (λ e l. (fresh (grow (to_tolerance d s) (take k field) b h.0 _ (fixed_end field k b l e)), lit< tt, record { degree = h.2.degree; tolerance = tt }, h.2.rows))
      (λ e l. (grow (to_tolerance d s) (take k field) b h.0 _ (fixed_more field k b h.1 e), omega arith, h.2))
      tt
    where
      field : List ℕ
      field = tolerance_text None ++ (10 ∷ [])

  seen_axes : (g : Head) (k : ℕ) → Seen (Axes g k) ps t → Then b ps t (next (Axes g k) b)
  unfolding reached
  seen_axes g k h =
      literal_cases (Then b ps t) coordinate_names k b (X (card_of g 0) no_digits) (Axes g (k + 1))
      (λ e l. (fresh (grow (to_axes g) (take k coordinate_names) b h.0 _ (fixed_end coordinate_names k b l e) ∙ head_end g ∙ none g ps h.3), none_yet 16 16, record { head = h.2; rows = rw h.3 tt; count = rw h.3 }))
      (λ e l. (grow (to_axes g) (take k coordinate_names) b h.0 _ (fixed_more coordinate_names k b h.1 e), omega arith, h.2, h.3))
      tt

  seen_bound : (d : ℕ) (s : Spacing) (r : Digits) → Seen (Bound d s r) ps t → Then b ps t (next (Bound d s r) b)
  unfolding reached word_text
  seen_bound d s r h =
      both (Reaches (Then b ps t)) (eqb r.count 0) (eqb b 110) _ _
      (λ e f. (grow (to_tolerance d s) (digits 16 r.count r.value) b h.0 _ (other r.count r.value (eqb-true r.count 0 e) (eqb-true b 110 f)), lit< tt, h.2))
      (λ n. word_cases (Then b ps t) (Bound d s) _ r b 10
      (λ f l. (fresh (grow (to_tolerance d s) (digits 16 r.count r.value) b h.0 _ (whole 16 r.count r.value b 10 f l)), lit< tt, record { degree = h.2.degree; tolerance = word_fits r.count r.value h.1 f }, h.2.rows))
      (λ f c e. let g = glyph_digit b c e in (grow (to_tolerance d s) (digits 16 r.count r.value) b h.0 _ (digit-more 16 r b c g g.small), one_digit_more 16 16 r c h.1 f g.small, h.2))
      tt)
    where
      other : (k v : ℕ) → k ≡ 0 → b ≡ 110 → digits 16 k v ++ (b ∷ []) ≡ take 1 (tolerance_text None ++ (10 ∷ []))
      other k v p q = rw (p, q)

  seen-x : (c : Card) (r : Digits) → Seen (X c r) ps t → Then b ps t (next (X c r) b)
  unfolding reached word_text
  seen-x c r h =
      word_cases (Then b ps t) (X c) _ r b 32
      (λ f l. (fresh (grow (card_text c.head ps) (digits 16 r.count r.value) b h.0 _ (whole 16 r.count r.value b 32 f l)), none_yet 16 16, h.2, word_fits r.count r.value h.1 f))
      (λ f d e. let g = glyph_digit b d e in (grow (card_text c.head ps) (digits 16 r.count r.value) b h.0 _ (digit-more 16 r b d g g.small), one_digit_more 16 16 r d h.1 f g.small, h.2))
      tt

  seen-y : (c : Card) (x : ℕ) (r : Digits) → Seen (Y c x r) ps t → Then b ps t (next (Y c x r) b)
  unfolding reached word_text
  seen-y c x r h =
      word_cases (Then b ps t) (Y c x) _ r b 32
      (λ f l. (fresh (grow (to_y c.head ps x) (digits 16 r.count r.value) b h.0 _ (whole 16 r.count r.value b 32 f l)), none_yet 16 16, h.2, h.3, word_fits r.count r.value h.1 f))
      (λ f d e. let g = glyph_digit b d e in (grow (to_y c.head ps x) (digits 16 r.count r.value) b h.0 _ (digit-more 16 r b d g g.small), one_digit_more 16 16 r d h.1 f g.small, h.2, h.3))
      tt

  seen-z : (c : Card) (x y : ℕ) (r : Digits) → Seen (Z c x y r) ps t → Then b (rows (Z c x y r) b ps) t (next (Z c x y r) b)
  unfolding reached rows word_text
  seen-z c x y r h =
      word_parts (λ w. Seen (unwrap_or (option_map (on_word (Z c x y) (λ z. X (card_of c.head (more c.points)) no_digits)) w) Unreadable) (on_whole (λ z. ps ++ (row x y z ∷ [])) ps w) (t ++ (b ∷ []))) r b 10
      (λ f l. (
        fresh (grow (to_z c.head ps x y) (digits 16 r.count r.value) b h.0 _ (whole 16 r.count r.value b 10 f l) ∙ row_more c.head ps x y r.value),
        none_yet 16 16,
        record {
          head = h.2.head;
          rows = rows_more ps _ h.2.rows (record { x = h.3; y = h.4; z = word_fits r.count r.value h.1 f });
          count = count-more c.points (length ps) h.2.count ∙ ap (min 65) (sym (length-append ps (row x y r.value ∷ [])));
        },
      ))
      (λ f d e. let g = glyph_digit b d e in (grow (to_z c.head ps x y) (digits 16 r.count r.value) b h.0 _ (digit-more 16 r b d g g.small), one_digit_more 16 16 r d h.1 f g.small, h.2, h.3, h.4))
      tt

-- ---- a text

pub seen_next : (s : State) (b : ℕ) (ps : List Row) (t : List ℕ) → Seen s ps t → Seen (next s b) (rows s b ps) (t ++ (b ∷ []))
unfolding rows reached
seen_next (Names k) b ps t h = seen_names b ps t k h
seen_next (Degree r) b ps t h = seen-degree b ps t r h
seen_next (Chordal d k) b ps t h = seen_chordal b ps t d k h
seen_next (Centripetal d k) b ps t h = seen_centripetal b ps t d k h
seen_next (Bound d s r) b ps t h = seen_bound b ps t d s r h
seen_next (Without d s k) b ps t h = seen_without b ps t d s k h
seen_next (Axes g k) b ps t h = seen_axes b ps t g k h
seen_next (X c r) b ps t h = seen-x b ps t c r h
seen_next (Y c x r) b ps t h = seen-y b ps t c x r h
seen_next (Z c x y r) b ps t h = seen-z b ps t c x y r h
seen_next Unreadable b ps t h = tt

-- the rows after a text
unfoldable pub rows_after : State → List ℕ → List Row → List Row
rows_after s [] ps = ps
rows_after s (b ∷ t) ps = rows_after (next s b) t (rows s b ps)

pub seen-after : (s : State) (ps : List Row) (done t : List ℕ) → Seen s ps done → Seen (after s t) (rows_after s t ps) (done ++ t)
unfolding after rows_after
seen-after s ps done [] h = subst (Seen s ps) (sym (append-nil done)) h
seen-after s ps done (b ∷ t) h =
    subst (Seen (after (next s b) t) (rows_after (next s b) t (rows s b ps))) (append_assoc done (b ∷ []) t)
    (seen-after (next s b) (rows s b ps) (done ++ (b ∷ [])) t (seen_next s b ps done h))

-- at the start nothing is read
pub seen : (t : List ℕ) → Seen (after (Names 0) t) (rows_after (Names 0) t []) t
seen t = seen-after (Names 0) [] [] t (refl, lit< tt, refl)
