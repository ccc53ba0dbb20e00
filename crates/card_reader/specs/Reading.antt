-- Reading a card a byte at a time: what each state and byte lead to. Definitions only; what they come to is said in Judged.
use Rattle.std.specs.Prelude.{ℕ, Option, Some, None, unwrap_or, option_map, option_and_then, Result, Ok, Err, ◌+◌, ◌*◌, ◌^◌, ◌≤◌, ◌<◌, ◌≡◌, cond, ◌&&◌, List, [], ◌∷◌, ◌++◌, ltb, eqb, Float, length, get_or}
use Rattle.card_text.specs.Text.{digit_of, coordinate_names}
use Rattle.card_reader.specs.Card.{head_names, spacing_text, tolerance_text, row, point_of}
use Rattle.geometry.specs.Points.{put_point}
use Rattle.card_reader.specs.declared.Head.{Head}
use Rattle.knots.specs.declared.Spacing.{Spacing}
use Rattle.knots.specs.declared.Spacing.TheVariants as spacing
use Rattle.card_reader.specs.declared.Digits.{Digits}
use Rattle.card_reader.specs.declared.State.{State}
use Rattle.card_reader.specs.declared.State.TheVariants.{Names, Degree, Chordal, Centripetal, Bound, Without, Axes, X, Y, Z, Unreadable}
use Rattle.card_reader.specs.declared.steps.Word.{Word}
use Rattle.card_reader.specs.declared.steps.Word.TheVariants.{More, Whole}
use Rattle.card_reader.specs.declared.Card.{Card}
use Rattle.card_reader.specs.declared.CardError.{CardError}
use Rattle.card_reader.specs.declared.CardError.TheVariants as error

-- no digit of a number is read yet, and one more in base b
abbrev pub no_digits : Digits
no_digits = record { count = 0; value = 0 }

abbrev pub digit_more : ℕ → Digits → ℕ → Digits
digit_more b r d = record { count = r.count + 1; value = r.value * b + d }

-- nothing is read yet
abbrev pub begun : State
begun = Names 0

-- a digit more of a word, or, after 16, the byte that ends it
unfoldable pub word_next : Digits → ℕ → ℕ → Option Word
word_next r b end =
    cond (eqb r.count 16)
    (cond (eqb b end) (Some (Whole r.value)) None)
    (option_map (λ d. More (digit_more 16 r d)) (digit_of b))

-- a digit more of the degree, or the blank after it
abbrev pub degree_digit : Digits → ℕ → Option State
degree_digit r d =
    cond (ltb d 10)
    (cond (eqb r.count 9) None
    (cond (ltb 0 r.count && eqb r.value 0) None (Some (Degree (digit_more 10 r d)))))
    None

unfoldable pub degree_next : Digits → ℕ → Option State
degree_next r b =
    cond (eqb b 32)
    (cond (ltb 0 r.count) (Some (Chordal r.value 0)) None)
    (option_and_then (degree_digit r) (digit_of b))

-- byte k of a fixed text t is b: the next state, which is `done` after the last
unfoldable pub literal_next : List ℕ → ℕ → ℕ → State → State → Option State
literal_next t k b done more = cond (eqb b (get_or t k 0)) (Some (cond (eqb (k + 1) (length t)) done more)) None

-- the first line
abbrev pub names_next : ℕ → ℕ → Option State
names_next k b = literal_next head_names k b (Degree no_digits) (Names (k + 1))

-- a spacing: both names begin with `c`, and the second byte tells them apart
abbrev pub chordal_next : ℕ → ℕ → ℕ → Option State
chordal_next d k b =
    cond (eqb k 1 && eqb b 101) (Some (Centripetal d 2))
    (literal_next (spacing_text spacing.Chordal ++ (32 ∷ [])) k b (Bound d spacing.Chordal no_digits) (Chordal d (k + 1)))

abbrev pub centripetal_next : ℕ → ℕ → ℕ → Option State
centripetal_next d k b =
    literal_next (spacing_text spacing.Centripetal ++ (32 ∷ [])) k b (Bound d spacing.Centripetal no_digits) (Centripetal d (k + 1))

-- what stands before the points
abbrev pub head : ℕ → Spacing → Option ℕ → Head
head d s t = record { degree = d; spacing = s; tolerance = t }

-- `none`
abbrev pub without_next : ℕ → Spacing → ℕ → ℕ → Option State
without_next d s k b =
    literal_next (tolerance_text None ++ (10 ∷ [])) k b (Axes (head d s None) 0) (Without d s (k + 1))

-- a card, by its head and how many points it has
abbrev pub card_of : Head → ℕ → Card
card_of h n = record { head = h; points = n }

-- the names of the coordinates
abbrev pub axes_next : Head → ℕ → ℕ → Option State
axes_next h k b = literal_next coordinate_names k b (X (card_of h 0) no_digits) (Axes h (k + 1))

-- a state from a word's
abbrev pub on_word : (Digits → State) → (ℕ → State) → Word → State
on_word more whole (More r) = more r
on_word more whole (Whole w) = whole w

-- what the end of a word brings, and else x
abbrev pub on_whole : {A : Type 0} → (ℕ → A) → A → Option Word → A
on_whole f x (Some (Whole w)) = f w
on_whole f x _ = x

-- a tolerance: `n` begins `none`, all else is a word
abbrev pub tolerance_next : ℕ → Spacing → Digits → ℕ → Option State
tolerance_next d s r b =
    cond (eqb r.count 0 && eqb b 110) (Some (Without d s 1))
    (option_map (on_word (Bound d s) (λ w. Axes (head d s (Some w)) 0)) (word_next r b 10))

-- a point's three words
abbrev pub x_next : Card → Digits → ℕ → Option State
x_next c r b = option_map (on_word (X c) (λ w. Y c w no_digits)) (word_next r b 32)

abbrev pub y_next : Card → ℕ → Digits → ℕ → Option State
y_next c x r b = option_map (on_word (Y c x) (λ w. Z c x w no_digits)) (word_next r b 32)

-- one point more, and 65 for every larger number
abbrev pub more : ℕ → ℕ
more n = cond (ltb n 65) (n + 1) n

abbrev pub z_next : Card → ℕ → ℕ → Digits → ℕ → Option State
z_next c x y r b = option_map (on_word (Z c x y) (λ w. X (card_of c.head (more c.points)) no_digits)) (word_next r b 10)

-- one byte more, where the text may go on with it
unfoldable pub reached : State → ℕ → Option State
reached (Names k) b = names_next k b
reached (Degree r) b = degree_next r b
reached (Chordal d k) b = chordal_next d k b
reached (Centripetal d k) b = centripetal_next d k b
reached (Bound d s r) b = tolerance_next d s r b
reached (Without d s k) b = without_next d s k b
reached (Axes h k) b = axes_next h k b
reached (X c r) b = x_next c r b
reached (Y c x r) b = y_next c x r b
reached (Z c x y r) b = z_next c x y r b
reached Unreadable b = None

-- the state after one byte more, unreadable where the text may not go on with it
abbrev pub next : State → ℕ → State
next s b = unwrap_or (reached s b) Unreadable

-- the points' slice after a byte, which may end the line of a point: the first 64 points are kept
unfoldable pub kept : State → ℕ → List Float → List Float
kept (Z c x y r) b ps = on_whole (λ z. cond (ltb c.points 64) (put_point c.points (point_of (row x y z)) ps) ps) ps (word_next r b 10)
kept _ b ps = ps

-- what a state has within its ranges: digits read, at most so many, and their value in base b; bytes read of a fixed text
abbrev pub DigitsOf : ℕ → ℕ → Digits → Type 0
DigitsOf b most r = (r.count ≤ most) × (r.value < b ^ r.count)

abbrev pub Held : State → Type 0
Held (Names k) = k < 25
Held (Degree r) = DigitsOf 10 9 r
Held (Chordal d k) = k < 8
Held (Centripetal d k) = k < 12
Held (Bound d s r) = DigitsOf 16 16 r
Held (Without d s k) = k < 5
Held (Axes h k) = k < 6
Held (X c r) = DigitsOf 16 16 r
Held (Y c x r) = DigitsOf 16 16 r
Held (Z c x y r) = DigitsOf 16 16 r
Held Unreadable = Unit

-- the state after a text, and the points' slice
unfoldable pub after : State → List ℕ → State
after s [] = s
after s (b ∷ t) = after (next s b) t

unfoldable pub kept_after : State → List ℕ → List Float → List Float
kept_after s [] ps = ps
kept_after s (b ∷ t) ps = kept_after (next s b) t (kept s b ps)

-- a text has been read from the start, in one part or in several, over a slice that held old: the state and the slice as they are now
pub record HasRead (text : List ℕ) (old : List Float) (s : State) (new : List Float) : Type 0 where
  pub state : s ≡ after begun text
  pub slice : new ≡ kept_after begun text old

-- what the whole text is judged: it has to end where a line of a point may begin
abbrev pub judgement_of : State → Result Card CardError
judgement_of (X c r) = cond (eqb r.count 0) (cond (ltb c.points 65) (Ok c) (Err error.TooMany)) (Err error.Unreadable)
judgement_of _ = Err error.Unreadable
