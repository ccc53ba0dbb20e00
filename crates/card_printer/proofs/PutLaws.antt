-- Texts put one after the other. Assumes nothing.
use Prim.Native.Nat.{ℕ, ◌+◌, ◌-◌, ◌≤◌}
use mathlib.Core.Path.{◌≡◌, refl, sym, ap, ◌∙◌}
use mathlib.Core.List.{List, [], ◌++◌}
use native.Mathlib.Omega.{arith}
use lib.ListN.{length, take, drop, length-append}
use lib.Seq.{take_at, drop_at}
use Rattle.places.specs.Places.{joined}
use Rattle.places.specs.Regions.{splice}
use Rattle.places.proofs.RegionLaws.{splice_join}
use Rattle.places.proofs.PlaceLaws.{joined-more}
use Rattle.places.proofs.GatheredLaws.{pasted-none, splice_is}
use Rattle.card_printer.specs.Answer.{Put, Puts}
use Rattle.card_printer.specs.declared.text.Text.{Text}

pub put_put : {old mid new : List ℕ} {a m e : ℕ} (s t : List ℕ) → e ≤ length old → Put old mid a m s → Put mid new m e t → Put old new a e (s ++ t)
put_put {old} {mid} {new} {a} {m} {e} s t h p q =
    let l = length-append s t in
    let u = p.place in
    let w = q.place in
    record {
      place = omega arith;
      bytes = q.bytes ∙ ap (splice m e t) p.bytes ∙ splice_join a m e s t old (omega arith) (omega arith) h (omega arith);
    }

-- the same of texts put one after the other into one slice
pub puts_puts : {a b c : Text} {s t : List ℕ} → Puts a b s → Puts b c t → Puts a c (s ++ t)
puts_puts {a} {b} {c} {s} {t} p q = record {
  same = q.same ∙ p.same;
  long = q.long ∙ p.long;
  inside = q.inside;
  put = put_put s t (let f = q.inside in let g = q.long in let h = p.long in omega arith) p.put q.put;
}

-- no line yet, and a line more
pub puts-start : (a : Text) (f : ℕ → List ℕ) → a.at ≤ length a.out.now → Puts a a (joined 0 f)
unfolding joined
puts-start a f h = record {
  same = refl;
  long = refl;
  inside = h;
  put = record { place = omega arith; bytes = pasted-none a.at a.out.now ∙ sym (splice_is a.at a.at [] a.out.now (omega arith) (omega arith)) };
}

pub puts-line : {a b c : Text} (f : ℕ → List ℕ) (k : ℕ) → Puts a b (joined k f) → Puts b c (f k) → Puts a c (joined (k + 1) f)
puts-line f k p q = rw (joined-more k f) (puts_puts p q)

-- a text at the front, and what stands behind it
pub put_front : {old new : List ℕ} {n : ℕ} (text : List ℕ) → Put old new 0 n text → (take n new ≡ text) × (drop n new ≡ drop n old)
put_front {old} {new} {n} text p =
    let long : length text ≡ n = let e = p.place in omega arith in
    let none : n - 0 ≡ n = omega arith in
    rw (p.bytes, none) (take_at text (drop n old) n long, drop_at text (drop n old) n long)
