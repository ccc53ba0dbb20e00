-- The calls and answers of a list of words. Definitions only.
use Rattle.std.specs.Prelude.{ℕ, ◌+◌, ◌-◌, ◌*◌, ◌≤◌, ◌<◌, ◌≡◌, min, cond, Option, Some, None, Result, Ok, Err, List, eqb, ltb, length, get_or, take, drop, Float}
use Rattle.std.specs.Float.{binary64}
use Rattle.std.specs.Float.Ieee.{of_bits}
use Rattle.knots.specs.Parameters.{spacing_of}
use Rattle.checks.specs.declared.Call.{Call}
use Rattle.checks.specs.declared.Call.TheVariants.{Interpolate, Approximate, ApproximateWithin, SearchSpread}
use Rattle.replay_list.specs.declared.TheConstants.{PLACES}
use Rattle.replay_list.specs.declared.Case.{Case}
use Rattle.replay_list.specs.declared.answers.ListedFit.{ListedFit}

-- the call of an entry's number, with a pole count and the word of a tolerance
abbrev pub call_of : ℕ → ℕ → ℕ → Option Call
call_of entry count tolerance =
    cond (eqb entry 0) (Some Interpolate)
    (cond (eqb entry 1) (Some (Approximate count))
    (cond (eqb entry 2) (Some (ApproximateWithin (of_bits binary64 tolerance)))
    (cond (eqb entry 3) (Some (SearchSpread (of_bits binary64 tolerance))) None)))

-- the words from a on are a case's: no more than the most places, and some given where there are some
pub record IsCase (w : List ℕ) (a : ℕ) : Type 0 where
  pub entry : get_or w a 0 ≤ 3
  pub few : get_or w (a + 5) 0 ≤ PLACES
  pub no_more : get_or w (a + 6) 0 ≤ get_or w (a + 5) 0
  pub some : 0 < get_or w (a + 5) 0 → 0 < get_or w (a + 6) 0
  pub short : get_or w (a + 7) 0 ≤ 1
  pub within : a + 8 + get_or w (a + 6) 0 ≤ length w

-- the case whose words start at a
pub record CaseAt (w : List ℕ) (a : ℕ) (c : Case) : Type 0 where
  pub call : Some c.call ≡ call_of (get_or w a 0) (get_or w (a + 3) 0) (get_or w (a + 4) 0)
  pub degree : c.degree ≡ get_or w (a + 1) 0
  pub spacing : c.spacing ≡ spacing_of (get_or w (a + 2) 0)
  pub count : c.count ≡ get_or w (a + 5) 0
  pub given : c.given.now ≡ take (get_or w (a + 6) 0) (drop (a + 8) w)
  pub shorter : c.shorter ≡ get_or w (a + 7) 0
  pub answer : c.answer ≡ a + 8 + get_or w (a + 6) 0
  pub within : c.answer ≤ length w

abbrev pub FoundAt : List ℕ → ℕ → Option Case → Type 0
FoundAt w a (Some c) = CaseAt w a c
FoundAt w a None = IsCase w a → ⊥

-- of so many given places the one that place k has: its own, and from there on the last
abbrev pub given_at : ℕ → ℕ → ℕ
given_at k given = min k (given - 1)

-- place k, by the words of the given places
abbrev pub place_at : List ℕ → ℕ → Float
place_at given k = of_bits binary64 (get_or given (given_at k (length given)) 0)

-- the fit whose words start at a, of a degree
abbrev pub fit_at : List ℕ → ℕ → ℕ → ListedFit
fit_at w a degree = record {
  degree = degree;
  mark = get_or w (a + 1) 0;
  largest = get_or w (a + 2) 0;
  poles = get_or w (a + 3) 0;
  knots = get_or w (a + 4) 0;
  unreadable = get_or w (a + 5) 0;
  values = a + 6;
  next = a + 6 + (get_or w (a + 3) 0 + degree + 1) + 2 * get_or w (a + 4) 0 + 3 * get_or w (a + 3) 0;
}

-- its values stand among n words; at most degree 25, 1,024 poles and 1,050 knots
abbrev pub listed_fit : ℕ → ListedFit → Option (Result ListedFit ℕ)
listed_fit n f =
    cond (ltb 25 f.degree) None
    (cond (ltb 1024 f.poles) None
    (cond (ltb 1050 f.knots) None
    (cond (ltb n f.next) None (Some (Ok f)))))

-- the answer whose words start at a
unfoldable pub listed_at : List ℕ → ℕ → ℕ → Option (Result ListedFit ℕ)
listed_at w a degree =
    cond (ltb a (length w))
    (cond (eqb (get_or w a 0) 0)
    (cond (ltb (length w - a) 6) None (listed_fit (length w) (fit_at w a degree)))
    (Some (Err (get_or w a 0))))
    None

pub record Within (n : ℕ) (f : ListedFit) : Type 0 where
  pub high : f.degree ≤ 25
  pub few : f.poles ≤ 1024
  pub knots : f.knots ≤ 1050
  pub values : f.values + (f.poles + f.degree + 1) + 2 * f.knots + 3 * f.poles ≤ n

-- an answer that was read stands among n words
abbrev pub Held : ℕ → ℕ → Option (Result ListedFit ℕ) → Type 0
Held n a (Some (Err k)) = a < n
Held n a (Some (Ok f)) = Within n f
Held n a None = Unit
