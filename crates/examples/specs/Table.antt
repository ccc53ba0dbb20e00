-- Document 01's M cases: one table, one theorem, of the definitions.
use Rattle.std.specs.Prelude.{◌≡◌, refl, false, List, [], ◌∷◌, ℕ, eqb, Float}
use Rattle.std.proofs.Math.Option.{some}
use Rattle.places.specs.Places.{list_of}
use Rattle.geometry.specs.Root.{sqrt_of}
use Rattle.geometry.specs.Points.{point_at}
use Rattle.bspline.specs.Basis.{basis_at}
use Rattle.knots.specs.declared.Spacing.TheVariants.{Chordal, Centripetal}
use Rattle.knots.specs.Parameters.{plain_metric, point_parameters}
use Rattle.knots.specs.Knots.{averaged_knots, approximation_knots, distinct_knots, knot_at, multiplicity_at}
use Rattle.search.specs.Search.{start, tried}
use Rattle.examples.specs.Opened.{opened, bits, words}

-- points on the first axis
abbrev pub on_axis : List ℕ → List Float
on_axis [] = []
on_axis (b ∷ bs) = bits b ∷ bits 0 ∷ bits 0 ∷ on_axis bs

-- 0, 0.25, 0.5, 1; and 0, 0, 0, 0.375, 1, 1, 1
abbrev pub quarters : List Float
quarters = words (0 ∷ 0x3fd0_0000_0000_0000 ∷ 0x3fe0_0000_0000_0000 ∷ 0x3ff0_0000_0000_0000 ∷ [])

abbrev pub averaged : List Float
averaged = words (0 ∷ 0 ∷ 0 ∷ 0x3fd8_0000_0000_0000 ∷ 0x3ff0_0000_0000_0000 ∷ 0x3ff0_0000_0000_0000 ∷ 0x3ff0_0000_0000_0000 ∷ [])

pub record MCases : Type 0 where
  -- points 0, 1, 2, 4 on the first axis, chordal: parameters 0, 0.25, 0.5, 1
  pub m1 : point_parameters (plain_metric Chordal) 4 (point_at (on_axis (0 ∷ 0x3ff0_0000_0000_0000 ∷ 0x4000_0000_0000_0000 ∷ 0x4010_0000_0000_0000 ∷ []))) ≡ some quarters
  -- points 0, 1, 2, 6, centripetal: the same
  pub m2 : point_parameters (plain_metric Centripetal) 4 (point_at (on_axis (0 ∷ 0x3ff0_0000_0000_0000 ∷ 0x4000_0000_0000_0000 ∷ 0x4018_0000_0000_0000 ∷ []))) ≡ some quarters
  -- those, degree 2, averaged: 0, 0, 0, 0.375, 1, 1, 1
  pub m3 : averaged_knots quarters 2 ≡ averaged
  -- that as knots 0, 0.375, 1 with 3, 1, 3
  pub m4_count : distinct_knots averaged ≡ 3
  pub m4_knots : list_of 3 (knot_at averaged) ≡ words (0 ∷ 0x3fd8_0000_0000_0000 ∷ 0x3ff0_0000_0000_0000 ∷ [])
  pub m4_mults : list_of 3 (multiplicity_at averaged) ≡ 3 ∷ 1 ∷ 3 ∷ []
  -- those parameters, 3 poles, degree 1, spread: 0, 0, 0.375, 1, 1
  pub m5 : approximation_knots quarters 3 1 ≡ words (0 ∷ 0 ∷ 0x3fd8_0000_0000_0000 ∷ 0x3ff0_0000_0000_0000 ∷ 0x3ff0_0000_0000_0000 ∷ [])
  -- degree 2, knots 0, 0, 0, 1, 1, 1, at 0.5: 0.25, 0.5, 0.25
  pub m6 : basis_at (words (0 ∷ 0 ∷ 0 ∷ 0x3ff0_0000_0000_0000 ∷ 0x3ff0_0000_0000_0000 ∷ 0x3ff0_0000_0000_0000 ∷ [])) 2 2 (bits 0x3fe0_0000_0000_0000) ≡ words (0x3fd0_0000_0000_0000 ∷ 0x3fe0_0000_0000_0000 ∷ 0x3fd0_0000_0000_0000 ∷ [])
  -- the root of 2, and of 2 ^ -1074, which is 2 ^ -537
  pub m7 : sqrt_of (bits 0x4000_0000_0000_0000) ≡ bits 0x3ff6_a09e_667f_3bcd
  pub m8 : sqrt_of (bits 1) ≡ bits 0x1e60_0000_0000_0000
  -- counts 2 to 9 (degree 1, n = 10), none fitting: tried 2, 4, 8, 9; only 8 fitting: tried 2, 4, 8, 6, 7
  pub m9 : tried (λ count. false) 10 (start 1 10) ≡ 2 ∷ 4 ∷ 8 ∷ 9 ∷ []
  pub m10 : tried (λ count. eqb count 8) 10 (start 1 10) ≡ 2 ∷ 4 ∷ 8 ∷ 6 ∷ 7 ∷ []

pub m_cases : MCases
unfolding opened
m_cases =
    record {
      m1 = refl;
      m2 = refl;
      m3 = refl;
      m4_count = refl;
      m4_knots = refl;
      m4_mults = refl;
      m5 = refl;
      m6 = refl;
      m7 = refl;
      m8 = refl;
      m9 = refl;
      m10 = refl;
    }
