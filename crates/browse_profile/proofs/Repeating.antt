-- Profiles of either of two lists, and of any number of lists.
use Rattle.std.proofs.Common.{◌≡◌, ℕ, ◌+◌, ◌≤◌, true, false, cond, arith, refl, sym, ◌∙◌}
use Rattle.std.specs.Prelude.{Bool, ◌&&◌, Option}
use Rattle.browse_profile.specs.declared.profile.Profile.{Profile}
use Rattle.browse_profile.specs.declared.profile.Most.{Most}
use Rattle.browse_profile.specs.declared.profile.Most.TheVariants.{Never, Once, Many}
use Rattle.browse_profile.specs.Bounds.{Within, sum}
use Rattle.browse_profile.specs.Costs.{Costs, ends, stop, more, followed}
use Rattle.browse_profile.specs.Fits.{After, FourFit}
use Rattle.browse_profile.specs.Profiles.{may, many, greater, unbounded, with_all, one_of, repeated_sure, repeated}
use Rattle.browse_profile.proofs.Bounding.{within_less, within_left, within_right, within_sum}
use Rattle.browse_profile.proofs.Following.{fits_looser, after_followed}

-- there can be several stops in either of two lists where there can be in the first
many_greater_left : (a b : Most) → many a ≡ true → many (greater a b) ≡ true
many_greater_left Never b h = cc
many_greater_left Once b h = cc
many_greater_left Many b h = refl

-- there can be several stops in either of two lists where there can be in the second
many_greater_right : (a b : Most) → many b ≡ true → many (greater a b) ≡ true
many_greater_right Never b h = h
many_greater_right Once Never h = cc
many_greater_right Once Once h = cc
many_greater_right Once Many h = refl
many_greater_right Many b h = refl

-- there can be a stop in either of two lists where there can be in the first
may_greater_left : (a b : Most) → may a ≡ true → may (greater a b) ≡ true
may_greater_left Never b h = cc
may_greater_left Once Never h = refl
may_greater_left Once Once h = refl
may_greater_left Once Many h = refl
may_greater_left Many b h = refl

-- there can be a stop in either of two lists where there can be in the second
may_greater_right : (a b : Most) → may b ≡ true → may (greater a b) ≡ true
may_greater_right Never b h = h
may_greater_right Once Never h = refl
may_greater_right Once Once h = refl
may_greater_right Once Many h = refl
may_greater_right Many b h = refl

-- a conjunction whose first part is false is false
and_left : (a b : Bool) → a ≡ false → (a && b) ≡ false
and_left true b h = cc
and_left false b h = refl

-- a conjunction whose second part is false is false
and_right : (a b : Bool) → b ≡ false → (a && b) ≡ false
and_right true b h = h
and_right false b h = refl

-- a list that is as the first profile says is as that of either of two says
pub fits_first : (a b : Profile) (c : Costs) → FourFit a c → FourFit (one_of a b) c
fits_first a b c h =
    fits_looser a (one_of a b)
    (record { trail = λ n v. within_left a.trail b.trail n v; between = λ n v. within_left a.between b.between n v; many = many_greater_left a.most b.most })
    (λ n v. within_left a.lead b.lead n v) (λ n v. within_left a.none b.none n v) (and_left a.sure b.sure) (may_greater_left a.most b.most) c h

-- a list that is as the second profile says is as that of either of two says
pub fits_second : (a b : Profile) (c : Costs) → FourFit b c → FourFit (one_of a b) c
fits_second a b c h =
    fits_looser b (one_of a b)
    (record { trail = λ n v. within_right a.trail b.trail n v; between = λ n v. within_right a.between b.between n v; many = many_greater_right a.most b.most })
    (λ n v. within_right a.lead b.lead n v) (λ n v. within_right a.none b.none n v) (and_right a.sure b.sure) (may_greater_right a.most b.most) c h

-- where nothing is known, all fits
pub after_unbounded : (c : Costs) → After unbounded c
after_unbounded (ends t) = tt
after_unbounded (stop t c) = (tt, refl, after_unbounded c)

-- every list fits where nothing is known
pub fits_unbounded : (c : Costs) → FourFit unbounded c
fits_unbounded (ends t) = (tt, refl)
fits_unbounded (stop t c) = (tt, refl, after_unbounded c)

-- a list is as a profile's four bounds say whatever its bound on the cost of all is
pub four_with_all : (x : Option ℕ) (p : Profile) (c : Costs) → FourFit p c → FourFit (with_all x p) c
four_with_all x p c h =
    fits_looser p (with_all x p) (record { trail = λ n v. v; between = λ n v. v; many = λ m. m }) (λ n v. v) (λ n v. v) (λ s. s) (λ m. m) c h

-- no list at all is as the profile of any number of lists says
pub fits_repeated_none : (a : Profile) → FourFit (repeated a) (ends 0)
fits_repeated_none a = elim a.sure as (λ w. FourFit (cond w (repeated_sure a) unbounded) (ends 0)) [ true ↦ (omega arith, refl) | false ↦ (tt, refl) ]

-- a profile, any number of whose lists come one after another
module _ (a : Profile) where
  -- after a stop, a list and then any number of lists, each with a stop, go on as the profile of any number of them says
  again : (d : Costs) → FourFit (repeated_sure a) d → (k : ℕ) → Within k a.trail → After (repeated_sure a) (more k d)
  again (ends u) h k w = let e : k + u ≤ k = omega (arith, h.0) in within_less a.trail (k + u) k e w
  again (stop u d) h k w = (within_right a.between (sum a.trail a.lead) (k + u) (within_sum a.trail a.lead k u w h.0), refl, h.2)

  -- a list with a stop, before any number of such lists, is as the profile of any number of them says
  more_sure : a.sure ≡ true → (c d : Costs) → FourFit a c → FourFit (repeated_sure a) d → FourFit (repeated_sure a) (followed c d)
  more_sure s (ends t) d h k = absurd (let e : true ≡ false = sym s ∙ h.1 in cc)
  more_sure s (stop t c) d h k =
      (h.0, refl, after_followed a (repeated_sure a) (λ n v. within_left a.between (sum a.trail a.lead) n v) (λ m. refl) d (again d k) c h.2)

  -- a list as a profile says, before any number of such lists, is as the profile of any number of them says
  pub fits_repeated_more : (c d : Costs) → FourFit a c → FourFit (repeated a) d → FourFit (repeated a) (followed c d)
  fits_repeated_more c d h k =
      (elim a.sure as (λ w. a.sure ≡ w → FourFit (cond w (repeated_sure a) unbounded) d → FourFit (cond w (repeated_sure a) unbounded) (followed c d)) [
        | true ↦ λ s v. more_sure s c d h v
        | false ↦ λ s v. fits_unbounded (followed c d)
      ]) refl k
