-- Profiles of one list after another, of either of two, and of any number.
use Rattle.std.proofs.Common.{◌≡◌, ℕ, ◌+◌, true, false, arith, refl, sym, ap, ◌∙◌, List, [], ◌∷◌, ◌++◌}
use Rattle.std.specs.Prelude.{Bool, not, ◌&&◌, ◌||◌}
use Rattle.mix_base.specs.Events.{Event, skip, bind}
use Rattle.browse_profile.specs.declared.profile.Profile.{Profile}
use Rattle.browse_profile.specs.declared.profile.Most.{Most}
use Rattle.browse_profile.specs.declared.profile.Most.TheVariants.{Never, Once, Many}
use Rattle.browse_profile.specs.Bounds.{Within, larger, sum, only_if}
use Rattle.browse_profile.specs.Costs.{Costs, ends, stop, more, followed, costs_of}
use Rattle.browse_profile.specs.Fits.{After, FourFit}
use Rattle.browse_profile.specs.Profiles.{may, many, added, in_turn}
use Rattle.browse_profile.proofs.Bounding.{within_left, within_right, within_sum, within_case, both_true, not_false}

-- a further cost of nothing changes no costs
pub more-zero : (c : Costs) → more 0 c ≡ c
more-zero (ends t) = let e : 0 + t ≡ t = omega arith in ap ends e
more-zero (stop t c) = let e : 0 + t ≡ t = omega arith in ap (λ (n : ℕ). stop n c) e

-- one further cost after another is a further cost of both together
pub more-more : (m n : ℕ) (c : Costs) → more m (more n c) ≡ more (m + n) c
more-more m n (ends t) = let e : m + (n + t) ≡ m + n + t = omega arith in ap ends e
more-more m n (stop t c) = let e : m + (n + t) ≡ m + n + t = omega arith in ap (λ (k : ℕ). stop k c) e

-- a further cost of one list after another is one of the first of them
pub more-followed : (n : ℕ) (c d : Costs) → more n (followed c d) ≡ followed (more n c) d
more-followed n (ends t) d = more-more n t d
more-followed n (stop t c) d = refl

-- of three lists one after another, the first two or the last two may be joined first
pub followed_assoc : (x y z : Costs) → followed (followed x y) z ≡ followed x (followed y z)
followed_assoc (ends t) y z = sym (more-followed t y z)
followed_assoc (stop t x) y z = ap (stop t) (followed_assoc x y z)

-- the costs of one list of events after another are those of the one after those of the other
pub costs-append : {B : Type 0} (xs ys : List (Event B)) → costs_of (xs ++ ys) ≡ followed (costs_of xs) (costs_of ys)
costs-append [] ys = sym (more-zero (costs_of ys))
costs-append (skip ∷ xs) ys = ap (more 1) (costs-append xs ys) ∙ more-followed 1 (costs_of xs) (costs_of ys)
costs-append (bind b ∷ xs) ys = ap (stop 1) (costs-append xs ys)

-- what the second profile allows after a stop, where the first allows it
pub record IsLooserAfter (a r : Profile) : Type 0 where
  pub trail : (n : ℕ) → Within n a.trail → Within n r.trail
  pub between : (n : ℕ) → Within n a.between → Within n r.between
  pub many : many a.most ≡ true → many r.most ≡ true

-- what goes on after a stop as a profile says goes on as a looser one says
pub after_looser : (a r : Profile) → IsLooserAfter a r → (c : Costs) → After a c → After r c
after_looser a r l (ends t) h = l.trail t h
after_looser a r l (stop t c) h = (l.between t h.0, l.many h.1, after_looser a r l c h.2)

-- a list that is as a profile says is as a looser one says
pub fits_looser : (a r : Profile) → IsLooserAfter a r → ((n : ℕ) → Within n a.lead → Within n r.lead) → ((n : ℕ) → Within n a.none → Within n r.none)
    → (a.sure ≡ false → r.sure ≡ false) → (may a.most ≡ true → may r.most ≡ true) → (c : Costs) → FourFit a c → FourFit r c
fits_looser a r l lead none sure m (ends t) h = (none t h.0, sure h.1)
fits_looser a r l lead none sure m (stop t c) h = (lead t h.0, m h.1, after_looser a r l c h.2)

-- after a stop of the first of two lists, one after another, they go on as a looser profile says, where the second does
pub after_followed : (a r : Profile) → ((n : ℕ) → Within n a.between → Within n r.between) → (many a.most ≡ true → many r.most ≡ true)
    → (d : Costs) → ((k : ℕ) → Within k a.trail → After r (more k d)) → (c : Costs) → After a c → After r (followed c d)
after_followed a r b m d rest (ends t) h = rest t h
after_followed a r b m d rest (stop t c) h = (b t h.0, m h.1, after_followed a r b m d rest c h.2)

-- there can be several stops in two lists where the first can have several
pub many_left : (a b : Most) → many a ≡ true → many (added a b) ≡ true
many_left Never b h = cc
many_left Once b h = cc
many_left Many b h = refl

-- there can be several stops in two lists where the second can have several
pub many_right : (a b : Most) → many b ≡ true → many (added a b) ≡ true
many_right Never b h = h
many_right Once Never h = cc
many_right Once Once h = refl
many_right Once Many h = refl
many_right Many b h = refl

-- there can be several stops in two lists where each can have one
pub many_both : (a b : Most) → may a ≡ true → may b ≡ true → many (added a b) ≡ true
many_both Never b h k = cc
many_both Once Never h k = cc
many_both Once Once h k = refl
many_both Once Many h k = refl
many_both Many b h k = refl

-- there can be a stop in two lists where the first can have one
pub may_left : (a b : Most) → may a ≡ true → may (added a b) ≡ true
may_left Never b h = cc
may_left Once Never h = refl
may_left Once Once h = refl
may_left Once Many h = refl
may_left Many b h = refl

-- there can be a stop in two lists where the second can have one
pub may_right : (a b : Most) → may b ≡ true → may (added a b) ≡ true
may_right Never b h = h
may_right Once Never h = cc
may_right Once Once h = refl
may_right Once Many h = refl
may_right Many b h = refl

-- where there can be several there can be one
pub may_many : (a : Most) → many a ≡ true → may a ≡ true
may_many Never h = h
may_many Once h = cc
may_many Many h = refl

-- where two booleans are false, their disjunction is
or_false : (a b : Bool) → a ≡ false → b ≡ false → (a || b) ≡ false
or_false true b h k = cc
or_false false b h k = k

module _ (a b : Profile) where
  -- after a stop of the first list, and its end, the second goes on as the profiles in turn say
  turn_after : may a.most ≡ true → (d : Costs) → FourFit b d → (k : ℕ) → Within k a.trail → After (in_turn a b) (more k d)
  turn_after m (ends u) h k w =
      within_right b.trail (only_if (may a.most && not b.sure) (sum a.trail b.none)) (k + u)
      (within_case (may a.most && not b.sure) (sum a.trail b.none) (k + u) (both_true (may a.most) (not b.sure) m (not_false b.sure h.1)) (within_sum a.trail b.none k u w h.0))
  turn_after m (stop u d) h k w = (
    within_right (larger a.between b.between) (only_if (may a.most && may b.most) (sum a.trail b.lead)) (k + u)
        (within_case (may a.most && may b.most) (sum a.trail b.lead) (k + u) (both_true (may a.most) (may b.most) m h.1) (within_sum a.trail b.lead k u w h.0)),
    many_both a.most b.most m h.1,
    after_looser b (in_turn a b) looser d h.2,
  )
    where
      looser : IsLooserAfter b (in_turn a b)
      looser = record {
        trail = λ n v. within_left b.trail (only_if (may a.most && not b.sure) (sum a.trail b.none)) n v;
        between = λ n v. within_left (larger a.between b.between) (only_if (may a.most && may b.most) (sum a.trail b.lead)) n (within_right a.between b.between n v);
        many = many_right a.most b.most;
      }

  -- where the first of two lists has no stop, both one after the other are as their profiles in turn say
  turn_start : (d : Costs) → FourFit b d → (k : ℕ) → Within k a.none → a.sure ≡ false → FourFit (in_turn a b) (more k d)
  turn_start (ends u) h k w s =
      (within_case (not a.sure && not b.sure) (sum a.none b.none) (k + u) (both_true (not a.sure) (not b.sure) (not_false a.sure s) (not_false b.sure h.1)) (within_sum a.none b.none k u w h.0), or_false a.sure b.sure s h.1)
  turn_start (stop u d) h k w s = (
    within_right a.lead (only_if (not a.sure && may b.most) (sum a.none b.lead)) (k + u)
        (within_case (not a.sure && may b.most) (sum a.none b.lead) (k + u) (both_true (not a.sure) (may b.most) (not_false a.sure s) h.1) (within_sum a.none b.lead k u w h.0)),
    may_right a.most b.most h.1,
    after_looser b (in_turn a b) looser d h.2,
  )
    where
      looser : IsLooserAfter b (in_turn a b)
      looser = record {
        trail = λ n v. within_left b.trail (only_if (may a.most && not b.sure) (sum a.trail b.none)) n v;
        between = λ n v. within_left (larger a.between b.between) (only_if (may a.most && may b.most) (sum a.trail b.lead)) n (within_right a.between b.between n v);
        many = many_right a.most b.most;
      }

  -- one list after another is as their profiles in turn say
  pub fits_in_turn : (c d : Costs) → FourFit a c → FourFit b d → FourFit (in_turn a b) (followed c d)
  fits_in_turn (ends t) d h k = turn_start d k t h.0 h.1
  fits_in_turn (stop t c) d h k = (
    within_left a.lead (only_if (not a.sure && may b.most) (sum a.none b.lead)) t h.0,
    may_left a.most b.most h.1,
    after_followed a (in_turn a b)
        (λ n v. within_left (larger a.between b.between) (only_if (may a.most && may b.most) (sum a.trail b.lead)) n (within_left a.between b.between n v))
        (many_left a.most b.most) d (turn_after h.1 d k) c h.2,
  )
