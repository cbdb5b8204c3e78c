-- Profiles whole: the four bounds, and the cost of all.
use Rattle.std.proofs.Common.{◌≡◌, inl, inr, ℕ, true, false, cond, List, [], ◌∷◌, refl, sym, subst}
use Rattle.mix_base.specs.Ascents.{Among}
use Rattle.mix_base.specs.Events.{Event}
use Rattle.browse_profile.specs.declared.profile.Profile.{Profile}
use Rattle.browse_profile.specs.Bounds.{Within, sum, all_replaced}
use Rattle.browse_profile.specs.Costs.{Costs, ends, stop, followed, costs_of, total, first_only}
use Rattle.browse_profile.specs.Fits.{FourFit, Fits}
use Rattle.browse_profile.specs.Profiles.{many, unbounded, in_turn, one_of, any_of, repeated, repeated_sure, replaced, replaced_by, once_of_many, once}
use Rattle.browse_profile.specs.Replacing.{IsReplaced}
use Rattle.browse_profile.specs.Sound.{ProfilesAreSound}
use Rattle.browse_profile.proofs.Bounding.{within_left, within_right, within_sum}
use Rattle.browse_profile.proofs.Following as following
use Rattle.browse_profile.proofs.Repeating as repeating
use Rattle.browse_profile.proofs.Replaced as replacing
use Rattle.browse_profile.proofs.Totals.{total-followed, within_replaced, four_once}

-- one list after another fits their profiles in turn
pub fits_in_turn : (a b : Profile) (c d : Costs) → Fits a c → Fits b d → Fits (in_turn a b) (followed c d)
fits_in_turn a b c d h k =
    (following.fits_in_turn a b c d h.0 k.0, subst (λ (n : ℕ). Within n (sum a.all b.all)) (sym (total-followed c d)) (within_sum a.all b.all (total c) (total d) h.1 k.1))

-- what fits the first profile fits either of two
pub fits_first : (a b : Profile) (c : Costs) → Fits a c → Fits (one_of a b) c
fits_first a b c h = (repeating.fits_first a b c h.0, within_left a.all b.all (total c) h.1)

-- what fits the second profile fits either of two
pub fits_second : (a b : Profile) (c : Costs) → Fits b c → Fits (one_of a b) c
fits_second a b c h = (repeating.fits_second a b c h.0, within_right a.all b.all (total c) h.1)

-- every list fits where nothing is known
pub fits_unbounded : (c : Costs) → Fits unbounded c
fits_unbounded c = (repeating.fits_unbounded c, tt)

-- any number is within the bound of the cost of all of any number of lists
repeated_all : (a : Profile) (n : ℕ) → Within n (repeated a).all
repeated_all a n = elim a.sure as (λ w. Within n (cond w (repeated_sure a) unbounded).all) [ true ↦ tt | false ↦ tt ]

-- no list at all is any number of lists
pub fits_repeated_none : (a : Profile) → Fits (repeated a) (ends 0)
fits_repeated_none a = (repeating.fits_repeated_none a, repeated_all a 0)

-- a list that fits, before any number of lists, is any number of lists
pub fits_repeated_more : (a : Profile) (c d : Costs) → Fits a c → Fits (repeated a) d → Fits (repeated a) (followed c d)
fits_repeated_more a c d h k = (repeating.fits_repeated_more a c d h.0 k.0, repeated_all a (total (followed c d)))

-- where each stop is replaced by a list of which something holds, it is so by a list of which what follows from that holds
pub replaced_weaker : (Q R : Costs → Type 0) → ((e : Costs) → Q e → R e) → (c d : Costs) → IsReplaced Q c d → IsReplaced R c d
replaced_weaker Q R h (ends t) d r = r
replaced_weaker Q R h (stop t c) d (u, e, r, same, f, next, is) = (u, e, r, same, h e f, replaced_weaker Q R h c r next, is)

-- a list each stop of which is replaced by a list that fits, fits the profile with the other in place of its stops
pub fits_replaced : (i p : Profile) (c d : Costs) → Fits i c → IsReplaced (Fits p) c d → Fits (replaced i p) d
fits_replaced i p c d h r = (
  repeating.four_with_all (all_replaced i.all p.all) (replaced_by i.most i p) d (replacing.four_replaced i p c d h.0 (replaced_weaker (Fits p) (FourFit p) (λ e f. f.0) c d r)),
  within_replaced i.all p.all c d h.1 (replaced_weaker (Fits p) (λ e. Within (total e) p.all) (λ e f. f.1) c d r),
)

-- the profile of a first stop alone has the bound on the cost of all that the profile has
once_all : (p : Profile) → (once p).all ≡ p.all
once_all p = elim (many p.most) as (λ w. (cond w (once_of_many p) p).all ≡ p.all) [ true ↦ refl | false ↦ refl ]

-- a list with its first stop alone costs in all what the list does
total-first : (c : Costs) → total (first_only c) ≡ total c
total-first (ends t) = refl
total-first (stop t c) = refl

-- a list with its first stop alone fits the profile of that stop
pub fits_once : {B : Type 0} (p : Profile) (es : List (Event B)) → Fits p (costs_of es) → Fits (once p) (first_only (costs_of es))
fits_once p es h = (four_once p es h.0 h.1, subst (Within (total (first_only (costs_of es)))) (sym (once_all p)) (subst (λ (n : ℕ). Within n p.all) (sym (total-first (costs_of es))) h.1))

-- a list that fits one of some profiles fits any of them
pub fits_any : {X : Type 0} (f : X → Profile) (xs : List X) (x : X) (c : Costs) → Among x xs → Fits (f x) c → Fits (any_of f xs) c
fits_any f [] x c a h = absurd a
fits_any f (y ∷ []) x c (inl e) h = subst (λ z. Fits (f z) c) e h
fits_any f (y ∷ []) x c (inr a) h = absurd a
fits_any f (y ∷ z ∷ xs) x c (inl e) h = fits_first (f y) (any_of f (z ∷ xs)) c (subst (λ w. Fits (f w) c) e h)
fits_any f (y ∷ z ∷ xs) x c (inr a) h = fits_second (f y) (any_of f (z ∷ xs)) c (fits_any f (z ∷ xs) x c a h)

-- profiles are sound, each way to make them of others
pub sound : ProfilesAreSound
sound = record {
  in_turn = fits_in_turn;
  first = fits_first;
  second = fits_second;
  unbounded = fits_unbounded;
  repeated_none = fits_repeated_none;
  repeated_more = fits_repeated_more;
  replaced = fits_replaced;
  once = λ p es h. fits_once p es h;
}
