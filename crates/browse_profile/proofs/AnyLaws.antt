-- Any of some lists: the order and the repeats of the lists don't matter.
use Rattle.std.proofs.Common.{◌≡◌, inl, inr, ℕ, max, true, false, List, [], ◌∷◌, refl, sym, ap, ◌∙◌, arith}
use Rattle.std.specs.Prelude.{Bool, ◌&&◌, Option, Some, None}
use Rattle.mix_base.specs.Ascents.{Among}
use Rattle.browse_profile.specs.declared.profile.Profile.{Profile}
use Rattle.browse_profile.specs.declared.profile.Most.{Most}
use Rattle.browse_profile.specs.declared.profile.Most.TheVariants.{Never, Once, Many}
use Rattle.browse_profile.specs.Bounds.{larger}
use Rattle.browse_profile.specs.Profiles.{greater, one_of, any_of}

-- the greater of two bounds is the same in either order
larger_comm : (x y : Option ℕ) → larger x y ≡ larger y x
larger_comm None None = refl
larger_comm None (Some b) = refl
larger_comm (Some a) None = refl
larger_comm (Some a) (Some b) = let e : max a b ≡ max b a = omega arith in ap Some e

-- of three bounds it does not matter which two are compared first
larger_assoc : (x y z : Option ℕ) → larger (larger x y) z ≡ larger x (larger y z)
larger_assoc None y z = refl
larger_assoc (Some a) None z = refl
larger_assoc (Some a) (Some b) None = refl
larger_assoc (Some a) (Some b) (Some c) = let e : max (max a b) c ≡ max a (max b c) = omega arith in ap Some e

-- the greater of a bound and itself is that bound
larger_itself : (x : Option ℕ) → larger x x ≡ x
larger_itself None = refl
larger_itself (Some a) = let e : max a a ≡ a = omega arith in ap Some e

-- the greater of two numbers of stops is the same in either order
greater_comm : (x y : Most) → greater x y ≡ greater y x
greater_comm Never Never = refl
greater_comm Never Once = refl
greater_comm Never Many = refl
greater_comm Once Never = refl
greater_comm Once Once = refl
greater_comm Once Many = refl
greater_comm Many Never = refl
greater_comm Many Once = refl
greater_comm Many Many = refl

-- of three numbers of stops it does not matter which two are compared first
greater_assoc : (x y z : Most) → greater (greater x y) z ≡ greater x (greater y z)
greater_assoc Never y z = refl
greater_assoc Once Never z = refl
greater_assoc Once Once Never = refl
greater_assoc Once Once Once = refl
greater_assoc Once Once Many = refl
greater_assoc Once Many z = refl
greater_assoc Many y z = refl

-- the greater of a number of stops and itself is that number
greater_itself : (x : Most) → greater x x ≡ x
greater_itself Never = refl
greater_itself Once = refl
greater_itself Many = refl

-- a conjunction is the same in either order
and_comm : (a b : Bool) → (a && b) ≡ (b && a)
and_comm true true = refl
and_comm true false = refl
and_comm false true = refl
and_comm false false = refl

-- of three conjoined booleans it does not matter which two are joined first
and_assoc : (a b c : Bool) → ((a && b) && c) ≡ (a && (b && c))
and_assoc true b c = refl
and_assoc false b c = refl

-- a boolean and itself is that boolean
and_itself : (a : Bool) → (a && a) ≡ a
and_itself true = refl
and_itself false = refl

-- profiles with the same fields are the same
same_fields : (p q : Profile) → p.lead ≡ q.lead → p.between ≡ q.between → p.trail ≡ q.trail → p.none ≡ q.none → p.all ≡ q.all → p.sure ≡ q.sure → p.most ≡ q.most → p ≡ q
same_fields p q a b c d g e f =
    ap (λ (x : Option ℕ). record { lead = x; between = p.between; trail = p.trail; none = p.none; all = p.all; sure = p.sure; most = p.most }) a
    ∙ ap (λ (x : Option ℕ). record { lead = q.lead; between = x; trail = p.trail; none = p.none; all = p.all; sure = p.sure; most = p.most }) b
    ∙ ap (λ (x : Option ℕ). record { lead = q.lead; between = q.between; trail = x; none = p.none; all = p.all; sure = p.sure; most = p.most }) c
    ∙ ap (λ (x : Option ℕ). record { lead = q.lead; between = q.between; trail = q.trail; none = x; all = p.all; sure = p.sure; most = p.most }) d
    ∙ ap (λ (x : Option ℕ). record { lead = q.lead; between = q.between; trail = q.trail; none = q.none; all = x; sure = p.sure; most = p.most }) g
    ∙ ap (λ (x : Bool). record { lead = q.lead; between = q.between; trail = q.trail; none = q.none; all = q.all; sure = x; most = p.most }) e
    ∙ ap (λ (x : Most). record { lead = q.lead; between = q.between; trail = q.trail; none = q.none; all = q.all; sure = q.sure; most = x }) f

-- the profile of either of two lists is the same in either order
one_of_comm : (a b : Profile) → one_of a b ≡ one_of b a
one_of_comm a b =
    same_fields (one_of a b) (one_of b a) (larger_comm a.lead b.lead) (larger_comm a.between b.between) (larger_comm a.trail b.trail) (larger_comm a.none b.none) (larger_comm a.all b.all) (and_comm a.sure b.sure) (greater_comm a.most b.most)

-- of three profiles of which any may hold, it does not matter which two are taken together first
pub one_of_assoc : (a b c : Profile) → one_of (one_of a b) c ≡ one_of a (one_of b c)
one_of_assoc a b c =
    same_fields (one_of (one_of a b) c) (one_of a (one_of b c)) (larger_assoc a.lead b.lead c.lead) (larger_assoc a.between b.between c.between) (larger_assoc a.trail b.trail c.trail) (larger_assoc a.none b.none c.none)
    (larger_assoc a.all b.all c.all) (and_assoc a.sure b.sure c.sure) (greater_assoc a.most b.most c.most)

-- the profile of either of two lists of one profile is that profile
one_of_itself : (a : Profile) → one_of a a ≡ a
one_of_itself a = same_fields (one_of a a) a (larger_itself a.lead) (larger_itself a.between) (larger_itself a.trail) (larger_itself a.none) (larger_itself a.all) (and_itself a.sure) (greater_itself a.most)

module _ {X : Type 0} (f : X → Profile) where
  -- either a list of some or any of them is any of them
  one_below : (xs : List X) (x : X) → Among x xs → one_of (f x) (any_of f xs) ≡ any_of f xs
  one_below [] x a = absurd a
  one_below (y ∷ []) x (inl e) = ap (λ (z : X). one_of (f z) (f y)) e ∙ one_of_itself (f y)
  one_below (y ∷ []) x (inr a) = absurd a
  one_below (y ∷ z ∷ xs) x (inl e) =
      ap (λ (w : X). one_of (f w) (one_of (f y) (any_of f (z ∷ xs)))) e ∙ sym (one_of_assoc (f y) (f y) (any_of f (z ∷ xs))) ∙ ap (λ (p : Profile). one_of p (any_of f (z ∷ xs))) (one_of_itself (f y))
  one_below (y ∷ z ∷ xs) x (inr a) =
      let r : Profile = any_of f (z ∷ xs) in
      sym (one_of_assoc (f x) (f y) r) ∙ ap (λ (p : Profile). one_of p r) (one_of_comm (f x) (f y)) ∙ one_of_assoc (f y) (f x) r ∙ ap (one_of (f y)) (one_below (z ∷ xs) x a)

  -- where each is below something, so is any of some
  any_below : (x : X) (xs : List X) (q : Profile) → ((y : X) → Among y (x ∷ xs) → one_of (f y) q ≡ q) → one_of (any_of f (x ∷ xs)) q ≡ q
  any_below x [] q h = h x (inl refl)
  any_below x (y ∷ xs) q h =
      one_of_assoc (f x) (any_of f (y ∷ xs)) q ∙ ap (one_of (f x)) (any_below y xs q (λ z a. h z (inr a))) ∙ h x (inl refl)

  -- lists with the same members have the same profile of any of their members
  pub any_same : (xs ys : List X) → ((x : X) → Among x xs → Among x ys) → ((x : X) → Among x ys → Among x xs) → any_of f xs ≡ any_of f ys
  any_same [] [] h k = refl
  any_same [] (y ∷ ys) h k = absurd (k y (inl refl))
  any_same (x ∷ xs) [] h k = absurd (h x (inl refl))
  any_same (x ∷ xs) (y ∷ ys) h k =
      sym (any_below y ys (any_of f (x ∷ xs)) (λ z a. one_below (x ∷ xs) z (k z a)))
      ∙ one_of_comm (any_of f (y ∷ ys)) (any_of f (x ∷ xs))
      ∙ any_below x xs (any_of f (y ∷ ys)) (λ z a. one_below (y ∷ ys) z (h z a))
