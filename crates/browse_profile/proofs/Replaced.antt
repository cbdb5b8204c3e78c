-- The profile of a list each stop of which is replaced by a list.
use Rattle.std.proofs.Common.{◌≡◌, ℕ, suc, ◌+◌, true, false, cond, arith, refl, sym, ap, subst, ◌∙◌}
use Rattle.std.specs.Prelude.{Bool}
use Rattle.browse_profile.specs.declared.profile.Profile.{Profile}
use Rattle.browse_profile.specs.declared.profile.Most.{Most}
use Rattle.browse_profile.specs.declared.profile.Most.TheVariants.{Never, Once, Many}
use Rattle.browse_profile.specs.Bounds.{Within, sum, less_one, only_if}
use Rattle.browse_profile.specs.Costs.{Costs, ends, stop, more, followed}
use Rattle.browse_profile.specs.Fits.{After, FourFit}
use Rattle.browse_profile.specs.Replacing.{IsReplaced}
use Rattle.browse_profile.specs.Profiles.{may, many, unbounded, replaced_sure, replaced_once, replaced_by}
use Rattle.browse_profile.proofs.Bounding.{within_left, within_right, within_sum, within_less_one, within_case}
use Rattle.browse_profile.proofs.Following.{after_followed}
use Rattle.browse_profile.proofs.Repeating.{fits_unbounded}

-- there can be several where a test says so, whatever else is chosen
many_if : (a : Bool) (b : Most) → a ≡ true → many (cond a Many b) ≡ true
many_if true b h = refl
many_if false b h = cc

-- there can be several where the other choice says so, whatever the test is
many_else : (a : Bool) (b : Most) → many b ≡ true → many (cond a Many b) ≡ true
many_else true b h = refl
many_else false b h = h

-- there can be one where the other choice says so, whatever the test is
may_else : (a : Bool) (b : Most) → may b ≡ true → may (cond a Many b) ≡ true
may_else true b h = refl
may_else false b h = h

-- true is not false
no_both : true ≡ false → ⊥
no_both e = cc

-- a list each stop of which is replaced by a list that has a stop
module _ (i p : Profile) (sure : p.sure ≡ true) where
  -- after a stop inside a list that stands for a stop, all goes on as the profile says, where what follows the list does
  inside : (e : Costs) → After p e → (d : Costs) → ((k : ℕ) → Within k p.trail → After (replaced_sure i p) (more k d)) → After (replaced_sure i p) (followed e d)
  inside e h d rest =
      after_followed p (replaced_sure i p) (λ n v. within_left p.between (only_if (many i.most) (sum (sum p.trail (less_one i.between)) p.lead)) n v) (many_else (many i.most) p.most) d rest e h

  -- the list that stands for the next stop, after an earlier one, and the others after it go on as the profile says
  first_after : (t u : ℕ) (e r : Costs) → t ≡ suc u → Within t i.between → many i.most ≡ true → FourFit p e → ((k : ℕ) → Within k p.trail → After (replaced_sure i p) (more k r))
      → (k : ℕ) → Within k p.trail → After (replaced_sure i p) (more k (more u (followed e r)))
  first_after t u (ends v) r same b m f rest k w = absurd (no_both (sym sure ∙ f.1))
  first_after t u (stop v e) r same b m f rest k w =
      let n : k + u + v ≡ k + (u + v) = omega arith in (
        subst (λ (z : ℕ). Within z (replaced_sure i p).between) n
            (within_right p.between (only_if (many i.most) (sum (sum p.trail (less_one i.between)) p.lead)) (k + u + v)
            (within_case (many i.most) (sum (sum p.trail (less_one i.between)) p.lead) (k + u + v) m
            (within_sum (sum p.trail (less_one i.between)) p.lead (k + u) v
            (within_sum p.trail (less_one i.between) k u w (within_less_one i.between u (subst (λ (z : ℕ). Within z i.between) same b))) f.0))),
        many_if (many i.most) p.most m,
        inside e f.2 r rest,
      )

  -- what follows a list that stands for a stop goes on as the profile says
  rest_fits : (c d : Costs) → After i c → IsReplaced (FourFit p) c d → (k : ℕ) → Within k p.trail → After (replaced_sure i p) (more k d)
  rest_fits (ends t) d h r k w = subst (λ (x : Costs). After (replaced_sure i p) (more k x)) (sym r) (within_sum p.trail i.trail k t w h)
  rest_fits (stop t c) d h (u, e, r, same, f, next, is) k w =
      subst (λ (x : Costs). After (replaced_sure i p) (more k x)) (sym is) (first_after t u e r same h.0 h.1 f (rest_fits c r h.2 next) k w)

  -- the list that stands for the first stop, and the others after it, are as the profile says
  first_of_all : (t u : ℕ) (e r : Costs) → t ≡ suc u → Within t i.lead → FourFit p e → ((k : ℕ) → Within k p.trail → After (replaced_sure i p) (more k r)) → FourFit (replaced_sure i p) (more u (followed e r))
  first_of_all t u (ends v) r same b f rest = absurd (no_both (sym sure ∙ f.1))
  first_of_all t u (stop v e) r same b f rest = (
    within_sum (less_one i.lead) p.lead u v (within_less_one i.lead u (subst (λ (z : ℕ). Within z i.lead) same b)) f.0,
    may_else (many i.most) p.most f.1,
    inside e f.2 r rest,
  )

  -- where each stop is replaced by a list that has a stop, the list is as the profile says
  sure_fits : (c d : Costs) → FourFit i c → IsReplaced (FourFit p) c d → FourFit (replaced_sure i p) d
  sure_fits (ends t) d h r = subst (FourFit (replaced_sure i p)) (sym r) (h.0, h.1)
  sure_fits (stop t c) d h (u, e, r, same, f, next, is) =
      subst (FourFit (replaced_sure i p)) (sym is) (first_of_all t u e r same h.0 f (rest_fits c r h.2 next))

-- two profiles, where a list of the first has one stop at most
module _ (i p : Profile) (once : many i.most ≡ false) where
  -- after the only stop, a list each stop of which is replaced ends within the bound
  last_alone : (c d : Costs) → After i c → IsReplaced (FourFit p) c d → (w : ℕ) × (d ≡ ends w) × Within w i.trail
  last_alone (ends t) d h r = (t, r, h)
  last_alone (stop t c) d h r = absurd (no_both (sym h.1 ∙ once))

  -- a list that stands for the only stop, with what costs come before and after it, is as the profile says
  list_alone : (t u w : ℕ) (e : Costs) → t ≡ suc u → Within t i.lead → Within w i.trail → FourFit p e → FourFit (replaced_once i p) (more u (followed e (ends w)))
  list_alone t u w (ends v) same b l f =
      let n : u + v + w ≡ u + (v + w) = omega arith in (
        subst (λ (z : ℕ). Within z (replaced_once i p).none) n
            (within_right i.none (sum (sum (less_one i.lead) p.none) i.trail) (u + v + w)
            (within_sum (sum (less_one i.lead) p.none) i.trail (u + v) w
            (within_sum (less_one i.lead) p.none u v (within_less_one i.lead u (subst (λ (z : ℕ). Within z i.lead) same b)) f.0) l)),
        refl,
      )
  list_alone t u w (stop v e) same b l f = (
    within_case (may p.most) (sum (less_one i.lead) p.lead) (u + v) f.1
        (within_sum (less_one i.lead) p.lead u v (within_less_one i.lead u (subst (λ (z : ℕ). Within z i.lead) same b)) f.0),
    f.1,
    after_followed p (replaced_once i p) (λ n v. v) (λ m. m) (ends w) (λ k v. within_case (may p.most) (sum p.trail i.trail) (k + w) f.1 (within_sum p.trail i.trail k w v l)) e f.2,
  )

  -- where the one stop is replaced by a list, the list is as the profile says
  once_fits : (c d : Costs) → FourFit i c → IsReplaced (FourFit p) c d → FourFit (replaced_once i p) d
  once_fits (ends t) d h r = subst (FourFit (replaced_once i p)) (sym r) (within_left i.none (sum (sum (less_one i.lead) p.none) i.trail) t h.0, refl)
  once_fits (stop t c) d h (u, e, r, same, f, next, is) =
      let l = last_alone c r h.2 next in
      subst (FourFit (replaced_once i p)) (sym (is ∙ ap (λ (x : Costs). more u (followed e x)) l.1)) (list_alone t u l.0 e same h.0 l.2 f)

-- a list that has no stop stays as its profile says when each stop is replaced
never_fits : (i p : Profile) → may i.most ≡ false → (c d : Costs) → FourFit i c → IsReplaced (FourFit p) c d → FourFit i d
never_fits i p never (ends t) d h r = subst (FourFit i) (sym r) h
never_fits i p never (stop t c) d h r = absurd (no_both (sym h.1 ∙ never))

-- a list each stop of which is replaced is as its profile says
by_most : (m : Most) (i p : Profile) → i.most ≡ m → (c d : Costs) → FourFit i c → IsReplaced (FourFit p) c d → FourFit (replaced_by m i p) d
by_most Never i p e c d h r = never_fits i p (ap may e) c d h r
by_most Once i p e c d h r =
    (elim p.sure as (λ w. p.sure ≡ w → FourFit (cond w (replaced_sure i p) (replaced_once i p)) d) [
      | true ↦ λ s. sure_fits i p s c d h r
      | false ↦ λ s. once_fits i p (ap many e) c d h r
    ]) refl
by_most Many i p e c d h r =
    (elim p.sure as (λ w. p.sure ≡ w → FourFit (cond w (replaced_sure i p) unbounded) d) [
      | true ↦ λ s. sure_fits i p s c d h r
      | false ↦ λ s. fits_unbounded d
    ]) refl

-- a list each stop of which is replaced fits, whatever number of stops there can be
pub four_replaced : (i p : Profile) (c d : Costs) → FourFit i c → IsReplaced (FourFit p) c d → FourFit (replaced_by i.most i p) d
four_replaced i p c d h r = by_most i.most i p refl c d h r
