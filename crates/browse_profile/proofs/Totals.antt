-- What whole lists cost.
use Rattle.std.proofs.Common.{◌≡◌, ℕ, suc, ◌+◌, ◌*◌, ◌≤◌, max, true, false, cond, List, [], ◌∷◌, refl, sym, ap, subst, ◌∙◌, arith}
use Rattle.std.specs.Prelude.{Option, Some, None}
use Rattle.std.proofs.Math.Nat.{mul-le-mul_left, mul-le-mul_right}
use Rattle.mix_base.specs.Events.{Event, skip, bind}
use Rattle.browse_profile.specs.declared.profile.Profile.{Profile}
use Rattle.browse_profile.specs.Bounds.{Within, times, all_replaced}
use Rattle.browse_profile.specs.Costs.{Costs, ends, stop, more, followed, costs_of, total, first_only}
use Rattle.browse_profile.specs.Fits.{FourFit, After}
use Rattle.browse_profile.specs.Profiles.{many, once_of_many, once}
use Rattle.browse_profile.specs.Replacing.{IsReplaced}
use Rattle.browse_profile.proofs.Bounding.{within_less, within_less_one, within_capped}
use Rattle.browse_profile.proofs.Following.{more-zero, more-more}

-- a further cost before a list is a part of what the whole costs
pub total-more : (n : ℕ) (c : Costs) → total (more n c) ≡ n + total c
total-more n (ends t) = refl
total-more n (stop t c) = omega arith

-- one list after another costs what both do
pub total-followed : (c d : Costs) → total (followed c d) ≡ total c + total d
total-followed (ends t) d = total-more t d
total-followed (stop t c) d = (let h = total-followed c d in omega (arith, h))

-- a number within the product of two bounds, where both are numbers, is within their product as a bound
within_times : (x y : Option ℕ) (n : ℕ) → ((a b : ℕ) → x ≡ Some a → y ≡ Some b → n ≤ a * b) → Within n (times x y)
within_times None y n h = tt
within_times (Some a) None n h = tt
within_times (Some a) (Some b) n h = within_capped (a * b) n (h a b refl refl)

-- where each stop is replaced by a list that costs at most b, the whole costs at most b times as much
replaced_total : (b : ℕ) (c d : Costs) → 1 ≤ b → IsReplaced (λ e. total e ≤ b) c d → total d ≤ total c * b
replaced_total b (ends t) d one r = subst (λ (x : Costs). total x ≤ t * b) (sym r) (let h : t * 1 ≤ t * b = mul-le-mul_left t one in omega (arith, h))
replaced_total b (stop t c) d one (u, e, r, same, f, next, is) =
    let h = replaced_total b c r one next in
    let k : u * 1 ≤ u * b = mul-le-mul_left u one in
    let m = total-more u (followed e r) in
    let l = total-followed e r in
    let q : suc u * b ≡ u * b + b = omega arith in
    let s : t * b ≡ u * b + b = ap (λ (z : ℕ). z * b) same ∙ q in
    subst (λ (x : Costs). total x ≤ (t + total c) * b) (sym is) (omega (arith, h, k, m, l, s, f))

-- where each stop is replaced, the whole is within the product of the bounds
pub within_replaced : (x y : Option ℕ) (c d : Costs) → Within (total c) x → IsReplaced (λ e. Within (total e) y) c d → Within (total d) (all_replaced x y)
within_replaced None y c d w r = tt
within_replaced (Some a) None c d w r = tt
within_replaced (Some a) (Some b) c d w r =
    let one : 1 ≤ max 1 b = omega arith in
    let h = replaced_total (max 1 b) c d one (weaker c d r) in
    let k : total c * max 1 b ≤ a * max 1 b = mul-le-mul_right (max 1 b) w in
    let l : total d ≤ a * max 1 b = omega (arith, h, k) in
    within_capped (a * max 1 b) (total d) l
  where
    weaker : (c d : Costs) → IsReplaced (λ e. Within (total e) (Some b)) c d → IsReplaced (λ e. total e ≤ max 1 b) c d
    weaker (ends t) d r = r
    weaker (stop t c) d (u, e, r, same, f, next, is) = (let g : total e ≤ max 1 b = omega (arith, f) in (u, e, r, same, g, weaker c r next, is))

-- a further cost before a list is one before its first stop alone
pub first_only-more : (n : ℕ) (c : Costs) → first_only (more n c) ≡ more n (first_only c)
first_only-more n (ends t) = refl
first_only-more n (stop t c) = refl

-- where there can be one stop at most, what is left after it ends within the bound of the whole
once_after : (p : Profile) → many p.most ≡ false → (t : ℕ) (c : Costs) → After p c → After p (ends (total c))
once_after p o t (ends u) h = h
once_after p o t (stop u c) h = (let e : true ≡ false = sym h.1 ∙ o in cc)

-- events of which the first binding alone counts fit the profile of a first stop alone, after a further cost
fits_once_at : {B : Type 0} (p : Profile) (n : ℕ) (es : List (Event B)) → FourFit p (more n (costs_of es)) → Within (total (more n (costs_of es))) p.all → FourFit (once p) (first_only (more n (costs_of es)))
fits_once_at p n [] h w = (elim (many p.most) as (λ b. FourFit (cond b (once_of_many p) p) (ends (n + 0))) [ true ↦ h | false ↦ h ])
fits_once_at p n (skip ∷ es) h w =
    subst (λ (c : Costs). FourFit (once p) (first_only c)) (sym (more-more n 1 (costs_of es)))
    (fits_once_at p (n + 1) es (subst (FourFit p) (more-more n 1 (costs_of es)) h) (subst (λ (c : Costs). Within (total c) p.all) (more-more n 1 (costs_of es)) w))
fits_once_at p n (bind b ∷ es) h w =
    (elim (many p.most) as (λ b. many p.most ≡ b → FourFit (cond b (once_of_many p) p) (stop (n + 1) (ends (total (costs_of es))))) [
      | true ↦ λ e.
          (let s : suc (total (costs_of es)) ≤ n + 1 + total (costs_of es) = omega arith in
          (h.0, refl, within_less_one p.all (total (costs_of es)) (within_less p.all (suc (total (costs_of es))) (n + 1 + total (costs_of es)) s w)))
      | false ↦ λ e. (h.0, h.1, once_after p e n (costs_of es) h.2)
    ]) refl

-- a list with its first stop alone fits the profile of that stop, but for the cost of all
pub four_once : {B : Type 0} (p : Profile) (es : List (Event B)) → FourFit p (costs_of es) → Within (total (costs_of es)) p.all → FourFit (once p) (first_only (costs_of es))
four_once p es h w =
    subst (λ (c : Costs). FourFit (once p) (first_only c)) (more-zero (costs_of es))
    (fits_once_at p 0 es (subst (FourFit p) (sym (more-zero (costs_of es))) h) (subst (λ (c : Costs). Within (total c) p.all) (sym (more-zero (costs_of es))) w))
