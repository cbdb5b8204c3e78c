-- The components of a body are those that a walk after each source condition finds.
use Rattle.std.proofs.Common.{◌≡◌, ℕ, true, false, cond, List, [], ◌∷◌, ◌++◌, map, refl, ◌∙◌, sym, ap, append_assoc}
use Rattle.mix_base.proofs.Lists.{append_nil}
use Rattle.path_expr.specs.Form.{Form}
use Rattle.xmas_rule.specs.Conditions.{Binder, from_source, from_var, binder_vars, has, flat, add_to, with_binder, components_from, AreBound}
use Rattle.xmas_rule.proofs.Components.{AreApart, Same, has_flat, or_left, bound-follows, same_next, apart_with}
use Rattle.xmas_rule.proofs.Members.{map-append, snoc-append}
use Rattle.xmas_rule.proofs.TupleLaws.{binder_vars-append}
use Rattle.xmas_rule.specs.Reached.{reached, reaches}
use Rattle.xmas_rule.specs.Conditions.{binders}
use Rattle.xmas_rule.specs.declared.condition.Cond.{Cond}
use Rattle.xmas_rule.specs.declared.condition.Cond.TheVariants.{FromSource, FromVar, Compare}
use Rattle.xmas_rule.specs.Reached.{begun}

-- components that don't bind a variable reach nothing that starts there
skip-map : (x : ℕ) (path : Form) (v : ℕ) (cs : List Binder) (comps : List (List Binder)) → has (binder_vars (flat comps)) x ≡ false →
    map (λ comp. comp ++ reached (binder_vars comp) (from_var x path v ∷ cs)) comps ≡ map (λ comp. comp ++ reached (binder_vars comp) cs) comps
skip-map x path v cs [] h = refl
skip-map x path v cs (comp ∷ comps) h =
    let p = or_left (has (binder_vars comp) x) (has (binder_vars (flat comps)) x) (sym (has_flat comp (flat comps) x) ∙ h) in
    rw p.0 (ap (λ (z : List (List Binder)). (comp ++ reached (binder_vars comp) cs) ∷ z) (skip-map x path v cs comps p.1))

-- a condition that a component takes is the first that it reaches
add-map : (x : ℕ) (path : Form) (v : ℕ) (cs : List Binder) (comps : List (List Binder)) → AreApart comps →
    map (λ comp. comp ++ reached (binder_vars comp) cs) (add_to (from_var x path v) x comps) ≡ map (λ comp. comp ++ reached (binder_vars comp) (from_var x path v ∷ cs)) comps
unfolding AreApart
add-map x path v cs [] a = refl
add-map x path v cs (comp ∷ comps) a =
    let c : Binder = from_var x path v in
    let f : List Binder → List Binder = λ comp. comp ++ reached (binder_vars comp) cs in
    let g : List Binder → List Binder = λ comp. comp ++ reached (binder_vars comp) (from_var x path v ∷ cs) in
    let first : (comp ++ c ∷ []) ++ reached (binder_vars (comp ++ c ∷ [])) cs ≡ comp ++ c ∷ reached (binder_vars comp ++ v ∷ []) cs =
    snoc-append comp c (reached (binder_vars (comp ++ c ∷ [])) cs) ∙ ap (λ (vs : List ℕ). comp ++ c ∷ reached vs cs) (binder_vars-append comp (c ∷ [])) in
    elim (has (binder_vars comp) x) as (λ w. has (binder_vars comp) x ≡ w →
    map f (cond w ((comp ++ c ∷ []) ∷ comps) (comp ∷ add_to c x comps))
    ≡ (comp ++ cond w (c ∷ reached (binder_vars comp ++ v ∷ []) cs) (reached (binder_vars comp) cs)) ∷ map g comps) [
      | true ↦ λ e. ap (λ (z : List Binder). z ∷ map f comps) first
          ∙ ap (λ (z : List (List Binder)). (comp ++ c ∷ reached (binder_vars comp ++ v ∷ []) cs) ∷ z) (sym (skip-map x path v cs comps (a.2 x e)))
      | false ↦ λ e. ap (λ (z : List (List Binder)). (comp ++ reached (binder_vars comp) cs) ∷ z) (add-map x path v cs comps a.3)
    ] refl

-- components after which nothing stands
map_nil : (comps : List (List Binder)) → comps ≡ map (λ comp. comp ++ []) comps
map_nil [] = refl
map_nil (comp ∷ comps) = ap (λ (z : List Binder). z ∷ comps) (sym (append_nil comp)) ∙ ap (λ (z : List (List Binder)). (comp ++ []) ∷ z) (map_nil comps)

-- the components so far take what they reach, and the others begin after them
pub components_reach : (cs : List Binder) (vs : List ℕ) (comps : List (List Binder)) → Same vs comps → AreBound vs cs → AreApart comps →
    components_from comps cs ≡ map (λ comp. comp ++ reached (binder_vars comp) cs) comps ++ reaches cs
components_reach [] vs comps m a p = map_nil comps ∙ sym (append_nil (map (λ comp. comp ++ []) comps))
components_reach (from_source s path v ∷ cs) vs comps m a p =
    let c : Binder = from_source s path v in
    let f : List Binder → List Binder = λ comp. comp ++ reached (binder_vars comp) cs in
    let b = bound-follows vs comps c cs m a in
    components_reach cs (vs ++ v ∷ []) (with_binder c comps) (same_next vs comps c m b.0) b.1 (apart_with c comps b.0 p)
    ∙ ap (λ (z : List (List Binder)). z ++ reaches cs) (map-append f comps ((c ∷ []) ∷ []))
    ∙ append_assoc (map f comps) ((c ∷ reached (v ∷ []) cs) ∷ []) (reaches cs)
components_reach (from_var x path v ∷ cs) vs comps m a p =
    let c : Binder = from_var x path v in
    let b = bound-follows vs comps c cs m a in
    components_reach cs (vs ++ v ∷ []) (with_binder c comps) (same_next vs comps c m b.0) b.1 (apart_with c comps b.0 p)
    ∙ ap (λ (z : List (List Binder)). z ++ reaches cs) (add-map x path v cs comps p)

-- what is reached by one condition, and then by those after it
pub reached-more : (vs : List ℕ) (x : Cond) (xs : List Cond) →
    reached vs (binders (x ∷ xs)) ≡ reached vs (binders (x ∷ [])) ++ reached (vs ++ binder_vars (reached vs (binders (x ∷ [])))) (binders xs)
reached-more vs (FromSource s path v) xs = ap (λ (z : List ℕ). reached z (binders xs)) (sym (append_nil vs))
reached-more vs (Compare t) xs = ap (λ (z : List ℕ). reached z (binders xs)) (sym (append_nil vs))
reached-more vs (FromVar y path v) xs =
    elim (has vs y) as (λ w.
    cond w (from_var y path v ∷ reached (vs ++ v ∷ []) (binders xs)) (reached vs (binders xs))
    ≡ cond w (from_var y path v ∷ []) [] ++ reached (vs ++ binder_vars (cond w (from_var y path v ∷ []) [])) (binders xs))
    [ true ↦ refl | false ↦ ap (λ (z : List ℕ). reached z (binders xs)) (sym (append_nil vs)) ]

-- what a condition begins, then what those after it do
pub reaches-begun : (x : Cond) (xs : List Cond) → reaches (binders (x ∷ xs)) ≡ begun x (binders xs) ++ reaches (binders xs)
reaches-begun (FromSource s path v) xs = refl
reaches-begun (FromVar y path v) xs = refl
reaches-begun (Compare t) xs = refl
