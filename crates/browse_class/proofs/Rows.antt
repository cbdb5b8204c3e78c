-- What holds of the bindings that operators make.
use Rattle.std.proofs.Common.{◌≡◌, ℕ, true, false, cond, List, [], ◌∷◌, ◌++◌, refl, sym, subst, ◌∙◌, arith, append_assoc}
use Rattle.std.specs.Prelude.{Bool, ◌||◌, ◌==◌, Option, Some, None}
use Rattle.std.proofs.lemmas.Bool.Decides.{nat_tests}
use Rattle.mix_base.specs.Events.{Event, skip, bind}
use Rattle.mix_tree.specs.Keys.{key_var, has_var}
use Rattle.mix_tree.specs.Nodes.{Documents, Node}
use Rattle.mix_tree.specs.declared.var.Key.{Key}
use Rattle.plan_core.specs.Events.{RowEvents, nodes_found, with_node, distinct}
use Rattle.plan_core.specs.TolledRows.{TolledValue, TolledRow, KeyValue, key_values, is_seen, tolled_value, tolled_restrict}
use Rattle.plan_core.specs.Valid.{Kind, a_node, Kinds, with_kind, kept, either_kind}
use Rattle.browse_profile.specs.declared.profile.Profile.{Profile}
use Rattle.browse_class.specs.Bound.{IsValue, HasValue, IsBound}
use Rattle.browse_class.specs.Facts.{Facts, with_at, of_side}
use Rattle.browse_visit.specs.Layouts.{Layout}
use Rattle.plan_core.specs.Beside.{EachBinding}
use Rattle.plan_core.proofs.Bindings.{EachSuffix}

-- what holds of a binding with each place of a visit holds of each binding of the visit
pub places_found : (P : List ℕ → Type 0) (Q : TolledRow → Type 0) (out : ℕ) (start : Node) (row : TolledRow) → ((place : List ℕ) → P place → Q (with_node out start row place))
    → (es : List (Event (List ℕ))) → EachBinding P es → EachBinding Q (nodes_found out start row es)
places_found P Q out start row h [] b = tt
places_found P Q out start row h (skip ∷ es) b = places_found P Q out start row h es b
places_found P Q out start row h (bind place ∷ es) b = (h place b.0, places_found P Q out start row h es b.1)

-- what holds of all that is made of bindings and the events after them holds of each first binding by keys
pub suffix_distinct : (R : TolledRow → RowEvents → Type 0) (Q : TolledRow → Type 0) (docs : Documents) (keys : List Key) (make : TolledRow → RowEvents → TolledRow) → ((row : TolledRow) (es : RowEvents) → R row es → Q (make row es))
    → (seen : List (List KeyValue)) (es : RowEvents) → EachSuffix R es → EachBinding Q (distinct docs keys make seen es)
suffix_distinct R Q docs keys make h seen [] b = tt
suffix_distinct R Q docs keys make h seen (skip ∷ es) b = suffix_distinct R Q docs keys make h seen es b
suffix_distinct R Q docs keys make h seen (bind row ∷ es) b =
    let r = suffix_distinct R Q docs keys make h seen es b.1 in
    let s = suffix_distinct R Q docs keys make h (seen ++ key_values docs keys row ∷ []) es b.1 in
    elim (is_seen (key_values docs keys row) seen) as (λ w. EachBinding Q (cond w (skip ∷ distinct docs keys make seen es) (bind (make row es) ∷ distinct docs keys make (seen ++ key_values docs keys row ∷ []) es))) [
      | true ↦ r
      | false ↦ (h row es b.0, s)
    ]

-- what `HasValue` says, by its three values
abbrev By : Documents → Option ℕ → Option Kind → List Layout → Profile → TolledValue → TolledValue → TolledValue → Type 0
By docs most None gs p whole own more = whole ≡ more
By docs most (Some k) gs p whole own more = (whole ≡ own) × IsValue docs most k gs p own

-- where a binding has a value of the kind, its value is so by itself
to_by : (docs : Documents) (most : Option ℕ) (k : Option Kind) (gs : List Layout) (p : Profile) (row more : TolledRow) (v : ℕ) → HasValue docs most k gs p row more v → By docs most k gs p (tolled_value (row ++ more) v) (tolled_value row v) (tolled_value more v)
to_by docs most None gs p row more v h = h
to_by docs most (Some k) gs p row more v h = h

-- where a value is so by itself, a binding that has it has a value of the kind
of_by : (docs : Documents) (most : Option ℕ) (k : Option Kind) (gs : List Layout) (p : Profile) (row more : TolledRow) (v : ℕ) → By docs most k gs p (tolled_value (row ++ more) v) (tolled_value row v) (tolled_value more v) → HasValue docs most k gs p row more v
of_by docs most None gs p row more v h = h
of_by docs most (Some k) gs p row more v h = h

-- a binding has the value that a condition chooses, where it has each of the two under it
either_value : (docs : Documents) (most : Option ℕ) (w : Bool) (k : Kind) (j : Option Kind) (gs hs : List Layout) (p q : Profile) (x : TolledValue) (row more : TolledRow) (v : ℕ)
    → IsValue docs most k gs p x → HasValue docs most j hs q row more v → By docs most (cond w (Some k) j) (cond w gs hs) (cond w p q) (cond w x (tolled_value (row ++ more) v)) (cond w x (tolled_value row v)) (tolled_value more v)
either_value docs most true k j gs hs p q x row more v h r = (refl, h)
either_value docs most false k None gs hs p q x row more v h r = r
either_value docs most false k (Some j) gs hs p q x row more v h r = r

module _ (docs : Documents) (most : Option ℕ) where
  -- a binding with one variable more has values as the facts with this variable say
  pub bound_with : (kinds : Kinds) (f g : Facts) (out : ℕ) (k : Kind) (gs : List Layout) (p : Profile) (x : TolledValue) (row : TolledRow)
      → ((v : ℕ) → with_at out gs f.layouts v ≡ g.layouts v) → ((v : ℕ) → with_at out p f.lists v ≡ g.lists v)
      → IsValue docs most k gs p x → IsBound docs most kinds f row → IsBound docs most (with_kind out k kinds) g ((out, x) ∷ row)
  bound_with kinds f g out k gs p x row a b h r v more =
      of_by docs most (with_kind out k kinds v) (g.layouts v) (g.lists v) ((out, x) ∷ row) more v
      (subst (λ (l : List Layout). By docs most (with_kind out k kinds v) l (g.lists v) (tolled_value ((out, x) ∷ (row ++ more)) v) (tolled_value ((out, x) ∷ row) v) (tolled_value more v)) (a v)
      (subst (λ (q : Profile). By docs most (with_kind out k kinds v) (with_at out gs f.layouts v) q (tolled_value ((out, x) ∷ (row ++ more)) v) (tolled_value ((out, x) ∷ row) v) (tolled_value more v)) (b v)
      (either_value docs most (out == v) k (kinds v) gs (f.layouts v) p (f.lists v) x row more v h (r v more))))

  -- a binding without variables has values as any facts of no variables say
  pub bound_none : (f : Facts) (kinds : Kinds) → ((v : ℕ) → kinds v ≡ None) → IsBound docs most kinds f []
  bound_none f kinds e v more = subst (λ (k : Option Kind). HasValue docs most k (f.layouts v) (f.lists v) [] more v) (sym (e v)) refl

  -- a binding has values as facts say where it has so as facts of the same layouts and lists say
  pub bound_same : (kinds : Kinds) (f g : Facts) (row : TolledRow) → ((v : ℕ) → f.layouts v ≡ g.layouts v) → ((v : ℕ) → f.lists v ≡ g.lists v) → IsBound docs most kinds f row → IsBound docs most kinds g row
  bound_same kinds f g row a b r v more =
      subst (λ (l : List Layout). HasValue docs most (kinds v) l (g.lists v) row more v) (a v)
      (subst (λ (q : Profile). HasValue docs most (kinds v) (f.layouts v) q row more v) (b v) (r v more))

  -- a binding restricted to keys of nodes has values as the facts say
  pub bound_restrict : (kinds : Kinds) (f : Facts) (row : TolledRow) (keys : List Key) → ((v : ℕ) → has_var keys v ≡ true → kinds v ≡ Some a_node) → IsBound docs most kinds f row → IsBound docs most (kept keys kinds) f (tolled_restrict keys row)
  bound_restrict kinds f row [] n r v more = refl
  bound_restrict kinds f row (k ∷ keys) n r v more =
      let rest = bound_restrict kinds f row keys (λ u t. n u (later u t)) r v more in
      of_by docs most (kept (k ∷ keys) kinds v) (f.layouts v) (f.lists v) (tolled_restrict (k ∷ keys) row) more v
      ((elim (key_var k == v) as (λ w. (key_var k == v) ≡ w
      → By docs most (cond (w || has_var keys v) (kinds v) None) (f.layouts v) (f.lists v) (cond w (tolled_value row (key_var k)) (tolled_value (tolled_restrict keys row ++ more) v))
      (cond w (tolled_value row (key_var k)) (tolled_value (tolled_restrict keys row) v)) (tolled_value more v)) [
        | true ↦ λ e. here e
        | false ↦ λ e. to_by docs most (kept keys kinds v) (f.layouts v) (f.lists v) (tolled_restrict keys row) more v rest
      ]) refl)
    where
      later : (u : ℕ) → has_var keys u ≡ true → has_var (k ∷ keys) u ≡ true
      later u t = elim (key_var k == u) as (λ w. (w || has_var keys u) ≡ true) [ true ↦ refl | false ↦ t ]

      here : (key_var k == v) ≡ true → By docs most (kinds v) (f.layouts v) (f.lists v) (tolled_value row (key_var k)) (tolled_value row (key_var k)) (tolled_value more v)
      here e =
          let same : v ≡ key_var k = grind (arith, nat_tests, e) in
          let node : kinds v ≡ Some a_node = n v (rw e refl) in
          subst (λ (u : ℕ). By docs most (kinds v) (f.layouts v) (f.lists v) (tolled_value row u) (tolled_value row u) (tolled_value more v)) same
          (subst (λ (j : Option Kind). By docs most j (f.layouts v) (f.lists v) (tolled_value row v) (tolled_value row v) (tolled_value more v)) (sym node)
          (refl, of_node (kinds v) node (r v more)))
        where
          of_node : (j : Option Kind) → j ≡ Some a_node → HasValue docs most j (f.layouts v) (f.lists v) row more v → IsValue docs most a_node (f.layouts v) (f.lists v) (tolled_value row v)
          of_node j e h = (let z : HasValue docs most (Some a_node) (f.layouts v) (f.lists v) row more v = subst (λ (i : Option Kind). HasValue docs most i (f.layouts v) (f.lists v) row more v) e h in z.1)

  -- a pair of bindings has values as the facts of both sides of a join say
  pub bound_both : (kl kr : Kinds) (f g h : Facts) (a b : TolledRow) → ((v : ℕ) → of_side (kl v) (f.layouts v) (g.layouts v) ≡ h.layouts v) → ((v : ℕ) → of_side (kl v) (f.lists v) (g.lists v) ≡ h.lists v)
      → IsBound docs most kl f a → IsBound docs most kr g b → IsBound docs most (λ v. either_kind (kl v) (kr v)) h (a ++ b)
  bound_both kl kr f g h a b ls ps x y v more =
      of_by docs most (either_kind (kl v) (kr v)) (h.layouts v) (h.lists v) (a ++ b) more v
      (subst (λ (z : TolledRow). By docs most (either_kind (kl v) (kr v)) (h.layouts v) (h.lists v) (tolled_value z v) (tolled_value (a ++ b) v) (tolled_value more v)) (sym (append_assoc a b more))
      (subst (λ (l : List Layout). By docs most (either_kind (kl v) (kr v)) l (h.lists v) (tolled_value (a ++ (b ++ more)) v) (tolled_value (a ++ b) v) (tolled_value more v)) (ls v)
      (subst (λ (q : Profile). By docs most (either_kind (kl v) (kr v)) (of_side (kl v) (f.layouts v) (g.layouts v)) q (tolled_value (a ++ (b ++ more)) v) (tolled_value (a ++ b) v) (tolled_value more v)) (ps v)
      (sides (kl v) (kr v) (x v (b ++ more)) (x v b) (y v more)))))
    where
      sides : (i j : Option Kind) → HasValue docs most i (f.layouts v) (f.lists v) a (b ++ more) v → HasValue docs most i (f.layouts v) (f.lists v) a b v → HasValue docs most j (g.layouts v) (g.lists v) b more v
          → By docs most (either_kind i j) (of_side i (f.layouts v) (g.layouts v)) (of_side i (f.lists v) (g.lists v)) (tolled_value (a ++ (b ++ more)) v) (tolled_value (a ++ b) v) (tolled_value more v)
      sides (Some k) j p q r = (p.0 ∙ sym q.0, subst (IsValue docs most k (f.layouts v) (f.lists v)) (sym q.0) q.1)
      sides None None p q r = p ∙ r
      sides None (Some k) p q r = (p ∙ r.0 ∙ sym q, subst (IsValue docs most k (g.layouts v) (g.lists v)) (sym q) r.1)
