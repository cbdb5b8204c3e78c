-- Which variables a binding has values of, and which it lacks.
use Rattle.std.proofs.Common.{◌≡◌, ℕ, true, false, cond, List, [], ◌∷◌, ◌++◌, refl, sym, ap, subst, ◌∙◌, append_assoc}
use Rattle.std.specs.Prelude.{◌||◌, ◌==◌, Option, Some, None}
use Rattle.std.proofs.lemmas.Bool.{eqb-true}
use Rattle.mix_tree.specs.Keys.{key_var, has_var}
use Rattle.mix_tree.specs.Nodes.{Documents}
use Rattle.mix_tree.specs.declared.var.Key.{Key}
use Rattle.plan_core.specs.TolledRows.{TolledRow, TolledValue, key_values, tolled_value, tolled_restrict}
use Rattle.plan_core.specs.Valid.{Kind, a_node, Kinds, no_kinds, with_kind, kept, either_kind, AreNodes}
use Rattle.plan_core.proofs.KeyValues.{values_alike}

-- a value that does not depend on what stands after a binding where the variable is bound, and else is the value of that
abbrev pub IsOwn : Option Kind → (TolledRow → TolledValue) → TolledValue → (TolledRow → TolledValue) → Type 0
IsOwn None whole own after = (more : TolledRow) → whole more ≡ after more
IsOwn (Some k) whole own after = (more : TolledRow) → whole more ≡ own

-- a binding has a value of a variable of its own exactly where the variable has a kind
abbrev pub HasValue : Option Kind → TolledRow → ℕ → Type 0
HasValue k row v = IsOwn k (λ more. tolled_value (row ++ more) v) (tolled_value row v) (λ more. tolled_value more v)

-- a binding has values of its own of exactly the variables that have kinds
abbrev pub IsBound : Kinds → TolledRow → Type 0
IsBound kinds row = (v : ℕ) → HasValue (kinds v) row v

-- a variable that is bound keeps its value with other bindings after it
pub value_own : (kinds : Kinds) (row : TolledRow) → IsBound kinds row → (v : ℕ) (k : Kind) → kinds v ≡ Some k → (more : TolledRow) → tolled_value (row ++ more) v ≡ tolled_value row v
value_own kinds row b v k e more = (let h : HasValue (Some k) row v = subst (λ (j : Option Kind). HasValue j row v) e (b v) in h more)

-- a variable that is not bound has its value in what stands after the binding
pub value_after : (kinds : Kinds) (row : TolledRow) → IsBound kinds row → (v : ℕ) → kinds v ≡ None → (more : TolledRow) → tolled_value (row ++ more) v ≡ tolled_value more v
value_after kinds row b v e more = (let h : HasValue None row v = subst (λ (j : Option Kind). HasValue j row v) e (b v) in h more)

-- a binding without variables has values of no variable
pub bound_none : IsBound no_kinds []
bound_none v = λ more. refl

-- a binding with one variable more has values of exactly the variables of the longer kinds
pub bound_with : (kinds : Kinds) (out : ℕ) (k : Kind) (x : TolledValue) (row : TolledRow) → IsBound kinds row → IsBound (with_kind out k kinds) ((out, x) ∷ row)
bound_with kinds out k x row b v =
    elim (out == v)
    as (λ w. IsOwn (cond w (Some k) (kinds v)) (λ more. cond w x (tolled_value (row ++ more) v)) (cond w x (tolled_value row v)) (λ more. tolled_value more v)) [
      | true ↦ λ more. refl
      | false ↦ b v
    ]

-- a binding cut to the variables of keys has values of exactly those of them that had a kind
pub bound_restrict : (kinds : Kinds) (keys : List Key) (row : TolledRow) → AreNodes keys kinds → IsBound (kept keys kinds) (tolled_restrict keys row)
bound_restrict kinds [] row n v = λ more. refl
bound_restrict kinds (k ∷ keys) row n v =
    let rest = bound_restrict kinds keys row (λ u t. n u (later u t)) v in
    (elim (key_var k == v) as (λ w. (key_var k == v) ≡ w
    → IsOwn (cond (w || has_var keys v) (kinds v) None) (λ more. cond w (tolled_value row (key_var k)) (tolled_value (tolled_restrict keys row ++ more) v))
    (cond w (tolled_value row (key_var k)) (tolled_value (tolled_restrict keys row) v)) (λ more. tolled_value more v)) [
      | true ↦ λ e.
          (let node : kinds v ≡ Some a_node = n v (rw e refl) in
          subst (λ (j : Option Kind). IsOwn j (λ more. tolled_value row (key_var k)) (tolled_value row (key_var k)) (λ more. tolled_value more v)) (sym node) (λ more. refl))
      | false ↦ λ e. rest
    ]) refl
  where
    later : (u : ℕ) → has_var keys u ≡ true → has_var (k ∷ keys) u ≡ true
    later u t = elim (key_var k == u) as (λ w. (w || has_var keys u) ≡ true) [ true ↦ refl | false ↦ t ]

-- a pair of bindings has the value of a variable that one of its sides has, the left side first
value_both : (a b : TolledRow) (v : ℕ) (j k : Option Kind) → HasValue j a v → HasValue k b v → HasValue (either_kind j k) (a ++ b) v
value_both a b v (Some j) k x y = λ more. ap (λ (z : TolledRow). tolled_value z v) (append_assoc a b more) ∙ x (b ++ more) ∙ sym (x b)
value_both a b v None (Some k) x y = λ more. ap (λ (z : TolledRow). tolled_value z v) (append_assoc a b more) ∙ x (b ++ more) ∙ y more ∙ sym (x b)
value_both a b v None None x y = λ more. ap (λ (z : TolledRow). tolled_value z v) (append_assoc a b more) ∙ x (b ++ more) ∙ y more

-- a pair of bindings has values of exactly the variables of both
pub bound_both : (left right : Kinds) (a b : TolledRow) → IsBound left a → IsBound right b → IsBound (λ v. either_kind (left v) (right v)) (a ++ b)
bound_both left right a b x y v = value_both a b v (left v) (right v) (x v) (y v)

-- WHAT KEYS COMPARE

-- what is not bound is another variable than what is
pub fresh_differs : (kinds : Kinds) (out v : ℕ) (k : Kind) → kinds out ≡ None → kinds v ≡ Some k → (out == v) ≡ false
fresh_differs kinds out v k e h =
    (elim (out == v) as (λ w. (out == v) ≡ w → w ≡ false) [
      | true ↦ λ g. (let z : None ≡ Some k = sym e ∙ ap kinds (eqb-true out v g) ∙ h in cc)
      | false ↦ λ g. refl
    ]) refl

-- a variable more changes nothing for keys of other variables
pub keys_with : (docs : Documents) (kinds : Kinds) (keys : List Key) (out : ℕ) (x : TolledValue) (row : TolledRow) → AreNodes keys kinds → kinds out ≡ None
    → key_values docs keys ((out, x) ∷ row) ≡ key_values docs keys row
keys_with docs kinds keys out x row n e = values_alike docs keys ((out, x) ∷ row) row (λ v t. (let d = fresh_differs kinds out v a_node e (n v t) in rw d refl))

-- keys of nodes stay keys of nodes with a new variable more
pub nodes_with : (kinds : Kinds) (keys : List Key) (out : ℕ) (k : Kind) → AreNodes keys kinds → kinds out ≡ None → AreNodes keys (with_kind out k kinds)
nodes_with kinds keys out k n e v t = (let d = fresh_differs kinds out v a_node e (n v t) in rw d (n v t))

-- the variables of keys have their values
pub restrict_value : (keys : List Key) (row : TolledRow) (v : ℕ) → has_var keys v ≡ true → tolled_value (tolled_restrict keys row) v ≡ tolled_value row v
restrict_value [] row v h = cc
restrict_value (k ∷ keys) row v h =
    (elim (key_var k == v) as (λ w. (key_var k == v) ≡ w → (w || has_var keys v) ≡ true → cond w (tolled_value row (key_var k)) (tolled_value (tolled_restrict keys row) v) ≡ tolled_value row v) [
      | true ↦ λ e t. ap (tolled_value row) (eqb-true (key_var k) v e)
      | false ↦ λ e t. restrict_value keys row v t
    ]) refl h

-- keys compare in the binding of their variables what they compare in the whole binding
pub keys_restrict : (docs : Documents) (keys : List Key) (row : TolledRow) → key_values docs keys (tolled_restrict keys row) ≡ key_values docs keys row
keys_restrict docs keys row = values_alike docs keys (tolled_restrict keys row) row (λ v t. restrict_value keys row v t)

-- keys of nodes stay keys of nodes where their variables alone are kept
pub nodes_kept : (kinds : Kinds) (keys : List Key) → AreNodes keys kinds → AreNodes keys (kept keys kinds)
nodes_kept kinds keys n v t = rw t (n v t)

-- keys of variables of the left binding compare in a pair what they compare in the left binding
pub keys_left : (docs : Documents) (kinds : Kinds) (keys : List Key) (a b : TolledRow) → AreNodes keys kinds → IsBound kinds a → key_values docs keys (a ++ b) ≡ key_values docs keys a
keys_left docs kinds keys a b n h = values_alike docs keys (a ++ b) a (λ v t. value_own kinds a h v a_node (n v t) b)

-- keys of variables that the left side does not bind compare in a pair what they compare in the right binding
pub keys_right : (docs : Documents) (left right : Kinds) (keys : List Key) (a b : TolledRow) → AreNodes keys right → ((v : ℕ) (k : Kind) → right v ≡ Some k → left v ≡ None) → IsBound left a
    → key_values docs keys (a ++ b) ≡ key_values docs keys b
keys_right docs left right keys a b n fresh h = values_alike docs keys (a ++ b) b (λ v t. value_after left a h v (fresh v a_node (n v t)) b)
