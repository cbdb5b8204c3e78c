-- The components of a body have all its variables.
use Rattle.std.proofs.Common.{◌≡◌, ◌∙◌, ℕ, Bool, true, false, cond, ◌||◌, ◌==◌, List, [], ◌∷◌, ◌++◌, refl, ap, sym, map}
use Rattle.xmas_rule.specs.Conditions.{Binder, from_source, from_var, binder_var, binder_vars, has, add_to, with_binder, components_from, flat, AreBound}
use Rattle.path_expr.specs.Form.{Form}

-- of three booleans in a disjunction the last two may change places
or_turned : (a b c : Bool) → ((a || (b || false)) || c) ≡ ((a || c) || b)
or_turned true b c = refl
or_turned false true true = refl
or_turned false true false = refl
or_turned false false true = refl
or_turned false false false = refl

-- of three disjoined booleans it does not matter which two are joined first
or_three : (a b c : Bool) → (a || (b || c)) ≡ ((a || b) || c)
or_three true b c = refl
or_three false b c = refl

-- a boolean or false is that boolean
or_nothing : (a : Bool) → (a || false) ≡ a
or_nothing true = refl
or_nothing false = refl

-- a variable is one of two lists' where it is one of either's
pub has_append : (vs ws : List ℕ) (v : ℕ) → has (vs ++ ws) v ≡ (has vs v || has ws v)
has_append [] ws v = refl
has_append (w ∷ vs) ws v = ap (λ b. (w == v) || b) (has_append vs ws v) ∙ or_three (w == v) (has vs v) (has ws v)

-- the variables of one list of conditions after another are those of the first and those of the second
pub vars_append : (xs ys : List Binder) → binder_vars (xs ++ ys) ≡ binder_vars xs ++ binder_vars ys
vars_append [] ys = refl
vars_append (c ∷ xs) ys = ap (λ r. binder_var c ∷ r) (vars_append xs ys)

-- a variable is bound by one of two lists
has_both : (xs ys : List Binder) (v : ℕ) → has (binder_vars (xs ++ ys)) v ≡ (has (binder_vars xs) v || has (binder_vars ys) v)
has_both xs ys v = ap (λ vs. has vs v) (vars_append xs ys) ∙ has_append (binder_vars xs) (binder_vars ys) v

-- the conditions of two lists of components are those of the first and those of the second
flat_append : (xs ys : List (List Binder)) → flat (xs ++ ys) ≡ flat xs ++ flat ys
flat_append [] ys = refl
flat_append (comp ∷ xs) ys = ap (λ r. comp ++ r) (flat_append xs ys) ∙ sym (append_three comp (flat xs) (flat ys))
  where
    append_three : (a b c : List Binder) → (a ++ b) ++ c ≡ a ++ (b ++ c)
    append_three [] b c = refl
    append_three (x ∷ a) b c = ap (λ r. x ∷ r) (append_three a b c)

-- where the component of its start variable takes a condition, the components bind its variable more
add_has : (c : Binder) (start : ℕ) (comps : List (List Binder)) → has (binder_vars (flat comps)) start ≡ true → (v : ℕ)
    → has (binder_vars (flat (add_to c start comps))) v ≡ (has (binder_vars (flat comps)) v || (binder_var c == v))
add_has c start [] h v = cc
add_has c start (comp ∷ comps) h v =
    elim (has (binder_vars comp) start) as (λ w.
    has (binder_vars comp) start ≡ w → has (binder_vars (flat (cond w ((comp ++ c ∷ []) ∷ comps) (comp ∷ add_to c start comps)))) v
    ≡ (has (binder_vars (comp ++ flat comps)) v || (binder_var c == v))) [
      | true ↦ λ e.
          has_both (comp ++ c ∷ []) (flat comps) v
          ∙ ap (λ b. b || has (binder_vars (flat comps)) v) (has_both comp (c ∷ []) v)
          ∙ or_turned (has (binder_vars comp) v) (binder_var c == v) (has (binder_vars (flat comps)) v)
          ∙ ap (λ b. b || (binder_var c == v)) (sym (has_both comp (flat comps) v))
      | false ↦ λ e.
          let inner : has (binder_vars (flat comps)) start ≡ true = ap (λ b. b || has (binder_vars (flat comps)) start) (sym e) ∙ sym (has_both comp (flat comps) start) ∙ h in
          has_both comp (flat (add_to c start comps)) v
          ∙ ap (λ b. has (binder_vars comp) v || b) (add_has c start comps inner v)
          ∙ or_three (has (binder_vars comp) v) (has (binder_vars (flat comps)) v) (binder_var c == v)
          ∙ ap (λ b. b || (binder_var c == v)) (sym (has_both comp (flat comps) v))
    ] refl

-- where a condition begins a component, the components bind its variable more
begin_has : (c : Binder) (comps : List (List Binder)) (v : ℕ) → has (binder_vars (flat (comps ++ (c ∷ []) ∷ []))) v ≡ (has (binder_vars (flat comps)) v || (binder_var c == v))
begin_has c comps v =
    ap (λ cs. has (binder_vars cs) v) (flat_append comps ((c ∷ []) ∷ []))
    ∙ has_both (flat comps) (c ∷ []) v
    ∙ ap (λ b. has (binder_vars (flat comps)) v || b) (or_nothing (binder_var c == v))

-- components that go on have the variables of all conditions; vs are the variables bound before
from_has :
    (comps : List (List Binder)) (vs : List ℕ) (cs : List Binder) → ((w : ℕ) → has vs w ≡ has (binder_vars (flat comps)) w) → AreBound vs cs → (v : ℕ)
    → has (binder_vars (flat (components_from comps cs))) v ≡ (has (binder_vars (flat comps)) v || has (binder_vars cs) v)
from_has comps vs [] h b v = sym (or_nothing (has (binder_vars (flat comps)) v))
from_has comps vs (from_source s p x ∷ cs) h b v =
    let c = from_source s p x in
    from_has (comps ++ (c ∷ []) ∷ []) (vs ++ x ∷ []) cs
    (λ w. has_append vs (x ∷ []) w ∙ ap (λ a. a || ((x == w) || false)) (h w) ∙ ap (λ a. has (binder_vars (flat comps)) w || a) (or_nothing (x == w)) ∙ sym (begin_has c comps w)) b.1 v
    ∙ ap (λ a. a || has (binder_vars cs) v) (begin_has c comps v)
    ∙ sym (or_three (has (binder_vars (flat comps)) v) (x == v) (has (binder_vars cs) v))
from_has comps vs (from_var start p x ∷ cs) h b v =
    let c = from_var start p x in
    let there : has (binder_vars (flat comps)) start ≡ true = sym (h start) ∙ b.0 in
    from_has (add_to c start comps) (vs ++ x ∷ []) cs
    (λ w. has_append vs (x ∷ []) w ∙ ap (λ a. a || ((x == w) || false)) (h w) ∙ ap (λ a. has (binder_vars (flat comps)) w || a) (or_nothing (x == w)) ∙ sym (add_has c start comps there w)) b.2 v
    ∙ ap (λ a. a || has (binder_vars cs) v) (add_has c start comps there v)
    ∙ sym (or_three (has (binder_vars (flat comps)) v) (x == v) (has (binder_vars cs) v))

-- the components of conditions that are bound have exactly their variables
pub components_has : (cs : List Binder) → AreBound [] cs → (v : ℕ) → has (binder_vars (flat (components_from [] cs))) v ≡ has (binder_vars cs) v
components_has cs b v = from_has [] [] cs (λ w. refl) b v
