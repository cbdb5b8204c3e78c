-- Conditions that aren't refused bind each variable once, and before it is used.
use Rattle.std.proofs.Common.{◌≡◌, ◌∙◌, ◌+◌, ◌<◌, ◌≤◌, ◌↔◌, ℕ, Bool, true, false, cond, ◌||◌, ◌==◌, not, List, [], ◌∷◌, ◌++◌, Option, Some, None, refl, ap, sym, subst, length, map, arith, bytes_eq}
use Rattle.std.specs.List.{AllByRecursion}
use Rattle.mix_tree.specs.Comparisons.{compares_nodes}
use Rattle.xmas_text.specs.declared.var.VarText.{VarText}
use Rattle.xmas_tokens.specs.declared.lexeme.Comparison.{Comparison}
use Rattle.xmas_tokens.specs.declared.lexeme.Comparison.TheVariants as comparison
use Rattle.xmas_text.specs.declared.cond.CondText.{CondText}
use Rattle.xmas_text.specs.declared.cond.CondText.TheVariants as condition
use Rattle.xmas_text.specs.declared.cond.OperandText.{OperandText}
use Rattle.xmas_text.specs.declared.cond.OperandText.TheVariants as operand
use Rattle.xmas_text.specs.declared.rule.OrderText.{OrderText}
use Rattle.xmas_rule.specs.Conditions.{binder_var, binder_vars, binders, comparisons, has, in_order, AreBound, OperandBelow, AreCompared}
use Rattle.xmas_rule.specs.Rules.{IsOrdered}
use Rattle.xmas_rule.proofs.Kept.{components_has}
use Rattle.xmas_rule.specs.declared.condition.Cond.{Cond}
use Rattle.xmas_read.specs.Tree.{bound_var, bound_names, operand_vars, order_vars}
use Rattle.xmas_read.specs.Value.{place_in, operand_value, op_value, cond_value, order_value}
use Rattle.xmas_read.specs.Refusals.{has_name, unless, again_at, with_bound, bound_again, unbound_vars, unbound_at, unbound_in}
use Rattle.xmas_read.proofs.Naming.{bytes_sym}
use Rattle.xmas_read.proofs.NamePlaces.{neither, place_small, has_place_of, name_more, among_themselves, AreDifferent, all_places, places_small}
use Rattle.xmas_read.proofs.Templates.{both_none, unless_none}

-- a boolean whose negation is true is false
not_true : (b : Bool) → not b ≡ true → b ≡ false
not_true true h = cc
not_true false h = refl

-- the places of names with one more are theirs, and the place of that one
places_more : (names earlier : List (List ℕ)) (n : List ℕ) → map (place_in names) (earlier ++ n ∷ []) ≡ map (place_in names) earlier ++ place_in names n ∷ []
places_more names [] n = refl
places_more names (m ∷ earlier) n = ap (λ r. place_in names m ∷ r) (places_more names earlier n)

-- where all of some names and one more are among names, so are all of them together
all_and : (names some : List (List ℕ)) (n : List ℕ) → AllByRecursion (λ m. has_name names m ≡ true) some → has_name names n ≡ true → AllByRecursion (λ m. has_name names m ≡ true) (some ++ n ∷ [])
all_and names [] n h k = (k, tt)
all_and names (m ∷ some) n h k = (h.0, all_and names some n h.1 k)

-- conditions that aren't refused are bound; the names of those before them and of their own are among names
pub conds_bound :
    (sources names earlier : List (List ℕ)) (conds : List CondText) → AllByRecursion (λ m. has_name names m ≡ true) earlier
    → AllByRecursion (λ m. has_name names m ≡ true) (bound_names conds) → bound_again earlier conds ≡ [] → unbound_in names earlier conds ≡ []
    → AreBound (map (place_in names) earlier) (binders (map (cond_value sources names) conds))
conds_bound sources names earlier [] e n a u = tt
conds_bound sources names earlier (condition.FromSource at source path var ∷ conds) e n a u =
    let again = both_none (unless (not (has_name earlier var.name)) var.at) (bound_again (earlier ++ var.name ∷ []) conds) a in
    let new : has_name earlier var.name ≡ false = not_true (has_name earlier var.name) (unless_none (not (has_name earlier var.name)) var.at again.0) in
    let rest = conds_bound sources names (earlier ++ var.name ∷ []) conds (all_and names earlier var.name e n.0) n.1 again.1 u in
    (has_place_of names earlier var.name e ∙ new, subst (λ vs. AreBound vs (binders (map (cond_value sources names) conds))) (places_more names earlier var.name) rest)
conds_bound sources names earlier (condition.FromVar start path var ∷ conds) e n a u =
    let again = both_none (unless (not (has_name earlier var.name)) var.at) (bound_again (earlier ++ var.name ∷ []) conds) a in
    let new : has_name earlier var.name ≡ false = not_true (has_name earlier var.name) (unless_none (not (has_name earlier var.name)) var.at again.0) in
    let bound = both_none (unless (has_name earlier start.name) start.at) (unbound_in names (earlier ++ var.name ∷ []) conds) u in
    let rest = conds_bound sources names (earlier ++ var.name ∷ []) conds (all_and names earlier var.name e n.0) n.1 again.1 bound.1 in (
      has_place_of names earlier start.name e ∙ unless_none (has_name earlier start.name) start.at bound.0,
      has_place_of names earlier var.name e ∙ new,
      subst (λ vs. AreBound vs (binders (map (cond_value sources names) conds))) (places_more names earlier var.name) rest,
    )
conds_bound sources names earlier (condition.Compare left op right ∷ conds) e n a u =
    conds_bound sources names earlier conds e n a (both_none (unbound_vars names (left ∷ operand_vars right)) (unbound_in names earlier conds) u).1

-- the variables of conditions are the places of their names
pub bound_places : (sources names : List (List ℕ)) (conds : List CondText) → binder_vars (binders (map (cond_value sources names) conds)) ≡ map (place_in names) (bound_names conds)
bound_places sources names [] = refl
bound_places sources names (condition.FromSource at source path var ∷ conds) = ap (λ r. place_in names var.name ∷ r) (bound_places sources names conds)
bound_places sources names (condition.FromVar start path var ∷ conds) = ap (λ r. place_in names var.name ∷ r) (bound_places sources names conds)
bound_places sources names (condition.Compare left op right ∷ conds) = bound_places sources names conds

-- where none of some names is among names with one more, none is among the names, and each differs from that one
apart_each : (earlier : List (List ℕ)) (n : List ℕ) (some : List (List ℕ)) → AllByRecursion (λ m. has_name (earlier ++ n ∷ []) m ≡ false) some
    → AllByRecursion (λ m. has_name earlier m ≡ false) some × AllByRecursion (λ m. bytes_eq n m ≡ false) some
apart_each earlier n [] h = (tt, tt)
apart_each earlier n (m ∷ some) h =
    let p = neither (has_name earlier m) (bytes_eq n m) (sym (name_more earlier n m) ∙ h.0) in
    let q = apart_each earlier n some h.1 in
    ((p.0, q.0), (p.1, q.1))

-- one more name is different from all
one_apart : (earlier : List (List ℕ)) (var : VarText) (conds : List CondText) → unless (not (has_name earlier var.name)) var.at ++ bound_again (earlier ++ var.name ∷ []) conds ≡ []
    → AllByRecursion (λ m. has_name (earlier ++ var.name ∷ []) m ≡ false) (bound_names conds) × AreDifferent (bound_names conds)
    → AllByRecursion (λ m. has_name earlier m ≡ false) (var.name ∷ bound_names conds) × AreDifferent (var.name ∷ bound_names conds)
one_apart earlier var conds a r =
    let again = both_none (unless (not (has_name earlier var.name)) var.at) (bound_again (earlier ++ var.name ∷ []) conds) a in
    let new = not_true (has_name earlier var.name) (unless_none (not (has_name earlier var.name)) var.at again.0) in
    let q = apart_each earlier var.name (bound_names conds) r.0 in
    ((new, q.0), (q.1, r.1))

-- names that are bound once are different, from one another and from those bound before
pub bound_apart : (earlier : List (List ℕ)) (conds : List CondText) → bound_again earlier conds ≡ [] → AllByRecursion (λ m. has_name earlier m ≡ false) (bound_names conds) × AreDifferent (bound_names conds)
bound_apart earlier [] a = (tt, tt)
bound_apart earlier (condition.FromSource at source path var ∷ conds) a = one_apart earlier var conds a (bound_apart (earlier ++ var.name ∷ []) conds (both_none (unless (not (has_name earlier var.name)) var.at) (bound_again (earlier ++ var.name ∷ []) conds) a).1)
bound_apart earlier (condition.FromVar start path var ∷ conds) a = one_apart earlier var conds a (bound_apart (earlier ++ var.name ∷ []) conds (both_none (unless (not (has_name earlier var.name)) var.at) (bound_again (earlier ++ var.name ∷ []) conds) a).1)
bound_apart earlier (condition.Compare left op right ∷ conds) a = bound_apart earlier conds a

-- a variable that is bound is one of the rule's, and those after it are bound
var_below : (names : List (List ℕ)) (v : VarText) (vs : List VarText) → unbound_vars names (v ∷ vs) ≡ [] → (place_in names v.name < length names) × (unbound_vars names vs ≡ [])
var_below names v vs h =
    let p = both_none (unless (has_name names v.name) v.at) (unbound_vars names vs) h in (place_small names v.name (unless_none (has_name names v.name) v.at p.0), p.1)

-- the value of an operand whose variable is bound is a text, or a variable of the rule
operand_below : (names : List (List ℕ)) (o : OperandText) → unbound_vars names (operand_vars o) ≡ [] → OperandBelow (length names) (operand_value names o)
operand_below names (operand.Var v) h = (var_below names v [] h).0
operand_below names (operand.Text l) h = tt

-- a comparison of a rule's text is of labels
labels_compared : (o : Comparison) → compares_nodes (op_value o) ≡ false
labels_compared comparison.Eq = refl
labels_compared comparison.Ne = refl
labels_compared comparison.Lt = refl
labels_compared comparison.Le = refl
labels_compared comparison.Gt = refl
labels_compared comparison.Ge = refl

-- the comparisons of conditions that aren't refused are of the rule's variables, and of labels
pub conds_compared : (sources names earlier : List (List ℕ)) (conds : List CondText) → unbound_in names earlier conds ≡ [] → AreCompared (length names) (comparisons (map (cond_value sources names) conds))
conds_compared sources names earlier [] u = tt
conds_compared sources names earlier (condition.FromSource at source path var ∷ conds) u = conds_compared sources names (earlier ++ var.name ∷ []) conds u
conds_compared sources names earlier (condition.FromVar start path var ∷ conds) u =
    conds_compared sources names (earlier ++ var.name ∷ []) conds (both_none (unless (has_name earlier start.name) start.at) (unbound_in names (earlier ++ var.name ∷ []) conds) u).1
conds_compared sources names earlier (condition.Compare left op right ∷ conds) u =
    let parts = both_none (unbound_vars names (left ∷ operand_vars right)) (unbound_in names earlier conds) u in
    let l = var_below names left (operand_vars right) parts.0 in
    ((l.0, operand_below names right l.1, labels_compared op), conds_compared sources names earlier conds parts.1)

-- an order that isn't refused is by one of the rule's variables
pub order_accepted : (names : List (List ℕ)) (o : Option OrderText) → unbound_vars names (order_vars o) ≡ [] → IsOrdered (length names) (order_value names o)
order_accepted names None h = tt
order_accepted names (Some o) h = (var_below names o.var [] h).0

-- conditions of which none is refused bind a variable, if there are any
pub some_bound : (earlier : List (List ℕ)) (conds : List CondText) → 0 < length conds → unbound_in (bound_names conds) earlier conds ≡ [] → 0 < length (bound_names conds)
some_bound earlier [] s u = absurd (omega arith)
some_bound earlier (condition.FromSource at source path var ∷ conds) s u = omega arith
some_bound earlier (condition.FromVar start path var ∷ conds) s u = omega arith
some_bound earlier (condition.Compare left op right ∷ conds) s u =
    let parts = both_none (unbound_vars (bound_names conds) (left ∷ operand_vars right)) (unbound_in (bound_names conds) earlier conds) u in
    let l = var_below (bound_names conds) left (operand_vars right) parts.0 in
    omega (arith, l.0)

-- the variables of conditions are the numbers of their names
pub all_bound :
    (sources : List (List ℕ)) (conds : List CondText) → bound_again [] conds ≡ [] → unbound_in (bound_names conds) [] conds ≡ [] → (v : ℕ)
    → (v < length (bound_names conds)) ↔ (has (in_order (map (cond_value sources (bound_names conds)) conds)) v ≡ true)
all_bound sources conds a u v =
    let names = bound_names conds in
    let values = map (cond_value sources names) conds in
    let bound = conds_bound sources names [] conds tt (among_themselves names) a u in
    let same : has (in_order values) v ≡ has (map (place_in names) names) v = components_has (binders values) bound v ∙ ap (λ vs. has vs v) (bound_places sources names conds) in
    ((λ h. same ∙ all_places names (bound_apart [] conds a).1 v h), (λ h. places_small names names (among_themselves names) v (sym same ∙ h)))
