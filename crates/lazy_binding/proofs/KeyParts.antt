-- What the keys of an operator compare of a binding of its input.
use Rattle.std.proofs.Common.{◌≡◌, ◌<◌, ◌||◌, ℕ, Bool, true, false, Option, List, [], ◌∷◌, length, get_or, zero, suc, refl, sym, ap, subst, arith}
use Rattle.std.specs.Prelude.{◌==◌}
use Rattle.std.specs.List.{AllByRecursion}
use Rattle.std.proofs.lemmas.Bool.Decides.{nat_tests}
use Rattle.mix_tree.specs.Keys.{has_var, key_var}
use Rattle.mix_tree.specs.declared.var.Key.{Key}
use Rattle.plan_core.specs.declared.plan.Piece.{Piece}
use Rattle.plan_core.specs.Plans.{Operator}
use Rattle.plan_core.specs.Shapes.{first_by_keys, shape_at, passes_on}
use Rattle.plan_core.specs.Typed.{IsTyped}
use Rattle.plan_core.specs.Valid.{kinds, Kinds, AreNodes}
use Rattle.lazy_binding.specs.Keys.{IsNodeKey}
use Rattle.lazy_binding.proofs.Bound.{fit_nodes, fit_at}

-- each key is of a node, where all are
each_node : (keys : List Key) (k : Kinds) → AreNodes keys k → AllByRecursion (IsNodeKey k) keys
each_node [] k h = tt
each_node (key ∷ keys) k h =
    (h (key_var key) (ap (λ (b : Bool). b || has_var keys (key_var key)) (same (key_var key))), each_node keys k (λ v e. h v (later (key_var key == v) (has_var keys v) e)))
  where
    same : (v : ℕ) → (v == v) ≡ true
    same v = grind (arith, nat_tests)

    later : (a b : Bool) → b ≡ true → a || b ≡ true
    later true b e = refl
    later false b e = e

-- the keys of first bindings are of nodes of the input
pub keys_fit : (ops : List Operator) → IsTyped ops → (n : ℕ) → n < length ops → (i : ℕ) (keys : List Key) (group : Option (Piece × ℕ)) → shape_at ops n ≡ passes_on i (first_by_keys keys group)
    → AllByRecursion (IsNodeKey (kinds ops i)) keys
keys_fit ops typed n within i keys group e = each_node keys (kinds ops i) (fit_nodes keys group (kinds ops i) (fit_at ops typed n within (passes_on i (first_by_keys keys group)) e))

-- the key at an index is of a node, where all are
pub node_key_at : (k : Kinds) (keys : List Key) → AllByRecursion (IsNodeKey k) keys → (i : ℕ) (key : Key) → i < length keys → key ≡ get_or keys i key → IsNodeKey k key
node_key_at k [] h i key l e = absurd (omega (arith, l))
node_key_at k (x ∷ keys) h zero key l e = subst (IsNodeKey k) (sym e) h.0
node_key_at k (x ∷ keys) h (suc i) key l e = node_key_at k keys h.1 i key (omega (arith, l)) e
