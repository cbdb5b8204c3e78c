-- The front of an operator as the program computes it.
use Rattle.std.proofs.Common.{◌≡◌, ◌≤◌, ℕ, true, false, cond, List, [], ◌∷◌, refl, sym, ap, arith, length, take}
use Rattle.std.specs.Prelude.{Bool, ◌||◌, ◌==◌}
use Rattle.std.specs.List.{list_all, list_any}
use Rattle.std.proofs.lemmas.Bool.Decides.{nat_tests}
use Rattle.mix_tree.specs.Keys.{key_eq, key_var, stands}
use Rattle.mix_tree.specs.declared.var.Key.{Key}
use Rattle.mix_tree.specs.declared.var.Key.TheVariants.{Node as node_key, LabelOf as label_key}
use Rattle.plan_core.specs.declared.plan.Piece.{Piece}
use Rattle.plan_core.specs.Fronts.{Front, node_keys, shared, covers, are_contiguous}
use Rattle.plan_core.specs.FrontsKept.{over_front}
use Rattle.plan_core.specs.Plans.{over}
use Rattle.plan_core.specs.Shapes.{shape_of}
use Rattle.plan_core.specs.Unary.{group_by}

-- a key stands where its variable is one of the nodes'
pub stands_nodes : (vs : List ℕ) (k : Key) → stands (node_keys vs) k ≡ list_any (λ w. w == key_var k) vs
stands_nodes [] k = refl
stands_nodes (v ∷ vs) k = ap (λ (b : Bool). (v == key_var k) || b) (stands_nodes vs k)

-- a node stands in force where it is a key itself
node_stands : (keys : List Key) (v : ℕ) → stands keys (node_key v) ≡ list_any (key_eq (node_key v)) keys
node_stands [] v = refl
node_stands (node_key w ∷ keys) v = (let e : (w == v) ≡ (v == w) = grind (arith, nat_tests) in rw (e, node_stands keys v) refl)
node_stands (label_key w ∷ keys) v = node_stands keys v

-- keys cover the nodes that are keys themselves
pub covers_nodes : (keys : List Key) (vs : List ℕ) → covers keys (node_keys vs) ≡ list_all (λ v. list_any (key_eq (node_key v)) keys) vs
covers_nodes keys [] = refl
covers_nodes keys (v ∷ vs) = rw (node_stands keys v, covers_nodes keys vs) refl

-- no more variables are shared than there are
pub shared_short : (keys : List Key) (vs : List ℕ) → length (shared keys vs) ≤ length vs
shared_short keys [] = omega arith
shared_short keys (v ∷ vs) =
    elim (list_any (key_eq (node_key v)) keys) as (λ (b : Bool). length (cond b (v ∷ shared keys vs) []) ≤ length (v ∷ vs)) [
      | true ↦ (let short = shared_short keys vs in omega (arith, short))
      | false ↦ omega arith
    ]

-- the variables that are shared are the first ones
pub shared_first : (keys : List Key) (vs : List ℕ) → take (length (shared keys vs)) vs ≡ shared keys vs
shared_first keys [] = refl
shared_first keys (v ∷ vs) =
    elim (list_any (key_eq (node_key v)) keys) as (λ (b : Bool). take (length (cond b (v ∷ shared keys vs) [])) (v ∷ vs) ≡ cond b (v ∷ shared keys vs) []) [
      | true ↦ ap (λ (ws : List ℕ). v ∷ ws) (shared_first keys vs)
      | false ↦ refl
    ]

-- by no keys no variables are shared
none_shared : (vs : List ℕ) → shared [] vs ≡ []
none_shared [] = refl
none_shared (v ∷ vs) = refl

-- the front of a groupBy, with keys or without, is that of the first bindings by its keys
pub groups_kept : (f : Front) (i out : ℕ) (keys : List Key) (piece : Piece) → over_front (shape_of (over i (group_by keys piece out))) f ≡ record { vars = shared keys f.vars; whole = are_contiguous keys f.vars }
groups_kept f i out [] piece = ap {B = Front} (λ (vs : List ℕ). record { vars = vs; whole = true }) (sym (none_shared f.vars))
groups_kept f i out (k ∷ keys) piece = refl
