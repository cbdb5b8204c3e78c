-- Agreement by keys, one key after another.
use Rattle.std.proofs.Common.{◌≡◌, ℕ, zero, suc, ◌<◌, true, false, List, [], ◌∷◌, ◌++◌, Some, refl, sym, ap, ◌∙◌, arith, length}
use Rattle.std.specs.Prelude.{Bool, ◌&&◌, ◌||◌, ◌==◌, slice_index_or}
use Rattle.std.specs.List.{list_all}
use Rattle.std.proofs.lemmas.Bool.Decides.{nat_tests}
use Rattle.std.proofs.lemmas.List.Folds.{list_any-append, list_all-append}
use Rattle.mix_tree.specs.Keys.{key_var, has_var}
use Rattle.mix_tree.specs.Nodes.{Documents, Node}
use Rattle.mix_tree.specs.declared.var.Key.{Key}
use Rattle.mix_tree.specs.declared.var.Key.TheVariants.{Node as node_key, LabelOf as label_key}
use Rattle.plan_core.specs.declared.plan.Piece.{Piece}
use Rattle.plan_core.specs.Plans.{Operator}
use Rattle.plan_core.specs.Unary.{group_by}
use Rattle.plan_core.specs.Shapes.{Shape, shape_at, stage_of}
use Rattle.plan_core.specs.TolledRows.{key_value, same_value, same_values}
use Rattle.plan_core.specs.Typed.{IsTyped}
use Rattle.plan_core.specs.Valid.{a_node, Kinds, AreNodes}
use Rattle.plan_evidence.specs.Held.{stage_held, shape_held, held, node_values}
use Rattle.plan_evidence.proofs.HeldApart.{held-of}

module _ (docs : Documents) (a b : ℕ → Node) where
  -- whether nodes agree with others by a key
  abbrev pub agree : Key → Bool
  agree k = same_value (key_value docs a k) (key_value docs b k)

  -- nodes agree with others by keys where they do by each
  pub agree_all : (keys : List Key) → same_values (node_values docs keys a) (node_values docs keys b) ≡ list_all agree keys
  agree_all [] = refl
  agree_all (k ∷ keys) = ap (λ (t : Bool). agree k && t) (agree_all keys)

  -- nodes agree with others by some keys and by others where they do by both
  pub agree_both : (keys more : List Key) → same_values (node_values docs (keys ++ more) a) (node_values docs (keys ++ more) b)
      ≡ (same_values (node_values docs keys a) (node_values docs keys b) && same_values (node_values docs more a) (node_values docs more b))
  agree_both keys more =
      agree_all (keys ++ more) ∙ list_all-append agree keys more ∙ ap (λ (t : Bool). t && list_all agree more) (sym (agree_all keys))
      ∙ ap (λ (t : Bool). same_values (node_values docs keys a) (node_values docs keys b) && t) (sym (agree_all more))

  -- nodes agree with others by one key alone
  pub agree_one : (k : Key) → same_values (node_values docs (k ∷ []) a) (node_values docs (k ∷ []) b) ≡ agree k
  agree_one k = and_true (agree k)
    where
      and_true : (t : Bool) → (t && true) ≡ t
      and_true true = refl
      and_true false = refl

  -- the nodes of a key's variable are what it compares
  pub key_compares : (k : Key) (v : ℕ) → v ≡ key_var k → (r : Bool) → r ≡ same_value (key_value docs (λ w. a v) k) (key_value docs (λ w. b v) k) → r ≡ agree k
  key_compares (node_key u) v e r h = h ∙ ap (λ (w : ℕ). same_value (key_value docs (λ x. a w) (node_key u)) (key_value docs (λ x. b w) (node_key u))) e
  key_compares (label_key u) v e r h = h ∙ ap (λ (w : ℕ). same_value (key_value docs (λ x. a w) (label_key u)) (key_value docs (λ x. b w) (label_key u))) e

-- one test and another, of which the first holds
pub then_both : (r x y z : Bool) → x ≡ true → r ≡ y → z ≡ (x && y) → r ≡ z
then_both r x y z t h e = h ∙ sym (e ∙ ap (λ (w : Bool). w && y) t)

-- one test and another, of which the first fails
pub else_both : (r x y z : Bool) → r ≡ x → r ≡ false → z ≡ (x && y) → r ≡ z
else_both r x y z h f e = f ∙ sym (e ∙ ap (λ (w : Bool). w && y) (sym h ∙ f))

-- the variable of a key is that of one of the keys
pub has_there : (keys : List Key) (i : ℕ) (k : Key) → i < length keys → k ≡ slice_index_or keys i k → has_var keys (key_var k) ≡ true
has_there [] i k b e = absurd (omega (arith, b))
has_there (x ∷ keys) zero k b e =
    (let t : (key_var x == key_var k) ≡ true = (let q = ap key_var e in grind (arith, nat_tests, q)) in ap (λ (w : Bool). w || has_var keys (key_var k)) t)
has_there (x ∷ keys) (suc i) k b e = later (key_var x == key_var k) (has_there keys i k (omega (arith, b)) e)
  where
    later : (t : Bool) → has_var keys (key_var k) ≡ true → (t || has_var keys (key_var k)) ≡ true
    later true h = refl
    later false h = h

-- keys that are of nodes together with others are so
pub nodes_first : (keys more : List Key) (ks : Kinds) → AreNodes (keys ++ more) ks → AreNodes keys ks
nodes_first keys more ks h v t = h v (list_any-append (λ k. key_var k == v) keys more ∙ ap (λ (w : Bool). w || has_var more v) t)

-- so are the others
pub nodes_second : (keys more : List Key) (ks : Kinds) → AreNodes (keys ++ more) ks → AreNodes more ks
nodes_second keys more ks h v t = h v (list_any-append (λ k. key_var k == v) keys more ∙ either (has_var keys v) t)
  where
    either : (s : Bool) → has_var more v ≡ true → (s || has_var more v) ≡ true
    either true g = refl
    either false g = g

-- a node key among keys of nodes is of a node
pub node_itself : (out : ℕ) (ks : Kinds) → AreNodes (node_key out ∷ []) ks → ks out ≡ Some a_node
node_itself out ks h = h out (let t : (out == out) ≡ true = grind (arith, nat_tests) in ap (λ (w : Bool). w || false) t)

-- a groupBy holds its keys, be there any or none
pub group_holds : (keys : List Key) (piece : Piece) (out : ℕ) (below : List Key) → stage_held (stage_of (group_by keys piece out)) below ≡ keys
group_holds [] piece out below = refl
group_holds (k ∷ keys) piece out below = refl

-- the keys that an operator of a shape holds
pub held_at : (ops : List Operator) → IsTyped ops → (n : ℕ) → n < length ops → (f : Shape) → shape_at ops n ≡ f → held ops n ≡ shape_held f (held ops)
held_at ops typed n b f e = held-of ops n (typed.inputs n b) ∙ ap (λ (g : Shape). shape_held g (held ops)) e
