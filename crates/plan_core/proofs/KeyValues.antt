-- What keys compare of bindings: sameness, keys of several lists, and keys that cover others.
use Rattle.std.proofs.Common.{◌≡◌, ℕ, zero, suc, ◌≤◌, true, false, cond, List, [], ◌∷◌, ◌++◌, refl, sym, ap, subst, ◌∙◌, arith, map, length, take}
use Rattle.std.specs.Prelude.{Bool, ◌&&◌, ◌||◌, ◌==◌}
use Rattle.std.specs.List.{list_any}
use Rattle.std.specs.Str.{bytes_eq}
use Rattle.std.proofs.lemmas.Bool.{and_parts, and_from, eqb-true}
use Rattle.std.proofs.lemmas.Bool.Decides.{nat_tests}
use Rattle.mix_tree.specs.Keys.{key_eq, gives, stands, key_var, has_var}
use Rattle.mix_tree.specs.Nodes.{Documents, Node, same_node, label_at}
use Rattle.mix_tree.specs.declared.var.Key.{Key}
use Rattle.mix_tree.specs.declared.var.Key.TheVariants.{Node as node_key, LabelOf as label_key}
use Rattle.mix_tree.proofs.SameKeys.{same_node-true, same_node-refl, bytes_eq-refl}
use Rattle.plan_core.specs.Beside.{Differ}
use Rattle.plan_core.specs.Fronts.{node_keys, shared, covers}
use Rattle.plan_core.specs.TolledRows.{TolledRow, KeyValue, by_node, by_label, key_value, key_values, same_value, same_values, tolled_value, row_node, source_node}

-- a value is the same as itself
same_itself : (x : KeyValue) → same_value x x ≡ true
same_itself (by_node n) = same_node-refl n
same_itself (by_label l) = bytes_eq-refl l

-- values that keys compare are the same as themselves
pub all_itself : (k : List KeyValue) → same_values k k ≡ true
all_itself [] = refl
all_itself (v ∷ k) = ap (λ (b : Bool). b && same_values k k) (same_itself v) ∙ all_itself k

-- whether values are the same is not changed by the same values before both
pub same_after : (k s x : List KeyValue) → same_values (k ++ s) (k ++ x) ≡ same_values s x
same_after [] s x = refl
same_after (v ∷ k) s x = ap (λ (b : Bool). b && same_values (k ++ s) (k ++ x)) (same_itself v) ∙ same_after k s x

-- the images of two lists of keys are those of the first and then those of the second
pub map_more : (f : Key → KeyValue) (d e : List Key) → map f (d ++ e) ≡ map f d ++ map f e
map_more f [] e = refl
map_more f (k ∷ d) e = ap (λ (z : List KeyValue). f k ∷ z) (map_more f d e)

-- bindings with the same values of the keys' variables have the same to compare
pub values_alike : (docs : Documents) (keys : List Key) (a b : TolledRow) → ((v : ℕ) → has_var keys v ≡ true → tolled_value a v ≡ tolled_value b v) → key_values docs keys a ≡ key_values docs keys b
values_alike docs [] a b h = refl
values_alike docs (k ∷ keys) a b h =
    let e : key_value docs (row_node a) k ≡ key_value docs (row_node b) k = one_same k (ap source_node (h (key_var k) (itself k))) in
    let r : map (key_value docs (row_node a)) keys ≡ map (key_value docs (row_node b)) keys = values_alike docs keys a b (λ v t. h v (later v t)) in
    rw (e, r) refl
  where
    one_same : (k : Key) → row_node a (key_var k) ≡ row_node b (key_var k) → key_value docs (row_node a) k ≡ key_value docs (row_node b) k
    one_same (node_key v) e = ap by_node e
    one_same (label_key v) e = ap (λ (n : Node). by_label (label_at docs n)) e

    eq_itself : (n : ℕ) → (n == n) ≡ true
    eq_itself n = grind (arith, nat_tests)

    itself : (k : Key) → has_var (k ∷ keys) (key_var k) ≡ true
    itself k = rw eq_itself refl

    later : (u : ℕ) → has_var keys u ≡ true → has_var (k ∷ keys) u ≡ true
    later u t = elim (key_var k == u) as (λ w. (w || has_var keys u) ≡ true) [ true ↦ refl | false ↦ t ]

-- KEYS THAT COVER OTHERS

-- a key that gives another agrees in it
one_given : (docs : Documents) (f k : Key) (a b : ℕ → Node) → gives f k ≡ true → same_value (key_value docs a f) (key_value docs b f) ≡ true → same_value (key_value docs a k) (key_value docs b k) ≡ true
one_given docs (node_key w) (node_key v) a b g s = subst (λ (z : ℕ). same_node (a z) (b z) ≡ true) (eqb-true w v g) s
one_given docs (node_key w) (label_key v) a b g s =
    let n : a w ≡ b w = same_node-true (a w) (b w) s in
    subst (λ (z : ℕ). bytes_eq (label_at docs (a z)) (label_at docs (b z)) ≡ true) (eqb-true w v g)
    (ap (λ (z : Node). bytes_eq (label_at docs (a w)) (label_at docs z)) (sym n) ∙ bytes_eq-refl (label_at docs (a w)))
one_given docs (label_key w) (node_key v) a b g s = cc
one_given docs (label_key w) (label_key v) a b g s = subst (λ (z : ℕ). bytes_eq (label_at docs (a z)) (label_at docs (b z)) ≡ true) (eqb-true w v g) s

-- where nodes agree by keys, they agree by each key that one of them gives
some_given : (docs : Documents) (keys : List Key) (k : Key) (a b : ℕ → Node) → stands keys k ≡ true → same_values (map (key_value docs a) keys) (map (key_value docs b) keys) ≡ true
    → same_value (key_value docs a k) (key_value docs b k) ≡ true
some_given docs [] k a b g s = cc
some_given docs (f ∷ keys) k a b g s =
    let p = and_parts (same_value (key_value docs a f) (key_value docs b f)) (same_values (map (key_value docs a) keys) (map (key_value docs b) keys)) s in
    (elim (gives f k) as (λ w. gives f k ≡ w → (w || stands keys k) ≡ true → same_value (key_value docs a k) (key_value docs b k) ≡ true) [
      | true ↦ λ e h. one_given docs f k a b e p.0
      | false ↦ λ e h. some_given docs keys k a b h p.1
    ]) refl g

-- what agrees by keys agrees by those that they cover
pub covered_same : (docs : Documents) (keys others : List Key) (a b : ℕ → Node) → covers keys others ≡ true → same_values (map (key_value docs a) keys) (map (key_value docs b) keys) ≡ true
    → same_values (map (key_value docs a) others) (map (key_value docs b) others) ≡ true
covered_same docs keys [] a b c s = refl
covered_same docs keys (k ∷ others) a b c s =
    let p = and_parts (stands keys k) (covers keys others) c in
    and_from (same_value (key_value docs a k) (key_value docs b k)) (same_values (map (key_value docs a) others) (map (key_value docs b) others))
    (some_given docs keys k a b p.0 s) (covered_same docs keys others a b p.1 s)

-- what differs by keys differs by those that cover them
pub covered_differ : (docs : Documents) (keys others : List Key) → covers keys others ≡ true → (a b : TolledRow) → Differ docs others a b → Differ docs keys a b
covered_differ docs keys others c a b d =
    (elim (same_values (key_values docs keys a) (key_values docs keys b)) as (λ w. same_values (key_values docs keys a) (key_values docs keys b) ≡ w → w ≡ false) [
      | true ↦ λ e. (let t : true ≡ false = sym (covered_same docs keys others (row_node a) (row_node b) c e) ∙ d in t)
      | false ↦ λ e. refl
    ]) refl

-- THE FRONT THAT KEYS SHARE

-- the first variables that keys share with a front are a prefix of it
pub shared_front : (keys : List Key) (vars : List ℕ) → (more : List ℕ) × (shared keys vars ++ more ≡ vars)
shared_front keys [] = ([], refl)
shared_front keys (v ∷ vs) =
    let r = shared_front keys vs in
    elim (list_any (key_eq (node_key v)) keys) as (λ w. (more : List ℕ) × (cond w (v ∷ shared keys vs) [] ++ more ≡ v ∷ vs)) [
      | true ↦ (r.0, ap (λ (z : List ℕ). v ∷ z) r.1)
      | false ↦ (v ∷ vs, refl)
    ]

-- the first of a list are the first of a longer one
pub take_prefix : (j : ℕ) (xs more : List ℕ) → j ≤ length xs → take j (xs ++ more) ≡ take j xs
take_prefix zero xs more h = refl
take_prefix (suc j) [] more h = absurd (omega (arith, h))
take_prefix (suc j) (x ∷ xs) more h = ap (λ (z : List ℕ). x ∷ z) (take_prefix j xs more (omega (arith, h)))

-- a list is no longer than one that goes on
pub length_front : (xs more : List ℕ) → length xs ≤ length (xs ++ more)
length_front [] more = omega arith
length_front (x ∷ xs) more = (let h = length_front xs more in omega (arith, h))

-- a key gives the key that is equal to it
eq_gives : (k f : Key) → key_eq k f ≡ true → gives f k ≡ true
eq_gives (node_key v) (node_key w) h = grind (arith, nat_tests, h)
eq_gives (node_key v) (label_key w) h = cc
eq_gives (label_key v) (node_key w) h = cc
eq_gives (label_key v) (label_key w) h = grind (arith, nat_tests, h)

-- a key among keys stands in force
any_gives : (keys : List Key) (k : Key) → list_any (key_eq k) keys ≡ true → stands keys k ≡ true
any_gives [] k h = h
any_gives (f ∷ keys) k h =
    (elim (key_eq k f) as (λ w. key_eq k f ≡ w → (w || list_any (key_eq k) keys) ≡ true → (gives f k || stands keys k) ≡ true) [
      | true ↦ λ e g. (let z = eq_gives k f e in rw z refl)
      | false ↦ λ e g. (let z = any_gives keys k g in elim (gives f k) as (λ w. (w || stands keys k) ≡ true) [ true ↦ refl | false ↦ z ])
    ]) refl h

-- keys cover the first variables that they share
pub covers_shared : (keys : List Key) (vars : List ℕ) (j : ℕ) → covers keys (node_keys (take j (shared keys vars))) ≡ true
covers_shared keys vars zero = refl
covers_shared keys [] (suc j) = refl
covers_shared keys (v ∷ vs) (suc j) =
    let rest = covers_shared keys vs j in
    (elim (list_any (key_eq (node_key v)) keys) as (λ w. list_any (key_eq (node_key v)) keys ≡ w → covers keys (node_keys (take (suc j) (cond w (v ∷ shared keys vs) []))) ≡ true) [
      | true ↦ λ e. and_from (stands keys (node_key v)) (covers keys (node_keys (take j (shared keys vs)))) (any_gives keys (node_key v) e) rest
      | false ↦ λ e. refl
    ]) refl

-- taking as many members of a list as it has gives the list
pub take_length : (xs : List ℕ) → take (length xs) xs ≡ xs
take_length [] = refl
take_length (x ∷ xs) = ap (λ (z : List ℕ). x ∷ z) (take_length xs)
