-- Which keys cover others: with more keys, through others, with renamed variables, and where they are in force.
use Rattle.std.proofs.Common.{◌≡◌, ℕ, ◌<◌, Bool, true, false, cond, List, [], ◌∷◌, ◌++◌, map, not, refl, ◌∙◌, sym, ap, subst, inl, inr}
use Rattle.std.specs.Prelude.{◌==◌, ◌||◌, ◌&&◌}
use Rattle.std.specs.List.{list_any}
use Rattle.std.proofs.lemmas.Bool.{and_parts, and_from, or_cases, or_left, or_right, eqb-true, eq-eqb}
use Rattle.std.proofs.lemmas.List.Folds.{list_any-append}
use Rattle.mix_tree.specs.Keys.{key_var, has_var, key_eq, gives, stands, collects, in_force}
use Rattle.mix_tree.specs.declared.var.Key.{Key}
use Rattle.mix_tree.specs.declared.var.Key.TheVariants.{Node as node_key, LabelOf as label_key}
use Rattle.xmas_rule.proofs.KeyLaws.{has_var-stands}
use Rattle.xmas_rule.specs.Items.{AreBelow}
use Rattle.plan_core.specs.Fronts.{covers}
use Rattle.plan_make.specs.Raised.{raised_key}
use Rattle.plan_make.proofs.RaisedRows.{raised-eq}

-- ONE KEY

-- a key that gives one that gives another gives that other
gives_on : (f g k : Key) → gives f g ≡ true → gives g k ≡ true → gives f k ≡ true
gives_on (node_key u) (node_key v) k h e = subst (λ (z : ℕ). (z == key_var k) ≡ true) (sym (eqb-true u v h)) e
gives_on (node_key u) (label_key v) (node_key w) h e = cc
gives_on (node_key u) (label_key v) (label_key w) h e = subst (λ (z : ℕ). (z == w) ≡ true) (sym (eqb-true u v h)) e
gives_on (label_key u) (node_key v) k h e = cc
gives_on (label_key u) (label_key v) (node_key w) h e = cc
gives_on (label_key u) (label_key v) (label_key w) h e = subst (λ (z : ℕ). (z == w) ≡ true) (sym (eqb-true u v h)) e

-- a key gives itself
gives_itself : (k : Key) → gives k k ≡ true
gives_itself (node_key v) = eq-eqb v v refl
gives_itself (label_key v) = eq-eqb v v refl

-- a key stands where one stands that gives it
pub stands_given : (keys : List Key) (g k : Key) → stands keys g ≡ true → gives g k ≡ true → stands keys k ≡ true
stands_given [] g k h e = cc
stands_given (f ∷ keys) g k h e = elim (or_cases (gives f g) (stands keys g) h) [
  | inl q ↦ or_left (gives f k) (stands keys k) (gives_on f g k q e)
  | inr q ↦ or_right (gives f k) (stands keys k) (stands_given keys g k q e)
]

-- where a variable's node stands, so does any key of the variable
pub stands_node : (keys : List Key) (k : Key) → stands keys (node_key (key_var k)) ≡ true → stands keys k ≡ true
stands_node keys k h = stands_given keys (node_key (key_var k)) k h (eq-eqb (key_var k) (key_var k) refl)

-- a key that stands among the first of two lists of keys stands among both
pub stands_left : (a b : List Key) (k : Key) → stands a k ≡ true → stands (a ++ b) k ≡ true
stands_left a b k h = list_any-append (λ f. gives f k) a b ∙ or_left (stands a k) (stands b k) h

-- a key that stands among the second of two lists of keys stands among both
pub stands_right : (a b : List Key) (k : Key) → stands b k ≡ true → stands (a ++ b) k ≡ true
stands_right a b k h = list_any-append (λ f. gives f k) a b ∙ or_right (stands a k) (stands b k) h

-- of two lists of keys among which a key stands, the first has it stand where the second has no key of its variable
pub stands_first : (a b : List Key) (k : Key) → has_var b (key_var k) ≡ false → stands (a ++ b) k ≡ true → stands a k ≡ true
stands_first a b k n h = elim (or_cases (stands a k) (stands b k) (sym (list_any-append (λ f. gives f k) a b) ∙ h)) [
  | inl q ↦ q
  | inr q ↦ (let c : true ≡ false = sym (has_var-stands b k q) ∙ n in cc)
]

-- of two lists of keys among which a key stands, the second has it stand where the first has no key of its variable
pub stands_second : (a b : List Key) (k : Key) → has_var a (key_var k) ≡ false → stands (a ++ b) k ≡ true → stands b k ≡ true
stands_second a b k n h = elim (or_cases (stands a k) (stands b k) (sym (list_any-append (λ f. gives f k) a b) ∙ h)) [
  | inl q ↦ (let c : true ≡ false = sym (has_var-stands a k q) ∙ n in cc)
  | inr q ↦ q
]

-- COVERED KEYS

-- a key that stands among covered keys stands among those that cover them
pub stands_covered : (keys others : List Key) (k : Key) → covers keys others ≡ true → stands others k ≡ true → stands keys k ≡ true
stands_covered keys [] k c h = cc
stands_covered keys (g ∷ others) k c h =
    let p = and_parts (stands keys g) (covers keys others) c in
    elim (or_cases (gives g k) (stands others k) h) [ inl q ↦ stands_given keys g k p.0 q | inr q ↦ stands_covered keys others k p.1 q ]

-- keys that cover others cover what those cover
pub covers_through : (a b c : List Key) → covers a b ≡ true → covers b c ≡ true → covers a c ≡ true
covers_through a b [] h e = refl
covers_through a b (k ∷ c) h e =
    let p = and_parts (stands b k) (covers b c) e in and_from (stands a k) (covers a c) (stands_covered a b k h p.0) (covers_through a b c h p.1)

-- keys with one more cover what they covered
covers_later : (k : Key) (keys others : List Key) → covers keys others ≡ true → covers (k ∷ keys) others ≡ true
covers_later k keys [] h = refl
covers_later k keys (g ∷ others) h =
    let p = and_parts (stands keys g) (covers keys others) h in
    and_from (stands (k ∷ keys) g) (covers (k ∷ keys) others) (or_right (gives k g) (stands keys g) p.0) (covers_later k keys others p.1)

-- keys cover themselves
pub covers_itself : (keys : List Key) → covers keys keys ≡ true
covers_itself [] = refl
covers_itself (k ∷ keys) =
    and_from (stands (k ∷ keys) k) (covers (k ∷ keys) keys) (or_left (gives k k) (stands keys k) (gives_itself k)) (covers_later k keys keys (covers_itself keys))

-- one key that stands is covered
pub covers_one : (keys : List Key) (k : Key) → stands keys k ≡ true → covers keys (k ∷ []) ≡ true
covers_one keys k h = and_from (stands keys k) true h refl

-- keys that cover two lists cover both together
pub covers_both : (keys a b : List Key) → covers keys a ≡ true → covers keys b ≡ true → covers keys (a ++ b) ≡ true
covers_both keys [] b h e = e
covers_both keys (k ∷ a) b h e =
    let p = and_parts (stands keys k) (covers keys a) h in and_from (stands keys k) (covers keys (a ++ b)) p.0 (covers_both keys a b p.1 e)

-- keys that cover two lists together cover the first
pub covers_first : (keys a b : List Key) → covers keys (a ++ b) ≡ true → covers keys a ≡ true
covers_first keys [] b h = refl
covers_first keys (k ∷ a) b h =
    let p = and_parts (stands keys k) (covers keys (a ++ b)) h in and_from (stands keys k) (covers keys a) p.0 (covers_first keys a b p.1)

-- keys and more cover what the keys cover
pub covers_left : (a b others : List Key) → covers a others ≡ true → covers (a ++ b) others ≡ true
covers_left a b [] h = refl
covers_left a b (k ∷ others) h =
    let p = and_parts (stands a k) (covers a others) h in and_from (stands (a ++ b) k) (covers (a ++ b) others) (stands_left a b k p.0) (covers_left a b others p.1)

-- a variable of covered keys is one of those that cover them
pub var_covered : (keys others : List Key) (v : ℕ) → covers keys others ≡ true → has_var others v ≡ true → has_var keys v ≡ true
var_covered keys [] v c h = cc
var_covered keys (k ∷ others) v c h =
    let p = and_parts (stands keys k) (covers keys others) c in
    elim (or_cases (key_var k == v) (has_var others v) h) [
      | inl q ↦ subst (λ (z : ℕ). has_var keys z ≡ true) (eqb-true (key_var k) v q) (has_var-stands keys k p.0)
      | inr q ↦ var_covered keys others v p.1 q
    ]

-- where the nodes of all variables below a number stand, keys of such variables are covered
pub covers_below : (held : List Key) (top : ℕ) (keys : List Key) → ((v : ℕ) → v < top → stands held (node_key v) ≡ true) → AreBelow top keys → covers held keys ≡ true
covers_below held top [] base b = refl
covers_below held top (k ∷ keys) base b =
    and_from (stands held k) (covers held keys) (stands_node held k (base (key_var k) (b (key_var k) (or_left (key_var k == key_var k) (has_var keys (key_var k)) (eq-eqb (key_var k) (key_var k) refl)))))
    (covers_below held top keys base (λ v h. b v (or_right (key_var k == v) (has_var keys v) h)))

-- RENAMED VARIABLES

-- a key with its variable renamed gives what it gave, renamed
gives_raised : (r : ℕ) (f k : Key) → gives (raised_key r f) (raised_key r k) ≡ gives f k
gives_raised r (node_key v) (node_key w) = raised-eq r v w
gives_raised r (node_key v) (label_key w) = raised-eq r v w
gives_raised r (label_key v) (node_key w) = refl
gives_raised r (label_key v) (label_key w) = raised-eq r v w

-- a renamed key stands among renamed keys where it stood among the keys
pub stands-raised : (r : ℕ) (keys : List Key) (k : Key) → stands (map (raised_key r) keys) (raised_key r k) ≡ stands keys k
stands-raised r [] k = refl
stands-raised r (f ∷ keys) k =
    ap (λ (b : Bool). b || stands (map (raised_key r) keys) (raised_key r k)) (gives_raised r f k) ∙ ap (λ (b : Bool). gives f k || b) (stands-raised r keys k)

-- renamed keys cover what they covered, renamed
pub covers-raised : (r : ℕ) (keys others : List Key) → covers (map (raised_key r) keys) (map (raised_key r) others) ≡ covers keys others
covers-raised r keys [] = refl
covers-raised r keys (k ∷ others) =
    ap (λ (b : Bool). b && covers (map (raised_key r) keys) (map (raised_key r) others)) (stands-raised r keys k) ∙ ap (λ (b : Bool). stands keys k && b) (covers-raised r keys others)

-- KEYS IN FORCE

-- the keys in force at an item cover those around it
pub in_force_covers : (force own : List Key) → covers (in_force force own) force ≡ true
in_force_covers force [] = covers_itself force
in_force_covers force (k ∷ own) =
    let more : List Key = cond (list_any (key_eq k) force) force (force ++ k ∷ []) in covers_through (in_force more own) more force (in_force_covers more own) (added (list_any (key_eq k) force))
  where
    added : (b : Bool) → covers (cond b force (force ++ k ∷ [])) force ≡ true
    added true = covers_itself force
    added false = covers_left force (k ∷ []) force (covers_itself force)

-- keys that cover those around an item and its own cover those in force at it
covers_force : (keys force own : List Key) → covers keys force ≡ true → covers keys own ≡ true → covers keys (in_force force own) ≡ true
covers_force keys force [] h e = h
covers_force keys force (k ∷ own) h e =
    let p = and_parts (stands keys k) (covers keys own) e in covers_force keys (cond (list_any (key_eq k) force) force (force ++ k ∷ [])) own (added (list_any (key_eq k) force) p.0) p.1
  where
    added : (b : Bool) → stands keys k ≡ true → covers keys (cond b force (force ++ k ∷ [])) ≡ true
    added true q = h
    added false q = covers_both keys force (k ∷ []) h (covers_one keys k q)

-- where an item doesn't collect, the keys around it cover those in force at it
pub around_covers : (force own : List Key) → collects force own ≡ false → covers force (in_force force own) ≡ true
around_covers force own h = covers_force force force own (covers_itself force) (all (covers force own) h)
  where
    all : (b : Bool) → not b ≡ false → b ≡ true
    all true e = refl
    all false e = cc
