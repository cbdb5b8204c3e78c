-- Laws of keys: sameness by keys, keys in force, the variables of keys.
use Rattle.std.proofs.Common.{◌≡◌, ℕ, Bool, true, false, cond, List, [], ◌∷◌, ◌++◌, not, refl, ◌∙◌, sym, ap, inl, inr}
use Rattle.std.specs.List.{list_any, list_all}
use Rattle.std.specs.Prelude.{◌==◌, ◌&&◌, ◌||◌}
use Rattle.std.proofs.lemmas.Bool.{and_parts, and_from, or_cases, eqb-true, eq-eqb}
use Rattle.mix_base.proofs.Firsts.{IsSameness}
use Rattle.mix_tree.proofs.SameKeys.{same_node-true, bytes_eq-refl, same_by-refl, same_by-alike}
use Rattle.mix_tree.specs.Keys.{key_var, has_var, key_eq, gives, stands, collects, in_force, same_key, same_by}
use Rattle.mix_tree.specs.Nodes.{Documents, Node, label_at}
use Rattle.mix_tree.specs.declared.var.Key.{Key}
use Rattle.mix_tree.specs.declared.var.Key.TheVariants.{Node as node_key, LabelOf as label_key}
use Rattle.xmas_rule.specs.Bindings.{node_of}
use Rattle.xmas_rule.specs.Meaning.{same}

-- of three conjoined booleans it does not matter which two are joined first
pub and_assoc : (a b c : Bool) → ((a && b) && c) ≡ (a && (b && c))
and_assoc a b c = elim a as (λ a. ((a && b) && c) ≡ (a && (b && c))) [ true ↦ refl | false ↦ refl ]

-- of three disjoined booleans it does not matter which two are joined first
pub or_assoc : (a b c : Bool) → ((a || b) || c) ≡ (a || (b || c))
or_assoc a b c = elim a as (λ a. ((a || b) || c) ≡ (a || (b || c))) [ true ↦ refl | false ↦ refl ]

-- a disjunction stays the same when it is turned round
pub or_comm : (a b : Bool) → (a || b) ≡ (b || a)
or_comm a b = elim a as (λ a. (a || b) ≡ (b || a)) [ true ↦ elim b as (λ b. (true || b) ≡ (b || true)) [ true ↦ refl | false ↦ refl ] | false ↦ elim b as (λ b. (false || b) ≡ (b || false)) [ true ↦ refl | false ↦ refl ] ]

-- a boolean and true is that boolean
pub and_true : (a : Bool) → (a && true) ≡ a
and_true a = elim a as (λ a. (a && true) ≡ a) [ true ↦ refl | false ↦ refl ]

-- a boolean or false is that boolean
pub or_false : (a : Bool) → (a || false) ≡ a
or_false a = elim a as (λ a. (a || false) ≡ a) [ true ↦ refl | false ↦ refl ]

-- what follows from a is nothing to add to it
pub and_given : (a b : Bool) → (a ≡ true → b ≡ true) → (a && b) ≡ a
and_given a b h = elim a as (λ v. a ≡ v → (v && b) ≡ v) [ true ↦ λ e. h e | false ↦ λ e. refl ] refl

-- what gives a is nothing to add to it
pub or_given : (a b : Bool) → (b ≡ true → a ≡ true) → (a || b) ≡ a
or_given a b h = elim b as (λ v. b ≡ v → (a || v) ≡ a) [ true ↦ λ e. rw (h e) refl | false ↦ λ e. or_false a ] refl

-- agreeing by keys is a sameness
pub sameness : (docs : Documents) (ks : List Key) → IsSameness (same docs ks)
sameness docs ks = record {
  itself = λ x. same_by-refl docs ks (node_of x);
  alike = λ x y z h. same_by-alike docs ks (node_of x) (node_of y) (node_of z) h;
}

-- equality by keys looks at their variables alone
same_key-vars : (docs : Documents) (k : Key) (a b c d : ℕ → Node) → a (key_var k) ≡ c (key_var k) → b (key_var k) ≡ d (key_var k) → same_key docs k a b ≡ same_key docs k c d
same_key-vars docs (node_key v) a b c d e f = rw (e, f) refl
same_key-vars docs (label_key v) a b c d e f = rw (e, f) refl

-- agreeing by keys looks at the variables of the keys alone
pub same_by-vars : (docs : Documents) (ks : List Key) (a b c d : ℕ → Node) → ((v : ℕ) → has_var ks v ≡ true → a v ≡ c v) → ((v : ℕ) → has_var ks v ≡ true → b v ≡ d v) → same_by docs ks a b ≡ same_by docs ks c d
same_by-vars docs [] a b c d e f = refl
same_by-vars docs (k ∷ ks) a b c d e f =
    let here : has_var (k ∷ ks) (key_var k) ≡ true = rw (eq-eqb (key_var k) (key_var k) refl) refl in
    let there : (v : ℕ) → has_var ks v ≡ true → has_var (k ∷ ks) v ≡ true = λ v h. rw h (elim (key_var k == v) as (λ w. (w || true) ≡ true) [ true ↦ refl | false ↦ refl ]) in
    rw (same_key-vars docs k a b c d (e (key_var k) here) (f (key_var k) here), same_by-vars docs ks a b c d (λ v h. e v (there v h)) (λ v h. f v (there v h))) refl

-- two keys that are found equal are the same
key_eq-true : (k l : Key) → key_eq k l ≡ true → k ≡ l
key_eq-true (node_key v) (node_key w) h = ap node_key (eqb-true v w h)
key_eq-true (node_key v) (label_key w) h = cc
key_eq-true (label_key v) (node_key w) h = cc
key_eq-true (label_key v) (label_key w) h = ap label_key (eqb-true v w h)

-- agreeing by keys is agreeing by each of them
same_by-among : (docs : Documents) (ks : List Key) (k : Key) (a b : ℕ → Node) → list_any (key_eq k) ks ≡ true → same_by docs ks a b ≡ true → same_key docs k a b ≡ true
same_by-among docs [] k a b h e = cc
same_by-among docs (f ∷ ks) k a b h e =
    let p = and_parts (same_key docs f a b) (same_by docs ks a b) e in
    elim (or_cases (key_eq k f) (list_any (key_eq k) ks) h) [ inl q ↦ rw (key_eq-true k f q) p.0 | inr q ↦ same_by-among docs ks k a b q p.1 ]

-- agreeing by the keys of two lists is agreeing by those of each
same_by-append : (docs : Documents) (ks ls : List Key) (a b : ℕ → Node) → same_by docs (ks ++ ls) a b ≡ (same_by docs ks a b && same_by docs ls a b)
same_by-append docs [] ls a b = refl
same_by-append docs (k ∷ ks) ls a b = rw (same_by-append docs ks ls a b) (sym (and_assoc (same_key docs k a b) (same_by docs ks a b) (same_by docs ls a b)))

-- agreeing by keys and one more, which may be among them, is agreeing by them and by that one
same_by-added : (docs : Documents) (ks : List Key) (k : Key) (a b : ℕ → Node) → same_by docs (cond (list_any (key_eq k) ks) ks (ks ++ k ∷ [])) a b ≡ (same_by docs ks a b && same_key docs k a b)
same_by-added docs ks k a b =
    elim (list_any (key_eq k) ks) as (λ v. list_any (key_eq k) ks ≡ v → same_by docs (cond v ks (ks ++ k ∷ [])) a b ≡ (same_by docs ks a b && same_key docs k a b)) [
      | true ↦ λ e. sym (and_given (same_by docs ks a b) (same_key docs k a b) (same_by-among docs ks k a b e))
      | false ↦ λ e. same_by-append docs ks (k ∷ []) a b ∙ ap (λ (x : Bool). same_by docs ks a b && x) (and_true (same_key docs k a b))
    ] refl

-- agreeing by the keys in force is agreeing by those around and by the own ones
pub same_by-in_force : (docs : Documents) (ks own : List Key) (a b : ℕ → Node) → same_by docs (in_force ks own) a b ≡ (same_by docs ks a b && same_by docs own a b)
same_by-in_force docs ks [] a b = sym (and_true (same_by docs ks a b))
same_by-in_force docs ks (k ∷ own) a b =
    same_by-in_force docs (cond (list_any (key_eq k) ks) ks (ks ++ k ∷ [])) own a b
    ∙ ap (λ (x : Bool). x && same_by docs own a b) (same_by-added docs ks k a b)
    ∙ and_assoc (same_by docs ks a b) (same_key docs k a b) (same_by docs own a b)

-- a key that gives another parts at least what that parts
same_key-gives : (docs : Documents) (f k : Key) (a b : ℕ → Node) → gives f k ≡ true → same_key docs f a b ≡ true → same_key docs k a b ≡ true
same_key-gives docs (node_key w) (node_key v) a b g h = rw (← eqb-true w v g) h
same_key-gives docs (node_key w) (label_key v) a b g h =
    let e : w ≡ v = eqb-true w v g in
    let n : a w ≡ b w = same_node-true (a w) (b w) h in
    rw (← e, n) (bytes_eq-refl (label_at docs (b w)))
same_key-gives docs (label_key w) (node_key v) a b g h = cc
same_key-gives docs (label_key w) (label_key v) a b g h = rw (← eqb-true w v g) h

-- a key that stands in force parts nothing more
pub same_by-stands : (docs : Documents) (ks : List Key) (k : Key) (a b : ℕ → Node) → stands ks k ≡ true → same_by docs ks a b ≡ true → same_key docs k a b ≡ true
same_by-stands docs [] k a b h e = cc
same_by-stands docs (f ∷ ks) k a b h e =
    let p = and_parts (same_key docs f a b) (same_by docs ks a b) e in
    elim (or_cases (gives f k) (stands ks k) h) [ inl q ↦ same_key-gives docs f k a b q p.0 | inr q ↦ same_by-stands docs ks k a b q p.1 ]

-- tuples that agree by the keys in force agree by keys that all stand
same_by-all_stand : (docs : Documents) (ks own : List Key) (a b : ℕ → Node) → list_all (stands ks) own ≡ true → same_by docs ks a b ≡ true → same_by docs own a b ≡ true
same_by-all_stand docs ks [] a b h e = refl
same_by-all_stand docs ks (k ∷ own) a b h e =
    let p = and_parts (stands ks k) (list_all (stands ks) own) h in
    and_from (same_key docs k a b) (same_by docs own a b) (same_by-stands docs ks k a b p.0 e) (same_by-all_stand docs ks own a b p.1 e)

-- what does not collect has keys that all stand
all_stand : (ks own : List Key) → collects ks own ≡ false → list_all (stands ks) own ≡ true
all_stand ks own h = elim (list_all (stands ks) own) as (λ v. not v ≡ false → v ≡ true) [ true ↦ λ e. refl | false ↦ λ e. cc ] h

-- an item that doesn't collect puts nothing new in force
pub same_by-collects_not : (docs : Documents) (ks own : List Key) (a b : ℕ → Node) → collects ks own ≡ false → same_by docs (in_force ks own) a b ≡ same_by docs ks a b
same_by-collects_not docs ks own a b h =
    same_by-in_force docs ks own a b ∙ and_given (same_by docs ks a b) (same_by docs own a b) (same_by-all_stand docs ks own a b (all_stand ks own h))

-- a variable is that of one of the keys of two lists where it is so of either
has_var-append : (ks ls : List Key) (v : ℕ) → has_var (ks ++ ls) v ≡ (has_var ks v || has_var ls v)
has_var-append [] ls v = refl
has_var-append (k ∷ ks) ls v = rw (has_var-append ks ls v) (sym (or_assoc (key_var k == v) (has_var ks v) (has_var ls v)))

-- where a key is found among keys, its variable is that of one of them
has_var-among : (ks : List Key) (k : Key) (v : ℕ) → list_any (key_eq k) ks ≡ true → (key_var k == v) ≡ true → has_var ks v ≡ true
has_var-among [] k v h e = cc
has_var-among (f ∷ ks) k v h e =
    elim (or_cases (key_eq k f) (list_any (key_eq k) ks) h) [
      | inl q ↦ (let d : (key_var f == v) ≡ true = rw (key_eq-true k f q) at e in rw d refl)
      | inr q ↦ rw (has_var-among ks k v q e) (elim (key_var f == v) as (λ w. (w || true) ≡ true) [ true ↦ refl | false ↦ refl ])
    ]

-- a variable is that of a key of a list with one more where it is so of the list or of that one
has_var-added : (ks : List Key) (k : Key) (v : ℕ) → has_var (cond (list_any (key_eq k) ks) ks (ks ++ k ∷ [])) v ≡ (has_var ks v || (key_var k == v))
has_var-added ks k v =
    elim (list_any (key_eq k) ks) as (λ w. list_any (key_eq k) ks ≡ w → has_var (cond w ks (ks ++ k ∷ [])) v ≡ (has_var ks v || (key_var k == v))) [
      | true ↦ λ e. sym (or_given (has_var ks v) (key_var k == v) (has_var-among ks k v e))
      | false ↦ λ e. has_var-append ks (k ∷ []) v ∙ ap (λ (x : Bool). has_var ks v || x) (or_false (key_var k == v))
    ] refl

-- a variable in force is one of those around or an own one
pub has_var-in_force : (ks own : List Key) (v : ℕ) → has_var (in_force ks own) v ≡ (has_var ks v || has_var own v)
has_var-in_force ks [] v = sym (or_false (has_var ks v))
has_var-in_force ks (k ∷ own) v =
    has_var-in_force (cond (list_any (key_eq k) ks) ks (ks ++ k ∷ [])) own v
    ∙ ap (λ (x : Bool). x || has_var own v) (has_var-added ks k v)
    ∙ or_assoc (has_var ks v) (key_var k == v) (has_var own v)

-- a key gives keys of its variable alone
gives-var : (f k : Key) → gives f k ≡ true → key_var f ≡ key_var k
gives-var (node_key w) (node_key v) h = eqb-true w v h
gives-var (node_key w) (label_key v) h = eqb-true w v h
gives-var (label_key w) (node_key v) h = cc
gives-var (label_key w) (label_key v) h = eqb-true w v h

-- a key that stands is of a variable in force
pub has_var-stands : (ks : List Key) (k : Key) → stands ks k ≡ true → has_var ks (key_var k) ≡ true
has_var-stands [] k h = cc
has_var-stands (f ∷ ks) k h =
    elim (or_cases (gives f k) (stands ks k) h) [
      | inl q ↦ rw (eq-eqb (key_var f) (key_var k) (gives-var f k q)) refl
      | inr q ↦ rw (has_var-stands ks k q) (elim (key_var f == key_var k) as (λ w. (w || true) ≡ true) [ true ↦ refl | false ↦ refl ])
    ]

-- the variables of keys that all stand are in force
has_var-all_stand : (ks own : List Key) (v : ℕ) → list_all (stands ks) own ≡ true → has_var own v ≡ true → has_var ks v ≡ true
has_var-all_stand ks [] v h e = cc
has_var-all_stand ks (k ∷ own) v h e =
    let p = and_parts (stands ks k) (list_all (stands ks) own) h in
    elim (or_cases (key_var k == v) (has_var own v) e)
    [ inl q ↦ (let d : key_var k ≡ v = eqb-true (key_var k) v q in rw (← d) (has_var-stands ks k p.0)) | inr q ↦ has_var-all_stand ks own v p.1 q ]

-- what does not collect puts no variable in force
pub has_var-collects_not : (ks own : List Key) (v : ℕ) → collects ks own ≡ false → has_var (in_force ks own) v ≡ has_var ks v
has_var-collects_not ks own v h = has_var-in_force ks own v ∙ or_given (has_var ks v) (has_var own v) (has_var-all_stand ks own v (all_stand ks own h))

-- a list has a key
abbrev pub HasKey : List Key → Type 0
HasKey [] = ⊥
HasKey (k ∷ ks) = Unit {0}

-- where a key is in force, one stays in force
in_force-more : (k : Key) (ks own : List Key) → HasKey (in_force (k ∷ ks) own)
in_force-more k ks [] = tt
in_force-more k ks (l ∷ own) = elim (list_any (key_eq l) (k ∷ ks)) as (λ w. HasKey (in_force (cond w (k ∷ ks) ((k ∷ ks) ++ l ∷ [])) own))
    [ true ↦ in_force-more k ks own | false ↦ in_force-more k (ks ++ l ∷ []) own ]

-- where an item collects, a key is in force
pub collects-has_key : (ks own : List Key) → collects ks own ≡ true → HasKey (in_force ks own)
collects-has_key (k ∷ ks) own h = in_force-more k ks own
collects-has_key [] [] h = cc
collects-has_key [] (k ∷ own) h = in_force-more k [] own
