-- The rules of lists: weights, progress, and what told sources answer.
use Rattle.std.proofs.Common.{◌≡◌, inl, inr, ℕ, zero, suc, ◌+◌, ◌<◌, ◌≤◌, Bool, true, false, List, [], ◌∷◌, ◌++◌, length, get_or, drop, drop-cons, refl, ap, subst, sym, ◌∙◌, arith}
use Rattle.std.specs.Prelude.{Contains, Some, None, Option, ◌||◌, ◌==◌, ◌^◌}
use Rattle.std.specs.Option.{SomeIff}
use Rattle.std.proofs.lemmas.Bool.{cases_lt}
use Rattle.lxp_core.specs.declared.open_tree.HoleId.{HoleId}
use Rattle.lxp_core.specs.View.{View}
use Rattle.lxp_core.specs.Open as plain_open
use Rattle.wire_text.specs.declared.reply.WireTree.{WireTree}
use Rattle.wire_text.specs.Wired.{Wired, nil, node, hole, without_weights, with_weights, total_of, holes_of, wired_followed, count_of}
use Rattle.wire_text.specs.Plain.{put, plain}
use Rattle.lxp_wire.specs.Answer.{IsListOf}
use Rattle.lxp_remote.specs.Known.{IsChanged}
use Rattle.lxp_remote.specs.Rules.{SumsTo, ToldListsKeepRules}
use Rattle.wire_text.proofs.Trees.{put-followed, count_of-plain}

-- nodes and weights of two lists
pub total-followed : (a b : Wired) → total_of (wired_followed a b) ≡ total_of a + total_of b
total-followed nil b = omega arith
total-followed (node l k r) b = omega (arith, total-followed r b)
total-followed (hole i w r) b = omega (arith, total-followed r b)

-- the total of the trees from an index on is that of the first of them and of the others
pub total-step : (ts : List WireTree) (i : ℕ) (t : WireTree) → i < length ts → t ≡ get_or ts i t → total_of (plain (drop i ts)) ≡ total_of (put t nil) + total_of (plain (drop (i + 1) ts))
total-step ts i t h e =
    ap (λ us. total_of (plain us)) (drop-cons ts i t h ∙ ap (λ n. get_or ts i t ∷ drop n ts) (let k : suc i ≡ i + 1 = omega arith in k))
    ∙ ap (λ u. total_of (put u (plain (drop (i + 1) ts)))) (sym e) ∙ ap total_of (put-followed t (plain (drop (i + 1) ts))) ∙ total-followed (put t nil) (plain (drop (i + 1) ts))

-- a list with its weights weighs what it weighs by them
total_is : (w : HoleId → ℕ) (p : plain_open.Open) → total_of (with_weights w p) ≡ plain_open.weight_of w p
total_is w plain_open.nil = refl
total_is w (plain_open.node l k r) = omega (arith, total_is w k, total_is w r)
total_is w (plain_open.hole i r) = omega (arith, total_is w r)

-- each hole of a list with its weights has its weight
abbrev AreWeights : (HoleId → ℕ) → List (HoleId × ℕ) → Type 0
AreWeights w [] = Unit {0}
AreWeights w (e ∷ es) = (e.1 ≡ w e.0) × AreWeights w es

both_weights : (w : HoleId → ℕ) (a b : List (HoleId × ℕ)) → AreWeights w a → AreWeights w b → AreWeights w (a ++ b)
both_weights w [] b p q = q
both_weights w (e ∷ a) b p q = (p.0, both_weights w a b p.1 q)

are_weights : (w : HoleId → ℕ) (p : plain_open.Open) → AreWeights w (holes_of (with_weights w p))
are_weights w plain_open.nil = tt
are_weights w (plain_open.node l k r) = both_weights w (holes_of (with_weights w k)) (holes_of (with_weights w r)) (are_weights w k) (are_weights w r)
are_weights w (plain_open.hole i r) = (refl, are_weights w r)

first_weights : (w : HoleId → ℕ) (a b : List (HoleId × ℕ)) → AreWeights w (a ++ b) → AreWeights w a × AreWeights w b
first_weights w [] b p = (tt, p)
first_weights w (e ∷ a) b p = let rest = first_weights w a b p.1 in ((p.0, rest.0), rest.1)

member_weight : (w : HoleId → ℕ) (es : List (HoleId × ℕ)) (i : HoleId) (n : ℕ) → AreWeights w es → Contains es (i, n) → n ≡ w i
member_weight w es i n p c = at_index w es c.0 i n p c.1 c.2
  where
    at_index : (w : HoleId → ℕ) (es : List (HoleId × ℕ)) (k : ℕ) (i : HoleId) (n : ℕ) → AreWeights w es → k < length es → get_or es k (i, n) ≡ (i, n) → n ≡ w i
    at_index w [] k i n p h e = absurd (omega arith)
    at_index w (x ∷ es) zero i n p h e = sym (ap (λ y. y.1) e) ∙ p.0 ∙ ap (λ y. w y.0) e
    at_index w (x ∷ es) (suc k) i n p h e = at_index w es k i n p.1 (omega arith) e

-- each hole of a list that sources answered comes with the weight that it has there
pub hole_weight : (old new : View) (s : ℕ) (h : HoleId) (o : Wired) → IsListOf old new s h o → (i : HoleId) (n : ℕ) → Contains (holes_of o) (i, n) → n ≡ new.weight s i
hole_weight old new s h o is i n c =
    let w = new.weight s in
    member_weight w (holes_of o) i n (subst (λ q. AreWeights w (holes_of q)) (sym is.weighed) (are_weights w (without_weights o))) c

-- where all known holes and those of a list have the weights that w gives, no weight changed
unchanged : (w : HoleId → ℕ) (holes : List (HoleId × ℕ)) (known : HoleId → Option ℕ) → AreWeights w holes → ((i : HoleId) (n : ℕ) → known i ≡ Some n → n ≡ w i) → IsChanged known holes → ⊥
unchanged w holes known are agree (before, after, id, weight, other, parts, differs, cause) =
    let split = first_weights w before ((id, weight) ∷ after) (subst (AreWeights w) parts are) in
    let mine : weight ≡ w id = split.1.0 in
    let its : other ≡ w id = elim cause [ inl k ↦ agree id other k | inr m ↦ member_weight w before id other split.0 m ] in
    differs (mine ∙ sym its)

-- what told sources answer breaks no rule
pub told_keep : ToldListsKeepRules
told_keep old new s h o known is agree =
    let w = new.weight s in
    let p = without_weights o in (
      (is.answers.progress, omega (arith, ap total_of is.weighed, total_is w p, is.answers.lighter)),
      λ c. unchanged w (holes_of (with_weights w p)) known (are_weights w p) agree (subst (λ q. IsChanged known (holes_of q)) is.weighed c),
    )

-- whether a node stands in two lists
pub has_node-followed : (a b : Wired) → plain_open.has_node (without_weights (wired_followed a b)) ≡ plain_open.has_node (without_weights a) || plain_open.has_node (without_weights b)
has_node-followed nil b = refl
has_node-followed (node l k r) b = refl
has_node-followed (hole i w r) b = has_node-followed r b

-- whether one stands from an index on
pub has_node-step : (ts : List WireTree) (i : ℕ) (t : WireTree) → i < length ts → t ≡ get_or ts i t
    → plain_open.has_node (without_weights (plain (drop i ts))) ≡ plain_open.has_node (without_weights (put t nil)) || plain_open.has_node (without_weights (plain (drop (i + 1) ts)))
has_node-step ts i t h e =
    ap (λ us. plain_open.has_node (without_weights (plain us))) (drop-cons ts i t h ∙ ap (λ n. get_or ts i t ∷ drop n ts) (let k : suc i ≡ i + 1 = omega arith in k))
    ∙ ap (λ u. plain_open.has_node (without_weights (put u (plain (drop (i + 1) ts))))) (sym e) ∙ ap (λ o. plain_open.has_node (without_weights o)) (put-followed t (plain (drop (i + 1) ts)))
    ∙ has_node-followed (put t nil) (plain (drop (i + 1) ts))

-- what is not below the limit is above it
pub no_sum : (n : ℕ) → (n < 2 ^ 128 → ⊥) → 2 ^ 128 ≤ n
no_sum n h = elim (cases_lt n (2 ^ 128)) [ inl p ↦ absurd (h p) | inr p ↦ p ]

-- a checked sum
pub sums_if : (r : Option ℕ) (n t : ℕ) → SomeIff r (n < 2 ^ 128) n → n ≡ t → SumsTo r t
sums_if (Some x) n t h e = h.1 ∙ e
sums_if None n t h e = omega (arith, no_sum n h, e)

-- no two holes stand side by side, after a hole or not
pub record ApartAfter (after : Bool) (o : plain_open.Open) : Type 0 where
  pub first : after ≡ true → plain_open.begins_with_hole o ≡ false
  pub apart : plain_open.IsApart o

-- no two holes stand side by side in the whole list exactly where none do from an index on, after a hole or not
pub record SameApart (ts : List WireTree) (i : ℕ) (after : Bool) : Type 0 where
  pub there : plain_open.IsApart (without_weights (plain ts)) → ApartAfter after (without_weights (plain (drop i ts)))
  pub back : ApartAfter after (without_weights (plain (drop i ts))) → plain_open.IsApart (without_weights (plain ts))

-- from the beginning on, after no hole, the trees are the whole list
pub same_start : (ts : List WireTree) → SameApart ts 0 false
same_start ts = record { there = λ a. record { first = λ e. absurd cc; apart = a }; back = λ a. a.apart }

-- the trees from an index on, whose first is a node
pub node_at : (ts : List WireTree) (i : ℕ) (t : WireTree) (l : List ℕ) (kids : Wired) → i < length ts → t ≡ get_or ts i t → ((r : Wired) → put t r ≡ node l kids r)
    → without_weights (plain (drop i ts)) ≡ plain_open.node l (without_weights kids) (without_weights (plain (drop (i + 1) ts)))
node_at ts i t l kids h e is =
    ap (λ us. without_weights (plain us)) (drop-cons ts i t h ∙ ap (λ n. get_or ts i t ∷ drop n ts) (let k : suc i ≡ i + 1 = omega arith in k))
    ∙ ap (λ u. without_weights (put u (plain (drop (i + 1) ts)))) (sym e) ∙ ap without_weights (is (plain (drop (i + 1) ts)))

-- or a hole
pub hole_at_index : (ts : List WireTree) (i : ℕ) (t : WireTree) (id : HoleId) (w : ℕ) → i < length ts → t ≡ get_or ts i t → ((r : Wired) → put t r ≡ hole id w r)
    → without_weights (plain (drop i ts)) ≡ plain_open.hole id (without_weights (plain (drop (i + 1) ts)))
hole_at_index ts i t id w h e is =
    ap (λ us. without_weights (plain us)) (drop-cons ts i t h ∙ ap (λ n. get_or ts i t ∷ drop n ts) (let k : suc i ≡ i + 1 = omega arith in k))
    ∙ ap (λ u. without_weights (put u (plain (drop (i + 1) ts)))) (sym e) ∙ ap without_weights (is (plain (drop (i + 1) ts)))

-- a node is passed
pub pass_node : (ts : List WireTree) (i : ℕ) (after : Bool) (l : List ℕ) (kids : Wired) → without_weights (plain (drop i ts)) ≡ plain_open.node l (without_weights kids) (without_weights (plain (drop (i + 1) ts)))
    → plain_open.IsApart (without_weights kids) → SameApart ts i after → SameApart ts (i + 1) false
pass_node ts i after l kids e inside s = record {
  there = λ a. (let x = subst (ApartAfter after) e (s.there a) in record { first = λ f. absurd cc; apart = x.apart.1 });
  back = λ x. s.back (subst (ApartAfter after) (sym e) (record { first = λ f. refl; apart = (inside, x.apart) }));
}

-- a hole after no hole is passed
pub pass_hole : (ts : List WireTree) (i : ℕ) (id : HoleId) → without_weights (plain (drop i ts)) ≡ plain_open.hole id (without_weights (plain (drop (i + 1) ts))) → SameApart ts i false → SameApart ts (i + 1) true
pass_hole ts i id e s = record {
  there = λ a. (let x = subst (ApartAfter false) e (s.there a) in record { first = λ f. x.apart.0; apart = x.apart.1 });
  back = λ x. s.back (subst (ApartAfter false) (sym e) (record { first = λ f. absurd cc; apart = (x.first refl, x.apart) }));
}

-- two holes stand side by side
pub two_holes : (ts : List WireTree) (i : ℕ) (id : HoleId) → without_weights (plain (drop i ts)) ≡ plain_open.hole id (without_weights (plain (drop (i + 1) ts))) → SameApart ts i true
    → plain_open.IsApart (without_weights (plain ts)) → ⊥
two_holes ts i id e s a = let x = subst (ApartAfter true) e (s.there a) in let f = x.first refl in cc

-- two do below a node
pub holes_below : (ts : List WireTree) (i : ℕ) (after : Bool) (l : List ℕ) (kids : Wired) → without_weights (plain (drop i ts)) ≡ plain_open.node l (without_weights kids) (without_weights (plain (drop (i + 1) ts)))
    → (plain_open.IsApart (without_weights kids) → ⊥) → SameApart ts i after → plain_open.IsApart (without_weights (plain ts)) → ⊥
holes_below ts i after l kids e inside s a = let x = subst (ApartAfter after) e (s.there a) in inside x.apart.0

-- at the end none do
pub all_apart : (ts : List WireTree) (i : ℕ) (after : Bool) → length ts ≤ i → SameApart ts i after → plain_open.IsApart (without_weights (plain ts))
all_apart ts i after h s = s.back (subst (λ us. ApartAfter after (without_weights (plain us))) (sym (drop_end ts i h)) (record { first = λ f. refl; apart = tt }))
  where
    drop_end : (ts : List WireTree) (i : ℕ) → length ts ≤ i → drop i ts ≡ []
    drop_end [] zero h = refl
    drop_end [] (suc i) h = refl
    drop_end (t ∷ ts) zero h = absurd (omega arith)
    drop_end (t ∷ ts) (suc i) h = drop_end ts i (omega arith)

-- a list that has trees isn't empty
pub not_nil : (ts : List WireTree) → 0 < length ts → plain_open.is_nil (without_weights (plain ts)) ≡ false
not_nil ts h = go (plain ts) (omega (arith, h, count_of-plain ts))
  where
    go : (o : Wired) → 0 < count_of o → plain_open.is_nil (without_weights o) ≡ false
    go nil h = absurd (omega arith)
    go (node l k r) h = refl
    go (hole i w r) h = refl

-- a list that is not empty has trees
pub some_trees : (ts : List WireTree) → false ≡ (length ts == 0) → 0 < length ts
some_trees [] e = absurd cc
some_trees (t ∷ ts) e = omega arith
