-- What is built of a level's items uses what is held, where the keys in force are covered by it.
use Rattle.std.proofs.Common.{◌≡◌, ℕ, ◌+◌, ◌<◌, true, false, cond, List, [], ◌∷◌, ◌++◌, Option, None, Some, refl, ◌∙◌, sym, ap, subst, arith}
use Rattle.std.specs.List.{flat_map, AllByRecursion}
use Rattle.mix_base.proofs.Firsts.{each_weaker}
use Rattle.mix_tree.specs.Keys.{stands, collects, in_force}
use Rattle.mix_tree.specs.declared.var.Key.{Key}
use Rattle.mix_tree.specs.declared.var.Key.TheVariants.{Node as node_key, LabelOf as label_key}
use Rattle.xmas_rule.specs.Items.{Shown, whole, label_alone, Items, done, literal, variable, element, shown_key, AreAccepted}
use Rattle.plan_core.specs.declared.plan.Piece.{Piece}
use Rattle.plan_core.specs.declared.plan.Piece.TheVariants.{Var as var_piece}
use Rattle.plan_core.specs.Fronts.{covers}
use Rattle.plan_core.specs.Unary.{Unary, concatenate, create_element}
use Rattle.plan_core.specs.Valid.{Kind, a_node, an_element, a_list, Kinds}
use Rattle.plan_core.proofs.Chained.{kinds_after}
use Rattle.plan_evidence.specs.Held.{kind_uses, piece_uses}
use Rattle.plan_make.specs.Translation.{shown_piece, Built, add_piece, element_ops, add_element, first_list, with_list, add_list, other_lists, build}
use Rattle.plan_make.proofs.Fitting.{element_kinds, element-after, element_kinds-old, element_kinds-new}
use Rattle.plan_make.proofs.Levels.{build-next}
use Rattle.plan_uses.proofs.Keys.{stands_covered, covers_through, covers_both, covers_one, around_covers}
use Rattle.plan_uses.proofs.Trees.{held_after, AreUnaryUses, held-append, uses_append}

-- PIECES

-- what a variable of any kind shows is told by the variable's node
pub kind_covered : (keys : List Key) (v : ℕ) (k : Option Kind) → stands keys (node_key v) ≡ true → covers keys (kind_uses v k) ≡ true
kind_covered keys v None h = refl
kind_covered keys v (Some a_node) h = covers_one keys (node_key v) h
kind_covered keys v (Some an_element) h = refl
kind_covered keys v (Some a_list) h = refl

-- what an item of a variable shows is told by the key that it shows the variable by
pub shown_covered : (kinds : Kinds) (keys : List Key) (s : Shown) (v : ℕ) → stands keys (shown_key s v) ≡ true → covers keys (piece_uses kinds (shown_piece s v)) ≡ true
shown_covered kinds keys whole v h = kind_covered keys v (kinds v) h
shown_covered kinds keys label_alone v h = covers_one keys (label_key v) h

-- a list before pieces is told by no key
list_covered : (kinds : Kinds) (keys : List Key) (ls : List ℕ) (pieces : List Piece) → AllByRecursion (λ list. kinds list ≡ Some a_list) ls → covers keys (flat_map (piece_uses kinds) pieces) ≡ true
    → covers keys (flat_map (piece_uses kinds) (with_list (first_list ls) pieces)) ≡ true
list_covered kinds keys [] pieces h c = c
list_covered kinds keys (list ∷ ls) pieces h c = subst (λ (k : Option Kind). covers keys (kind_uses list k ++ flat_map (piece_uses kinds) pieces) ≡ true) (sym h.0) c

-- LISTS

-- what holds of each list holds of all but the first
others_hold : (P : ℕ → Type 0) (ls : List ℕ) → AllByRecursion P ls → AllByRecursion P (other_lists ls)
others_hold P [] h = h
others_hold P (list ∷ ls) h = h.1

-- what holds of each list that may be taken holds of those that the items of a level leave
left_hold : (P : ℕ → Type 0) (items : Items) (force : List Key) (ls : List ℕ) (n : ℕ) → AllByRecursion P ls → AllByRecursion P (build force ls items n).left
left_hold P done force ls n h = h
left_hold P (literal label rest) force ls n h = left_hold P rest force ls n h
left_hold P (variable s v own rest) force ls n h =
    let e = build force (other_lists ls) rest n in
    let f = build force ls rest n in
    elim (collects force own) as (λ w. AllByRecursion P (cond w (add_list (first_list ls) e) (add_piece (shown_piece s v) f)).left)
    [ true ↦ left_hold P rest force (other_lists ls) n (others_hold P ls h) | false ↦ left_hold P rest force ls n h ]
left_hold P (element label inside own rest) force ls n h =
    let i = build (in_force force own) ls inside n in
    let e = build force (other_lists ls) rest n in
    let f = build force i.left rest (i.next + 2) in
    elim (collects force own) as (λ w. AllByRecursion P (cond w (add_list (first_list ls) e) (add_element label i f)).left) [
      | true ↦ left_hold P rest force (other_lists ls) n (others_hold P ls h)
      | false ↦ left_hold P rest force i.left (i.next + 2) (left_hold P inside (in_force force own) ls n h)
    ]

-- the operators of a level leave older variables their kinds
build_keeps : (items : Items) (force : List Key) (ls : List ℕ) (n : ℕ) (kinds : Kinds) (v : ℕ) → v < n → kinds_after kinds (build force ls items n).ops v ≡ kinds v
build_keeps done force ls n kinds v h = refl
build_keeps (literal label rest) force ls n kinds v h = build_keeps rest force ls n kinds v h
build_keeps (variable s u own rest) force ls n kinds v h =
    let e = build force (other_lists ls) rest n in
    let f = build force ls rest n in
    elim (collects force own) as (λ w. kinds_after kinds (cond w (add_list (first_list ls) e) (add_piece (shown_piece s u) f)).ops v ≡ kinds v)
    [ true ↦ build_keeps rest force (other_lists ls) n kinds v h | false ↦ build_keeps rest force ls n kinds v h ]
build_keeps (element label inside own rest) force ls n kinds v h =
    let i = build (in_force force own) ls inside n in
    let e = build force (other_lists ls) rest n in
    let f = build force i.left rest (i.next + 2) in
    let m = build-next inside (in_force force own) ls n in
    let mid : Kinds = element_kinds i (kinds_after kinds i.ops) in
    elim (collects force own) as (λ w. kinds_after kinds (cond w (add_list (first_list ls) e) (add_element label i f)).ops v ≡ kinds v) [
      | true ↦ build_keeps rest force (other_lists ls) n kinds v h
      | false ↦ ap (λ (z : Kinds). z v) (element-after label i f.ops kinds)
          ∙ build_keeps rest force i.left (i.next + 2) mid v (omega (arith, h, m))
          ∙ element_kinds-old i (kinds_after kinds i.ops) v (omega (arith, h, m))
          ∙ build_keeps inside (in_force force own) ls n kinds v h
    ]

-- LEVELS

-- what was built of a level uses what is held: its operators do and hold it on, and its pieces do
pub record IsUsedBuilt (kinds : Kinds) (keys : List Key) (b : Built) : Type 0 where
  pub ops : AreUnaryUses kinds keys b.ops
  pub same : held_after keys b.ops ≡ keys
  pub pieces : covers keys (flat_map (piece_uses (kinds_after kinds b.ops)) b.pieces) ≡ true

-- lists that are bound below a number
abbrev pub AreListed : Kinds → ℕ → List ℕ → Type 0
AreListed kinds n ls = AllByRecursion (λ list. (kinds list ≡ Some a_list) × (list < n)) ls

-- a level with the piece of its first list uses what is held
list_used : (kinds : Kinds) (keys : List Key) (n : ℕ) (ls : List ℕ) (force : List Key) (rest : Items) → AreListed kinds n ls → IsUsedBuilt kinds keys (build force (other_lists ls) rest n)
    → IsUsedBuilt kinds keys (add_list (first_list ls) (build force (other_lists ls) rest n))
list_used kinds keys n ls force rest h r =
    let e = build force (other_lists ls) rest n in
    record {
      ops = r.ops;
      same = r.same;
      pieces = list_covered (kinds_after kinds e.ops) keys ls e.pieces
          (each_weaker (λ list. (kinds list ≡ Some a_list) × (list < n)) (λ list. kinds_after kinds e.ops list ≡ Some a_list) (λ list p. build_keeps rest force (other_lists ls) n kinds list p.1 ∙ p.0) ls h) r.pieces;
    }

-- an element's operators, over what was built of its items and before others, use what is held and hold it on
pub element_used : (label : List ℕ) (i : Built) (more : List Unary) (kinds : Kinds) (keys : List Key) → IsUsedBuilt kinds keys i → AreUnaryUses (element_kinds i (kinds_after kinds i.ops)) keys more
    → AreUnaryUses kinds keys (element_ops label i more) × (held_after keys (element_ops label i more) ≡ held_after keys more)
unfolding element_kinds
element_used label i more kinds keys x r =
    let own : List Unary = concatenate i.pieces i.next ∷ create_element label i.next (i.next + 1) ∷ more in (
      uses_append i.ops own kinds keys x.ops (subst (λ (z : List Key). AreUnaryUses (kinds_after kinds i.ops) z own) (sym x.same) (x.pieces, (refl, r))),
      held-append i.ops own keys ∙ ap (λ (z : List Key). held_after z more) x.same,
    )

-- what is built of accepted items uses what is held, where that covers the keys in force
pub build_used : (top : ℕ) (items : Items) (force : List Key) (ls : List ℕ) (n : ℕ) (kinds : Kinds) (keys : List Key) → AreAccepted top force items → covers keys force ≡ true → AreListed kinds n ls
    → IsUsedBuilt kinds keys (build force ls items n)
build_used top done force ls n kinds keys a c h = record { ops = tt; same = refl; pieces = refl }
build_used top (literal label rest) force ls n kinds keys a c h =
    let r = build_used top rest force ls n kinds keys a c h in record { ops = r.ops; same = r.same; pieces = r.pieces }
build_used top (variable s v own rest) force ls n kinds keys a c h =
    let e = build force (other_lists ls) rest n in
    let f = build force ls rest n in
    elim (collects force own) as (λ w. collects force own ≡ w → IsUsedBuilt kinds keys (cond w (add_list (first_list ls) e) (add_piece (shown_piece s v) f))) [
      | true ↦ λ d. list_used kinds keys n ls force rest h (build_used top rest force (other_lists ls) n kinds keys a.2 c (others_hold (λ list. (kinds list ≡ Some a_list) × (list < n)) ls h))
      | false ↦ λ d.
          (let r = build_used top rest force ls n kinds keys a.2 c h in
          let inner = covers_through keys force (in_force force own) c (around_covers force own d) in
          let shown = shown_covered (kinds_after kinds f.ops) keys s v (stands_covered keys (in_force force own) (shown_key s v) inner a.0) in
          record {
            ops = r.ops;
            same = r.same;
            pieces = covers_both keys (piece_uses (kinds_after kinds f.ops) (shown_piece s v)) (flat_map (piece_uses (kinds_after kinds f.ops)) f.pieces) shown r.pieces;
          })
    ] refl
build_used top (element label inside own rest) force ls n kinds keys a c h =
    let P : ℕ → Type 0 = λ list. (kinds list ≡ Some a_list) × (list < n) in
    let i = build (in_force force own) ls inside n in
    let e = build force (other_lists ls) rest n in
    let f = build force i.left rest (i.next + 2) in
    let m = build-next inside (in_force force own) ls n in
    let mid : Kinds = element_kinds i (kinds_after kinds i.ops) in
    elim (collects force own) as (λ w. collects force own ≡ w → IsUsedBuilt kinds keys (cond w (add_list (first_list ls) e) (add_element label i f))) [
      | true ↦ λ d. list_used kinds keys n ls force rest h (build_used top rest force (other_lists ls) n kinds keys a.2 c (others_hold P ls h))
      | false ↦ λ d.
          (let x = build_used top inside (in_force force own) ls n kinds keys a.1 (covers_through keys force (in_force force own) c (around_covers force own d)) h in
          let old : (v : ℕ) → v < n → mid v ≡ kinds v = λ v l. element_kinds-old i (kinds_after kinds i.ops) v (omega (arith, l, m)) ∙ build_keeps inside (in_force force own) ls n kinds v l in
          let left : AreListed mid (i.next + 2) i.left =
          each_weaker P (λ list. (mid list ≡ Some a_list) × (list < i.next + 2)) (λ list p. (old list p.1 ∙ p.0, (let t = p.1 in omega (arith, t, m)))) i.left (left_hold P inside (in_force force own) ls n h) in
          let r = build_used top rest force i.left (i.next + 2) mid keys a.2 c left in
          let u = element_used label i f.ops kinds keys x r.ops in
          let end : kinds_after kinds (element_ops label i f.ops) ≡ kinds_after mid f.ops = element-after label i f.ops kinds in
          let made : kinds_after mid f.ops (i.next + 1) ≡ Some an_element =
          build_keeps rest force i.left (i.next + 2) mid (i.next + 1) (omega arith) ∙ element_kinds-new i (kinds_after kinds i.ops) in
          record {
            ops = u.0;
            same = u.1 ∙ r.same;
            pieces = subst (λ (z : Kinds). covers keys (flat_map (piece_uses z) (var_piece (i.next + 1) ∷ f.pieces)) ≡ true) (sym end)
                (subst (λ (k : Option Kind). covers keys (kind_uses (i.next + 1) k ++ flat_map (piece_uses (kinds_after mid f.ops)) f.pieces) ≡ true) (sym made) r.pieces);
          })
    ] refl
