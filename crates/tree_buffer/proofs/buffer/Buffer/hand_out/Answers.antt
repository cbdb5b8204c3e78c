use Rattle.std.proofs.Common.{◌≡◌, ◌⊎◌, inl, inr, List, ◌+◌, ◌<◌, [], length, get_or, set, refl, subst, sym, ap, ◌∙◌, arith}
use Rattle.std.proofs.lemmas.Bool.{cases_eq}
use Rattle.std.proofs.lemmas.List.{get_or_append_left, get_or-set_other, length-map, length-set}
use Rattle.lxp_core.specs.Open.{nil, node, weight_of}
use Rattle.lxp_core.specs.Plain.{stacked}
use Rattle.lxp_core.specs.View.{View}
use Rattle.tree_buffer.specs.Nodes.{Nodes, IsChild, IsLinked, IsLast, KeepsLists}
use Rattle.tree_buffer.specs.Sourced.{Sourced, Moved}
use Rattle.tree_buffer.specs.Entries.{nodes, list_of, entry_label}
use Rattle.tree_buffer.specs.declared.entry.Entry.{Entry}
use Rattle.tree_buffer.proofs.Columns.{column}
use Rattle.tree_buffer.proofs.Entries.{length-links, nodes-handed}
use Rattle.tree_buffer.proofs.Handed.{handed, linked_handed, child_new}
use Rattle.tree_buffer.proofs.HandedLists.{moved_handed, sourced_handed, labels_prefix}
use Rattle.tree_buffer.proofs.Calls.{sources_from}
use Rattle.tree_buffer.proofs.Refine.{moved_same}
use Rattle.tree_buffer.proofs.buffer.Buffer.hand_out.Goals.{After-index_mut-last}
use Rattle.tree_buffer.proofs.buffer.Buffer.hand_out.Goals as goal

-- the number of a node is the index of an entry
within : (es : _) (q : _) → q < length (nodes es).links → q < length es
within es q h = omega (arith, h, length-links es)

pub returns-in_err-make_room-clause-sources : goal.returns-in_err-make_room-clause-sources
returns-in_err-make_room-clause-sources c = λ v s. sources_from v _ (rw c.make_room.ensures.items s.sourced)

pub returns-in_err-make_room-clause-advances : goal.returns-in_err-make_room-clause-advances
returns-in_err-make_room-clause-advances c = λ v s. record { number = refl; moved = rw c.make_room.ensures.items (moved_same (weight_of (v.weight c.args.self.now.number)) (nodes c.args.self.now.entries.items)) }

pub returns-then-new-ge-MOST-clause-advances : goal.returns-then-new-ge-MOST-clause-advances
returns-then-new-ge-MOST-clause-advances c = λ v s. record { number = refl; moved = moved_same (weight_of (v.weight c.args.self.now.number)) (nodes c.args.self.now.entries.items) }

module _ (c : After-index_mut-last) where
  -- the node whose child is handed out has an entry
  in_es : c.args.q < length c.make_room.new.entries.items
  in_es = rw c.make_room.ensures.items (within c.args.self.now.entries.items c.args.q c.requires.spot)

  -- the new node gets the first number that no entry has
  new_is : c.len-new.result ≡ length c.make_room.new.entries.items
  new_is = omega (arith, c.len-new.ensures, c.args.self.now.entries.ok.0, ap (λ (xs : List Entry). length xs) c.make_room.ensures.items)

  -- the number of the node's children so far is read from its entry
  count_is : get_or (nodes c.make_room.new.entries.items).counts c.args.q 0 ≡ c.index_mut-entry.result.now.count
  count_is = column (λ (e : Entry). e.count) c.make_room.new.entries.items c.args.q c.index_mut-entry.result.now 0 in_es c.index_mut-entry.ensures.value

  -- the node's first child is read from its entry
  first_is : get_or (nodes c.make_room.new.entries.items).firsts c.args.q 0 ≡ c.index_mut-entry.result.now.first
  first_is = column (λ (e : Entry). e.first) c.make_room.new.entries.items c.args.q c.index_mut-entry.result.now 0 in_es c.index_mut-entry.ensures.value

  -- the node's list begins with the tree that is handed out, and the others are left
  list : get_or (nodes c.make_room.new.entries.items).rests c.args.q nil ≡ node c.pop_tree-label.result.0 (stacked c.pop_tree-label.result.1.items nil) (stacked c.pop_tree-label.new.stack.items nil)
  list =
      column list_of c.make_room.new.entries.items c.args.q c.index_mut-entry.result.now nil in_es c.index_mut-entry.ensures.value ∙ c.pop_tree-label.ensures

  -- where children of the node were handed out, the node before the new one is the last of them
  last_is : 0 < c.index_mut-entry.result.now.count → IsLast (nodes c.make_room.new.entries.items) c.args.q c.new_or-before.result
  last_is some =
      let asked = rw (← c.make_room.ensures.items) at c.requires.before in
      subst (IsLast (nodes c.make_room.new.entries.items) c.args.q) (sym (c.new_or-before.ensures.later some)) (asked (omega (arith, count_is, some)))

  -- the node before the new one has an entry, or is the new one itself
  before_in : c.new_or-before.result < length c.make_room.new.entries.items + 1
  before_in = cases (cases_eq c.index_mut-entry.result.now.count 0)
    where
      cases : (c.index_mut-entry.result.now.count ≡ 0) ⊎ (c.index_mut-entry.result.now.count ≡ 0 → ⊥) → c.new_or-before.result < length c.make_room.new.entries.items + 1
      cases (inl z) = omega (arith, c.new_or-before.ensures.first z, new_is)
      cases (inr nz) = omega (arith, (last_is (omega arith)).child.known, length-links c.make_room.new.entries.items)

  -- the node whose child is handed out is among the nodes
  in_nodes : c.args.q < length (nodes c.make_room.new.entries.items).links
  in_nodes = omega (arith, in_es, length-links c.make_room.new.entries.items)

  -- the nodes agree with one another before the new one is put in
  linked : IsLinked (nodes c.make_room.new.entries.items).links (nodes c.make_room.new.entries.items).counts (nodes c.make_room.new.entries.items).firsts (nodes c.make_room.new.entries.items).nexts
  linked = subst (λ (xs : List Entry). IsLinked (nodes xs).links (nodes xs).counts (nodes xs).firsts (nodes xs).nexts) (sym c.make_room.ensures.items) c.args.self.now.linked

  -- the nodes after the tree at the front of the list was handed out
  after : Nodes
  after = handed (nodes c.make_room.new.entries.items) c.args.q c.new_or-first.result c.new_or-before.result c.pop_tree-label.result.0 (stacked c.pop_tree-label.result.1.items nil) (stacked c.pop_tree-label.new.stack.items nil)

  -- the entries that were written are those of the nodes after the handing out
  made : nodes (set c.push_reserved.new.self.items c.new_or-before.result (record c.index_mut-last.result.now { next = c.len-new.result })) ≡ after
  unfolding after
  made =
      let whole = c.push_reserved.ensures.items in
      let read = rw whole at c.index_mut-last.ensures.value in
      ap (λ xs. nodes (set xs c.new_or-before.result (record c.index_mut-last.result.now { next = c.len-new.result }))) whole
      ∙ nodes-handed c.make_room.new.entries.items c.args.q c.index_mut-entry.result.now _ _ c.new_or-before.result c.index_mut-last.result.now _ in_es c.index_mut-entry.ensures.value
      refl refl refl refl refl refl refl refl refl refl before_in read refl refl refl refl refl refl new_is

  -- the nodes agree with one another after the handing out
  linked_after : IsLinked after.links after.counts after.firsts after.nexts
  unfolding after
  linked_after =
      linked_handed (nodes c.make_room.new.entries.items) linked c.args.q c.new_or-first.result c.new_or-before.result c.pop_tree-label.result.0 (stacked c.pop_tree-label.result.1.items nil) (stacked c.pop_tree-label.new.stack.items nil) in_nodes
      (λ z. omega (arith, c.new_or-first.ensures.first (sym count_is ∙ z), new_is, length-links c.make_room.new.entries.items))
      (λ some. c.new_or-first.ensures.later (omega (arith, some, count_is)) ∙ sym first_is)
      (λ z. omega (arith, c.new_or-before.ensures.first (sym count_is ∙ z), new_is, length-links c.make_room.new.entries.items))
      (λ some. let l = last_is (omega (arith, some, count_is)) in (l.child, l.last))

  -- nodes that are those of a source are still so after the handing out
  sourced_after : (v : View) → Sourced v c.args.self.now.number (nodes c.args.self.now.entries.items) → Sourced v c.args.self.now.number after
  unfolding after
  sourced_after v s =
      sourced_handed (nodes c.make_room.new.entries.items) linked c.args.q c.new_or-first.result c.new_or-before.result c.pop_tree-label.result.0 (stacked c.pop_tree-label.result.1.items nil) (stacked c.pop_tree-label.new.stack.items nil) in_nodes
      v c.args.self.now.number (subst (λ (xs : List Entry). Sourced v c.args.self.now.number (nodes xs)) (sym c.make_room.ensures.items) s) list

  -- after the handing out each earlier node has its place and its label, and weighs no more
  moved_after : (v : View) → Sourced v c.args.self.now.number (nodes c.args.self.now.entries.items)
      → Moved (weight_of (v.weight c.args.self.now.number)) (nodes c.args.self.now.entries.items) (weight_of (v.weight c.args.self.now.number)) after
  unfolding after
  moved_after v s =
      let s' = subst (λ (xs : List Entry). Sourced v c.args.self.now.number (nodes xs)) (sym c.make_room.ensures.items) s in
      subst (λ (xs : List Entry). Moved (weight_of (v.weight c.args.self.now.number)) (nodes xs) (weight_of (v.weight c.args.self.now.number)) after) c.make_room.ensures.items
      (moved_handed (nodes c.make_room.new.entries.items) linked c.args.q c.new_or-first.result c.new_or-before.result c.pop_tree-label.result.0 (stacked c.pop_tree-label.result.1.items nil) (stacked c.pop_tree-label.new.stack.items nil) in_nodes
      (v.weight c.args.self.now.number) s'.rests s'.labels list)

  -- the document node has no label after the handing out
  bare_after : get_or after.labels 0 [] ≡ []
  unfolding after
  bare_after =
      labels_prefix (nodes c.make_room.new.entries.items) c.pop_tree-label.result.0
      (omega (arith, length-map c.make_room.new.entries.items entry_label, in_es))
      (subst (λ (xs : List Entry). get_or (nodes xs).labels 0 [] ≡ []) (sym c.make_room.ensures.items) c.args.self.now.bare)

  -- the new node is the child of its parent at the index after the children so far
  child_after : IsChild after.links c.args.q (get_or (nodes c.args.self.now.entries.items).counts c.args.q 0) c.len-new.result
  unfolding after
  child_after =
      let new : c.len-new.result ≡ length (nodes c.make_room.new.entries.items).links = omega (arith, new_is, length-links c.make_room.new.entries.items) in
      rw (new, ← c.make_room.ensures.items)
      (child_new (nodes c.make_room.new.entries.items) linked c.args.q c.new_or-first.result c.new_or-before.result c.pop_tree-label.result.0 (stacked c.pop_tree-label.result.1.items nil) (stacked c.pop_tree-label.new.stack.items nil) in_nodes)

  -- the lists of all other nodes are as they were after the handing out
  others_after : KeepsLists c.args.q (nodes c.args.self.now.entries.items) after
  unfolding after
  others_after = λ i known other.
      let m = nodes c.make_room.new.entries.items in
      let left = stacked c.pop_tree-label.new.stack.items nil in
      let was = c.args.self.now.entries.items in
      let inside : i < length (set m.rests c.args.q left) =
      omega (arith, known, length-set m.rests c.args.q left, length-map c.make_room.new.entries.items list_of, length-links was, ap (λ (xs : List Entry). length xs) c.make_room.ensures.items) in
      get_or_append_left (set m.rests c.args.q left) _ nil i inside ∙ get_or-set_other m.rests c.args.q i left nil other
      ∙ ap (λ (xs : List Entry). get_or (nodes xs).rests i nil) c.make_room.ensures.items

pub invariant_of-self-2 : goal.invariant_of-self-2
invariant_of-self-2 c =
    let d = (goal.at.invariant_of-self-2 c).After-index_mut-last in
    record { linked = subst (λ (m : Nodes). IsLinked m.links m.counts m.firsts m.nexts) (sym (made d)) (linked_after d); bare = subst (λ (m : Nodes). get_or m.labels 0 [] ≡ []) (sym (made d)) (bare_after d) }

pub returns-clause-sources : goal.returns-clause-sources
returns-clause-sources c = λ v s.
    let d = (goal.at.returns-clause-sources c).After-index_mut-last in
    sources_from _ _ (subst (Sourced v c.args.self.now.number) (sym (made d)) (sourced_after d v s.sourced))

pub returns-clause-advances : goal.returns-clause-advances
returns-clause-advances c = λ v s.
    let d = (goal.at.returns-clause-advances c).After-index_mut-last in
    record { number = refl; moved = subst (Moved (weight_of (v.weight c.args.self.now.number)) (nodes c.args.self.now.entries.items) (weight_of (v.weight c.args.self.now.number))) (sym (made d)) (moved_after d v s.sourced) }

pub returns-clause-child : goal.returns-clause-child
returns-clause-child c =
    let d = (goal.at.returns-clause-child c).After-index_mut-last in
    subst (λ (m : Nodes). IsChild m.links c.args.q (get_or (nodes c.args.self.now.entries.items).counts c.args.q 0) c.len-new.result) (sym (made d)) (child_after d)

pub returns-in_err-make_room-clause-others : goal.returns-in_err-make_room-clause-others
returns-in_err-make_room-clause-others c = λ i known other. ap (λ xs. get_or (nodes xs).rests i nil) c.make_room.ensures.items

pub returns-clause-others : goal.returns-clause-others
returns-clause-others c = λ i known other.
    let d = (goal.at.returns-clause-others c).After-index_mut-last in
    ap (λ (m : Nodes). get_or m.rests i nil) (made d) ∙ others_after d i known other
