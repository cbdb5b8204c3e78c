use Rattle.std.proofs.Common.{◌≡◌, ℕ, List, ◌+◌, ◌<◌, ◌≤◌, ◌∷◌, [], ◌++◌, Some, false, length, get_or, refl, sym, ap, ◌∙◌, arith}
use Rattle.mix_tree.specs.Place.{next_place}
use Rattle.lxp_core.specs.View.{Keeps}
use Rattle.lxp_core.specs.Open.{nil, begins_with_hole}
use Rattle.tree_buffer.specs.declared.buffer.Buffer.{Buffer}
use Rattle.tree_buffer.specs.declared.spot.Spot.{Spot}
use Rattle.tree_buffer.specs.Entries.{nodes}
use Rattle.tree_buffer.specs.Nodes.{place, IsChild, KeepsLists}
use Rattle.tree_buffer.specs.Buffer.{nodes_of, weigh, below, after as after_spot, IsSpot, place_of, IsChildSpot, IsNextSpot, HasAllSiblings, ChangesOnly, IsSourcesOf}
use Rattle.tree_buffer.specs.Advance.{Advances}
use Rattle.tree_buffer.proofs.Entries.{length-links}
use Rattle.tree_buffer.proofs.Spots.{is_some_from, if_some_from, child_place, child_lighter, child_told, next_child, count_read, up, next_is, right_is, after_is, own_place, is_last, link_read, child_at, child_counted}
use Rattle.tree_buffer.proofs.Calls.{advances_twice, ran_from}
use Rattle.tree_buffer.proofs.Exact.{exact_child, exact_none, less_child, right_trees, next_spot, none_from}
use Rattle.tree_buffer.proofs.Laws.{ran_same}
use Rattle.tree_buffer.proofs.buffer.Buffer.right.Goals.{Else-p-eq0, Then-entry-index, Else-entry-index, In_ok-hand_out}
use Rattle.tree_buffer.proofs.buffer.Buffer.right.Goals as goal

-- a number other than 0 is greater
some : (p : ℕ) → (p ≡ 0 → ⊥) → 0 < p
some p h = omega arith

pub index-requires : goal.index-requires
index-requires g c =
    omega (
      arith,
      c.args.self.now.entries.ok.0,
      length-links c.args.self.now.entries.items,
      up c.args.self.now.entries.items c.args.p.now.number c.index-entry.result.now c.args.self.now.linked (some _ c.if-p-eq0.false) c.requires.spot c.index-entry.ensures,
    )

-- where a next sibling was handed out, the number noted as the next is that of the parent's child at the next index
next : (g : _) (c : Then-entry-index g) → IsChild (nodes_of c.args.self.now).links c.index-entry.result.now.parent (c.index-entry.result.now.index + 1) c.index-entry.result.now.next
next g c =
    next_child c.args.self.now.entries.items c.args.p.now.number c.index-entry.result.now c.index.result.now c.args.self.now.linked (some _ c.if-p-eq0.false) c.requires.spot c.index-entry.ensures c.index.ensures c.if-entry-index.true

pub returns-then-entry-index-clause-next : goal.returns-then-entry-index-clause-next
returns-then-entry-index-clause-next g c =
    let d = (goal.at.returns-then-entry-index-clause-next g c).Then-entry-index in
    next_spot c.args.self.now c.args.p.now (record { number = c.index-entry.result.now.next }) (next g d).known
    (ap Some (child_place (nodes_of c.args.self.now) c.args.self.now.linked _ _ _ (next g d))
    ∙ sym (next_is c.args.self.now.entries.items c.args.p.now.number c.index-entry.result.now c.args.self.now.linked (some _ c.if-p-eq0.false) c.requires.spot c.index-entry.ensures))

pub returns-then-entry-index-clause-exact : goal.returns-then-entry-index-clause-exact
returns-then-entry-index-clause-exact g c = λ told.
    let d = (goal.at.returns-then-entry-index-clause-exact g c).Then-entry-index in
    sym (right_is c.args.self.now.entries.items c.args.p.now.number c.index-entry.result.now c.args.self.now.linked (some _ c.if-p-eq0.false) c.requires.spot c.index-entry.ensures _
    ∙ child_told (nodes_of c.args.self.now) c.args.self.now.linked _ _ _ _ _ c.requires.sources.sourced told (next g d))

pub returns-then-entry-index-clause-trees : goal.returns-then-entry-index-clause-trees
returns-then-entry-index-clause-trees g c = λ told.
    right_trees _ c.args.self.now c.args.p.now _ refl refl (Some (record { number = c.index-entry.result.now.next })) (returns-then-entry-index-clause-next g c)
    (returns-then-entry-index-clause-exact g c told)

pub returns-then-entry-index-clause-smaller : goal.returns-then-entry-index-clause-smaller
returns-then-entry-index-clause-smaller g c =
    let d = (goal.at.returns-then-entry-index-clause-smaller g c).Then-entry-index in
    let w = weigh (g.S.Sources.view c.args.s.now) c.args.self.now in
    omega (
      arith,
      child_lighter (nodes_of c.args.self.now) c.args.self.now.linked w _ _ _ c.requires.sources.sourced.rests (next g d),
      after_is c.args.self.now.entries.items c.args.p.now.number c.index-entry.result.now c.args.self.now.linked (some _ c.if-p-eq0.false) c.requires.spot c.index-entry.ensures w,
    )

pub settle_at-requires-clause-spot : goal.settle_at-requires-clause-spot
settle_at-requires-clause-spot g c =
    up c.args.self.now.entries.items c.args.p.now.number c.index-entry.result.now c.args.self.now.linked (some _ c.if-p-eq0.false) c.requires.spot c.index-entry.ensures

pub hand_out-requires-clause-spot : goal.hand_out-requires-clause-spot
hand_out-requires-clause-spot g c =
    rw c.settle_at.ensures.links (up c.args.self.now.entries.items c.args.p.now.number c.index-entry.result.now c.args.self.now.linked (some _ c.if-p-eq0.false) c.requires.spot c.index-entry.ensures)

pub hand_out-requires-clause-before : goal.hand_out-requires-clause-before
hand_out-requires-clause-before g c = λ more.
    let last = is_last c.args.self.now.entries.items c.args.p.now.number c.index-entry.result.now c.args.self.now.linked (some _ c.if-p-eq0.false) c.requires.spot c.index-entry.ensures c.index.result.now c.index.ensures c.if-entry-index.false in
    record {
      child = rw c.settle_at.ensures.links last.child;
      last = rw (c.settle_at.ensures.links, c.settle_at.ensures.counts) last.last;
    }

pub returns-in_err-hand_out-clause-ran : goal.returns-in_err-hand_out-clause-ran
returns-in_err-hand_out-clause-ran g c =
    let first = c.settle_at.ensures.advanced in
    ran_from g.met.S.Sources.keeps c.requires.sources (record {
      came = first.came;
      sources = c.hand_out.ensures.sources _ first.sources;
      advances = advances_twice first.advances (c.hand_out.ensures.advances _ first.sources);
    })

pub returns-in_err-settle_at-clause-ran : goal.returns-in_err-settle_at-clause-ran
returns-in_err-settle_at-clause-ran g c = ran_from g.met.S.Sources.keeps c.requires.sources c.settle_at.ensures.advanced

module _ (g : _) (c : In_ok-hand_out g) where
  -- what every call keeps of the sources was kept by the fills
  came : Keeps (g.S.Sources.view c.args.s.now) (g.S.Sources.view c.settle_at.new.s)
  came = g.met.S.Sources.keeps _ _ c.settle_at.ensures.advanced.came

  -- the parent of the node is among the nodes
  parent_in : c.index-entry.result.now.parent < length (nodes_of c.args.self.now).links
  parent_in = up c.args.self.now.entries.items c.args.p.now.number c.index-entry.result.now c.args.self.now.linked (some _ c.if-p-eq0.false) c.requires.spot c.index-entry.ensures

  -- after the fills as many children of the parent are handed out as the index of the node and one
  so_far : get_or (nodes_of c.settle_at.new.self).counts c.index-entry.result.now.parent 0 ≡ c.index-entry.result.now.index + 1
  so_far =
      let last = is_last c.args.self.now.entries.items c.args.p.now.number c.index-entry.result.now c.args.self.now.linked (some _ c.if-p-eq0.false) c.requires.spot c.index-entry.ensures c.index.result.now c.index.ensures c.if-entry-index.false in
      ap (λ cs. get_or cs c.index-entry.result.now.parent 0) c.settle_at.ensures.counts
      ∙ omega (arith, last.last, (link_read c.args.self.now.entries.items c.args.p.now.number c.index-entry.result.now c.requires.spot c.index-entry.ensures).1)

  -- after a sibling was handed out, the sources are still those of the buffer
  after : IsSourcesOf (g.S.Sources.view c.settle_at.new.s) c.hand_out.new.self
  after = c.hand_out.ensures.sources _ c.settle_at.ensures.advanced.sources

  -- from before the fills to after the handing out the buffer goes on
  both : Advances (g.S.Sources.view c.args.s.now) c.args.self.now (g.S.Sources.view c.settle_at.new.s) c.hand_out.new.self
  both = advances_twice c.settle_at.ensures.advanced.advances (c.hand_out.ensures.advances _ c.settle_at.ensures.advanced.sources)

pub returns-clause-ran : goal.returns-clause-ran
returns-clause-ran g c = ran_from g.met.S.Sources.keeps c.requires.sources (record { came = c.settle_at.ensures.advanced.came; sources = after g c; advances = both g c })

pub returns-clause-next : goal.returns-clause-next
returns-clause-next g c =
    if_some_from c.in_ok-hand_out.field-0 _ _ (IsNextSpot c.hand_out.new.self c.args.p.now) c.in_ok-hand_out.ensures.child (λ x h.
    next_spot c.hand_out.new.self c.args.p.now x h.known
    (ap Some (child_place (nodes_of c.hand_out.new.self) c.hand_out.new.self.linked _ _ _ h
    ∙ ap (λ k. place (nodes_of c.hand_out.new.self).links c.index-entry.result.now.parent ++ k ∷ []) (so_far g c)
    ∙ ap (λ r. r ++ (c.index-entry.result.now.index + 1) ∷ []) ((both g c).moved.places c.index-entry.result.now.parent (parent_in g c)))
    ∙ sym (next_is c.args.self.now.entries.items c.args.p.now.number c.index-entry.result.now c.args.self.now.linked (some _ c.if-p-eq0.false) c.requires.spot c.index-entry.ensures)
    ∙ ap next_place (sym ((both g c).moved.places c.args.p.now.number c.requires.spot))))

pub returns-clause-exact : goal.returns-clause-exact
returns-clause-exact g c = λ told.
    is_some_from _ _ _ _ c.in_ok-hand_out.ensures.child
    (λ empty. exact_none (came g c) c.requires.sources c.settle_at.ensures.advanced.sources c.settle_at.ensures.advanced.advances c.index-entry.result.now.parent _ (parent_in g c) (so_far g c) empty told)
    (λ x h. exact_child (came g c) c.requires.sources (after g c) (both g c) c.index-entry.result.now.parent _ (parent_in g c) x.number (rw (so_far g c) at h) told)
    ∙ sym (right_is c.args.self.now.entries.items c.args.p.now.number c.index-entry.result.now c.args.self.now.linked (some _ c.if-p-eq0.false) c.requires.spot c.index-entry.ensures _)

pub returns-clause-trees : goal.returns-clause-trees
returns-clause-trees g c = λ told.
    right_trees _ c.hand_out.new.self c.args.p.now _ refl ((both g c).moved.places c.args.p.now.number c.requires.spot) c.in_ok-hand_out.field-0 (returns-clause-next g c)
    (returns-clause-exact g c told)

pub returns-clause-none : goal.returns-clause-none
returns-clause-none g c = λ none u k within own.
    let m = nodes_of c.hand_out.new.self in
    let es = c.args.self.now.entries.items in
    let child = child_at m c.hand_out.new.self.linked u.number k c.args.p.now.number within own.spot own.place in
    let up_is : c.index-entry.result.now.parent ≡ u.number =
    sym (link_read es c.args.p.now.number c.index-entry.result.now c.requires.spot c.index-entry.ensures).0
    ∙ ap (λ (l : ℕ × ℕ). l.0) (sym ((both g c).moved.links c.args.p.now.number c.requires.spot)) ∙ child.parent in
    let empty = none_from c.in_ok-hand_out.field-0 _ _ c.in_ok-hand_out.ensures.child none in
    ap (λ i. get_or (nodes_of c.hand_out.new.self).rests i nil) (sym up_is)
    ∙ ap (λ b. get_or (nodes_of b).rests c.index-entry.result.now.parent nil) (c.in_ok-hand_out.ensures.none none) ∙ empty

pub returns-clause-smaller : goal.returns-clause-smaller
returns-clause-smaller g c =
    let v = g.S.Sources.view c.args.s.now in
    let v' = g.S.Sources.view c.settle_at.new.s in
    let b = c.args.self.now in
    let b' = c.hand_out.new.self in
    if_some_from c.in_ok-hand_out.field-0 _ _ (λ q. 1 + below v' b' q + after_spot v' b' q ≤ after_spot v b c.args.p.now) c.in_ok-hand_out.ensures.child (λ x h.
    omega (
      arith,
      less_child (came g c) c.requires.sources (after g c) (both g c) c.index-entry.result.now.parent (c.index-entry.result.now.index + 1) (parent_in g c) x (rw (so_far g c) at h),
      after_is b.entries.items c.args.p.now.number c.index-entry.result.now b.linked (some _ c.if-p-eq0.false) c.requires.spot c.index-entry.ensures (weigh v b),
    ))

pub returns-then-entry-index-clause-ran : goal.returns-then-entry-index-clause-ran
returns-then-entry-index-clause-ran g c = ran_same g.met.S.Sources.same _ _ c.requires.sources

-- a next sibling that was handed out is found
not_known : (g : _) (c : Else-entry-index g) (x : Spot) → IsNextSpot c.args.self.now c.args.p.now x → ⊥
not_known g c x h =
    let m = nodes_of c.args.self.now in
    let es = c.args.self.now.entries.items in
    let e = c.index-entry.result.now in
    let pos = some _ c.if-p-eq0.false in
    let here : Some (place_of c.args.self.now x) ≡ Some (place m.links e.parent ++ (e.index + 1) ∷ []) =
    h.place ∙ next_is es c.args.p.now.number e c.args.self.now.linked pos c.requires.spot c.index-entry.ensures in
    let at : place_of c.args.self.now x ≡ place m.links e.parent ++ (e.index + 1) ∷ [] = cc in
    let inside = up es c.args.p.now.number e c.args.self.now.linked pos c.requires.spot c.index-entry.ensures in
    let child = child_at m c.args.self.now.linked e.parent (e.index + 1) x.number inside h.spot at in
    omega (
      arith,
      child_counted m c.args.self.now.linked _ _ _ child,
      count_read es e.parent c.index.result.now inside c.index.ensures,
      c.if-entry-index.false,
    )

-- where all siblings were handed out, no list is left to the parent
none_left : (g : _) (c : Else-entry-index g) → HasAllSiblings c.args.self.now c.args.p.now → begins_with_hole (get_or (nodes_of c.args.self.now).rests c.index-entry.result.now.parent nil) ≡ false
none_left g c all =
    let es = c.args.self.now.entries.items in
    let e = c.index-entry.result.now in
    let pos = some _ c.if-p-eq0.false in
    let above : Spot = record { number = e.parent } in
    ap begins_with_hole (all above e.index (up es c.args.p.now.number e c.args.self.now.linked pos c.requires.spot c.index-entry.ensures)
    (record { spot = c.requires.spot; place = own_place es c.args.p.now.number e c.args.self.now.linked pos c.requires.spot c.index-entry.ensures }))

-- the parent of a node is the one whose child it is
parent_is : (g : _) (c : Else-entry-index g) (q : Spot) (k : ℕ) → IsSpot c.args.self.now q → IsChildSpot c.args.self.now q k c.args.p.now → c.index-entry.result.now.parent ≡ q.number
parent_is g c q k spot h =
    let m = nodes_of c.args.self.now in
    let child = child_at m c.args.self.now.linked q.number k c.args.p.now.number spot c.requires.spot h.place in
    sym (link_read c.args.self.now.entries.items c.args.p.now.number c.index-entry.result.now c.requires.spot c.index-entry.ensures).0 ∙ child.parent

pub returns-in_err-settle_at-clause-known : goal.returns-in_err-settle_at-clause-known
returns-in_err-settle_at-clause-known g c = λ x h. let d = (goal.at.returns-in_err-settle_at-clause-known g c).Else-entry-index in absurd (not_known g d x h)

pub returns-in_err-settle_at-clause-whole : goal.returns-in_err-settle_at-clause-whole
returns-in_err-settle_at-clause-whole g c = λ x k spot h e.
    let d = (goal.at.returns-in_err-settle_at-clause-whole g c).Else-entry-index in
    c.settle_at.ensures.whole (ap (λ i. begins_with_hole (get_or (nodes_of c.args.self.now).rests i nil)) (parent_is g d x k spot h) ∙ e)

pub returns-in_err-hand_out-clause-known : goal.returns-in_err-hand_out-clause-known
returns-in_err-hand_out-clause-known g c = λ x h. let d = (goal.at.returns-in_err-hand_out-clause-known g c).Else-entry-index in absurd (not_known g d x h)

pub returns-in_err-hand_out-clause-whole : goal.returns-in_err-hand_out-clause-whole
returns-in_err-hand_out-clause-whole g c = λ x k spot h e.
    let d = (goal.at.returns-in_err-hand_out-clause-whole g c).Else-entry-index in
    c.settle_at.ensures.whole (ap (λ i. begins_with_hole (get_or (nodes_of c.args.self.now).rests i nil)) (parent_is g d x k spot h) ∙ e)

pub returns-clause-known : goal.returns-clause-known
returns-clause-known g c = λ x h. let d = (goal.at.returns-clause-known g c).Else-entry-index in absurd (not_known g d x h)

pub returns-clause-whole : goal.returns-clause-whole
returns-clause-whole g c = λ x k spot h e.
    let d = (goal.at.returns-clause-whole g c).Else-entry-index in
    c.settle_at.ensures.whole (ap (λ i. begins_with_hole (get_or (nodes_of c.args.self.now).rests i nil)) (parent_is g d x k spot h) ∙ e)

pub returns-in_err-settle_at-clause-again : goal.returns-in_err-settle_at-clause-again
returns-in_err-settle_at-clause-again g c = λ all. let d = (goal.at.returns-in_err-settle_at-clause-again g c).Else-entry-index in c.settle_at.ensures.whole (none_left g d all)

pub returns-in_err-hand_out-clause-again : goal.returns-in_err-hand_out-clause-again
returns-in_err-hand_out-clause-again g c = λ all. let d = (goal.at.returns-in_err-hand_out-clause-again g c).Else-entry-index in c.settle_at.ensures.whole (none_left g d all)

pub returns-clause-again : goal.returns-clause-again
returns-clause-again g c = λ all. let d = (goal.at.returns-clause-again g c).Else-entry-index in c.settle_at.ensures.whole (none_left g d all)

-- the call leaves each list but that of the parent as it was
only : (g : _) (c : Else-entry-index g) (mid now : Buffer) → (nodes_of mid).links ≡ (nodes_of c.args.self.now).links
    → KeepsLists c.index-entry.result.now.parent (nodes_of c.args.self.now) (nodes_of mid) → KeepsLists c.index-entry.result.now.parent (nodes_of mid) (nodes_of now)
    → ChangesOnly (λ q. (k : ℕ) × IsChildSpot c.args.self.now q k c.args.p.now) c.args.self.now now
only g c mid now links first second = λ x spot other.
    let es = c.args.self.now.entries.items in
    let e = c.index-entry.result.now in
    let at = own_place es c.args.p.now.number e c.args.self.now.linked (some _ c.if-p-eq0.false) c.requires.spot c.index-entry.ensures in
    let apart : ¬ (x.number ≡ e.parent) = λ same.
    other (e.index, record { spot = c.requires.spot; place = at ∙ ap (λ i. place (nodes es).links i ++ e.index ∷ []) (sym same) }) in
    second x.number (omega (arith, spot, ap (λ (ls : List (ℕ × ℕ)). length ls) links)) apart ∙ first x.number spot apart

pub returns-in_err-settle_at-clause-only : goal.returns-in_err-settle_at-clause-only
returns-in_err-settle_at-clause-only g c =
    let d = (goal.at.returns-in_err-settle_at-clause-only g c).Else-entry-index in
    only g d c.settle_at.new.self c.settle_at.new.self c.settle_at.ensures.links c.settle_at.ensures.others (λ i known other. refl)

pub returns-in_err-hand_out-clause-only : goal.returns-in_err-hand_out-clause-only
returns-in_err-hand_out-clause-only g c =
    let d = (goal.at.returns-in_err-hand_out-clause-only g c).Else-entry-index in
    only g d c.settle_at.new.self c.hand_out.new.self c.settle_at.ensures.links c.settle_at.ensures.others c.hand_out.ensures.others

pub returns-clause-only : goal.returns-clause-only
returns-clause-only g c =
    let d = (goal.at.returns-clause-only g c).Else-entry-index in
    only g d c.settle_at.new.self c.hand_out.new.self c.settle_at.ensures.links c.settle_at.ensures.others c.hand_out.ensures.others
