use Rattle.std.proofs.Common.{◌≡◌, ℕ, List, length, Some, get_or, refl, sym, ap, ◌∙◌, arith}
use Rattle.lxp_core.specs.View.{Keeps}
use Rattle.tree_buffer.specs.declared.buffer.Buffer.{Buffer}
use Rattle.tree_buffer.specs.declared.spot.Spot.{Spot}
use Rattle.tree_buffer.specs.Nodes.{IsChild, KeepsLists}
use Rattle.tree_buffer.specs.Buffer.{nodes_of, place_of, IsSourcesOf, IsChildSpot, ChangesOnly}
use Rattle.tree_buffer.specs.Advance.{Advances}
use Rattle.tree_buffer.proofs.Spots.{is_some_from, if_some_from, child_place, child_lighter, child_told, first_child, count_read, child_at, child_counted}
use Rattle.tree_buffer.proofs.Calls.{advances_twice, ran_from}
use Rattle.tree_buffer.proofs.Exact.{exact_child, exact_none, less_child, down_trees}
use Rattle.tree_buffer.proofs.Laws.{ran_same}
use Rattle.tree_buffer.proofs.buffer.Buffer.down.Goals.{Then-entry-gt0, Else-entry-gt0, In_ok-hand_out}
use Rattle.tree_buffer.proofs.buffer.Buffer.down.Goals as goal

-- where a child was handed out, the number noted as the first is that of the child at index 0
first : (g : _) (c : Then-entry-gt0 g) → IsChild (nodes_of c.args.self.now).links c.args.p.now.number 0 c.index-entry.result.now.first
first g c = first_child c.args.self.now.entries.items c.args.p.now.number c.index-entry.result.now c.args.self.now.linked c.requires.spot c.index-entry.ensures c.if-entry-gt0.true

pub returns-then-entry-gt0-clause-child : goal.returns-then-entry-gt0-clause-child
returns-then-entry-gt0-clause-child g c =
    let d = (goal.at.returns-then-entry-gt0-clause-child g c).Then-entry-gt0 in
    record { spot = (first g d).known; place = child_place (nodes_of c.args.self.now) c.args.self.now.linked c.args.p.now.number 0 _ (first g d) }

pub returns-then-entry-gt0-clause-exact : goal.returns-then-entry-gt0-clause-exact
returns-then-entry-gt0-clause-exact g c = λ told.
    let d = (goal.at.returns-then-entry-gt0-clause-exact g c).Then-entry-gt0 in
    sym (child_told (nodes_of c.args.self.now) c.args.self.now.linked _ _ c.args.p.now.number 0 _ c.requires.sources.sourced told (first g d))

pub returns-then-entry-gt0-clause-smaller : goal.returns-then-entry-gt0-clause-smaller
returns-then-entry-gt0-clause-smaller g c =
    let d = (goal.at.returns-then-entry-gt0-clause-smaller g c).Then-entry-gt0 in
    child_lighter (nodes_of c.args.self.now) c.args.self.now.linked _ c.args.p.now.number 0 _ c.requires.sources.sourced.rests (first g d)

pub returns-then-entry-gt0-clause-trees : goal.returns-then-entry-gt0-clause-trees
returns-then-entry-gt0-clause-trees g c = λ told.
    down_trees _ c.args.self.now c.args.p.now _ refl (Some (record { number = c.index-entry.result.now.first })) (returns-then-entry-gt0-clause-child g c)
    (returns-then-entry-gt0-clause-exact g c told)

pub returns-in_err-hand_out-clause-ran : goal.returns-in_err-hand_out-clause-ran
returns-in_err-hand_out-clause-ran g c =
    let first = c.settle_at.ensures.advanced in
    ran_from g.met.S.Sources.keeps c.requires.sources (record {
      came = first.came;
      sources = c.hand_out.ensures.sources _ first.sources;
      advances = advances_twice first.advances (c.hand_out.ensures.advances _ first.sources);
    })

pub returns-in_err-settle_at-clause-ran : goal.returns-in_err-settle_at-clause-ran
returns-in_err-settle_at-clause-ran g c = ran_from g.met.S.Sources.keeps c.requires.sources c.settle_at.ensures.advanced

module _ (g : _) (c : In_ok-hand_out g) where
  -- what every call keeps of the sources was kept by the fills
  came : Keeps (g.S.Sources.view c.args.s.now) (g.S.Sources.view c.settle_at.new.s)
  came = g.met.S.Sources.keeps _ _ c.settle_at.ensures.advanced.came

  -- the node, of which no child was handed out, has none after the fills either
  none_yet : get_or (nodes_of c.settle_at.new.self).counts c.args.p.now.number 0 ≡ 0
  none_yet =
      ap (λ cs. get_or cs c.args.p.now.number 0) c.settle_at.ensures.counts
      ∙ omega (arith, count_read c.args.self.now.entries.items c.args.p.now.number c.index-entry.result.now c.requires.spot c.index-entry.ensures, c.if-entry-gt0.false)

  -- after a child was handed out, the sources are still those of the buffer
  after : IsSourcesOf (g.S.Sources.view c.settle_at.new.s) c.hand_out.new.self
  after = c.hand_out.ensures.sources _ c.settle_at.ensures.advanced.sources

  -- from before the fills to after the handing out the buffer goes on
  both : Advances (g.S.Sources.view c.args.s.now) c.args.self.now (g.S.Sources.view c.settle_at.new.s) c.hand_out.new.self
  both = advances_twice c.settle_at.ensures.advanced.advances (c.hand_out.ensures.advances _ c.settle_at.ensures.advanced.sources)

pub returns-clause-ran : goal.returns-clause-ran
returns-clause-ran g c = ran_from g.met.S.Sources.keeps c.requires.sources (record { came = c.settle_at.ensures.advanced.came; sources = after g c; advances = both g c })

pub returns-clause-child : goal.returns-clause-child
returns-clause-child g c =
    if_some_from c.in_ok-hand_out.field-0 _ _ (IsChildSpot c.hand_out.new.self c.args.p.now 0) c.in_ok-hand_out.ensures.child (λ x h.
    record { spot = h.known; place = rw (← none_yet g c) (child_place (nodes_of c.hand_out.new.self) c.hand_out.new.self.linked c.args.p.now.number _ _ h) })

pub returns-clause-exact : goal.returns-clause-exact
returns-clause-exact g c = λ told.
    is_some_from _ _ _ _ c.in_ok-hand_out.ensures.child
    (λ empty. exact_none (came g c) c.requires.sources c.settle_at.ensures.advanced.sources c.settle_at.ensures.advanced.advances c.args.p.now.number 0 c.requires.spot (none_yet g c) empty told)
    (λ x h. exact_child (came g c) c.requires.sources (after g c) (both g c) c.args.p.now.number 0 c.requires.spot x.number (rw (none_yet g c) at h) told)

pub returns-clause-trees : goal.returns-clause-trees
returns-clause-trees g c = λ told.
    down_trees _ c.hand_out.new.self c.args.p.now _ ((both g c).moved.places c.args.p.now.number c.requires.spot) c.in_ok-hand_out.field-0 (returns-clause-child g c)
    (returns-clause-exact g c told)

pub returns-clause-smaller : goal.returns-clause-smaller
returns-clause-smaller g c =
    if_some_from _ _ _ _ c.in_ok-hand_out.ensures.child (λ x h.
    less_child (came g c) c.requires.sources (after g c) (both g c) c.args.p.now.number 0 c.requires.spot x (rw (none_yet g c) at h))

pub returns-then-entry-gt0-clause-ran : goal.returns-then-entry-gt0-clause-ran
returns-then-entry-gt0-clause-ran g c = ran_same g.met.S.Sources.same _ _ c.requires.sources

-- a first child that was handed out is found
not_known : (g : _) (c : Else-entry-gt0 g) (x : Spot) → IsChildSpot c.args.self.now c.args.p.now 0 x → ⊥
not_known g c x h =
    let m = nodes_of c.args.self.now in
    let child = child_at m c.args.self.now.linked c.args.p.now.number 0 x.number c.requires.spot h.spot h.place in
    omega (
      arith,
      child_counted m c.args.self.now.linked _ _ _ child,
      count_read c.args.self.now.entries.items c.args.p.now.number c.index-entry.result.now c.requires.spot c.index-entry.ensures,
      c.if-entry-gt0.false,
    )

pub returns-in_err-settle_at-clause-known : goal.returns-in_err-settle_at-clause-known
returns-in_err-settle_at-clause-known g c = λ x h.
    let d = (goal.at.returns-in_err-settle_at-clause-known g c).Else-entry-gt0 in
    absurd (not_known g d x h)

pub returns-in_err-hand_out-clause-known : goal.returns-in_err-hand_out-clause-known
returns-in_err-hand_out-clause-known g c = λ x h.
    let d = (goal.at.returns-in_err-hand_out-clause-known g c).Else-entry-gt0 in
    absurd (not_known g d x h)

pub returns-clause-known : goal.returns-clause-known
returns-clause-known g c = λ x h. let d = (goal.at.returns-clause-known g c).Else-entry-gt0 in absurd (not_known g d x h)

-- the call leaves each other list as it was
only : (b mid now : Buffer) (p : Spot) → (nodes_of mid).links ≡ (nodes_of b).links → KeepsLists p.number (nodes_of b) (nodes_of mid) → KeepsLists p.number (nodes_of mid) (nodes_of now)
    → ChangesOnly (λ q. place_of b q ≡ place_of b p) b now
only b mid now p links first second = λ x spot other.
    let apart : ¬ (x.number ≡ p.number) = λ e. other (ap (λ i. place_of b (record { number = i })) e) in
    second x.number (omega (arith, spot, ap (λ (ls : List (ℕ × ℕ)). length ls) links)) apart ∙ first x.number spot apart

pub returns-in_err-settle_at-clause-only : goal.returns-in_err-settle_at-clause-only
returns-in_err-settle_at-clause-only g c =
    only c.args.self.now c.settle_at.new.self c.settle_at.new.self c.args.p.now c.settle_at.ensures.links c.settle_at.ensures.others (λ i known other. refl)

pub returns-in_err-hand_out-clause-only : goal.returns-in_err-hand_out-clause-only
returns-in_err-hand_out-clause-only g c =
    only c.args.self.now c.settle_at.new.self c.hand_out.new.self c.args.p.now c.settle_at.ensures.links c.settle_at.ensures.others c.hand_out.ensures.others

pub returns-clause-only : goal.returns-clause-only
returns-clause-only g c =
    only c.args.self.now c.settle_at.new.self c.hand_out.new.self c.args.p.now c.settle_at.ensures.links c.settle_at.ensures.others c.hand_out.ensures.others
