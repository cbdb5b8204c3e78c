use Rattle.std.proofs.Common.{None, ap, ◌+◌, Some, refl, sym, subst, arith}
use Rattle.std.specs.Prelude.{Option, Ok, is_some}
use Rattle.mix_tree.specs.Place.{child_place}
use Rattle.lazy_plan.specs.Bench.{ops_of, documents, AsksAtMost}
use Rattle.lazy_walk.specs.declared.ids.WalkedNode.{WalkedNode}
use Rattle.lazy_walk.specs.Finding.{root_height}
use Rattle.lazy_walk.specs.Walks.{node_height}
use Rattle.lazy_walk.specs.Places.{down_toll}
use Rattle.lazy_value.specs.declared.mediator.Mediator.{Mediator}
use Rattle.lazy_value.specs.Named.{state_of, owed_of}
use Rattle.lazy_walk.proofs.Walking.{asks_twice, same_number}
use Rattle.lazy_value.proofs.Keeping.{root_kept, stepped, place_since, found_at, lower_still, still_paid, still_shared}
use Rattle.lazy_value.proofs.mediator.Mediator.down_marked.Goals as goal

pub down-requires-clause-node : goal.down-requires-clause-node
down-requires-clause-node g c = (c.find.ensures.walked.mediator.found c.args.marked.now.text c.in-Some.node.now (sym c.in-Some.ensures.value)).node

pub returns-in-Some-clause-walked : goal.returns-in-Some-clause-walked
returns-in-Some-clause-walked g c =
    stepped g.met.S.Sources.keeps g.met.S.Sources.after c.args.s.now c.find.new.s c.down.new.s c.args.self.now c.find.new.self (record { walk = c.down.new.self; found = c.find.new.self.found })
    c.find.ensures.walked c.down.ensures.walked refl

pub returns-in-Some-clause-lazy : goal.returns-in-Some-clause-lazy
returns-in-Some-clause-lazy g c = λ p names tells forwards.
    let a = state_of (g.S.Sources.view c.args.s.now) c.args.self.now in
    let b = state_of (g.S.Sources.view c.find.new.s) c.find.new.self in
    let d = state_of (g.S.Sources.view c.down.new.s) (record { walk = c.down.new.self; found = c.find.new.self.found }) in
    let kept = c.find.ensures.walked.kept in
    let k = c.args.marked.now in
    let f = c.find.ensures.walked.mediator.found k.text c.in-Some.node.now (sym c.in-Some.ensures.value) in
    let at = found_at a b d kept c.no_text_spells_two_nodes.ensures k c.requires.marked c.in-Some.node.now f tells p names in
    asks_twice a b kept d (owed_of a c.args.self.now k p) (down_toll (documents a) (ops_of a) p) (owed_of a c.args.self.now k p + down_toll (documents a) (ops_of a) p) (c.find.ensures.found p names).0
    (subst (AsksAtMost b d) (same_number a b kept (λ docs ops. down_toll docs ops p)) (c.down.ensures.lazy p at)) (omega arith) tells forwards

pub returns-in-Some-clause-place : goal.returns-in-Some-clause-place
returns-in-Some-clause-place g c = λ p names.
    let a = state_of (g.S.Sources.view c.args.s.now) c.args.self.now in
    let b = state_of (g.S.Sources.view c.find.new.s) c.find.new.self in
    let d = state_of (g.S.Sources.view c.down.new.s) (record { walk = c.down.new.self; found = c.find.new.self.found }) in
    let kept = c.find.ensures.walked.kept in
    let k = c.args.marked.now in
    let f = c.find.ensures.walked.mediator.found k.text c.in-Some.node.now (sym c.in-Some.ensures.value) in
    place_since a b d kept (Some (child_place p)) c.down.result
    (λ tells. c.down.ensures.place p (found_at a b d kept c.no_text_spells_two_nodes.ensures k c.requires.marked c.in-Some.node.now f tells p names))

pub returns-in-Some-clause-height : goal.returns-in-Some-clause-height
returns-in-Some-clause-height g c =
    let a = state_of (g.S.Sources.view c.args.s.now) c.args.self.now in
    let b = state_of (g.S.Sources.view c.find.new.s) c.find.new.self in
    let d = state_of (g.S.Sources.view c.down.new.s) (record { walk = c.down.new.self; found = c.find.new.self.found }) in
    let w = c.find.ensures.walked in
    let f = w.mediator.found c.args.marked.now.text c.in-Some.node.now (sym c.in-Some.ensures.value) in
    let h = f.height in
    let same = root_kept g.met.S.Sources.keeps c.args.s.now c.find.new.s c.args.self.now c.find.new.self w.came c.requires.mediator w.kept in
    lower_still d (node_height b c.in-Some.node.now) (root_height a) (omega (arith, h, same)) c.down.result c.down.ensures.height

pub returns-in-Some-clause-paid : goal.returns-in-Some-clause-paid
returns-in-Some-clause-paid g c = λ p names tells.
    let o : Mediator = record { walk = c.down.new.self; found = c.find.new.self.found } in
    still_paid (state_of (g.S.Sources.view c.down.new.s) o) o c.args.marked.now p c.in-Some.node.now (sym c.in-Some.ensures.value) c.down.result

pub returns-in-Some-clause-shared : goal.returns-in-Some-clause-shared
returns-in-Some-clause-shared g c =
    let a = state_of (g.S.Sources.view c.args.s.now) c.args.self.now in
    let o : Mediator = record { walk = c.down.new.self; found = c.find.new.self.found } in
    let d = state_of (g.S.Sources.view c.down.new.s) o in
    let walked =
    stepped g.met.S.Sources.keeps g.met.S.Sources.after c.args.s.now c.find.new.s c.down.new.s c.args.self.now c.find.new.self o c.find.ensures.walked c.down.ensures.walked refl in
    still_shared a d walked.kept o walked.mediator.shared c.args.marked.now c.requires.marked.spells (ap (λ (x : Option WalkedNode). is_some x) (sym c.in-Some.ensures.value)) c.down.result

pub returns-in-None-clause-shared : goal.returns-in-None-clause-shared
returns-in-None-clause-shared g c = λ tells.
    let a = state_of (g.S.Sources.view c.args.s.now) c.args.self.now in
    let b = state_of (g.S.Sources.view c.find.new.s) c.find.new.self in
    let p = c.requires.marked.names tells in
    let found = (c.in_ok-find.ensures.found p.0 (record { marked = c.requires.marked; names = λ t. p.1 })).1 tells in
    let w = c.find.ensures.walked in
    still_shared a b w.kept c.find.new.self w.mediator.shared c.args.marked.now c.requires.marked.spells found (Ok None) tells
