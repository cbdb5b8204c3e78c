use Rattle.std.proofs.Common.{rules, ◌≡◌, ◌∙◌, false}
use Rattle.std.specs.Prelude.{is_some}
use Rattle.lazy_walk.specs.Stages.{part_of}
use Rattle.lazy_value.specs.Named.{state_of, found_for}
use Rattle.lazy_value.proofs.Forming.{affirmed}
use Rattle.lazy_value.proofs.Keeping.{marked_on, named_none, named_twice, names_on}
use Rattle.lazy_value.proofs.OnWay.{known_names, owed_whole, way_asked, way_failed, way_next, way_start, whole_found}
use Rattle.lazy_value.proofs.mediator.Mediator.find.Goals as goal

pub nodes-init : goal.nodes-init
nodes-init g c =
    let old = state_of (g.S.Sources.view c.args.s.now) c.args.self.now in
    let d = c.args.marked.now.mark.data in
    let known = c.in_ok-stage.ensures.known in
    record {
      walked = named_none g.met.S.Sources.keeps g.met.S.Sources.same c.args.s.now c.args.self.now c.requires.mediator;
      known = known;
      way = λ tells p names.
          (let q = known_names (g.S.Sources.view c.args.s.now) c.args.self.now c.requires.mediator d c.in_ok-stage.stage known tells in
          way_start old d p c.in_ok-stage.stage q.0 q.1);
    }

pub returns-then-is_whole-clause-found : goal.returns-then-is_whole-clause-found
returns-then-is_whole-clause-found g c = λ p names.
    let old = state_of (g.S.Sources.view c.args.s.now) c.args.self.now in
    let now = state_of (g.S.Sources.view c.nodes.s) c.nodes.self in
    let h = c.nodes.invariant in
    let none : is_some (found_for c.args.self.now c.args.marked.now.text) ≡ false = search rules in (
      owed_whole old now c.args.self.now c.args.marked.now p none (λ tells forward. way_asked old now c.args.marked.now.mark.data p c.nodes.stage (h.way tells p names) tells forward),
      λ tells. whole_found c.nodes.self c.args.marked.now c.nodes.stage c.requires.marked.spells h.known (affirmed c.is_whole.result c.is_whole.ensures c.if-is_whole.true),
    )

pub further-requires-clause-marked : goal.further-requires-clause-marked
further-requires-clause-marked g c =
    let old = state_of (g.S.Sources.view c.args.s.now) c.args.self.now in
    let now = state_of (g.S.Sources.view c.nodes.s) c.nodes.self in
    marked_on old now c.nodes.invariant.walked.kept c.args.marked.now c.requires.marked

pub returns-in_err-further-clause-walked : goal.returns-in_err-further-clause-walked
returns-in_err-further-clause-walked g c =
    named_twice g.met.S.Sources.keeps g.met.S.Sources.after c.args.s.now c.nodes.s c.further.new.s c.args.self.now c.nodes.self c.further.new.self c.nodes.invariant.walked c.further.ensures.walked

pub returns-in_err-further-clause-found : goal.returns-in_err-further-clause-found
returns-in_err-further-clause-found g c = λ p names.
    let old = state_of (g.S.Sources.view c.args.s.now) c.args.self.now in
    let now = state_of (g.S.Sources.view c.nodes.s) c.nodes.self in
    let new = state_of (g.S.Sources.view c.further.new.s) c.further.new.self in
    let d = c.args.marked.now.mark.data in
    let kept = c.nodes.invariant.walked.kept in
    let none : is_some (found_for c.args.self.now c.args.marked.now.text) ≡ false = search rules in (
      owed_whole old new c.args.self.now c.args.marked.now p none
          (λ tells forward.
          (let w = c.nodes.invariant.way tells p names in
          let l = c.further.ensures.leads (kept.told ∙ tells) w.place p (names_on old now kept (part_of d c.nodes.stage) w.place w.names) (names_on old now kept d p (names.names tells)) in
          way_failed old now new kept d p c.nodes.stage w l.most l.asks l.within tells forward)),
      λ tells. search rules,
    )

pub returns-in-None-clause-walked : goal.returns-in-None-clause-walked
returns-in-None-clause-walked g c =
    named_twice g.met.S.Sources.keeps g.met.S.Sources.after c.args.s.now c.nodes.s c.further.new.s c.args.self.now c.nodes.self c.further.new.self c.nodes.invariant.walked c.further.ensures.walked

pub returns-in-None-clause-found : goal.returns-in-None-clause-found
returns-in-None-clause-found g c = λ p names.
    let old = state_of (g.S.Sources.view c.args.s.now) c.args.self.now in
    let now = state_of (g.S.Sources.view c.nodes.s) c.nodes.self in
    let new = state_of (g.S.Sources.view c.further.new.s) c.further.new.self in
    let d = c.args.marked.now.mark.data in
    let kept = c.nodes.invariant.walked.kept in
    let none : is_some (found_for c.args.self.now c.args.marked.now.text) ≡ false = search rules in (
      owed_whole old new c.args.self.now c.args.marked.now p none
          (λ tells forward.
          (let w = c.nodes.invariant.way tells p names in
          let l = c.further.ensures.leads (kept.told ∙ tells) w.place p (names_on old now kept (part_of d c.nodes.stage) w.place w.names) (names_on old now kept d p (names.names tells)) in
          way_failed old now new kept d p c.nodes.stage w l.most l.asks l.within tells forward)),
      λ tells.
          (let w = c.nodes.invariant.way tells p names in
          let l = (rw c.in-None.is at c.in_ok-further.ensures.leads) (kept.told ∙ tells) w.place p (names_on old now kept (part_of d c.nodes.stage) w.place w.names) (names_on old now kept d p (names.names tells)) in
          absurd l.finds),
    )

pub nodes-preserved : goal.nodes-preserved
nodes-preserved g c =
    let old = state_of (g.S.Sources.view c.args.s.now) c.args.self.now in
    let now = state_of (g.S.Sources.view c.nodes.s) c.nodes.self in
    let new = state_of (g.S.Sources.view c.further.new.s) c.further.new.self in
    let d = c.args.marked.now.mark.data in
    let kept = c.nodes.invariant.walked.kept in
    record {
      walked = named_twice g.met.S.Sources.keeps g.met.S.Sources.after c.args.s.now c.nodes.s c.further.new.s c.args.self.now c.nodes.self c.further.new.self c.nodes.invariant.walked c.further.ensures.walked;
      known = (rw c.in-Some.is at c.in_ok-further.ensures.known).0;
      way = λ tells p names.
          (let w = c.nodes.invariant.way tells p names in
          let l = (rw c.in-Some.is at c.in_ok-further.ensures.leads) (kept.told ∙ tells) w.place p (names_on old now kept (part_of d c.nodes.stage) w.place w.names) (names_on old now kept d p (names.names tells)) in
          way_next old now new kept d p c.nodes.stage w l.most l.asks l.within c.in-Some.next l.finds);
    }
