use Rattle.std.proofs.Common.{Some, refl, sym, ap, subst, ◌∙◌}
use Rattle.mix_tree.specs.Place.{child_place}
use Rattle.lazy_value.specs.declared.ids.MarkedText.{MarkedText}
use Rattle.lazy_value.specs.declared.ids.NodeId.{NodeId}
use Rattle.lazy_value.specs.declared.mediator.Mediator.{Mediator}
use Rattle.lazy_value.specs.Named.{state_of, owed, owed_of, IsNamedAt, NamesAt}
use Rattle.lazy_value.proofs.Keeping.{walked_alike, given_place, shared_walked, shared_marked}
use Rattle.lazy_value.proofs.mediator.Mediator.down.Goals as goal

pub returns-in_err-down-in-Walked-clause-walked : goal.returns-in_err-down-in-Walked-clause-walked
returns-in_err-down-in-Walked-clause-walked g c =
    walked_alike g.met.S.Sources.keeps c.args.s.now c.down.new.s c.args.self.now (record { walk = c.down.new.self; found = c.args.self.now.found }) c.requires.mediator c.down.ensures.walked refl

pub returns-in_ok-down-in-Walked-clause-walked : goal.returns-in_ok-down-in-Walked-clause-walked
returns-in_ok-down-in-Walked-clause-walked g c =
    walked_alike g.met.S.Sources.keeps c.args.s.now c.down.new.s c.args.self.now (record { walk = c.down.new.self; found = c.args.self.now.found }) c.requires.mediator c.down.ensures.walked refl

pub returns-in_ok-down-in-Walked-clause-place : goal.returns-in_ok-down-in-Walked-clause-place
returns-in_ok-down-in-Walked-clause-place g c = λ p at tells.
    let a = state_of (g.S.Sources.view c.args.s.now) c.args.self.now in
    let d = state_of (g.S.Sources.view c.down.new.s) (record { walk = c.down.new.self; found = c.args.self.now.found }) in
    let here = subst (λ (n : NodeId). IsNamedAt a n p) c.in-Walked.is at in
    given_place a d (Some (child_place p)) c.in_ok-down-in-Walked.field-0 c.walked.result c.walked.ensures (c.in_ok-down-in-Walked.ensures.place p here tells)

pub returns-in_ok-down_marked-in-Marked-clause-place : goal.returns-in_ok-down_marked-in-Marked-clause-place
returns-in_ok-down_marked-in-Marked-clause-place g c = λ p at tells.
    let a = state_of (g.S.Sources.view c.args.s.now) c.args.self.now in
    let d = state_of (g.S.Sources.view c.down_marked.new.s) c.down_marked.new.self in
    let there : NamesAt a c.in-Marked.marked.value p = subst (λ (n : NodeId). IsNamedAt a n p) c.in-Marked.is at in
    let here : NamesAt a c.deref.result.now p = subst (λ (x : MarkedText). NamesAt a x p) (sym c.deref.ensures) there in
    given_place a d (Some (child_place p)) c.in_ok-down_marked-in-Marked.field-0 c.walked-in-Marked.result c.walked-in-Marked.ensures (c.in_ok-down_marked-in-Marked.ensures.place p here tells)

pub returns-in_ok-down-in-Walked-clause-paid : goal.returns-in_ok-down-in-Walked-clause-paid
returns-in_ok-down-in-Walked-clause-paid g c = λ p at tells.
    let o : Mediator = record { walk = c.down.new.self; found = c.args.self.now.found } in
    let d = state_of (g.S.Sources.view c.down.new.s) o in
    ap (λ (n : NodeId). owed d o n p) c.in-Walked.is

pub returns-in_ok-down_marked-in-Marked-clause-paid : goal.returns-in_ok-down_marked-in-Marked-clause-paid
returns-in_ok-down_marked-in-Marked-clause-paid g c = λ p at tells.
    let a = state_of (g.S.Sources.view c.args.s.now) c.args.self.now in
    let o : Mediator = c.down_marked.new.self in
    let d = state_of (g.S.Sources.view c.down_marked.new.s) o in
    let there : NamesAt a c.in-Marked.marked.value p = subst (λ (n : NodeId). IsNamedAt a n p) c.in-Marked.is at in
    let here : NamesAt a c.deref.result.now p = subst (λ (x : MarkedText). NamesAt a x p) (sym c.deref.ensures) there in
    ap (λ (n : NodeId). owed d o n p) c.in-Marked.is ∙ ap (λ (x : MarkedText). owed_of d o x p) (sym c.deref.ensures) ∙ c.in_ok-down_marked-in-Marked.ensures.paid p here tells

pub returns-in_ok-down-in-Walked-clause-shared : goal.returns-in_ok-down-in-Walked-clause-shared
returns-in_ok-down-in-Walked-clause-shared g c = λ tells x q on at.
    let o : Mediator = record { walk = c.down.new.self; found = c.args.self.now.found } in
    let d = state_of (g.S.Sources.view c.down.new.s) o in
    shared_walked d o c.args.n.now c.in-Walked.node c.in-Walked.is x q on

pub returns-in_ok-down_marked-in-Marked-clause-shared : goal.returns-in_ok-down_marked-in-Marked-clause-shared
returns-in_ok-down_marked-in-Marked-clause-shared g c = λ tells.
    let o : Mediator = c.down_marked.new.self in
    let d = state_of (g.S.Sources.view c.down_marked.new.s) o in
    shared_marked d o c.args.n.now c.in-Marked.marked c.deref.result.now c.in-Marked.is c.deref.ensures (c.in_ok-down_marked-in-Marked.ensures.shared tells)
