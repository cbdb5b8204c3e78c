use Rattle.std.proofs.Common.{◌∙◌, sym, subst}
use Rattle.lazy_value.specs.declared.ids.MarkedText.{MarkedText}
use Rattle.lazy_value.specs.declared.ids.NodeId.{NodeId}
use Rattle.lazy_value.specs.Named.{state_of, IsNamedAt, NamesAt}
use Rattle.lazy_value.proofs.mediator.Mediator.fetch.Goals as goal

pub returns-in-Marked : goal.returns-in-Marked
returns-in-Marked c = λ view h p at tells t is.
    let st = state_of view c.args.self.now in
    let k : MarkedText = c.deref.result.now in
    let there : NamesAt st c.in-Marked.marked.value p = subst (λ (n : NodeId). IsNamedAt st n p) c.in-Marked.is at in
    let names : NamesAt st k p = subst (λ (x : MarkedText). NamesAt st x p) (sym c.deref.ensures) there in
    let marked = names.marked in
    let u = c.marks_show.ensures st h.walk.valid marked.uses tells k.mark marked.mark p (names.names tells) t is in
    (u.0, u.1, c.marked_label.ensures view h.walk marked.mark tells ∙ u.2)
