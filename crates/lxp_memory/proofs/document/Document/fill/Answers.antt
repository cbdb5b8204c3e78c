use Rattle.std.proofs.Common.{◌≤◌, ap, subst, sym, ◌∙◌}
use Rattle.lxp_core.specs.Open.{closed, weight_of, AllHoles, IsProgress}
use Rattle.lxp_memory.specs.Span.{hole_span}
use Rattle.lxp_memory.specs.Cut.{cut}
use Rattle.lxp_memory.specs.DocumentHoles.{document_knows, document_forest, document_weight}
use Rattle.lxp_memory.proofs.ChunkLaws.{rests-cut, list_is_answer}
use Rattle.lxp_memory.proofs.document.Document.fill.Goals as goal

pub returns-clause-list : goal.returns-clause-list
returns-clause-list c =
    let ns = c.args.self.now.nodes.items in
    c.in_ok-cut.ensures
    ∙ ap (cut ns c.in_chunks-choice.result) c.in-Some.ensures.0
    ∙ ap (λ choice. cut ns choice (hole_span c.args.hole)) c.in_chunks-choice.ensures

pub returns-clause-closes : goal.returns-clause-closes
returns-clause-closes c =
    let d = c.args.self.now in
    let answer = list_is_answer d c.args.chunk c.args.whole c.args.hole c.requires c.in-Some.ensures.1 in
    ap (closed (document_forest d)) (returns-clause-list c) ∙ answer.closes

pub returns-clause-progress : goal.returns-clause-progress
returns-clause-progress c =
    let d = c.args.self.now in
    let answer = list_is_answer d c.args.chunk c.args.whole c.args.hole c.requires c.in-Some.ensures.1 in
    subst IsProgress (sym (returns-clause-list c)) answer.progress

pub returns-clause-known : goal.returns-clause-known
returns-clause-known c =
    let d = c.args.self.now in
    let answer = list_is_answer d c.args.chunk c.args.whole c.args.hole c.requires c.in-Some.ensures.1 in
    subst (AllHoles (document_knows d)) (sym (returns-clause-list c)) (rests-cut d.nodes.items c.args.chunk c.args.whole (hole_span c.args.hole) c.in-Some.ensures.1 answer.known)

pub returns-clause-lighter : goal.returns-clause-lighter
returns-clause-lighter c =
    let d = c.args.self.now in
    let answer = list_is_answer d c.args.chunk c.args.whole c.args.hole c.requires c.in-Some.ensures.1 in
    subst (λ o. weight_of (document_weight d) o ≤ document_weight d c.args.hole) (sym (returns-clause-list c)) answer.lighter
