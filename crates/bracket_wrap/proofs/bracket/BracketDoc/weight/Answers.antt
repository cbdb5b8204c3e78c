use Rattle.std.proofs.Common.{◌≡◌, ◌∙◌, ap, slice_index, arith}
use Rattle.document_store.specs.Between.{before}
use Rattle.document_store.proofs.Nested.{nodes_between}
use Rattle.bracket_wrap.specs.declared.holes.Rest.{Rest}
use Rattle.bracket_wrap.proofs.Given.{known-parts}
use Rattle.bracket_wrap.proofs.bracket.BracketDoc.weight.Goals as goal

pub returns : goal.returns
returns c =
    let d = c.args.self.now in
    let i = slice_index c.args.hole.words 0 in
    let to = slice_index c.args.hole.words 1 in
    let there = known-parts d.nodes c.args.hole c.in-Some.ensures.1 in
    let all = nodes_between d.nodes to i to d.givable.nested there.0 there.1 there.2 (omega arith) in
    let from : c.before-2.result ≡ before c.args.self.now.nodes (slice_index c.args.hole.words 0) =
    c.before-2.ensures ∙ ap (λ (r : Rest). before d.nodes r.node) c.in-Some.ensures.0 in
    let end : c.in-Some.rest.to ≡ slice_index c.args.hole.words 1 = ap (λ (r : Rest). r.to) c.in-Some.ensures.0 in
    (c.in-Some.ensures.1, omega (arith, all, from, end))
