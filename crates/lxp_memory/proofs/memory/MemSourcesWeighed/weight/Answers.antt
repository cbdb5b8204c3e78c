use Rattle.std.proofs.Common.{◌∙◌, ap, sym}
use Rattle.mix_tree.specs.Weight.{nodes_of}
use Rattle.lxp_memory.specs.Span.{hole_span, has_span, span_trees}
use Rattle.lxp_memory.proofs.DocumentLaws.{known_at, nodes_at-read}
use Rattle.lxp_memory.proofs.memory.MemSourcesWeighed.weight.Goals as goal

pub returns-in-None : goal.returns-in-None
returns-in-None c =
    let docs = c.args.self.now.docs.items in
    ap (λ ns. has_span ns (hole_span c.args.hole)) (nodes_at-read docs c.args.s c.index-doc.result.now c.requires c.index-doc.ensures) ∙ c.in-None.ensures

pub returns-in-Some : goal.returns-in-Some
returns-in-Some c =
    let docs = c.args.self.now.docs.items in
    let doc = c.index-doc.result.now in
    let span = c.in-Some.span in
    let found = c.in-Some.ensures in
    let same = nodes_at-read docs c.args.s doc c.requires c.index-doc.ensures in (
      known_at docs c.args.s c.args.hole doc span c.requires c.index-doc.ensures found,
      c.weight.ensures
          ∙ ap (λ p. nodes_of (span_trees doc.nodes.items p)) found.0
          ∙ ap (λ ns. nodes_of (span_trees ns (hole_span c.args.hole))) (sym same),
    )
