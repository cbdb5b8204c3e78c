use Rattle.std.proofs.Common.{◌∙◌, ap, sym, arith}
use Rattle.lxp_core.specs.Open.{node, without_holes}
use Rattle.lxp_core.specs.Plain.{put_all}
use Rattle.document_store.specs.Laid.{node_at}
use Rattle.document_store.specs.Between.{before, between}
use Rattle.document_store.proofs.Between.{between_first, between_none}
use Rattle.bracket_wrap.proofs.bracket.BracketDoc.+subtrees.Goals as goal

pub loop-i-preserved : goal.loop-i-preserved
loop-i-preserved t c =
    let ns = c.args.self.now.nodes in
    let i = c.in-Some.i in
    let list = c.loop-i.list.items in
    let first = c.in-Some.ensures in
    let here = between_first ns c.args.from c.loop-i.to i first.0 first.1 in
    record {
      within = omega (arith, c.before-to.ensures, first.1, c.loop-i.invariant.within);
      list =
          c.in_ok-push_node.ensures (without_holes (between ns c.args.from c.before-to.result))
          ∙ ap (λ o. put_all list (node (node_at ns i).label o (without_holes (between ns c.args.from c.before-to.result)))) (c.in_ok-kids.ensures ∙ ap (λ b. without_holes (between ns b i)) c.before-in-Some.ensures)
          ∙ ap (λ b. put_all list (node (node_at ns i).label (without_holes (between ns (before ns i) i)) (without_holes (between ns c.args.from b)))) c.before-to.ensures
          ∙ ap (λ f. put_all list (without_holes f)) (sym here)
          ∙ c.loop-i.invariant.list;
    }

pub returns : goal.returns
returns t c =
    let list = c.loop-i.list.items in
    ap (λ f. put_all list (without_holes f)) (sym (between_none c.args.self.now.nodes c.args.from c.loop-i.to c.in_default.ensures)) ∙ c.loop-i.invariant.list
