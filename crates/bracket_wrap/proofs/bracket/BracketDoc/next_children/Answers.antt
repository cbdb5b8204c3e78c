use Rattle.std.proofs.Common.{◌≡◌, ◌∙◌, ◌-◌, true, ap, sym, arith}
use Rattle.lxp_core.specs.Open.{node}
use Rattle.lxp_core.specs.Plain.{put_all}
use Rattle.document_store.specs.Laid.{node_at}
use Rattle.document_store.specs.Between.{before, fits}
use Rattle.bracket_wrap.specs.Holes.{kids_given, given_from}
use Rattle.bracket_wrap.proofs.Given.{given-some, given-rest}
use Rattle.bracket_wrap.proofs.bracket.BracketDoc.next_children.Goals as goal

pub loop-left-preserved : goal.loop-left-preserved
loop-left-preserved c =
    let ns = c.args.self.now.nodes in
    let whole = c.args.whole in
    let parent = c.args.rest.node in
    let i = c.in-Some.i in
    let list = c.loop-left.list.items in
    let first = c.in-Some.ensures in
    let less = c.loop-left.left - 1 in
    let here : fits c.args.self.now.nodes (before c.args.self.now.nodes c.args.rest.node) c.loop-left.to ≡ true =
    ap (λ f. fits c.args.self.now.nodes f c.loop-left.to) (sym c.before-from.ensures) ∙ first.0 in
    record {
      within = omega (arith, c.before-to.ensures, first.1, c.loop-left.invariant.within);
      from = omega (arith, c.before-to.ensures, c.before-from.ensures, first.2);
      list =
          c.in_ok-push_node.ensures (given_from ns whole parent less c.before-to.result)
          ∙ ap (λ o. put_all list (node (node_at ns i).label o (given_from ns whole parent less c.before-to.result))) c.in_ok-kids.ensures
          ∙ ap (λ b. put_all list (node (node_at ns i).label (kids_given ns whole i) (given_from ns whole parent less b))) c.before-to.ensures
          ∙ ap (put_all list) (sym (given-some ns whole parent c.loop-left.left c.loop-left.to i (omega arith) here first.1))
          ∙ c.loop-left.invariant.list;
    }

pub returns : goal.returns
returns c =
    let ns = c.args.self.now.nodes in
    let list = c.loop-left.list.items in
    c.in_ok-push_rest.ensures
    ∙ ap (put_all list) (sym (given-rest ns c.args.whole c.args.rest.node c.loop-left.left c.loop-left.to (omega arith)))
    ∙ c.loop-left.invariant.list
