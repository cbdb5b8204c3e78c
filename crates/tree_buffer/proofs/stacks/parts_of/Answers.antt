use Rattle.std.proofs.Common.{ap, sym, ◌∙◌}
use Rattle.lxp_core.specs.Open.{nil, node, begins_with_hole}
use Rattle.lxp_core.specs.Plain.{stacked, put}
use Rattle.lxp_core.proofs.Plains.{put-node, put-hole, stacked-reverse}
use Rattle.tree_buffer.proofs.stacks.parts_of.Goals as goal

pub unreachable-requires : goal.unreachable-requires
unreachable-requires c =
    let rest = c.requires.0 in
    cc (sym (ap (λ t. begins_with_hole (put t rest)) c.in-Hole.is ∙ ap begins_with_hole (put-hole c.in-Hole.field-0 rest)) ∙ c.requires.1)

pub returns : goal.returns
returns c = λ rest.
    ap (λ t. put t rest) c.in-Node.is ∙ put-node c.in-Node.label c.in-Node.kids rest
    ∙ ap (λ o. node c.in-Node.label o rest) (sym (stacked-reverse c.in-Node.kids.items nil) ∙ ap (λ xs. stacked xs nil) (sym c.turn_round.ensures))
