use Rattle.std.proofs.Common.{ap, sym, ◌∙◌}
use Rattle.lxp_core.specs.Open.{nil, node, begins_with_hole}
use Rattle.lxp_core.specs.Plain.{stacked}
use Rattle.tree_buffer.proofs.StackTops.{stacked-top}
use Rattle.tree_buffer.proofs.stacks.pop_tree.Goals as goal

pub parts_of-requires : goal.parts_of-requires
parts_of-requires c = (
  stacked c.take_last-tree.new.self.items nil,
  ap begins_with_hole (sym (ap (λ xs. stacked xs nil) c.take_last-tree.ensures.items ∙ stacked-top c.take_last-tree.new.self.items c.take_last-tree.result)) ∙ c.requires.top,
)

pub returns : goal.returns
returns c =
    ap (λ xs. stacked xs nil) c.take_last-tree.ensures.items ∙ stacked-top c.take_last-tree.new.self.items c.take_last-tree.result ∙ c.parts_of.ensures (stacked c.take_last-tree.new.self.items nil)
    ∙ ap (λ xs. node c.parts_of.result.0 (stacked c.parts_of.result.1.items nil) (stacked xs nil)) (sym c.free_when_empty.ensures)
