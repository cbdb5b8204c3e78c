use Rattle.std.proofs.Common.{sym, ◌∙◌}
use Rattle.lxp_core.specs.declared.open_tree.OpenTree.TheVariants.{Hole}
use Rattle.tree_buffer.proofs.StackTops.{last_alone}
use Rattle.tree_buffer.proofs.stacks.free_hole.Goals as goal

pub unreachable-requires : goal.unreachable-requires
unreachable-requires c =
    let is = last_alone c.take_last.new.self.items c.take_last.result (Hole c.requires.0) (sym c.requires.1 ∙ c.take_last.ensures.items) in
    cc (is, c.in-Node.is)
