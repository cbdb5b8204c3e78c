use Rattle.tree_buffer.proofs.StackTops.{no_hole_at_top}
use Rattle.tree_buffer.proofs.stacks.top_hole.Goals as goal

pub returns-in-Some-Node : goal.returns-in-Some-Node
returns-in-Some-Node c =
    rw (← c.deref.ensures.value) (no_hole_at_top c.deref.result.now c.in-Some-Node.field-0.now c.in-Some-Node.field-0-0 c.in-Some-Node.field-0-1 c.in-Some-Node.ensures.value c.in-Some-Node.field-0-is)
