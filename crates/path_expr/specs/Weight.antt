-- How large paths are; no member is as large as its path.
use Rattle.std.specs.Prelude.{◌≤◌, ◌+◌, max}
use Rattle.std.proofs.Common.{arith}
use Rattle.path_expr.specs.declared.path.Node.{Node}
use Rattle.path_expr.specs.declared.path.Node.TheVariants.{Name, Any, Seq, Alt, Star, Plus, Opt}
use Rattle.path_expr.specs.declared.path.Path.TheDeep.{deep-Node}
use Rattle.path_expr.specs.Size.{size_of, most_le-size_of}
use Rattle.path_expr.specs.Node.{form_of}

-- a node is as large as its path at most
pub node_falls : (n : Node) → max (deep-Node n) 0 ≤ 1 + size_of (form_of n).members
node_falls (Name l) = omega arith
node_falls Any = omega arith
node_falls (Seq ps) = omega (arith, most_le-size_of ps.items)
node_falls (Alt ps) = omega (arith, most_le-size_of ps.items)
node_falls (Star p) = omega arith
node_falls (Plus p) = omega arith
node_falls (Opt p) = omega arith
