-- The nodes of variables that were found.
use Rattle.std.specs.Prelude.{◌≡◌, ◌==◌, ℕ, false, List, [], Option, Some, None, slice_get}
use Rattle.std.specs.BTreeMap.{get}
use Rattle.std.specs.Ordering.{nat_cmp}
use Rattle.mix_tree.specs.Nodes.{Node}
use Rattle.mix_tree.specs.declared.comparing.Operand.{Operand}
use Rattle.mix_tree.specs.declared.comparing.Operand.TheVariants.{Var as var_operand, Text as text_operand}
use Rattle.mix_tree.specs.declared.comparing.Test.{Test}
use Rattle.lazy_plan.specs.Bench.{BenchState, node_at, IsSpotAt}
use Rattle.lazy_seek.specs.declared.known.Known.{Known}
use Rattle.lazy_seek.specs.declared.known.KnownNodes.{KnownNodes}

-- what was found for a variable
abbrev pub known_in : KnownNodes → ℕ → Option Known
known_in k v = get nat_cmp k.vars v

-- what was found for the other variables is as it was
abbrev pub KeepsOthers : ℕ → KnownNodes → KnownNodes → Type 0
KeepsOthers out old new = (v : ℕ) → (out == v) ≡ false → known_in new v ≡ known_in old v

-- a place is that of a document node, or stands at this index among places
abbrev pub IsPlaceOf : List (List ℕ) → Option ℕ → List ℕ → Type 0
IsPlaceOf places None p = p ≡ []
IsPlaceOf places (Some index) p = slice_get places index ≡ Some p

-- a node was found for a variable: a spot of the bench stands for it, and its place is known
pub record IsKnownAs (st : BenchState) (places : List (List ℕ)) (k : KnownNodes) (v : ℕ) (n : Node) : Type 0 where
  pub entry : Known
  pub is : known_in k v ≡ Some entry
  pub spot : IsSpotAt st entry.node.source entry.node.spot
  pub node : node_at st entry.node.source entry.node.spot ≡ n
  pub at_place : IsPlaceOf places entry.place n.place

-- the node of what a variable's label is compared with was found, where that is a variable
abbrev pub IsOperandKnown : BenchState → List (List ℕ) → KnownNodes → (ℕ → Node) → Operand → Type 0
IsOperandKnown st places k nodes (var_operand v) = IsKnownAs st places k v (nodes v)
IsOperandKnown st places k nodes (text_operand label) = Unit {0}

-- the nodes of a comparison's variables were found
abbrev pub IsTestKnown : BenchState → List (List ℕ) → KnownNodes → (ℕ → Node) → Test → Type 0
IsTestKnown st places k nodes t = IsKnownAs st places k t.left (nodes t.left) × IsOperandKnown st places k nodes t.right
