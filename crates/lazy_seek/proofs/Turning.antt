-- An operator whose turn it is, and that binds no node anew: whether it holds of the nodes that the places give.
use Rattle.std.proofs.Common.{◌≡◌, inl, inr, ℕ, suc, true, false, List, [], ◌∷◌, refl, sym, ◌∙◌}
use Rattle.std.specs.Prelude.{Bool, IsTrue}
use Rattle.std.specs.List.{AllByRecursion}
use Rattle.std.specs.declared.alloc.Global.{Global}
use Rattle.std.specs.declared.vec.Vec.{Vec}
use Rattle.mix_base.specs.Ascents.{Among}
use Rattle.mix_base.proofs.Ascents.{among_left, among_right}
use Rattle.mix_tree.specs.Nodes.{Documents, Node}
use Rattle.mix_tree.specs.declared.comparing.Operand.{Operand}
use Rattle.mix_tree.specs.declared.comparing.Operand.TheVariants.{Var as var_operand, Text as text_operand}
use Rattle.mix_tree.specs.declared.comparing.Test.{Test}
use Rattle.mix_tree.specs.declared.var.Key.{Key}
use Rattle.mix_tree.specs.declared.var.Var.{Var}
use Rattle.path_expr.specs.Form.{Form}
use Rattle.plan_core.specs.declared.plan.Op.{Op}
use Rattle.plan_core.specs.declared.plan.Op.TheVariants as op
use Rattle.plan_core.specs.declared.plan.Piece.{Piece}
use Rattle.plan_core.specs.PlanMade.{op_of}
use Rattle.plan_core.specs.Shapes.{Shape, shape_of, stage_of}
use Rattle.plan_core.specs.Unary.{group_by}
use Rattle.plan_evidence.specs.Evidence.{StageHolds, ShapeHolds}
use Rattle.plan_evidence.proofs.NodeValues.{operand_vars, test_vars, tests_vars}
use Rattle.lazy_plan.specs.Bench.{BenchState, ops_of, told}
use Rattle.lazy_seek.specs.declared.evidence.Found.{Found}
use Rattle.lazy_seek.specs.declared.evidence.Turn.{Turn}
use Rattle.lazy_seek.specs.declared.known.KnownNodes.{KnownNodes}
use Rattle.lazy_seek.specs.Known.{IsKnownAs, IsOperandKnown, IsTestKnown}
use Rattle.lazy_seek.specs.Turns.{Knows, TurnHolds, GoesOn}
use Rattle.lazy_seek.proofs.Knowing.{binds_node}

module _ (st : BenchState) (places : List (List ℕ)) (k : KnownNodes) (nodes : ℕ → Node) where
  -- the nodes of a comparison's variables were found, where those of each of them were
  pub test_known : (t : Test) → ((v : ℕ) → Among v (test_vars t) → IsKnownAs st places k v (nodes v)) → IsTestKnown st places k nodes t
  test_known t h = (h t.left (inl refl), right t.right (λ v a. h v (inr a)))
    where
      right : (o : Operand) → ((v : ℕ) → Among v (operand_vars o) → IsKnownAs st places k v (nodes v)) → IsOperandKnown st places k nodes o
      right (var_operand v) g = g v (inl refl)
      right (text_operand label) g = tt

  -- the same for several comparisons
  pub tests_known : (tests : List Test) → ((v : ℕ) → Among v (tests_vars tests) → IsKnownAs st places k v (nodes v)) → AllByRecursion (IsTestKnown st places k nodes) tests
  tests_known [] h = tt
  tests_known (t ∷ tests) h =
      (test_known t (λ v a. h v (among_left (test_vars t) (tests_vars tests) v a)), tests_known tests (λ v a. h v (among_right (test_vars t) (tests_vars tests) v a)))

-- where a test tells whether the operator holds, the call goes on by it
pub tested : (a : BenchState) (t : Turn) (f : Found) (r b : Bool) → Knows a (ops_of a) t.wanted f (suc t.op) → t.on_way ≡ true → (IsTrue (told a) → r ≡ b) → (b ≡ true → TurnHolds a t)
    → (TurnHolds a t → b ≡ true) → GoesOn a a t f r
tested a t f true b k on e to from = (k, λ tells way. to (sym (e tells)))
tested a t f false b k on e to from = λ tells. (on, λ h. (let z : false ≡ true = e tells ∙ from h in cc))

-- a groupBy holds of any nodes
group_holds : (docs : Documents) (nodes : ℕ → Node) (keys : List Key) (piece : Piece) (out : ℕ) → StageHolds docs nodes (stage_of (group_by keys piece out))
group_holds docs nodes [] piece out = tt
group_holds docs nodes (k ∷ keys) piece out = tt

-- a shape that binds no node anew, and that holds of any nodes
pub record IsIdle (f : Shape) : Type 0 where
  pub without : binds_node f ≡ false
  pub holds : (docs : Documents) (nodes : ℕ → Node) → ShapeHolds docs nodes f

-- an operator other than those that read, visit or compare is idle
pub idle : (o : Op) → ((s : ℕ) (v : Var) → o ≡ op.Source s v → ⊥) → ((i : ℕ) (v : Var) (path : Form) (u : Var) → o ≡ op.GetDescendants i v path u → ⊥) → ((i : ℕ) (t : Test) → o ≡ op.Select i t → ⊥)
    → ((l r : ℕ) (ts : Vec Test Global) → o ≡ op.Join l r ts → ⊥) → IsIdle (shape_of (op_of o))
idle (op.Source s v) a b c d = absurd (a s v refl)
idle (op.GetDescendants i v path u) a b c d = absurd (b i v path u refl)
idle (op.Select i t) a b c d = absurd (c i t refl)
idle (op.Join l r ts) a b c d = absurd (d l r ts refl)
idle (op.Project i keys) a b c d = record { without = refl; holds = λ docs nodes. tt }
idle (op.GroupBy i keys piece out) a b c d = record { without = refl; holds = λ docs nodes. group_holds docs nodes keys.items piece out }
idle (op.OrderBy i v desc) a b c d = record { without = refl; holds = λ docs nodes. tt }
idle (op.Concatenate i pieces out) a b c d = record { without = refl; holds = λ docs nodes. tt }
idle (op.CreateElement i label list out) a b c d = record { without = refl; holds = λ docs nodes. tt }
idle (op.TupleDestroy i element) a b c d = record { without = refl; holds = λ docs nodes. tt }
