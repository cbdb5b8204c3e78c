-- The way of a selection down the joins of numbered operators.
use Rattle.std.specs.declared.alloc.Global.{Global}
use Rattle.std.specs.Prelude.{◌≡◌, Vec, ℕ, Bool, true, false, ◌&&◌, cond, List, [], Option, None, Some, slice_index_or}
use Rattle.mix_tree.specs.declared.comparing.Operand.{Operand}
use Rattle.mix_tree.specs.declared.comparing.Operand.TheVariants.{Var as var_operand, Text as text_operand}
use Rattle.mix_tree.specs.declared.comparing.Test.{Test}
use Rattle.plan_core.specs.Plans.{Operator, source, get_descendants, join, over, tuple_destroy}
use Rattle.plan_rewrite.specs.Marks.{marks}
use Rattle.plan_rewrite.specs.declared.way.Covered.{Covered}

-- whether what is compared with is a text, or a variable that operator n binds
abbrev pub marks_operand : Operand → List Operator → ℕ → Bool
marks_operand (var_operand v) ops n = slice_index_or (marks v [] ops) n false
marks_operand (text_operand label) ops n = true

-- whether operator n binds all variables of a comparison
abbrev pub covers : Test → List Operator → ℕ → Bool
covers t ops n = slice_index_or (marks t.left [] ops) n false && marks_operand t.right ops n

-- the side of a join into which the selection goes; None at any other operator, and where no side binds all variables
abbrev pub next_in : (ℕ → Bool) → Operator → Option ℕ
next_in covered (source s out) = None
next_in covered (get_descendants input start path out) = None
next_in covered (join left right tests) = cond (covered left) (Some left) (cond (covered right) (Some right) None)
next_in covered (over input op) = None
next_in covered (tuple_destroy input element) = None

-- the code's marks of the variables of a comparison
abbrev pub AreMarks : ℕ → List Operator → Option (Vec Bool Global) → Type 0
AreMarks v ops None = ⊥
AreMarks v ops (Some m) = m.items ≡ marks v [] ops

-- the code's marks of an operand are those of its variable; a text has none
abbrev pub AreRights : Operand → List Operator → Option (Vec Bool Global) → Type 0
AreRights (var_operand v) ops m = AreMarks v ops m
AreRights (text_operand label) ops m = m ≡ None

-- the code's marks are those of both sides of a comparison
pub record AreCovered (t : Test) (ops : List Operator) (c : Covered) : Type 0 where
  pub lefts : c.lefts.items ≡ marks t.left [] ops
  pub rights : AreRights t.right ops c.rights
