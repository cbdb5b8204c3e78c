-- Plans that are written so that their text is read as them, with their named variables numbered as the text first has them.
use Rattle.std.specs.Prelude.{◌≡◌, ◌<◌, ◌≤◌, ◌^◌, ℕ, cond, nat_lt, IsTrue, List, [], ◌∷◌, map, filter, length, slice_index_or, position, Some, Ok}
use Rattle.std.specs.List.{AllByRecursion, flat_map, position_or_len}
use Rattle.std.specs.Str.{IsUtf8, bytes_eq}
use Rattle.mix_base.specs.Ascents.{Among}
use Rattle.mix_tree.specs.Keys.{key_var}
use Rattle.mix_tree.specs.Names.{IsName}
use Rattle.mix_tree.specs.declared.var.Key.{Key}
use Rattle.mix_tree.specs.declared.var.Key.TheVariants.{Node as node_key, LabelOf as label_key}
use Rattle.mix_tree.specs.declared.comparing.Operand.{Operand}
use Rattle.mix_tree.specs.declared.comparing.Operand.TheVariants.{Var as var_operand, Text as text_operand}
use Rattle.mix_tree.specs.declared.comparing.Test.{Test}
use Rattle.mix_words.specs.Words.{is_name}
use Rattle.path_expr.specs.Canonical.{canon}
use Rattle.path_expr.specs.Results.{SpellsWithin}
use Rattle.mix_catalog.specs.Sources.{AreNumbered}
use Rattle.mix_catalog.specs.declared.source.SourceSpec.{SourceSpec}
use Rattle.plan_core.specs.declared.plan.Piece.{Piece}
use Rattle.plan_core.specs.declared.plan.Piece.TheVariants.{Var as var_piece, LabelOf as label_piece, Text as text_piece}
use Rattle.plan_core.specs.PlanText.{plan_text}
use Rattle.plan_core.specs.Unary.{Unary, select, order_by, project, group_by, concatenate, create_element}
use Rattle.plan_core.specs.Plans.{Operator, source, get_descendants, join, over, tuple_destroy, PlanValue}
use Rattle.plan_core.specs.Valid.{IsValid}
use Rattle.plan_read.specs.Grammar.{Part, keyword, number, variable, of_source, of_element, path, text, keys, op_parts}
use Rattle.plan_read.specs.Results.{Answers}
use Rattle.plan_read.specs.Variables.{with_new}

-- the variables of a part
abbrev pub part_vars : Part → List ℕ
part_vars (keyword w) = []
part_vars (number n) = []
part_vars (variable v) = v ∷ []
part_vars (of_source s) = []
part_vars (of_element name) = []
part_vars (path p) = []
part_vars (text label) = []
part_vars (keys ks) = map key_var ks

-- the variables of an operator, in the order of its line
abbrev pub op_vars : Operator → List ℕ
op_vars op = flat_map part_vars (op_parts op)

-- the variables of operators, in the order of their lines
abbrev pub vars_of : List Operator → List ℕ
vars_of ops = flat_map op_vars ops

-- an element's name, a path and a label are such as words spell: a name, the path of its canonical text, UTF-8
abbrev pub IsWritten : Part → Type 0
IsWritten (keyword w) = Unit {0}
IsWritten (number n) = Unit {0}
IsWritten (variable v) = Unit {0}
IsWritten (of_source s) = Unit {0}
IsWritten (of_element name) = IsName name
IsWritten (path p) = IsUtf8 (canon p) × SpellsWithin (canon p) p
IsWritten (text label) = IsUtf8 label
IsWritten (keys ks) = Unit {0}

-- each name is that of a variable, and stands at its own place alone
abbrev pub AreNames : List (List ℕ) → Type 0
AreNames names = (v : ℕ) → v < length names → IsTrue (is_name (slice_index_or names v [])) × (position (bytes_eq (slice_index_or names v [])) names ≡ Some v)

-- a plan over the sources of a catalog whose text is read as that plan: its names are such, each of them is a variable of its operators, all
-- variables have 32 bits, and each part is such as a word spells
pub record IsWritable (sources : List SourceSpec) (p : PlanValue) : Type 0 where
  pub catalog : AreNumbered sources
  pub of_catalog : p.sources ≡ map (λ (s : SourceSpec). s.name) sources
  pub names : AreNames p.names
  pub said : (v : ℕ) → v < length p.names → Among v (vars_of p.ops)
  pub vars : AllByRecursion (λ v. v < 2 ^ 32) (vars_of p.ops)
  pub parts : AllByRecursion (λ op. AllByRecursion IsWritten (op_parts op)) p.ops

-- the names of a plan, in the order in which its text first has them
abbrev pub names_said : PlanValue → List (List ℕ)
names_said p = with_new [] (map (λ v. slice_index_or p.names v []) (filter (λ v. nat_lt v (length p.names)) (vars_of p.ops)))

-- the number of a variable where the names are numbered in that order; a variable without a name keeps its number
abbrev pub number_said : PlanValue → ℕ → ℕ
number_said p v = cond (nat_lt v (length p.names)) (position_or_len (bytes_eq (slice_index_or p.names v [])) (names_said p)) v

-- a key of other numbers
abbrev pub key_as : (ℕ → ℕ) → Key → Key
key_as f (node_key v) = node_key (f v)
key_as f (label_key v) = label_key (f v)

-- the right side of a comparison of other numbers
abbrev pub operand_as : (ℕ → ℕ) → Operand → Operand
operand_as f (var_operand v) = var_operand (f v)
operand_as f (text_operand label) = text_operand label

-- a comparison of other numbers
abbrev pub test_as : (ℕ → ℕ) → Test → Test
test_as f t = record { left = f t.left; op = t.op; right = operand_as f t.right }

-- a piece of other numbers
abbrev pub piece_as : (ℕ → ℕ) → Piece → Piece
piece_as f (var_piece v) = var_piece (f v)
piece_as f (label_piece v) = label_piece (f v)
piece_as f (text_piece label) = text_piece label

-- an operator with one input, of other numbers
abbrev pub unary_as : (ℕ → ℕ) → Unary → Unary
unary_as f (select test) = select (test_as f test)
unary_as f (order_by v desc) = order_by (f v) desc
unary_as f (project ks) = project (map (key_as f) ks)
unary_as f (group_by ks piece out) = group_by (map (key_as f) ks) (piece_as f piece) (f out)
unary_as f (concatenate pieces out) = concatenate (map (piece_as f) pieces) (f out)
unary_as f (create_element label list out) = create_element label (f list) (f out)

-- an operator whose variables have other numbers
abbrev pub operator_as : (ℕ → ℕ) → Operator → Operator
operator_as f (source s out) = source s (f out)
operator_as f (get_descendants input start p out) = get_descendants input (f start) p (f out)
operator_as f (join left right tests) = join left right (map (test_as f) tests)
operator_as f (over input op) = over input (unary_as f op)
operator_as f (tuple_destroy input element) = tuple_destroy input (f element)

-- a plan with its named variables numbered in the order in which its text first has them, and nothing else changed
abbrev pub renumbered : PlanValue → PlanValue
renumbered p = record { ops = map (operator_as (number_said p)) p.ops; names = names_said p; sources = p.sources }

-- the text of a valid plan of at most 10,000 operators that can be written is read as that plan with its named variables numbered as the text
-- first has them; that has the same text, and is the plan itself where its names stand in that order already
pub record WrittenPlansAreRead : Type 0 where
  pub read : (sources : List SourceSpec) (p : PlanValue) → IsWritable sources p → IsValid p → length p.ops ≤ 10000
      → Answers (plan_text p) sources (Ok (renumbered p))
  pub text : (sources : List SourceSpec) (p : PlanValue) → IsWritable sources p → plan_text (renumbered p) ≡ plan_text p
  pub same : (sources : List SourceSpec) (p : PlanValue) → IsWritable sources p → IsValid p → length p.ops ≤ 10000 → names_said p ≡ p.names
      → renumbered p ≡ p
