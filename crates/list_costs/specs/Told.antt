-- What is said of the lists of a view's answer.
use Rattle.std.specs.Prelude.{◌≡◌, ◌==◌, ◌&&◌, ℕ, Bool, false, not, List, [], ◌++◌, Option, Some, slice_get, slice_index_or, codes}
use Rattle.std.specs.List.{flat_map, list_any}
use Rattle.plan_core.specs.declared.plan.Op.{Op}
use Rattle.plan_core.specs.declared.plan.Op.TheVariants.{CreateElement, GroupBy}
use Rattle.plan_core.specs.declared.plan.Piece.{Piece}
use Rattle.plan_core.specs.declared.plan.Piece.TheVariants.{Var as var_piece, LabelOf as label_piece, Text as text_piece}
use Rattle.plan_core.specs.declared.plan.Plan.{Plan}
use Rattle.plan_core.specs.PlanMade.{plan_value}
use Rattle.browse_profile.specs.declared.profile.Profile.{Profile}
use Rattle.browse_visit.specs.declared.shape.Shape.{Shape}
use Rattle.browse_visit.specs.Shapes.{shapes_of}
use Rattle.browse_class.specs.Facts.{facts}
use Rattle.list_costs.specs.declared.answer_list.AnswerList.{AnswerList}
use Rattle.list_costs.specs.declared.words.Standing.{Standing}
use Rattle.list_costs.specs.Lists.{answer_lists}
use Rattle.list_costs.specs.Words.{list_lines}

-- the line before those of the lists
abbrev pub heading : List ℕ
heading = codes "so many pieces a step in these lists asks for at most:\n"

-- whether a piece is of a variable
abbrev pub is_piece : ℕ → Piece → Bool
is_piece v (var_piece w) = w == v
is_piece v (label_piece w) = false
is_piece v (text_piece label) = false

-- whether an operator takes the values of a variable together
abbrev pub groups : ℕ → Op → Bool
groups v (GroupBy input keys piece out) = is_piece v piece
groups v op = false

-- how the element of a variable stands inside so many lists: once in the element around it where no operator takes several together
abbrev pub standing_of : List Op → ℕ → ℕ → Standing
standing_of ops depth element = record { depth = depth; once = not (depth == 0) && not (list_any (groups element) ops) }

-- the reason of a number; nothing where there is no such reason
abbrev pub reason_at : List (List ℕ) → ℕ → List ℕ
reason_at reasons n = slice_index_or reasons n []

-- what is said of the list of a new element that an operator makes; the profiles of lists are known by the operator's input and the list's variable
abbrev pub op_said : (ℕ → ℕ → Profile) → List Op → List (List ℕ) → AnswerList → Option Op → List ℕ
op_said of ops reasons l (Some (CreateElement input label list out)) = list_lines (standing_of ops l.depth out) label (of input list) (reason_at reasons l.op)
op_said of ops reasons l op = []

-- what is said of a list of the answer, for reasons that are given by the operators' numbers
abbrev pub said_of : (ℕ → ℕ → Profile) → List Op → List (List ℕ) → AnswerList → List ℕ
said_of of ops reasons l = op_said of ops reasons l (slice_get ops l.op)

-- the profile of the list that a variable has at an operator of a plan, over sources of these shapes
abbrev pub list_profile : List Shape → Plan → ℕ → ℕ → Profile
list_profile shapes plan input list = (facts (shapes_of shapes) (plan_value plan).ops input).lists list

-- words tell of each list of the answer what steps in it cost at most, by what is known of the plan; and a reason where some number isn't known
pub record TellsLists (shapes : List Shape) (plan : Plan) (words : List ℕ) : Type 0 where
  pub reasons : List (List ℕ)
  pub words_are : words ≡ heading ++ flat_map (said_of (list_profile shapes plan) plan.ops.items reasons) (answer_lists plan.ops.items)
