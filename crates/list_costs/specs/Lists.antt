-- Which lists there are in the answer of a plan.
use Rattle.std.specs.Prelude.{ℕ, zero, suc, ◌-◌, ◌==◌, cond, List, [], ◌∷◌, length, map, Option, Some, None, slice_get}
use Rattle.std.specs.BTreeMap.{get}
use Rattle.std.specs.List.{flat_map}
use Rattle.std.specs.Global.{Vec}
use Rattle.std.specs.Ordering.{nat_cmp}
use Rattle.plan_core.specs.declared.plan.Op.{Op}
use Rattle.plan_core.specs.declared.plan.Op.TheVariants.{GroupBy, Concatenate, CreateElement, TupleDestroy}
use Rattle.plan_core.specs.declared.plan.Piece.{Piece}
use Rattle.plan_core.specs.declared.plan.Piece.TheVariants.{Var as var_piece, LabelOf as label_piece, Text as text_piece}
use Rattle.list_costs.specs.declared.answer_list.AnswerList.{AnswerList}
use Rattle.list_costs.specs.declared.nested.NestedLists.{NestedLists}

-- the same lists inside one element more
abbrev pub deeper : List AnswerList → List AnswerList
deeper lists = map (λ (l : AnswerList). record { depth = suc l.depth; op = l.op }) lists

-- the lists in the trees of a piece, by those in the values of variables
abbrev pub piece_lists : (ℕ → List AnswerList) → Piece → List AnswerList
piece_lists of (var_piece v) = of v
piece_lists of (label_piece v) = []
piece_lists of (text_piece label) = []

-- the list of the element that operator n makes over the list of a variable, and after it those inside
abbrev pub own_lists : ℕ → (ℕ → List AnswerList) → ℕ → List AnswerList
own_lists n of list = record { depth = 0; op = n } ∷ deeper (of list)

-- the variable that operator n binds to a list or an element, if it does, and the lists in its values
abbrev pub bound_lists : ℕ → (ℕ → List AnswerList) → Option Op → Option (ℕ × List AnswerList)
bound_lists n of (Some (GroupBy input keys piece out)) = Some (out, piece_lists of piece)
bound_lists n of (Some (Concatenate input pieces out)) = Some (out, flat_map (piece_lists of) pieces.items)
bound_lists n of (Some (CreateElement input label list out)) = Some (out, own_lists n of list)
bound_lists n of op = None

-- the lists in the values of variables, where those of one may be told anew
abbrev pub lists_with : Option (ℕ × List AnswerList) → (ℕ → List AnswerList) → ℕ → List AnswerList
lists_with None of v = of v
lists_with (Some bound) of v = cond (bound.0 == v) bound.1 (of v)

-- the lists in the values of the variables that the first n operators bind
abbrev pub lists_below : List Op → ℕ → ℕ → List AnswerList
lists_below ops zero v = []
lists_below ops (suc n) v = lists_with (bound_lists n (lists_below ops n) (slice_get ops n)) (lists_below ops n) v

-- the lists in the element that an operator gives as the answer
abbrev pub element_lists : (ℕ → List AnswerList) → Option Op → List AnswerList
element_lists of (Some (TupleDestroy input element)) = of element
element_lists of op = []

-- the lists of the answer of a plan: that of the outer element first, and after each those inside it, in the order of its pieces
abbrev pub answer_lists : List Op → List AnswerList
answer_lists ops = element_lists (lists_below ops (length ops)) (slice_get ops (length ops - 1))

-- the lists that were found, or none
abbrev pub found_or_none : Option (Vec AnswerList) → List AnswerList
found_or_none None = []
found_or_none (Some lists) = lists.items

-- the lists in the values of a variable, by the map
abbrev pub lists_in : NestedLists → ℕ → List AnswerList
lists_in nested v = found_or_none (get nat_cmp nested.vars v)
