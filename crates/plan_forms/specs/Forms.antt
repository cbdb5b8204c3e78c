-- What each operator makes lists and elements of, and what is written in it.
use Rattle.std.specs.Prelude.{◌≡◌, ◌<◌, ℕ, Bool, true, false, IsTrue, Some, None, List, [], ◌∷◌, length, slice_index_or}
use Rattle.std.specs.List.{last_or}
use Rattle.mix_tree.specs.declared.var.Key.{Key}
use Rattle.plan_core.specs.declared.plan.Piece.{Piece}
use Rattle.plan_core.specs.declared.plan.Piece.TheVariants.{Var as var_piece, LabelOf as label_piece, Text as text_piece}
use Rattle.plan_core.specs.Plans.{Operator, source, get_descendants, join, over, tuple_destroy}
use Rattle.plan_core.specs.Unary.{group_by, concatenate, create_element}
use Rattle.plan_core.specs.ByNumber.{op_at}
use Rattle.plan_core.specs.Valid.{kinds, an_element, is_single_at}

-- the kinds of operators by what they make: a list of pieces, elements, one group of all bindings, a group for each key, or nothing
pub data Form : Type 0 where
  makes_list : Form
  makes_element : Form
  gathers_all : Form
  gathers_groups : Form
  makes_nothing : Form

-- the kind of an operator by what it makes; a groupBy without keys makes one group
abbrev pub form : Operator → Form
form (over input (group_by [] piece out)) = gathers_all
form (over input (group_by (k ∷ keys) piece out)) = gathers_groups
form (over input (concatenate pieces out)) = makes_list
form (over input (create_element label list out)) = makes_element
form op = makes_nothing

-- the input of an operator, or the left one of two; 0 where it has none
abbrev pub input_of : Operator → ℕ
input_of (source s out) = 0
input_of (get_descendants input start path out) = input
input_of (join left right tests) = left
input_of (over input op) = input
input_of (tuple_destroy input element) = input

-- the pieces of which an operator makes its list, its groups or its elements; none where it makes none
abbrev pub pieces_of : Operator → List Piece
pieces_of (over input (group_by keys piece out)) = piece ∷ []
pieces_of (over input (concatenate pieces out)) = pieces
pieces_of (over input (create_element label list out)) = var_piece list ∷ []
pieces_of op = []

-- the keys of a groupBy; none of any other operator
abbrev pub keys_of : Operator → List Key
keys_of (over input (group_by keys piece out)) = keys
keys_of op = []

-- the label of the elements that an operator makes; no bytes where it makes none
abbrev pub label_in : Operator → List ℕ
label_in (over input (create_element label list out)) = label
label_in op = []

-- the label of the elements that an operator makes, as a list of one; empty where it makes none
abbrev pub labels_written : Operator → List (List ℕ)
labels_written (over input (create_element label list out)) = label ∷ []
labels_written op = []

-- the variable that an operator shows, as a list of one: the list of its elements, or the element that is the document; empty where it shows none
abbrev pub shown_by : Operator → List ℕ
shown_by (over input (create_element label list out)) = list ∷ []
shown_by (tuple_destroy input element) = element ∷ []
shown_by op = []

-- the label of a piece that is a text, as a list of one; empty where the piece is a variable
abbrev pub texts_written : Piece → List (List ℕ)
texts_written (var_piece v) = []
texts_written (label_piece v) = []
texts_written (text_piece label) = label ∷ []

-- the piece at an index among those of operator op; past the last an empty text
abbrev pub piece_at : List Operator → ℕ → ℕ → Piece
piece_at ops op index = slice_index_or (pieces_of (op_at ops op)) index (text_piece [])

-- the first piece of operator op, the only one of a groupBy or of a createElement
abbrev pub piece_of : List Operator → ℕ → Piece
piece_of ops op = piece_at ops op 0

-- the input of operator n, or the left one of two; 0 where it has none
abbrev pub input_at : List Operator → ℕ → ℕ
input_at ops n = input_of (op_at ops n)

-- the pieces of an operator are written in it: it is no createElement
abbrev pub IsWritten : Operator → Type 0
IsWritten o = form o ≡ makes_element → ⊥

-- the label of a piece that is a text; no bytes where it is a variable
abbrev pub text_of : Piece → List ℕ
text_of (var_piece v) = []
text_of (label_piece v) = []
text_of (text_piece label) = label

-- whether a piece is a text
abbrev pub is_text : Piece → Bool
is_text (var_piece v) = false
is_text (label_piece v) = false
is_text (text_piece label) = true

-- the last operator of a plan makes the document of an element, which stands in the single binding of its input
pub record IsLast (ops : List Operator) (input element : ℕ) : Type 0 where
  pub within : input < length ops
  pub kind : kinds ops input element ≡ Some an_element
  pub single : IsTrue (is_single_at ops input)
  pub last : last_or None ops ≡ Some (tuple_destroy input element)
