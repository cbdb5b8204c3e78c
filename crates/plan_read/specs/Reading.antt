-- What the words of a line read as.
use Rattle.std.specs.Prelude.{ℕ, Bool, true, false, cond, ◌&&◌, ◌==◌, nat_le, List, [], ◌∷◌, ◌++◌, length, replicate, Option, Some, None, option_map, option_and_then, unwrap_or, codes}
use Rattle.std.specs.Str.{bytes_eq, is_utf8}
use Rattle.mix_tree.specs.LabelMachine.{Seen, got, unexpected, ends, start, seen_from}
use Rattle.mix_tree.specs.Signs.{op_sign}
use Rattle.mix_tree.specs.declared.var.Key.{Key}
use Rattle.mix_tree.specs.declared.comparing.Operand.{Operand}
use Rattle.mix_tree.specs.declared.comparing.Operand.TheVariants.{Var as var_operand, Text as text_operand}
use Rattle.mix_tree.specs.declared.comparing.Test.{Test}
use Rattle.mix_tree.specs.declared.comparing.TestOp.{TestOp}
use Rattle.mix_tree.specs.declared.comparing.TestOp.TheVariants.{Eq, Ne, Lt, Le, Gt, Ge, Same}
use Rattle.path_expr.specs.Grammar.{Spelled}
use Rattle.path_expr.specs.Form.{Form, any, seq, none, paths_of, positions_in}
use Rattle.path_expr.specs.Values.{value_of}
use Rattle.path_expr.specs.Depth.{nesting}
use Rattle.path_expr.specs.Machine.{read_of}
use Rattle.mix_catalog.specs.Forms.{is_source_name}
use Rattle.mix_catalog.specs.Sources.{source_named}
use Rattle.mix_catalog.specs.declared.source.SourceSpec.{SourceSpec}
use Rattle.plan_core.specs.declared.plan.Piece.{Piece}
use Rattle.plan_core.specs.declared.plan.Piece.TheVariants.{Var as var_piece, LabelOf as label_piece, Text as text_piece}
use Rattle.plan_core.specs.Unary.{select, order_by, project, group_by, concatenate, create_element}
use Rattle.plan_core.specs.Plans.{Operator, source, get_descendants, join, over, tuple_destroy}
use Rattle.plan_read.specs.Numbers.{op_number}
use Rattle.plan_read.specs.Variables.{var_read, keys_read}
use Rattle.plan_read.specs.Words.{words}

-- a word begins with a byte
abbrev pub begins : ℕ → List ℕ → Bool
begins c [] = false
begins c (b ∷ x) = b == c

-- the label that is the whole of what is seen
abbrev pub whole_label : Seen → Option (List ℕ)
whole_label (got label end []) = Some label
whole_label (got label end (b ∷ after)) = None
whole_label (unexpected at) = None
whole_label ends = None

-- the label that a word spells between quotes
abbrev pub quoted_read : List ℕ → Option (List ℕ)
quoted_read word = cond (is_utf8 word && begins 34 word) (whole_label (seen_from start 0 word)) None

-- a path of 121 label positions; it stands for each path that has more than 120
unfoldable pub long_path : Form
long_path = record { head = seq; members = paths_of (replicate 121 (record { head = any; members = none })) }

-- a path of at most 120 label positions, and else the one of 121 that stands for it
abbrev pub within_positions : Form → Form
within_positions p = cond (nat_le (positions_in p) 120) p long_path

-- the path of a written one that has at most 100 parentheses open at once
abbrev pub path_form : Spelled → Option Form
path_form p = cond (nat_le (nesting p) 100) (Some (within_positions (value_of p))) None

-- the path that a word spells
abbrev pub path_read : List ℕ → Option Form
path_read word = cond (is_utf8 word) (option_and_then path_form (read_of word)) None

-- the number of the source of a name; how many sources there are, where none has it
abbrev pub source_number : List SourceSpec → List ℕ → ℕ
source_number sources name = unwrap_or (source_named sources name) (length sources)

-- the comparison of a sign
abbrev pub sign_read : List ℕ → Option TestOp
sign_read word =
    cond (bytes_eq word (op_sign Eq)) (Some Eq)
    (cond (bytes_eq word (op_sign Ne)) (Some Ne)
    (cond (bytes_eq word (op_sign Lt)) (Some Lt)
    (cond (bytes_eq word (op_sign Le)) (Some Le)
    (cond (bytes_eq word (op_sign Gt)) (Some Gt) (cond (bytes_eq word (op_sign Ge)) (Some Ge) (cond (bytes_eq word (op_sign Same)) (Some Same) None))))))

-- what stands on the right of a comparison
abbrev pub operand_read : List (List ℕ) → List ℕ → Option Operand
operand_read names word = cond (begins 36 word) (option_map var_operand (var_read names word)) (option_map text_operand (quoted_read word))

-- a comparison of its parts
abbrev pub test_of : ℕ → TestOp → Operand → Test
test_of left op right = record { left = left; op = op; right = right }

-- a comparison of three words
abbrev pub test_read : List (List ℕ) → List ℕ → List ℕ → List ℕ → Option Test
test_read names left sign right =
    option_and_then (λ l. option_and_then (λ s. option_map (test_of l s) (operand_read names right)) (sign_read sign)) (var_read names left)

-- comparisons of which this one is the first, where there is one
abbrev pub with_test : Option Test → Option (List Test) → Option (List Test)
with_test test tests = option_and_then (λ t. option_map (λ ts. t ∷ ts) tests) test

-- the comparison of the first words, after AND
abbrev pub next_test : List (List ℕ) → List (List ℕ) → Option Test
next_test names [] = None
next_test names (a ∷ []) = None
next_test names (a ∷ l ∷ []) = None
next_test names (a ∷ l ∷ s ∷ []) = None
next_test names (a ∷ l ∷ s ∷ r ∷ ws) = cond (bytes_eq a (codes "AND")) (test_read names l s r) None

-- the comparisons that words spell, each after AND
abbrev pub more_tests : List (List ℕ) → List (List ℕ) → Option (List Test)
more_tests names [] = Some []
more_tests names (a ∷ []) = None
more_tests names (a ∷ l ∷ []) = None
more_tests names (a ∷ l ∷ s ∷ []) = None
more_tests names (a ∷ l ∷ s ∷ r ∷ ws) = cond (bytes_eq a (codes "AND")) (with_test (test_read names l s r) (more_tests names ws)) None

-- comparisons with more after them, where there are more
abbrev pub with_more : List Test → Option (List Test) → Option (List Test)
with_more tests more = option_map (λ ts. tests ++ ts) more

-- comparisons with AND between them, or none
abbrev pub tests_read : List (List ℕ) → List (List ℕ) → Option (List Test)
tests_read names [] = Some []
tests_read names (l ∷ []) = None
tests_read names (l ∷ s ∷ []) = None
tests_read names (l ∷ s ∷ r ∷ ws) = with_test (test_read names l s r) (more_tests names ws)

-- the variable that is bound, after an arrow
abbrev pub out_read : List (List ℕ) → List ℕ → List ℕ → Option ℕ
out_read names arrow out = cond (bytes_eq arrow (codes "->")) (var_read names out) None

-- a piece of one word
abbrev pub piece_read : List (List ℕ) → List ℕ → Option Piece
piece_read names word = cond (begins 36 word) (option_map var_piece (var_read names word)) (option_map text_piece (quoted_read word))

-- the piece of the first words, and how many words it has
abbrev pub next_piece : List (List ℕ) → List ℕ → List ℕ → Option (Piece × ℕ)
next_piece names w v =
    cond (bytes_eq w (codes "label")) (option_map (λ (x : ℕ). (label_piece x, 2)) (var_read names v)) (option_map (λ (p : Piece). (p, 1)) (piece_read names w))

-- pieces, and the variable that is bound after them
pub record Pieces : Type 0 where
  pub pieces : List Piece
  pub out : ℕ

-- no pieces, and the variable that stands after them
abbrev pub no_pieces : ℕ → Pieces
no_pieces out = record { pieces = []; out = out }

-- pieces of which this one is the first, where there is one
abbrev pub with_piece : Option Piece → Option Pieces → Option Pieces
with_piece piece rest = option_and_then (λ p. option_map (λ (r : Pieces). record { pieces = p ∷ r.pieces; out = r.out }) rest) piece

-- pieces, an arrow and a variable
abbrev pub pieces_read : List (List ℕ) → List (List ℕ) → Option Pieces
pieces_read names [] = None
pieces_read names (w ∷ []) = None
pieces_read names (w ∷ v ∷ []) = option_map no_pieces (out_read names w v)
pieces_read names (w ∷ v ∷ x ∷ ws) =
    cond (bytes_eq w (codes "label")) (with_piece (option_map label_piece (var_read names v)) (pieces_read names (x ∷ ws)))
    (with_piece (piece_read names w) (pieces_read names (v ∷ x ∷ ws)))

-- the direction of an order: whether it descends
abbrev pub direction_read : List ℕ → Option Bool
direction_read word = cond (bytes_eq word (codes "desc")) (Some true) (cond (bytes_eq word (codes "asc")) (Some false) None)

-- the input and the variables of the words IN VAR before an operator's own, and -> VAR after them
abbrev pub ends_read : List (List ℕ) → List ℕ → List ℕ → List ℕ → List ℕ → Option (ℕ × ℕ × ℕ)
ends_read names input var arrow out = option_and_then (λ i. option_and_then (λ v. option_map (λ (o : ℕ). (i, v, o)) (out_read names arrow out)) (var_read names var)) (op_number input)

-- the source of the words NAME -> VAR
abbrev pub source_form : List (List ℕ) → List SourceSpec → List (List ℕ) → Option Operator
source_form names sources (name ∷ arrow ∷ out ∷ []) =
    cond (is_source_name name) (option_map (source (source_number sources name)) (out_read names arrow out)) None
source_form names sources ws = None

-- the getDescendants of the words IN VAR PATH -> VAR
abbrev pub descent_form : List (List ℕ) → List (List ℕ) → Option Operator
descent_form names (input ∷ from ∷ path ∷ arrow ∷ out ∷ []) =
    option_and_then (λ (e : ℕ × ℕ × ℕ). option_map (λ p. get_descendants e.0 e.1 p e.2) (path_read path)) (ends_read names input from arrow out)
descent_form names ws = None

-- the selection of the words IN TEST
abbrev pub select_form : List (List ℕ) → List (List ℕ) → Option Operator
select_form names (input ∷ left ∷ sign ∷ right ∷ []) = option_and_then (λ i. option_map (λ t. over i (select t)) (test_read names left sign right)) (op_number input)
select_form names ws = None

-- the join of the words LEFT RIGHT and comparisons
abbrev pub join_form : List (List ℕ) → List (List ℕ) → Option Operator
join_form names (left ∷ right ∷ tests) = option_and_then (λ l. option_and_then (λ r. option_map (join l r) (tests_read names tests)) (op_number right)) (op_number left)
join_form names ws = None

-- the projection of the words IN KEYS
abbrev pub project_form : List (List ℕ) → List (List ℕ) → Option Operator
project_form names (input ∷ keys ∷ []) = option_and_then (λ i. option_map (λ ks. over i (project ks)) (keys_read names keys)) (op_number input)
project_form names ws = None

-- the only piece of a list, where it has just one
abbrev pub one_piece : List Piece → Option Piece
one_piece [] = None
one_piece (p ∷ []) = Some p
one_piece (p ∷ q ∷ ps) = None

-- the groups of one piece
abbrev pub group_of : ℕ → List Key → Pieces → Option Operator
group_of i keys read = option_map (λ p. over i (group_by keys p read.out)) (one_piece read.pieces)

-- the groupBy of the words IN KEYS PIECE -> VAR
abbrev pub group_form : List (List ℕ) → List (List ℕ) → Option Operator
group_form names (input ∷ keys ∷ rest) = option_and_then (λ i. option_and_then (λ ks. option_and_then (group_of i ks) (pieces_read names rest)) (keys_read names keys)) (op_number input)
group_form names ws = None

-- the order of the words IN VAR asc, or IN VAR desc
abbrev pub order_form : List (List ℕ) → List (List ℕ) → Option Operator
order_form names (input ∷ var ∷ direction ∷ []) = option_and_then (λ i. option_and_then (λ v. option_map (λ d. over i (order_by v d)) (direction_read direction)) (var_read names var)) (op_number input)
order_form names ws = None

-- the concatenate of the words IN PIECE PIECE .. -> VAR
abbrev pub concat_form : List (List ℕ) → List (List ℕ) → Option Operator
concat_form names (input ∷ rest) = option_and_then (λ i. option_map (λ (r : Pieces). over i (concatenate r.pieces r.out)) (pieces_read names rest)) (op_number input)
concat_form names ws = None

-- the createElement of the words IN NAME VAR -> VAR
abbrev pub element_form : List (List ℕ) → List (List ℕ) → Option Operator
element_form names (input ∷ name ∷ list ∷ arrow ∷ out ∷ []) =
    cond (is_source_name name) (option_map (λ (e : ℕ × ℕ × ℕ). over e.0 (create_element name e.1 e.2)) (ends_read names input list arrow out)) None
element_form names ws = None

-- the tupleDestroy of the words IN VAR
abbrev pub destroy_form : List (List ℕ) → List (List ℕ) → Option Operator
destroy_form names (input ∷ element ∷ []) = option_and_then (λ i. option_map (tuple_destroy i) (var_read names element)) (op_number input)
destroy_form names ws = None

-- the operator of a keyword and the words after it
abbrev pub keyword_read : List (List ℕ) → List SourceSpec → List ℕ → List (List ℕ) → Option Operator
keyword_read names sources keyword ws =
    cond (bytes_eq keyword (codes "source")) (source_form names sources ws)
    (cond (bytes_eq keyword (codes "getDescendants")) (descent_form names ws)
    (cond (bytes_eq keyword (codes "select")) (select_form names ws)
    (cond (bytes_eq keyword (codes "join")) (join_form names ws)
    (cond (bytes_eq keyword (codes "project")) (project_form names ws)
    (cond (bytes_eq keyword (codes "groupBy")) (group_form names ws)
    (cond (bytes_eq keyword (codes "orderBy")) (order_form names ws)
    (cond (bytes_eq keyword (codes "concatenate")) (concat_form names ws)
    (cond (bytes_eq keyword (codes "createElement")) (element_form names ws) (cond (bytes_eq keyword (codes "tupleDestroy")) (destroy_form names ws) None)))))))))

-- an operator with its number
pub record Numbered : Type 0 where
  pub number : ℕ
  pub op : Operator

-- an operator and its number
abbrev pub numbered : ℕ → Operator → Numbered
numbered n op = record { number = n; op = op }

-- the operator that the words of a line read as, with its number
abbrev pub words_read : List (List ℕ) → List SourceSpec → List (List ℕ) → Option Numbered
words_read names sources (number ∷ keyword ∷ ws) = option_and_then (λ n. option_map (numbered n) (keyword_read names sources keyword ws)) (op_number number)
words_read names sources ws = None

-- the operator of a line, with its number
abbrev pub line_read : List (List ℕ) → List SourceSpec → List ℕ → Option Numbered
line_read names sources line = words_read names sources (words line)
