-- Which line spells which operator: the parts of an operator's line, a blank between them. The canonical text of a plan has the same parts.
use Rattle.std.specs.Prelude.{◌≡◌, ◌⊎◌, ◌<◌, ◌^◌, ℕ, min, IsTrue, List, [], ◌∷◌, ◌++◌, position, slice_index_or, Some, codes}
use Rattle.std.specs.List.{flat_map}
use Rattle.std.specs.Str.{IsUtf8, bytes_eq}
use Rattle.std.specs.Str.Parse.{digits_value}
use Rattle.std.specs.Fmt.{decimal}
use Rattle.mix_tree.specs.LabelGrammar.{SpellsQuoted}
use Rattle.mix_tree.specs.Names.{IsName}
use Rattle.mix_tree.specs.Signs.{op_sign}
use Rattle.mix_tree.specs.Spelling.{quoted}
use Rattle.mix_tree.specs.declared.var.Key.{Key}
use Rattle.mix_tree.specs.declared.var.Key.TheVariants.{Node as node_key, LabelOf as label_key}
use Rattle.mix_tree.specs.declared.comparing.Operand.{Operand}
use Rattle.mix_tree.specs.declared.comparing.Operand.TheVariants.{Var as var_operand, Text as text_operand}
use Rattle.mix_tree.specs.declared.comparing.Test.{Test}
use Rattle.mix_words.specs.Words.{is_name}
use Rattle.path_expr.specs.Form.{Form}
use Rattle.path_expr.specs.Results.{SpellsWithin, HasTooMany}
use Rattle.path_expr.specs.Canonical.{canon}
use Rattle.mix_catalog.specs.declared.source.SourceSpec.{SourceSpec}
use Rattle.plan_core.specs.declared.plan.Piece.{Piece}
use Rattle.plan_core.specs.declared.plan.Piece.TheVariants.{Var as var_piece, LabelOf as label_piece, Text as text_piece}
use Rattle.plan_core.specs.PlanText.{var_text, keys_text, direction_text, operator_text}
use Rattle.plan_core.specs.Unary.{Unary, select, order_by, project, group_by, concatenate, create_element}
use Rattle.plan_core.specs.Plans.{Operator, source, get_descendants, join, over, tuple_destroy}
use Rattle.plan_read.specs.Lines.{Line}
use Rattle.plan_read.specs.Numbers.{is_decimal, op_number}
use Rattle.plan_read.specs.Variables.{var_read}
use Rattle.plan_read.specs.Reading.{long_path, source_number, Numbered, path_read, quoted_read, line_read}
use Rattle.plan_read.specs.Words.{words, between}

-- a part of an operator's line: a fixed word, an operator's number, a variable, a source's name, an element's name, a path, a quoted label, keys
pub data Part : Type 0 where
  keyword : (word : List ℕ) → Part
  number : ℕ → Part
  variable : ℕ → Part
  of_source : ℕ → Part
  of_element : (name : List ℕ) → Part
  path : Form → Part
  text : (label : List ℕ) → Part
  keys : List Key → Part

-- the parts of what stands on the right of a comparison
abbrev pub operand_part : Operand → Part
operand_part (var_operand v) = variable v
operand_part (text_operand label) = text label

-- the parts of a comparison
abbrev pub test_parts : Test → List Part
test_parts t = variable t.left ∷ keyword (op_sign t.op) ∷ operand_part t.right ∷ []

-- the parts of comparisons, AND between them
abbrev pub tests_parts : List Test → List Part
tests_parts [] = []
tests_parts (t ∷ tests) = test_parts t ++ flat_map (λ t. keyword (codes "AND") ∷ test_parts t) tests

-- the parts of a piece
abbrev pub piece_parts : Piece → List Part
piece_parts (var_piece v) = variable v ∷ []
piece_parts (label_piece v) = keyword (codes "label") ∷ variable v ∷ []
piece_parts (text_piece label) = text label ∷ []

-- the variable that is bound, after an arrow
abbrev pub out_parts : ℕ → List Part
out_parts v = keyword (codes "->") ∷ variable v ∷ []

-- the parts of an operator with one input, after its number
abbrev pub unary_parts : ℕ → Unary → List Part
unary_parts i (select test) = keyword (codes "select") ∷ number i ∷ test_parts test
unary_parts i (order_by v desc) = keyword (codes "orderBy") ∷ number i ∷ variable v ∷ keyword (direction_text desc) ∷ []
unary_parts i (project ks) = keyword (codes "project") ∷ number i ∷ keys ks ∷ []
unary_parts i (group_by ks piece out) = keyword (codes "groupBy") ∷ number i ∷ keys ks ∷ (piece_parts piece ++ out_parts out)
unary_parts i (concatenate pieces out) = keyword (codes "concatenate") ∷ number i ∷ (flat_map piece_parts pieces ++ out_parts out)
unary_parts i (create_element label list out) = keyword (codes "createElement") ∷ number i ∷ of_element label ∷ variable list ∷ out_parts out

-- the parts of an operator, after its number
abbrev pub op_parts : Operator → List Part
op_parts (source s out) = keyword (codes "source") ∷ of_source s ∷ out_parts out
op_parts (get_descendants i start p out) = keyword (codes "getDescendants") ∷ number i ∷ variable start ∷ path p ∷ out_parts out
op_parts (join left right tests) = keyword (codes "join") ∷ number left ∷ number right ∷ tests_parts tests
op_parts (over i op) = unary_parts i op
op_parts (tuple_destroy i element) = keyword (codes "tupleDestroy") ∷ number i ∷ variable element ∷ []

-- the parts of an operator's line
abbrev pub line_parts : Numbered → List Part
line_parts n = number n.number ∷ op_parts n.op

-- the text is a variable's after its $: a name, which the names have at its place, or a number of 32 bits
abbrev pub IsVarText : List (List ℕ) → ℕ → List ℕ → Type 0
IsVarText names v x = (IsTrue (is_name x) × (position (bytes_eq x) names ≡ Some v)) ⊎ (IsTrue (is_decimal x) × (digits_value 10 x ≡ v) × (v < 2 ^ 32))

-- the word is the variable's
abbrev pub SpellsVar : List (List ℕ) → ℕ → List ℕ → Type 0
SpellsVar names v word = (x : List ℕ) × (word ≡ 36 ∷ x) × IsVarText names v x

-- the text is the key's
abbrev pub SpellsKey : List (List ℕ) → Key → List ℕ → Type 0
SpellsKey names (node_key v) x = SpellsVar names v x
SpellsKey names (label_key v) x = (y : List ℕ) × (x ≡ codes "label " ++ y) × SpellsVar names v y

-- the texts are the keys', one by one
abbrev pub SpellEach : List (List ℕ) → List Key → List (List ℕ) → Type 0
SpellEach names [] [] = Unit {0}
SpellEach names [] (x ∷ xs) = ⊥
SpellEach names (k ∷ ks) [] = ⊥
SpellEach names (k ∷ ks) (x ∷ xs) = SpellsKey names k x × SpellEach names ks xs

-- the word is keys with commas between them, in braces
abbrev pub SpellsKeys : List (List ℕ) → List Key → List ℕ → Type 0
SpellsKeys names ks word = (texts : List (List ℕ)) × SpellEach names ks texts × (word ≡ 123 ∷ between 44 texts ++ 125 ∷ [])

-- the word spells the path, with at most 100 parentheses open at once; one of more than 120 label positions stands as one of 121
abbrev pub SpellsPath : List ℕ → Form → Type 0
SpellsPath word p = SpellsWithin word p ⊎ ((n : ℕ) × HasTooMany word n × (p ≡ long_path))

-- a word spells a part; too long a number stands as the greatest of 32 bits, an unknown source as how many
-- there are
abbrev pub SpellsPart : List (List ℕ) → List SourceSpec → Part → List ℕ → Type 0
SpellsPart names sources (keyword w) word = word ≡ w
SpellsPart names sources (number n) word = IsTrue (is_decimal word) × (min (digits_value 10 word) 4294967295 ≡ n)
SpellsPart names sources (variable v) word = SpellsVar names v word
SpellsPart names sources (of_source s) word = IsName word × (source_number sources word ≡ s)
SpellsPart names sources (of_element name) word = IsName word × (word ≡ name)
SpellsPart names sources (path p) word = IsUtf8 word × SpellsPath word p
SpellsPart names sources (text label) word = IsUtf8 word × SpellsQuoted word label
SpellsPart names sources (keys ks) word = SpellsKeys names ks word

-- the words are the parts', one by one
abbrev pub SpellParts : List (List ℕ) → List SourceSpec → List Part → List (List ℕ) → Type 0
SpellParts names sources [] [] = Unit {0}
SpellParts names sources [] (w ∷ ws) = ⊥
SpellParts names sources (p ∷ ps) [] = ⊥
SpellParts names sources (p ∷ ps) (w ∷ ws) = SpellsPart names sources p w × SpellParts names sources ps ws

-- the line spells the operator and the number before it
abbrev pub SpellsLine : List (List ℕ) → List SourceSpec → List ℕ → Numbered → Type 0
SpellsLine names sources line n = SpellParts names sources (line_parts n) (words line)

-- each line spells an operator and its number
abbrev pub SpellLines : List (List ℕ) → List SourceSpec → List Line → List Numbered → Type 0
SpellLines names sources [] [] = Unit {0}
SpellLines names sources [] (n ∷ ns) = ⊥
SpellLines names sources (l ∷ ls) [] = ⊥
SpellLines names sources (l ∷ ls) (n ∷ ns) = SpellsLine names sources l.text n × SpellLines names sources ls ns

-- the canonical word of a part
abbrev pub part_text : List (List ℕ) → List (List ℕ) → Part → List ℕ
part_text names sources (keyword w) = w
part_text names sources (number n) = decimal n
part_text names sources (variable v) = var_text names v
part_text names sources (of_source s) = slice_index_or sources s []
part_text names sources (of_element name) = name
part_text names sources (path p) = canon p
part_text names sources (text label) = quoted label
part_text names sources (keys ks) = keys_text names ks

-- the canonical words of parts, a blank before each
abbrev pub parts_text : List (List ℕ) → List (List ℕ) → List Part → List ℕ
parts_text names sources parts = flat_map (λ p. 32 ∷ part_text names sources p) parts

-- the canonical text of an operator is that of its parts
abbrev pub WrittenByParts : Type 0
WrittenByParts = (names sources : List (List ℕ)) (op : Operator) → operator_text names sources op ≡ parts_text names sources (op_parts op)

-- what a word is read as, as a number, a variable, a path or a quoted label, is what it spells
pub record WordsAreSpelled : Type 0 where
  pub numbers : (word : List ℕ) (n : ℕ) → op_number word ≡ Some n → SpellsPart [] [] (number n) word
  pub variables : (names : List (List ℕ)) (word : List ℕ) (v : ℕ) → var_read names word ≡ Some v → SpellsPart names [] (variable v) word
  pub paths : (word : List ℕ) (p : Form) → path_read word ≡ Some p → SpellsPart [] [] (path p) word
  pub labels : (word label : List ℕ) → quoted_read word ≡ Some label → SpellsPart [] [] (text label) word

-- what a line is read as, over any names and sources, is what it spells
abbrev pub LinesAreSpelled : Type 0
LinesAreSpelled = (names : List (List ℕ)) (sources : List SourceSpec) (line : List ℕ) (n : Numbered) → line_read names sources line ≡ Some n → SpellsLine names sources line n

-- what a line spells is what it is read as, over any names and sources
abbrev pub SpelledLinesAreRead : Type 0
SpelledLinesAreRead = (names : List (List ℕ)) (sources : List SourceSpec) (line : List ℕ) (n : Numbered) → SpellsLine names sources line n → line_read names sources line ≡ Some n
