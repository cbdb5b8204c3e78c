-- What the text of a token says.
use Rattle.std.specs.Prelude.{◌≡◌, ℕ, Bool, true, false, cond, ◌==◌, List, Result, nat_lt, Ok, Err}
use Rattle.mix_tree.specs.LabelGrammar.{Piece, ArePieces, meaning}
use Rattle.path_expr.specs.Form.{Form, positions_in}
use Rattle.path_expr.specs.Grammar as paths
use Rattle.xmas_tokens.specs.declared.lexeme.Comparison.{Comparison}
use Rattle.xmas_tokens.specs.declared.lexeme.Comparison.TheVariants as op
use Rattle.xmas_tokens.specs.declared.lexeme.PathLimit.{PathLimit}
use Rattle.xmas_tokens.specs.declared.token.Kind.{Kind}
use Rattle.xmas_tokens.specs.declared.lexeme.Lexeme.{Lexeme}
use Rattle.xmas_tokens.specs.Tokens.{quoted_text, Token, kind_of, token_text, IsToken, fixed, open_tag, close_tag, word, var, quoted, path, comparison}
use Rattle.path_expr.specs.Depth.{nesting}
use Rattle.path_expr.specs.Values.{value_of}
use Rattle.xmas_tokens.specs.declared.lexeme.PathLimit.TheVariants.{Nesting, Positions}
use Rattle.xmas_tokens.specs.declared.lexeme.Lexeme.TheVariants as lexeme

-- a path, or what it has too much of: more than 100 parentheses open at once before more than 120 label positions
abbrev pub path_form : paths.Spelled → Result Form PathLimit
path_form p = cond (nat_lt 100 (nesting p)) (Err Nesting) (cond (nat_lt 120 (positions_in (value_of p))) (Err Positions) (Ok (value_of p)))

-- what a token says
abbrev pub lexeme_of : Token → Lexeme
lexeme_of (fixed m) = lexeme.Fixed m
lexeme_of (open_tag l) = lexeme.OpenTag l
lexeme_of (close_tag l) = lexeme.CloseTag l
lexeme_of (word l) = lexeme.Name l
lexeme_of (var v) = lexeme.Var v
lexeme_of (quoted ps) = lexeme.Quoted (meaning ps)
lexeme_of (path p) = lexeme.Path (path_form p)
lexeme_of (comparison o) = lexeme.Operator o

-- the text is a token's, of the kind
abbrev pub IsWritten : Kind → List ℕ → Type 0
IsWritten k x = (t : Token) × IsToken t × (kind_of t ≡ k) × (token_text t ≡ x)

-- the text is a token's, of the kind, which says this
abbrev pub IsLexeme : Kind → List ℕ → Lexeme → Type 0
IsLexeme k x w = (t : Token) × IsToken t × (kind_of t ≡ k) × (token_text t ≡ x) × (lexeme_of t ≡ w)

-- the text is a quoted label's
abbrev pub IsQuotedText : List ℕ → Type 0
IsQuotedText x = (ps : List Piece) × ArePieces ps × (quoted_text ps ≡ x)

-- the text is a quoted label's, which means this
abbrev pub Quotes : List ℕ → List ℕ → Type 0
Quotes x l = (ps : List Piece) × ArePieces ps × (quoted_text ps ≡ x) × (meaning ps ≡ l)

-- the text is a path's
abbrev pub IsPathText : List ℕ → Type 0
IsPathText x = (p : paths.Spelled) × paths.Writes x p

-- the text is that of this path, or of one that passes this limit
abbrev pub SpellsPath : List ℕ → Result Form PathLimit → Type 0
SpellsPath x r = (p : paths.Spelled) × paths.Writes x p × (path_form p ≡ r)

-- the operator that begins by a byte, and has another one or not
abbrev pub op_by : ℕ → Bool → Comparison
op_by b true = cond (b == 33) op.Ne (cond (b == 60) op.Le op.Ge)
op_by b false = cond (b == 61) op.Eq (cond (b == 60) op.Lt op.Gt)
