-- Tokens as they are written.
use Rattle.std.specs.Prelude.{ℕ, List, [], ◌∷◌, ◌++◌, Option, Some, None, codes}
use Rattle.mix_tree.specs.LabelGrammar.{Piece, ArePieces, inside_quotes}
use Rattle.path_expr.specs.Grammar.{Spelled, text_of, Is, a_path}
use Rattle.mix_tree.specs.Names.{IsName}
use Rattle.xmas_tokens.specs.Lexical.{IsVar}
use Rattle.xmas_tokens.specs.declared.lexeme.Comparison.{Comparison}
use Rattle.xmas_tokens.specs.declared.lexeme.Comparison.TheVariants as op
use Rattle.xmas_tokens.specs.declared.token.Mark.{Mark}
use Rattle.xmas_tokens.specs.declared.token.Mark.TheVariants as mark
use Rattle.xmas_tokens.specs.declared.token.Sign.{Sign}
use Rattle.xmas_tokens.specs.declared.token.Sign.TheVariants as sign
use Rattle.xmas_tokens.specs.declared.token.Kind.{Kind}
use Rattle.xmas_tokens.specs.declared.token.Kind.TheVariants as kind

-- a token of a rule's text
pub data Token : Type 0 where
  fixed : Mark → Token
  open_tag : List ℕ → Token
  close_tag : List ℕ → Token
  word : List ℕ → Token
  var : List ℕ → Token
  quoted : List Piece → Token
  path : Spelled → Token
  comparison : Comparison → Token

-- the kind of a token
abbrev pub kind_of : Token → Kind
kind_of (fixed m) = kind.Fixed m
kind_of (open_tag l) = kind.OpenTag
kind_of (close_tag l) = kind.CloseTag
kind_of (word l) = kind.Name
kind_of (var v) = kind.Var
kind_of (quoted ps) = kind.Quoted
kind_of (path p) = kind.Path
kind_of (comparison o) = kind.Operator

-- the first byte of a token that is always the same
abbrev pub mark_first : Mark → ℕ
mark_first mark.Construct = 67
mark_first mark.Where = 87
mark_first mark.And = 65
mark_first mark.LabelWord = 108
mark_first mark.OpenBrace = 123
mark_first mark.CloseBrace = 125
mark_first mark.Comma = 44
mark_first mark.Order = 79
mark_first mark.By = 66
mark_first mark.Desc = 68

-- the bytes of a token that is always the same, after its first
abbrev pub mark_rest : Mark → List ℕ
mark_rest mark.Construct = codes "ONSTRUCT"
mark_rest mark.Where = codes "HERE"
mark_rest mark.And = codes "ND"
mark_rest mark.LabelWord = codes "abel"
mark_rest mark.OpenBrace = []
mark_rest mark.CloseBrace = []
mark_rest mark.Comma = []
mark_rest mark.Order = codes "RDER"
mark_rest mark.By = 89 ∷ []
mark_rest mark.Desc = codes "ESC"

-- the text of a token that is always the same
abbrev pub mark_text : Mark → List ℕ
mark_text m = mark_first m ∷ mark_rest m

-- the byte of a sign
abbrev pub sign_byte : Sign → ℕ
sign_byte sign.Bang = 33
sign_byte sign.Less = 60
sign_byte sign.Greater = 62

-- the operator of a sign with = after it
abbrev pub with_equal : Sign → Comparison
with_equal sign.Bang = op.Ne
with_equal sign.Less = op.Le
with_equal sign.Greater = op.Ge

-- the operator of a sign alone, where it is one
abbrev pub by_sign : Sign → Option Token
by_sign sign.Bang = None
by_sign sign.Less = Some (comparison op.Lt)
by_sign sign.Greater = Some (comparison op.Gt)

-- the text of a quoted label
abbrev pub quoted_text : List Piece → List ℕ
quoted_text ps = 34 ∷ inside_quotes ps ++ 34 ∷ []

-- the text of an operator
abbrev pub op_text : Comparison → List ℕ
op_text op.Eq = 61 ∷ []
op_text op.Ne = 33 ∷ 61 ∷ []
op_text op.Lt = 60 ∷ []
op_text op.Le = 60 ∷ 61 ∷ []
op_text op.Gt = 62 ∷ []
op_text op.Ge = 62 ∷ 61 ∷ []

-- the text of a token
abbrev pub token_text : Token → List ℕ
token_text (fixed m) = mark_text m
token_text (open_tag l) = 60 ∷ (l ++ 62 ∷ [])
token_text (close_tag l) = 60 ∷ 47 ∷ (l ++ 62 ∷ [])
token_text (word l) = l
token_text (var v) = 36 ∷ v
token_text (quoted ps) = quoted_text ps
token_text (path p) = text_of p
token_text (comparison o) = op_text o

-- a token as the grammar has it
abbrev pub IsToken : Token → Type 0
IsToken (fixed m) = Unit {0}
IsToken (open_tag l) = IsName l
IsToken (close_tag l) = IsName l
IsToken (word l) = IsName l
IsToken (var v) = IsVar v
IsToken (quoted ps) = ArePieces ps
IsToken (path p) = Is p a_path
IsToken (comparison o) = Unit {0}
