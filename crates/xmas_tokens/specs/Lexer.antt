-- Reading a token byte by byte.
use Rattle.std.specs.Prelude.{ℕ, Bool, cond, ◌||◌, ◌&&◌, ◌==◌, List, [], ◌∷◌, ◌++◌, Option, Some, None}
use Rattle.mix_tree.specs.LabelGrammar.{Piece, plain, escape, is_escape}
use Rattle.mix_tree.specs.Names.{is_name_byte}
use Rattle.path_expr.specs.Grammar.{Spelled}
use Rattle.path_expr.specs.Machine as paths
use Rattle.xmas_tokens.specs.declared.lexeme.Comparison.TheVariants as op
use Rattle.xmas_tokens.specs.declared.token.Mark.{Mark}
use Rattle.xmas_tokens.specs.declared.token.Mark.TheVariants as mark
use Rattle.xmas_tokens.specs.declared.token.Sign.{Sign}
use Rattle.xmas_tokens.specs.declared.token.Sign.TheVariants as sign
use Rattle.xmas_tokens.specs.declared.token.Kind.{Kind}
use Rattle.xmas_tokens.specs.declared.token.Kind.TheVariants as kind
use Rattle.xmas_tokens.specs.Lexical.{is_letter, is_word_byte}
use Rattle.xmas_tokens.specs.Tokens.{Token, fixed, open_tag, close_tag, word, var, quoted, path, comparison, mark_first, mark_rest, with_equal, by_sign}

-- what has been read of a token: of one that is always the same, the bytes read and those to come; of a tag's bracket, which tags may follow
pub data Lex : Type 0 where
  between : Lex
  marking : Mark → List ℕ → List ℕ → Lex
  angle : Bool → Bool → Lex
  opening : List ℕ → Lex
  slash : Lex
  closing : List ℕ → Lex
  naming : List ℕ → Lex
  dollar : Lex
  varying : List ℕ → Lex
  quoting : List Piece → Lex
  escaping : List Piece → Lex
  pathing : paths.State → Lex
  ready : Token → Lex
  comparing : Sign → Lex

-- one byte more of a token that is always the same
abbrev pub on_mark : Mark → List ℕ → List ℕ → ℕ → Option Lex
on_mark m done [] b = None
on_mark m done (c ∷ rest) b = cond (b == c) (Some (marking m (done ++ c ∷ []) rest)) None

-- a path that is being read
abbrev pub map_path : Option paths.State → Option Lex
map_path None = None
map_path (Some s) = Some (pathing s)

-- the token at hand with one byte more, where it goes on with that
abbrev pub lex_step : Lex → ℕ → Option Lex
lex_step between b = None
lex_step (marking m done rest) b = on_mark m done rest b
lex_step (angle may_open may_close) b = cond (may_close && b == 47) (Some slash) (cond (may_open && is_name_byte b) (Some (opening (b ∷ []))) None)
lex_step (opening l) b = cond (is_name_byte b) (Some (opening (l ++ b ∷ []))) (cond (b == 62) (Some (ready (open_tag l))) None)
lex_step slash b = cond (is_name_byte b) (Some (closing (b ∷ []))) None
lex_step (closing l) b = cond (is_name_byte b) (Some (closing (l ++ b ∷ []))) (cond (b == 62) (Some (ready (close_tag l))) None)
lex_step (naming l) b = cond (is_name_byte b) (Some (naming (l ++ b ∷ []))) None
lex_step dollar b = cond (is_letter b) (Some (varying (b ∷ []))) None
lex_step (varying l) b = cond (is_word_byte b) (Some (varying (l ++ b ∷ []))) None
lex_step (quoting ps) b = cond (b == 34) (Some (ready (quoted ps))) (cond (b == 92) (Some (escaping ps)) (Some (quoting (ps ++ plain b ∷ []))))
lex_step (escaping ps) b = cond (is_escape b) (Some (quoting (ps ++ escape b ∷ []))) None
lex_step (pathing s) b = map_path (paths.step s b)
lex_step (ready t) b = None
lex_step (comparing k) b = cond (b == 61) (Some (ready (comparison (with_equal k)))) None

-- a path that has been read, as a token
abbrev pub as_path : Option Spelled → Option Token
as_path None = None
as_path (Some p) = Some (path p)

-- a token that is always the same, where all of it has been read
abbrev pub as_mark : Mark → List ℕ → Option Token
as_mark m [] = Some (fixed m)
as_mark m (c ∷ rest) = None

-- the token, where it may end here
abbrev pub token_in : Lex → Option Token
token_in between = None
token_in (marking m done rest) = as_mark m rest
token_in (angle may_open may_close) = None
token_in (opening l) = None
token_in slash = None
token_in (closing l) = None
token_in (naming l) = Some (word l)
token_in dollar = None
token_in (varying l) = Some (var l)
token_in (quoting ps) = None
token_in (escaping ps) = None
token_in (pathing s) = as_path (paths.whole s)
token_in (ready t) = Some t
token_in (comparing k) = by_sign k

-- the first byte of a token that is always the same, where it may come; else another one
abbrev pub begin_mark : Mark → (Kind → Bool) → ℕ → Option Lex → Option Lex
begin_mark m may b other = cond (b == mark_first m && may (kind.Fixed m)) (Some (marking m (mark_first m ∷ []) (mark_rest m))) other

-- the first byte of an operator, a name or a path, of those that may come
abbrev pub begin_word : (Kind → Bool) → ℕ → Option Lex
begin_word may b =
    cond (b == 61 && may kind.Operator) (Some (ready (comparison op.Eq)))
    (cond (b == 33 && may kind.Operator) (Some (comparing sign.Bang))
    (cond (b == 60 && may kind.Operator) (Some (comparing sign.Less))
    (cond (b == 62 && may kind.Operator) (Some (comparing sign.Greater))
    (cond (is_name_byte b && may kind.Name) (Some (naming (b ∷ []))) (cond (may kind.Path) (map_path (paths.step paths.first b)) None)))))

-- the first byte of any token, of those that may come
abbrev pub begin : (Kind → Bool) → ℕ → Option Lex
begin may b =
    begin_mark mark.Construct may b
    (begin_mark mark.Where may b
    (begin_mark mark.And may b
    (begin_mark mark.Order may b
    (begin_mark mark.By may b
    (begin_mark mark.Desc may b
    (begin_mark mark.LabelWord may b
    (begin_mark mark.OpenBrace may b
    (begin_mark mark.CloseBrace may b
    (begin_mark mark.Comma may b
    (cond (b == 60 && (may kind.OpenTag || may kind.CloseTag)) (Some (angle (may kind.OpenTag) (may kind.CloseTag)))
    (cond (b == 36 && may kind.Var) (Some dollar) (cond (b == 34 && may kind.Quoted) (Some (quoting [])) (begin_word may b)))))))))))))
