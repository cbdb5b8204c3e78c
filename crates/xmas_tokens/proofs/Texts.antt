-- What has been read of a token: its text, that it is as the grammar has it, and which tokens it may become.
use Rattle.std.proofs.Common.{◌≡◌, ℕ, Bool, ◌||◌, IsTrue, List, [], ◌∷◌, ◌++◌}
use Rattle.mix_tree.specs.LabelGrammar.{ArePieces, inside_quotes}
use Rattle.mix_tree.specs.Names.{IsName}
use Rattle.xmas_tokens.specs.Tokens.{kind_of, mark_first, mark_rest, sign_byte, token_text, IsToken}
use Rattle.xmas_tokens.specs.Lexer.{Lex, between, marking, angle, opening, slash, closing, naming, dollar, varying, quoting, escaping, pathing, ready, comparing}
use Rattle.xmas_tokens.specs.Lexical.{IsVar}
use Rattle.xmas_tokens.specs.declared.token.Kind.{Kind}
use Rattle.xmas_tokens.specs.declared.token.Kind.TheVariants as kind
use Rattle.path_expr.proofs.Sound as path_sound

-- the text of the token at hand
abbrev pub lex_text : Lex → List ℕ
lex_text between = []
lex_text (marking m done rest) = done
lex_text (angle o c) = 60 ∷ []
lex_text (opening l) = 60 ∷ l
lex_text slash = 60 ∷ 47 ∷ []
lex_text (closing l) = 60 ∷ 47 ∷ l
lex_text (naming l) = l
lex_text dollar = 36 ∷ []
lex_text (varying l) = 36 ∷ l
lex_text (quoting ps) = 34 ∷ inside_quotes ps
lex_text (escaping ps) = 34 ∷ (inside_quotes ps ++ 92 ∷ [])
lex_text (pathing s) = path_sound.outer_text s.outer ++ (path_sound.frame_text s.here ++ path_sound.mode_text s.mode)
lex_text (ready t) = token_text t
lex_text (comparing k) = sign_byte k ∷ []

-- the token at hand is as the grammar has it
abbrev pub IsLex : Lex → Type 0
IsLex between = Unit {0}
IsLex (marking m done rest) = done ++ rest ≡ mark_first m ∷ mark_rest m
IsLex (angle o c) = Unit {0}
IsLex (opening l) = IsName l
IsLex slash = Unit {0}
IsLex (closing l) = IsName l
IsLex (naming l) = IsName l
IsLex dollar = Unit {0}
IsLex (varying l) = IsVar l
IsLex (quoting ps) = ArePieces ps
IsLex (escaping ps) = ArePieces ps
IsLex (pathing s) = path_sound.StandsAt (lex_text (pathing s)) s
IsLex (ready t) = IsToken t
IsLex (comparing k) = Unit {0}

-- the tokens that it may become may come
abbrev pub Offered : (Kind → Bool) → Lex → Type 0
Offered may between = Unit {0}
Offered may (marking m done rest) = IsTrue (may (kind.Fixed m))
Offered may (angle o c) = (IsTrue o → IsTrue (may kind.OpenTag)) × (IsTrue c → IsTrue (may kind.CloseTag)) × IsTrue (o || c)
Offered may (opening l) = IsTrue (may kind.OpenTag)
Offered may slash = IsTrue (may kind.CloseTag)
Offered may (closing l) = IsTrue (may kind.CloseTag)
Offered may (naming l) = IsTrue (may kind.Name)
Offered may dollar = IsTrue (may kind.Var)
Offered may (varying l) = IsTrue (may kind.Var)
Offered may (quoting ps) = IsTrue (may kind.Quoted)
Offered may (escaping ps) = IsTrue (may kind.Quoted)
Offered may (pathing s) = IsTrue (may kind.Path)
Offered may (ready t) = IsTrue (may (kind_of t))
Offered may (comparing k) = IsTrue (may kind.Operator)
