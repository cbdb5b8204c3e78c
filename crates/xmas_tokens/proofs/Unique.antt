-- No text of a kind says two things.
use Rattle.std.proofs.Common.{◌≡◌, ◌∙◌, ℕ, List, [], ◌∷◌, ◌++◌, refl, sym, ap, length, nat_lt, slice_index}
use Rattle.std.proofs.lemmas.List.{append_cancel_right}
use Rattle.mix_tree.specs.LabelGrammar.{Piece, ArePieces, meaning}
use Rattle.path_expr.specs.Grammar as paths
use Rattle.path_expr.proofs.Verdicts.{one_spelled}
use Rattle.xmas_tokens.specs.declared.lexeme.Comparison.{Comparison}
use Rattle.xmas_tokens.specs.declared.lexeme.Comparison.TheVariants as op
use Rattle.xmas_tokens.specs.declared.token.Mark.{Mark}
use Rattle.xmas_tokens.specs.declared.lexeme.Lexeme.{Lexeme}
use Rattle.xmas_tokens.specs.declared.lexeme.Lexeme.TheVariants as lexeme
use Rattle.xmas_tokens.specs.Tokens.{op_text, quoted_text, Token, fixed, open_tag, close_tag, word, var, quoted, path, comparison, kind_of, token_text, IsToken}
use Rattle.xmas_tokens.specs.Lexemes.{path_form, lexeme_of, IsLexeme, op_by}

-- an operator is the one that begins by its text's first byte, and has another byte or not as its text has
op_again : (o : Comparison) → op_by (slice_index (op_text o) 0) (nat_lt 1 (length (op_text o))) ≡ o
op_again op.Eq = refl
op_again op.Ne = refl
op_again op.Lt = refl
op_again op.Le = refl
op_again op.Gt = refl
op_again op.Ge = refl

-- operators of one text are the same
same_op : (o p : Comparison) → op_text o ≡ op_text p → o ≡ p
same_op o p h = sym (op_again o) ∙ ap (λ x. op_by (slice_index x 0) (nat_lt 1 (length x))) h ∙ op_again p

-- two tokens that are always the same, of one kind, are the same
same_mark : (m n : Mark) → kind_of (fixed m) ≡ kind_of (fixed n) → m ≡ n
same_mark m n h = cc

-- quoted labels of one text have the same pieces
same_quoted : (ps qs : List Piece) → ArePieces ps → ArePieces qs → quoted_text ps ≡ quoted_text qs → ps ≡ qs
same_quoted ps qs a b h = let same : paths.quote ps ≡ paths.quote qs = one_spelled (quoted_text ps) (paths.quote ps) (paths.quote qs) (a, refl) (b, sym h) in cc

-- names that stand before the same bracket in the same text are the same
same_tag : (l k : List ℕ) → l ++ 62 ∷ [] ≡ k ++ 62 ∷ [] → l ≡ k
same_tag l k h = append_cancel_right l k (62 ∷ []) h

-- lists that are the same have the same members after the first
rest_same : (a b : ℕ) (x y : List ℕ) → a ∷ x ≡ b ∷ y → x ≡ y
rest_same a b x y h = cc

-- two tokens of one kind and one text say the same
pub same_lexeme : (t u : Token) → IsToken t → IsToken u → kind_of t ≡ kind_of u → token_text t ≡ token_text u → lexeme_of t ≡ lexeme_of u
same_lexeme (fixed m) (fixed n) i j k h = ap lexeme.Fixed (same_mark m n k)
same_lexeme (open_tag l) (open_tag m) i j k h = ap lexeme.OpenTag (same_tag l m (rest_same 60 60 _ _ h))
same_lexeme (close_tag l) (close_tag m) i j k h = ap lexeme.CloseTag (same_tag l m (rest_same 47 47 _ _ (rest_same 60 60 _ _ h)))
same_lexeme (word l) (word m) i j k h = ap lexeme.Name h
same_lexeme (var v) (var w) i j k h = ap lexeme.Var (rest_same 36 36 _ _ h)
same_lexeme (quoted ps) (quoted qs) i j k h = ap (λ r. lexeme.Quoted (meaning r)) (same_quoted ps qs i j h)
same_lexeme (path p) (path q) i j k h = ap (λ r. lexeme.Path (path_form r)) (one_spelled (paths.text_of p) p q (i, refl) (j, sym h))
same_lexeme (comparison o) (comparison p) i j k h = ap lexeme.Operator (same_op o p h)
same_lexeme t u i j k h = cc

-- a lexeme of a token's kind and text is what the token says
pub lexeme_is : (t : Token) (w : Lexeme) → IsToken t → IsLexeme (kind_of t) (token_text t) w → w ≡ lexeme_of t
lexeme_is t w i (u, j, k, h, e) = sym e ∙ same_lexeme u t j i k h
