-- Each token that ends is one that may come.
use Rattle.std.proofs.Common.{◌≡◌, ◌∙◌, ℕ, Bool, IsTrue, List, [], ◌∷◌, Option, Some, None, refl, sym, subst}
use Rattle.mix_base.proofs.Choices.{some_is, none_some}
use Rattle.mix_base.proofs.Lists.{append_nil}
use Rattle.xmas_tokens.specs.Lexer.{Lex, between, marking, angle, opening, slash, closing, naming, dollar, varying, quoting, escaping, pathing, ready, comparing, as_path, as_mark, token_in}
use Rattle.xmas_tokens.specs.Tokens.{Token, kind_of, sign_byte, by_sign, token_text, IsToken}
use Rattle.xmas_tokens.specs.declared.token.Kind.{Kind}
use Rattle.xmas_tokens.specs.declared.token.Mark.{Mark}
use Rattle.xmas_tokens.specs.declared.token.Sign.{Sign}
use Rattle.xmas_tokens.specs.declared.token.Sign.TheVariants as sign
use Rattle.xmas_tokens.specs.declared.token.Kind.TheVariants as kind
use Rattle.path_expr.specs.Grammar as paths
use Rattle.path_expr.specs.Machine as pathing_
use Rattle.path_expr.proofs.Sound as path_sound
use Rattle.xmas_tokens.proofs.Texts.{lex_text, IsLex, Offered}

-- a token has ended: it may come, it is as the grammar has it, and the text is its own
pub record Ended (may : Kind → Bool) (x : List ℕ) (t : Token) : Type 0 where
  pub is : IsToken t
  pub taken : IsTrue (may (kind_of t))
  pub text : token_text t ≡ x

-- a token that is always the same, of which nothing is to come, has ended
mark_ended : (may : Kind → Bool) (m : Mark) (done rest : List ℕ) (t : Token) → IsLex (marking m done rest) → Offered may (marking m done rest) → as_mark m rest ≡ Some t → Ended may done t
mark_ended may m done [] t h o e = subst (Ended may done) (some_is _ _ e) (record { is = tt; taken = o; text = sym h ∙ append_nil done })
mark_ended may m done (c ∷ rest) t h o e = none_some t e

-- a path that is whole is written so
path_writes : (x : List ℕ) (s : pathing_.State) (p : paths.Spelled) → path_sound.StandsAt x s → pathing_.whole s ≡ Some p → paths.Writes x p
path_writes x s p h e = path_sound.whole_writes x s p h e

-- a path that has been read whole is a token that may come
path_ended : (may : Kind → Bool) (x : List ℕ) (s : pathing_.State) (r : Option paths.Spelled) (t : Token) → path_sound.StandsAt x s → IsTrue (may kind.Path) → pathing_.whole s ≡ r → as_path r ≡ Some t → Ended may x t
path_ended may x s None t h o w e = none_some t e
path_ended may x s (Some p) t h o w e = let k = path_writes x s p h w in subst (Ended may x) (some_is _ _ e) (record { is = k.0; taken = o; text = k.1 })

-- an operator of one sign that may come has ended after that sign
sign_ended : (may : Kind → Bool) (k : Sign) (t : Token) → IsTrue (may kind.Operator) → by_sign k ≡ Some t → Ended may (sign_byte k ∷ []) t
sign_ended may sign.Bang t o e = none_some t e
sign_ended may sign.Less t o e = subst (Ended may (60 ∷ [])) (some_is _ _ e) (record { is = tt; taken = o; text = refl })
sign_ended may sign.Greater t o e = subst (Ended may (62 ∷ [])) (some_is _ _ e) (record { is = tt; taken = o; text = refl })

-- each token that ends is one that may come
pub token_ended : (may : Kind → Bool) (l : Lex) (t : Token) → IsLex l → Offered may l → token_in l ≡ Some t → Ended may (lex_text l) t
token_ended may between t h o e = none_some t e
token_ended may (marking m done rest) t h o e = mark_ended may m done rest t h o e
token_ended may (angle p q) t h o e = none_some t e
token_ended may (opening l) t h o e = none_some t e
token_ended may slash t h o e = none_some t e
token_ended may (closing l) t h o e = none_some t e
token_ended may (naming l) t h o e = subst (Ended may l) (some_is _ _ e) (record { is = h; taken = o; text = refl })
token_ended may dollar t h o e = none_some t e
token_ended may (varying l) t h o e = subst (Ended may (36 ∷ l)) (some_is _ _ e) (record { is = h; taken = o; text = refl })
token_ended may (quoting ps) t h o e = none_some t e
token_ended may (escaping ps) t h o e = none_some t e
token_ended may (pathing s) t h o e = path_ended may (lex_text (pathing s)) s (pathing_.whole s) t h o refl e
token_ended may (comparing k) t h o e = sign_ended may k t o e
token_ended may (ready u) t h o e = subst (Ended may (token_text u)) (some_is _ _ e) (record { is = h; taken = o; text = refl })
