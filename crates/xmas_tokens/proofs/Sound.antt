-- What has been read of a token is what it writes.
use Rattle.std.proofs.Common.{◌≡◌, ◌∙◌, ◌==◌, ℕ, Bool, true, ◌&&◌, ◌||◌, IsTrue, List, [], ◌∷◌, ◌++◌, Option, Some, None, refl, sym, ap, subst, append_assoc, arith}
use Rattle.mix_base.proofs.Choices.{and_parts, and_both, list_all-push, Gives, either, number_is}
use Rattle.mix_tree.specs.LabelGrammar.{plain, escape, is_escape, is_piece, inside_quotes}
use Rattle.mix_tree.specs.Names.{is_name_byte, IsName}
use Rattle.xmas_tokens.specs.Tokens.{op_text, open_tag, close_tag, quoted, comparison, mark_first, mark_rest, sign_byte, with_equal}
use Rattle.xmas_tokens.specs.Lexer.{Lex, between, marking, angle, opening, slash, closing, naming, dollar, varying, quoting, escaping, pathing, ready, comparing, on_mark, map_path, lex_step, begin_mark, begin}
use Rattle.xmas_tokens.specs.Lexical.{is_letter, is_word_byte, IsVar}
use Rattle.xmas_tokens.specs.declared.token.Kind.{Kind}
use Rattle.xmas_tokens.specs.declared.token.Mark.{Mark}
use Rattle.xmas_tokens.specs.declared.token.Sign.{Sign}
use Rattle.xmas_tokens.specs.declared.lexeme.Comparison.TheVariants as op
use Rattle.xmas_tokens.specs.declared.token.Mark.TheVariants as mark
use Rattle.xmas_tokens.specs.declared.token.Sign.TheVariants as sign
use Rattle.xmas_tokens.specs.declared.token.Kind.TheVariants as kind
use Rattle.path_expr.specs.Machine as pathing_
use Rattle.path_expr.proofs.Sound as path_sound
use Rattle.xmas_tokens.proofs.Texts.{lex_text, IsLex, Offered}

-- the token at hand is well formed, may come, and has the text
pub record Goes (may : Kind → Bool) (x : List ℕ) (k : Lex) : Type 0 where
  pub is : IsLex k
  pub offered : Offered may k
  pub text : lex_text k ≡ x

-- a token at hand that is well formed and may come goes on with its text
goes : (may : Kind → Bool) (x : List ℕ) (k : Lex) → IsLex k → Offered may k → lex_text k ≡ x → Goes may x k
goes may x k h o e = record { is = h; offered = o; text = e }

-- a byte that goes on with a token that is always the same leaves it well formed, with that byte in its text
mark_goes : (may : Kind → Bool) (m : Mark) (done rest : List ℕ) (b : ℕ) → IsLex (marking m done rest) → Offered may (marking m done rest) → Gives (Goes may (done ++ b ∷ [])) (on_mark m done rest b)
mark_goes may m done [] b h o = tt
mark_goes may m done (c ∷ rest) b h o =
    either _ (b == c) _ _ (λ e. goes may (done ++ b ∷ []) (marking m (done ++ c ∷ []) rest) (append_assoc done (c ∷ []) rest ∙ h) o (ap (λ d. done ++ d ∷ []) (number_is b c e))) (λ n. tt)

-- a variable's name with one more letter, digit or _ is a variable's name
var_push : (l : List ℕ) (b : ℕ) → IsVar l → IsTrue (is_word_byte b) → IsVar (l ++ b ∷ [])
var_push [] b h k = absurd h
var_push (c ∷ l) b h k = (h.0, list_all-push is_word_byte l b h.1 k)

-- a name with one byte more is a name
name_push : (l : List ℕ) (b : ℕ) → IsName l → IsTrue (is_name_byte b) → IsName (l ++ b ∷ [])
name_push l b h k = (list_all-push is_name_byte l b h.0 k, path_sound.longer l b)

-- a name of one byte is a name
name_one : (b : ℕ) → IsTrue (is_name_byte b) → IsName (b ∷ [])
name_one b h = (and_both (is_name_byte b) true h refl, omega arith)

-- a byte more of a path leaves it well formed, with that byte in its text
path_goes_at : (may : Kind → Bool) (x : List ℕ) (o : Option pathing_.State) → Gives (path_sound.StandsAt x) o → IsTrue (may kind.Path) → Gives (Goes may x) (map_path o)
path_goes_at may x None h k = tt
path_goes_at may x (Some t) h k = record { is = subst (λ y. path_sound.StandsAt y t) (sym h.text) h; offered = k; text = h.text }

-- an operator of a sign and = is written as the sign and that byte
sign_text : (k : Sign) (b : ℕ) → 61 ≡ b → op_text (with_equal k) ≡ sign_byte k ∷ b ∷ []
sign_text sign.Bang b e = ap (λ c. 33 ∷ c ∷ []) e
sign_text sign.Less b e = ap (λ c. 60 ∷ c ∷ []) e
sign_text sign.Greater b e = ap (λ c. 62 ∷ c ∷ []) e

-- a byte that goes on with the token at hand leaves it well formed, with that byte in its text
pub lex_goes : (may : Kind → Bool) (l : Lex) (b : ℕ) → IsLex l → Offered may l → Gives (Goes may (lex_text l ++ b ∷ [])) (lex_step l b)
lex_goes may between b h o = tt
lex_goes may (marking m done rest) b h o = mark_goes may m done rest b h o
lex_goes may (angle p q) b h o =
    either _ (q && b == 47) _ _ (λ e. let parts = and_parts q (b == 47) e in goes may (60 ∷ b ∷ []) slash tt (o.1 parts.0) (ap (λ d. 60 ∷ d ∷ []) (number_is b 47 parts.1)))
    (λ n. either _ (p && is_name_byte b) _ _ (λ e. let parts = and_parts p (is_name_byte b) e in goes may (60 ∷ b ∷ []) (opening (b ∷ [])) (name_one b parts.1) (o.0 parts.0) refl) (λ m. tt))
lex_goes may (opening l) b h o =
    either _ (is_name_byte b) _ _ (λ e. goes may (60 ∷ (l ++ b ∷ [])) (opening (l ++ b ∷ [])) (name_push l b h e) o refl)
    (λ n. either _ (b == 62) _ _ (λ e. goes may (60 ∷ (l ++ b ∷ [])) (ready (open_tag l)) h o (ap (λ d. 60 ∷ (l ++ d ∷ [])) (number_is b 62 e))) (λ m. tt))
lex_goes may slash b h o = either _ (is_name_byte b) _ _ (λ e. goes may (60 ∷ 47 ∷ b ∷ []) (closing (b ∷ [])) (name_one b e) o refl) (λ m. tt)
lex_goes may (closing l) b h o =
    either _ (is_name_byte b) _ _ (λ e. goes may (60 ∷ 47 ∷ (l ++ b ∷ [])) (closing (l ++ b ∷ [])) (name_push l b h e) o refl)
    (λ n. either _ (b == 62) _ _ (λ e. goes may (60 ∷ 47 ∷ (l ++ b ∷ [])) (ready (close_tag l)) h o (ap (λ d. 60 ∷ 47 ∷ (l ++ d ∷ [])) (number_is b 62 e))) (λ m. tt))
lex_goes may (naming l) b h o = either _ (is_name_byte b) _ _ (λ e. goes may (l ++ b ∷ []) (naming (l ++ b ∷ [])) (name_push l b h e) o refl) (λ m. tt)
lex_goes may dollar b h o = either _ (is_letter b) _ _ (λ e. goes may (36 ∷ b ∷ []) (varying (b ∷ [])) (e, refl) o refl) (λ m. tt)
lex_goes may (varying l) b h o = either _ (is_word_byte b) _ _ (λ e. goes may (36 ∷ (l ++ b ∷ [])) (varying (l ++ b ∷ [])) (var_push l b h e) o refl) (λ m. tt)
lex_goes may (quoting ps) b h o =
    either _ (b == 34) _ _ (λ e. goes may (34 ∷ (inside_quotes ps ++ b ∷ [])) (ready (quoted ps)) h o (ap (λ d. 34 ∷ (inside_quotes ps ++ d ∷ [])) (number_is b 34 e)))
    (λ n. either _ (b == 92) _ _ (λ e. goes may (34 ∷ (inside_quotes ps ++ b ∷ [])) (escaping ps) h o (ap (λ d. 34 ∷ (inside_quotes ps ++ d ∷ [])) (number_is b 92 e)))
    (λ m. goes may (34 ∷ (inside_quotes ps ++ b ∷ [])) (quoting (ps ++ plain b ∷ [])) (list_all-push is_piece ps (plain b) h (path_sound.plain_of b n m)) o (ap (λ r. 34 ∷ r) (path_sound.inside-push ps (plain b)))))
lex_goes may (escaping ps) b h o =
    either _ (is_escape b) _ _
    (λ e. goes may (34 ∷ ((inside_quotes ps ++ 92 ∷ []) ++ b ∷ [])) (quoting (ps ++ escape b ∷ [])) (list_all-push is_piece ps (escape b) h e) o
    (ap (λ r. 34 ∷ r) (path_sound.inside-push ps (escape b) ∙ sym (append_assoc (inside_quotes ps) (92 ∷ []) (b ∷ [])))))
    (λ m. tt)
lex_goes may (pathing s) b h o = path_goes_at may (lex_text (pathing s) ++ b ∷ []) (pathing_.step s b) (path_sound.step_stands (lex_text (pathing s)) s.here s.outer s.mode b h) o
lex_goes may (ready t) b h o = tt
lex_goes may (comparing k) b h o = either _ (b == 61) _ _ (λ e. goes may (sign_byte k ∷ b ∷ []) (ready (comparison (with_equal k))) tt o (sign_text k b (number_is b 61 e))) (λ m. tt)

-- the first byte of a token that is always the same, or of another one, begins one that is well formed
begin_mark_goes : (may : Kind → Bool) (m : Mark) (b : ℕ) (other : Option Lex) → Gives (Goes may (b ∷ [])) other → Gives (Goes may (b ∷ [])) (begin_mark m may b other)
begin_mark_goes may m b other h =
    either _ (b == mark_first m && may (kind.Fixed m)) _ _
    (λ e. let parts = and_parts (b == mark_first m) (may (kind.Fixed m)) e in goes may (b ∷ []) (marking m (mark_first m ∷ []) (mark_rest m)) refl parts.1 (ap (λ d. d ∷ []) (number_is b (mark_first m) parts.0)))
    (λ n. h)

-- a byte that begins a token begins one that is well formed, may come, and has that byte as its text
pub begin_goes : (may : Kind → Bool) (b : ℕ) → Gives (Goes may (b ∷ [])) (begin may b)
begin_goes may b =
    begin_mark_goes may mark.Construct b _ (begin_mark_goes may mark.Where b _ (begin_mark_goes may mark.And b _ (begin_mark_goes may mark.Order b _ (begin_mark_goes may mark.By b _ (begin_mark_goes may mark.Desc b _ (begin_mark_goes may mark.LabelWord b _ (begin_mark_goes may mark.OpenBrace b _ (begin_mark_goes may mark.CloseBrace b _ (begin_mark_goes may mark.Comma b _
    (either _ (b == 60 && (may kind.OpenTag || may kind.CloseTag)) _ _
    (λ e. let parts = and_parts (b == 60) (may kind.OpenTag || may kind.CloseTag) e in goes may (b ∷ []) (angle (may kind.OpenTag) (may kind.CloseTag)) tt (λ h. h, λ h. h, parts.1) (ap (λ d. d ∷ []) (number_is b 60 parts.0)))
    (λ n. either _ (b == 36 && may kind.Var) _ _
    (λ e. let parts = and_parts (b == 36) (may kind.Var) e in goes may (b ∷ []) dollar tt parts.1 (ap (λ d. d ∷ []) (number_is b 36 parts.0)))
    (λ n. either _ (b == 34 && may kind.Quoted) _ _
    (λ e. let parts = and_parts (b == 34) (may kind.Quoted) e in goes may (b ∷ []) (quoting []) refl parts.1 (ap (λ d. d ∷ []) (number_is b 34 parts.0)))
    (λ n. either _ (b == 61 && may kind.Operator) _ _
    (λ e. let parts = and_parts (b == 61) (may kind.Operator) e in goes may (b ∷ []) (ready (comparison op.Eq)) tt parts.1 (ap (λ d. d ∷ []) (number_is b 61 parts.0)))
    (λ n. either _ (b == 33 && may kind.Operator) _ _
    (λ e. let parts = and_parts (b == 33) (may kind.Operator) e in goes may (b ∷ []) (comparing sign.Bang) tt parts.1 (ap (λ d. d ∷ []) (number_is b 33 parts.0)))
    (λ n. either _ (b == 60 && may kind.Operator) _ _
    (λ e. let parts = and_parts (b == 60) (may kind.Operator) e in goes may (b ∷ []) (comparing sign.Less) tt parts.1 (ap (λ d. d ∷ []) (number_is b 60 parts.0)))
    (λ n. either _ (b == 62 && may kind.Operator) _ _
    (λ e. let parts = and_parts (b == 62) (may kind.Operator) e in goes may (b ∷ []) (comparing sign.Greater) tt parts.1 (ap (λ d. d ∷ []) (number_is b 62 parts.0)))
    (λ n. either _ (is_name_byte b && may kind.Name) _ _
    (λ e. let parts = and_parts (is_name_byte b) (may kind.Name) e in goes may (b ∷ []) (naming (b ∷ [])) (name_one b parts.0) parts.1 refl)
    (λ n. either _ (may kind.Path) _ _
    (λ e. path_goes_at may (b ∷ []) (pathing_.step pathing_.first b) (path_sound.step_stands [] pathing_.empty [] pathing_.start b path_sound.first_stands) e)
    (λ n. tt)))))))))))))))))))
