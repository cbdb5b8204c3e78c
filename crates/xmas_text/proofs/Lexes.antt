-- The machine reads each token that may come.
use Rattle.std.proofs.Common.{◌≡◌, ◌∙◌, ◌==◌, ℕ, Bool, true, false, cond, ◌&&◌, IsTrue, List, [], ◌∷◌, ◌++◌, Option, Some, None, option_and_then, refl, sym, ap, append_assoc, arith}
use Rattle.std.proofs.lemmas.Bool.Decides.{nat_tests}
use Rattle.std.specs.List.{list_all}
use Rattle.mix_base.proofs.Runs.{run_then, run_byte}
use Rattle.mix_base.proofs.Choices.{and_parts, some_is, none_some}
use Rattle.mix_base.proofs.Lists.{append_nil}
use Rattle.mix_tree.specs.LabelGrammar.{Piece, plain, escape, is_escape, is_plain, is_piece, ArePieces, inside_quotes}
use Rattle.mix_tree.specs.Names.{is_name_byte, IsName}
use Rattle.xmas_tokens.specs.Lexer.{Lex, between, marking, angle, opening, slash, closing, naming, dollar, varying, quoting, escaping, pathing, ready, comparing, map_path, lex_step}
use Rattle.xmas_tokens.specs.Lexical.{is_letter, is_word_byte, IsVar}
use Rattle.xmas_text.specs.Machine.{at, or_after, step, run}
use Rattle.xmas_text.specs.Spots.{Spot}
use Rattle.xmas_tokens.specs.Tokens.{open_tag, close_tag, quoted}
use Rattle.xmas_tokens.specs.declared.token.Mark.{Mark}
use Rattle.path_expr.specs.Machine as pathing_

-- where a token goes on, so does the machine
pub lexes : (s : Spot) (g : List ℕ) (l k : Lex) (b : ℕ) → lex_step l b ≡ Some k → step (at s g l) b ≡ Some (at s g k)
lexes s g between k b e = none_some k e
lexes s g (marking m done rest) k b e = ap (or_after s g (marking m done rest) b) e
lexes s g (angle p q) k b e = ap (or_after s g (angle p q) b) e
lexes s g (opening l) k b e = ap (or_after s g (opening l) b) e
lexes s g slash k b e = ap (or_after s g slash b) e
lexes s g (closing l) k b e = ap (or_after s g (closing l) b) e
lexes s g (naming l) k b e = ap (or_after s g (naming l) b) e
lexes s g dollar k b e = ap (or_after s g dollar b) e
lexes s g (varying l) k b e = ap (or_after s g (varying l) b) e
lexes s g (quoting ps) k b e = ap (or_after s g (quoting ps) b) e
lexes s g (escaping ps) k b e = ap (or_after s g (escaping ps) b) e
lexes s g (pathing p) k b e = ap (or_after s g (pathing p) b) e
lexes s g (comparing j) k b e = ap (or_after s g (comparing j) b) e
lexes s g (ready t) k b e = ap (or_after s g (ready t) b) e

-- where a kind of token goes on by each byte that passes a test, it goes on by any number of them
grows : (C : List ℕ → Lex) (p : ℕ → Bool) → ((l : List ℕ) (b : ℕ) → IsTrue (p b) → lex_step (C l) b ≡ Some (C (l ++ b ∷ []))) → (s : Spot) (g l x : List ℕ) → IsTrue (list_all p x) → run (at s g (C l)) x ≡ Some (at s g (C (l ++ x)))
grows C p h s g l [] a = ap (λ r. Some (at s g (C r))) (sym (append_nil l))
grows C p h s g l (b ∷ x) a =
    let parts = and_parts (p b) (list_all p x) a in
    run_byte step b x (at s g (C l)) (at s g (C (l ++ b ∷ []))) (lexes s g (C l) (C (l ++ b ∷ [])) b (h l b parts.0))
    ∙ grows C p h s g (l ++ b ∷ []) x parts.1 ∙ ap (λ r. Some (at s g (C r))) (append_assoc l (b ∷ []) x)

-- an opening tag goes on with a name
opening_grows : (l : List ℕ) (b : ℕ) → IsTrue (is_name_byte b) → lex_step (opening l) b ≡ Some (opening (l ++ b ∷ []))
opening_grows l b h = rw h refl

-- a closing tag goes on with a name
closing_grows : (l : List ℕ) (b : ℕ) → IsTrue (is_name_byte b) → lex_step (closing l) b ≡ Some (closing (l ++ b ∷ []))
closing_grows l b h = rw h refl

-- a name that is being read goes on with a byte of a name
naming_grows : (l : List ℕ) (b : ℕ) → IsTrue (is_name_byte b) → lex_step (naming l) b ≡ Some (naming (l ++ b ∷ []))
naming_grows l b h = rw h refl

-- a variable that is being read goes on with a byte of a word
varying_grows : (l : List ℕ) (b : ℕ) → IsTrue (is_word_byte b) → lex_step (varying l) b ≡ Some (varying (l ++ b ∷ []))
varying_grows l b h = rw h refl

-- a slash is no byte of a name
name_not_slash : (b : ℕ) → IsTrue (is_name_byte b) → (b == 47) ≡ false
name_not_slash b h = grind (arith, nat_tests)

-- what does not hold does not hold with another
and_false : (q c : Bool) → c ≡ false → (q && c) ≡ false
and_false true c h = h
and_false false c h = refl

-- a bracket goes on to an opening tag
angle_opens : (q : Bool) (b : ℕ) → IsTrue (is_name_byte b) → lex_step (angle true q) b ≡ Some (opening (b ∷ []))
angle_opens q b h = rw (and_false q (b == 47) (name_not_slash b h), h) refl

-- a slash goes on to a closing tag
slash_closes : (b : ℕ) → IsTrue (is_name_byte b) → lex_step slash b ≡ Some (closing (b ∷ []))
slash_closes b h = rw h refl

-- after its bracket, the machine reads an opening tag whole
pub open_read : (q : Bool) (s : Spot) (g l : List ℕ) → IsName l → run (at s g (angle true q)) (l ++ 62 ∷ []) ≡ Some (at s g (ready (open_tag l)))
open_read q s g [] h = absurd (omega arith)
open_read q s g (b ∷ l) h =
    let parts = and_parts (is_name_byte b) (list_all is_name_byte l) h.0 in
    run_byte step b (l ++ 62 ∷ []) (at s g (angle true q)) (at s g (opening (b ∷ []))) (lexes s g (angle true q) (opening (b ∷ [])) b (angle_opens q b parts.0))
    ∙ run_then step l (62 ∷ []) (at s g (opening (b ∷ []))) (at s g (opening (b ∷ l))) (grows opening is_name_byte opening_grows s g (b ∷ []) l parts.1)

-- after its bracket, the machine reads a closing tag whole
pub close_read : (p : Bool) (s : Spot) (g l : List ℕ) → IsName l → run (at s g (angle p true)) (47 ∷ (l ++ 62 ∷ [])) ≡ Some (at s g (ready (close_tag l)))
close_read p s g [] h = absurd (omega arith)
close_read p s g (b ∷ l) h =
    let parts = and_parts (is_name_byte b) (list_all is_name_byte l) h.0 in
    run_byte step b (l ++ 62 ∷ []) (at s g slash) (at s g (closing (b ∷ []))) (lexes s g slash (closing (b ∷ [])) b (slash_closes b parts.0))
    ∙ run_then step l (62 ∷ []) (at s g (closing (b ∷ []))) (at s g (closing (b ∷ l))) (grows closing is_name_byte closing_grows s g (b ∷ []) l parts.1)

-- after its first byte, the machine reads the other bytes of a name
pub name_read : (s : Spot) (g : List ℕ) (b : ℕ) (l : List ℕ) → IsTrue (list_all is_name_byte l) → run (at s g (naming (b ∷ []))) l ≡ Some (at s g (naming (b ∷ l)))
name_read s g b l h = grows naming is_name_byte naming_grows s g (b ∷ []) l h

-- a variable begins with a letter
letter_step : (b : ℕ) → IsTrue (is_letter b) → lex_step dollar b ≡ Some (varying (b ∷ []))
letter_step b h = rw h refl

-- after its $, the machine reads a variable whole
pub var_read : (s : Spot) (g v : List ℕ) → IsVar v → run (at s g dollar) v ≡ Some (at s g (varying v))
var_read s g [] h = absurd h
var_read s g (b ∷ v) h =
    run_byte step b v (at s g dollar) (at s g (varying (b ∷ []))) (lexes s g dollar (varying (b ∷ [])) b (letter_step b h.0)) ∙ grows varying is_word_byte varying_grows s g (b ∷ []) v h.1

-- inside quotes the machine reads a byte that stands for itself as a piece
plain_step : (b : ℕ) (ps : List Piece) → IsTrue (is_plain b) → lex_step (quoting ps) b ≡ Some (quoting (ps ++ plain b ∷ []))
plain_step b ps h = by_cases (b == 34) (b == 92) _ _ _ h
  where
    by_cases : (c d : Bool) (x y z : Option Lex) → IsTrue (cond c false (cond d false true)) → cond c x (cond d y z) ≡ z
    by_cases true d x y z h = cc
    by_cases false true x y z h = cc
    by_cases false false x y z h = refl

-- inside quotes the machine reads a byte after a backslash as a piece
escape_step : (b : ℕ) (ps : List Piece) → IsTrue (is_escape b) → lex_step (escaping ps) b ≡ Some (quoting (ps ++ escape b ∷ []))
escape_step b ps h = rw h refl

-- inside quotes the machine reads pieces one after another
quote_goes_on : (s : Spot) (g : List ℕ) (ps qs : List Piece) → ArePieces qs → run (at s g (quoting ps)) (inside_quotes qs) ≡ Some (at s g (quoting (ps ++ qs)))
quote_goes_on s g ps [] h = ap (λ r. Some (at s g (quoting r))) (sym (append_nil ps))
quote_goes_on s g ps (plain b ∷ qs) h =
    let parts = and_parts (is_plain b) (list_all is_piece qs) h in
    run_byte step b (inside_quotes qs) (at s g (quoting ps)) (at s g (quoting (ps ++ plain b ∷ []))) (lexes s g (quoting ps) (quoting (ps ++ plain b ∷ [])) b (plain_step b ps parts.0))
    ∙ quote_goes_on s g (ps ++ plain b ∷ []) qs parts.1 ∙ ap (λ r. Some (at s g (quoting r))) (append_assoc ps (plain b ∷ []) qs)
quote_goes_on s g ps (escape b ∷ qs) h =
    let parts = and_parts (is_escape b) (list_all is_piece qs) h in
    run_byte step b (inside_quotes qs) (at s g (escaping ps)) (at s g (quoting (ps ++ escape b ∷ []))) (lexes s g (escaping ps) (quoting (ps ++ escape b ∷ [])) b (escape_step b ps parts.0))
    ∙ quote_goes_on s g (ps ++ escape b ∷ []) qs parts.1 ∙ ap (λ r. Some (at s g (quoting r))) (append_assoc ps (escape b ∷ []) qs)

-- after its opening quote, the machine reads a quoted label whole
pub quote_read : (s : Spot) (g : List ℕ) (ps : List Piece) → ArePieces ps → run (at s g (quoting [])) (inside_quotes ps ++ 34 ∷ []) ≡ Some (at s g (ready (quoted ps)))
quote_read s g ps h = run_then step (inside_quotes ps) (34 ∷ []) (at s g (quoting [])) (at s g (quoting ps)) (quote_goes_on s g [] ps h)

-- a token that is always the same goes on by the next of its bytes
mark_step : (m : Mark) (done : List ℕ) (c : ℕ) (rest : List ℕ) → lex_step (marking m done (c ∷ rest)) c ≡ Some (marking m (done ++ c ∷ []) rest)
mark_step m done c rest = let same : (c == c) ≡ true = grind (arith, nat_tests) in rw same refl

-- after its first byte, the machine reads the rest of a token that is always the same
pub mark_read : (s : Spot) (g : List ℕ) (m : Mark) (done rest : List ℕ) → run (at s g (marking m done rest)) rest ≡ Some (at s g (marking m (done ++ rest) []))
mark_read s g m done [] = ap (λ r. Some (at s g (marking m r []))) (sym (append_nil done))
mark_read s g m done (c ∷ rest) =
    run_byte step c rest (at s g (marking m done (c ∷ rest))) (at s g (marking m (done ++ c ∷ []) rest)) (lexes s g (marking m done (c ∷ rest)) (marking m (done ++ c ∷ []) rest) c (mark_step m done c rest))
    ∙ mark_read s g m (done ++ c ∷ []) rest ∙ ap (λ r. Some (at s g (marking m r []))) (append_assoc done (c ∷ []) rest)

-- the machine reads a path as the path's own machine does, by the first byte
path_run_at : (s : Spot) (g : List ℕ) (b : ℕ) (x : List ℕ) (o : Option pathing_.State) (p t : pathing_.State) → pathing_.step p b ≡ o → option_and_then (λ u. pathing_.run u x) o ≡ Some t
    → ((u : pathing_.State) → pathing_.run u x ≡ Some t → run (at s g (pathing u)) x ≡ Some (at s g (pathing t))) → run (at s g (pathing p)) (b ∷ x) ≡ Some (at s g (pathing t))
path_run_at s g b x None p t e h k = none_some t h
path_run_at s g b x (Some u) p t e h k = run_byte step b x (at s g (pathing p)) (at s g (pathing u)) (lexes s g (pathing p) (pathing u) b (ap map_path e)) ∙ k u h

-- the machine reads a path as the path's own machine does
pub path_run : (s : Spot) (g : List ℕ) (x : List ℕ) (p t : pathing_.State) → pathing_.run p x ≡ Some t → run (at s g (pathing p)) x ≡ Some (at s g (pathing t))
path_run s g [] p t h = ap (λ u. Some (at s g (pathing u))) (some_is _ _ h)
path_run s g (b ∷ x) p t h = path_run_at s g b x (pathing_.step p b) p t refl h (λ u k. path_run s g x u t k)
