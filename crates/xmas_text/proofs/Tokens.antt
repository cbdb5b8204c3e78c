-- After a spot, the machine reads each token that may come, and stands after the next spot.
use Rattle.std.proofs.Common.{not, ◌≡◌, ◌∙◌, ◌==◌, ℕ, Bool, true, false, ◌&&◌, ◌||◌, IsTrue, List, [], ◌∷◌, ◌++◌, Some, None, refl, sym, ap, append_assoc, arith}
use Rattle.std.proofs.lemmas.Bool.Decides.{nat_tests}
use Rattle.std.specs.List.{list_all}
use Rattle.mix_base.proofs.Runs.{run_then, run_byte}
use Rattle.mix_base.proofs.Choices.{and_parts, none_some}
use Rattle.mix_base.proofs.Lists.{append_nil}
use Rattle.xmas_tokens.specs.Lexer.{Lex, between, marking, angle, opening, slash, closing, naming, dollar, varying, quoting, escaping, pathing, ready, comparing, lex_step, token_in, begin}
use Rattle.xmas_tokens.specs.Lexical.{is_blank, IsBlanks}
use Rattle.xmas_text.specs.Machine.{State, at, with_lex, next, after, or_after, step_in, step, run, rule_at, rule_after, whole_in, whole}
use Rattle.xmas_text.specs.Spots.{Spot, beginning, items, labelled, keys, key_comma, key_label, cond_start, cond_from, cond_path, cond_done, compared, ordering, ordering_by, sorted, is_nothing, is_none, takes, shift}
use Rattle.xmas_tokens.specs.Tokens.{Token, token_text}
use Rattle.xmas_tokens.proofs.Apart.{is_apart}

-- a spot after which a token may come at once, since the last one has ended
abbrev pub is_fixed : Spot → Bool
is_fixed beginning = true
is_fixed (items lead o xs) = is_nothing xs
is_fixed (labelled lead o xs g) = false
is_fixed (keys lead o xs g ks) = is_none ks
is_fixed (key_comma lead o xs g ks h) = true
is_fixed (key_label lead o xs g ks p h) = false
is_fixed (cond_start r b) = false
is_fixed (cond_from r b g s) = false
is_fixed (cond_path r b g s h p) = false
is_fixed (cond_done r cs) = false
is_fixed (compared r b g v h o) = false
is_fixed (ordering r cs g) = false
is_fixed (ordering_by r cs g h) = false
is_fixed (sorted r cs o) = false

-- the byte does not go on with an operator: = doesn't stand after < and >
abbrev pub no_equal : Spot → ℕ → Bool
no_equal (compared r e g v h o) b = not (b == 61)
no_equal s b = true

-- the byte may stand after the spot
abbrev pub follows : Spot → ℕ → Bool
follows s b = is_fixed s || (is_apart b && no_equal s b)

-- the state goes on as one between tokens, at this spot
pub record IsAt (s : Spot) (t : State) : Type 0 where
  pub steps : (b : ℕ) → IsTrue (follows s b) → step t b ≡ next s [] b
  pub ends : whole t ≡ rule_at s []

-- between tokens a state stands at its spot
pub at_start : (s : Spot) → IsAt s (at s [] between)
at_start s = record { steps = λ b h. refl; ends = refl }

-- how a token after a gap at a spot is read, from its first byte to its last
pub record Reading (s : Spot) (h : List ℕ) (t : Token) : Type 0 where
  pub first : ℕ
  pub rest : List ℕ
  pub text : token_text t ≡ first ∷ rest
  pub solid : is_blank first ≡ false
  pub may : h ≡ [] → IsTrue (follows s first)
  pub lex : Lex
  pub begins : begin (takes s h) first ≡ Some lex
  pub last : Lex
  pub reads : run (at s h lex) rest ≡ Some (at s h last)
  pub ends : token_in last ≡ Some t
  pub quiet : (b : ℕ) → IsTrue (follows (shift s h t) b) → lex_step last b ≡ None

-- a byte that ends a token leads on from the spot after that token
pub last_step : (s : Spot) (h : List ℕ) (l : Lex) (t : Token) (b : ℕ) → token_in l ≡ Some t → lex_step l b ≡ None → step_in s h l b ≡ next (shift s h t) [] b
last_step s h between t b e n = none_some t e
last_step s h (marking m done rest) t b e n = ap (or_after s h (marking m done rest) b) n ∙ ap (λ o. after s h o b) e
last_step s h (angle p q) t b e n = none_some t e
last_step s h (opening l) t b e n = none_some t e
last_step s h slash t b e n = none_some t e
last_step s h (closing l) t b e n = none_some t e
last_step s h (naming l) t b e n = ap (or_after s h (naming l) b) n ∙ ap (λ o. after s h o b) e
last_step s h dollar t b e n = none_some t e
last_step s h (varying l) t b e n = ap (or_after s h (varying l) b) n ∙ ap (λ o. after s h o b) e
last_step s h (quoting ps) t b e n = none_some t e
last_step s h (escaping ps) t b e n = none_some t e
last_step s h (pathing p) t b e n = ap (or_after s h (pathing p) b) n ∙ ap (λ o. after s h o b) e
last_step s h (comparing k) t b e n = ap (or_after s h (comparing k) b) n ∙ ap (λ o. after s h o b) e
last_step s h (ready u) t b e n = ap (λ o. after s h o b) e

-- where a token may end, the rule that ends with it is the one at the spot after it
pub last_whole : (s : Spot) (h : List ℕ) (l : Lex) (t : Token) → token_in l ≡ Some t → whole_in s h l ≡ rule_at (shift s h t) []
last_whole s h between t e = none_some t e
last_whole s h (marking m done rest) t e = ap (rule_after s h) e
last_whole s h (angle p q) t e = none_some t e
last_whole s h (opening l) t e = none_some t e
last_whole s h slash t e = none_some t e
last_whole s h (closing l) t e = none_some t e
last_whole s h (naming l) t e = ap (rule_after s h) e
last_whole s h dollar t e = none_some t e
last_whole s h (varying l) t e = ap (rule_after s h) e
last_whole s h (quoting ps) t e = none_some t e
last_whole s h (escaping ps) t e = none_some t e
last_whole s h (pathing p) t e = ap (rule_after s h) e
last_whole s h (comparing k) t e = ap (rule_after s h) e
last_whole s h (ready u) t e = ap (rule_after s h) e

-- between tokens a blank is added to the gap
pub gap_step : (s : Spot) (g : List ℕ) (b : ℕ) → IsTrue (is_blank b) → next s g b ≡ Some (at s (g ++ b ∷ []) between)
gap_step s g b h = rw h refl

-- blanks between tokens are read
pub gap_run : (s : Spot) (g x : List ℕ) → IsBlanks x → run (at s g between) x ≡ Some (at s (g ++ x) between)
gap_run s g [] h = ap (λ r. Some (at s r between)) (sym (append_nil g))
gap_run s g (b ∷ x) h =
    let parts = and_parts (is_blank b) (list_all is_blank x) h in
    run_byte step b x (at s g between) (at s (g ++ b ∷ []) between) (gap_step s g b parts.0) ∙ gap_run s (g ++ b ∷ []) x parts.1
    ∙ ap (λ r. Some (at s r between)) (append_assoc g (b ∷ []) x)

-- between tokens, a byte that begins a token leads to the state with that token at hand
pub token_step : (s : Spot) (g : List ℕ) (b : ℕ) (l : Lex) → is_blank b ≡ false → begin (takes s g) b ≡ Some l → next s g b ≡ Some (at s g l)
token_step s g b l n e = rw n (ap (with_lex s g) e)

-- a blank is no =
blank_no_equal : (s : Spot) (b : ℕ) → IsTrue (is_blank b) → IsTrue (no_equal s b)
blank_no_equal (compared r e g v i o) b h = let n : (b == 61) ≡ false = grind (arith, nat_tests) in rw n refl
blank_no_equal s b h = refl

-- a blank may stand after each spot
pub blank_follows : (s : Spot) (b : ℕ) → IsTrue (is_blank b) → IsTrue (follows s b)
blank_follows s b h = let n : is_apart b ≡ true = rw h refl in or_both (is_fixed s) (is_apart b) (no_equal s b) n (blank_no_equal s b h)
  where
    or_both : (a c d : Bool) → IsTrue c → IsTrue d → IsTrue (a || (c && d))
    or_both true c d h k = refl
    or_both false true d h k = k
    or_both false false d h k = cc

-- a gap and the first byte of a token lead from the state to the one with that token at hand
first_read : (s : Spot) (st : State) (h : List ℕ) (b : ℕ) (y : List ℕ) (l : Lex) → IsAt s st → IsBlanks h → (h ≡ [] → IsTrue (follows s b)) → is_blank b ≡ false → begin (takes s h) b ≡ Some l
    → run st (h ++ b ∷ y) ≡ run (at s h l) y
first_read s st [] b y l a g f n e = run_byte step b y st (at s [] l) (a.steps b (f refl) ∙ token_step s [] b l n e)
first_read s st (c ∷ h) b y l a g f n e =
    let parts = and_parts (is_blank c) (list_all is_blank h) g in
    run_byte step c (h ++ b ∷ y) st (at s (c ∷ []) between) (a.steps c (blank_follows s c parts.0) ∙ gap_step s [] c parts.0)
    ∙ run_then step h (b ∷ y) (at s (c ∷ []) between) (at s (c ∷ h) between) (gap_run s (c ∷ []) h parts.1)
    ∙ run_byte step b y (at s (c ∷ h) between) (at s (c ∷ h) l) (token_step s (c ∷ h) b l n e)

-- the text leads from the state to one that stands at the spot
pub record After (s : Spot) (x : List ℕ) (t : State) : Type 0 where
  pub state : State
  pub runs : run t x ≡ Some state
  pub is : IsAt s state

-- a token that is read from its first byte to its last leads, after its gap, to the spot after it
pub reading : (s : Spot) (st : State) (h : List ℕ) (t : Token) → IsAt s st → IsBlanks h → Reading s h t → After (shift s h t) (h ++ token_text t) st
reading s st h t a g r = record {
  state = at s h r.last;
  runs = ap (λ y. run st (h ++ y)) r.text ∙ first_read s st h r.first r.rest r.lex a g r.may r.solid r.begins ∙ r.reads;
  is = record {
    steps = λ b f. last_step s h r.last t b r.ends (r.quiet b f);
    ends = last_whole s h r.last t r.ends;
  };
}
