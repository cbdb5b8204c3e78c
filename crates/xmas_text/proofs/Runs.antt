-- What a run has read is what its state writes.
use Rattle.std.proofs.Common.{◌≡◌, ◌∙◌, ℕ, List, [], ◌∷◌, ◌++◌, Option, Some, None, option_and_then, refl, sym, ap, subst, append_assoc}
use Rattle.mix_base.proofs.Choices.{list_all-push, some_is, none_some, Gives, either}
use Rattle.mix_base.proofs.Lists.{append_nil}
use Rattle.xmas_text.specs.Grammar.{Rule, Writes, items_text, conds_text, order_text, construct_text, where_text}
use Rattle.xmas_tokens.specs.Lexer.{Lex, between, marking, angle, opening, slash, closing, naming, dollar, varying, quoting, escaping, pathing, ready, comparing, lex_step, token_in, begin}
use Rattle.xmas_tokens.specs.Lexical.{is_blank, IsBlanks}
use Rattle.xmas_text.specs.Machine.{State, at, with_lex, next, after, or_after, step_in, step, run, rule_at, rule_after, whole_in, whole, start, read_of}
use Rattle.xmas_text.specs.Spots.{Spot, cond_done, sorted, takes, shift}
use Rattle.xmas_tokens.specs.Tokens.{Token}
use Rattle.xmas_text.proofs.Texts.{spot_text, IsSpot}
use Rattle.xmas_tokens.proofs.Texts.{lex_text, IsLex, Offered}
use Rattle.xmas_text.proofs.Shifts.{shifts}
use Rattle.xmas_tokens.proofs.Sound.{Goes, lex_goes, begin_goes}
use Rattle.xmas_tokens.proofs.Ended.{token_ended}

-- the state is well formed, and writes the text
pub record Stands (x : List ℕ) (s : State) : Type 0 where
  pub spot : IsSpot s.spot
  pub gap : IsBlanks s.gap
  pub lex : IsLex s.lex
  pub offered : Offered (takes s.spot s.gap) s.lex
  pub text : spot_text s.spot ++ (s.gap ++ lex_text s.lex) ≡ x

-- a state in which a token has begun is well formed, and writes the text with its first byte
with_lex_stands : (x : List ℕ) (s : Spot) (g : List ℕ) (b : ℕ) (o : Option Lex) → IsSpot s → IsBlanks g → spot_text s ++ g ≡ x → Gives (Goes (takes s g) (b ∷ [])) o → Gives (Stands (x ++ b ∷ [])) (with_lex s g o)
with_lex_stands x s g b None h k e i = tt
with_lex_stands x s g b (Some l) h k e i = record {
  spot = h;
  gap = k;
  lex = i.is;
  offered = i.offered;
  text = ap (λ r. spot_text s ++ (g ++ r)) i.text ∙ sym (append_assoc (spot_text s) g (b ∷ [])) ∙ ap (λ r. r ++ b ∷ []) e;
}

-- the state after a byte between tokens is well formed, and writes the text with that byte
pub next_stands : (x : List ℕ) (s : Spot) (g : List ℕ) (b : ℕ) → IsSpot s → IsBlanks g → spot_text s ++ g ≡ x → Gives (Stands (x ++ b ∷ [])) (next s g b)
next_stands x s g b h k e =
    either _ (is_blank b) _ _
    (λ p. record {
      spot = h;
      gap = list_all-push is_blank g b k p;
      lex = tt;
      offered = tt;
      text = ap (λ r. spot_text s ++ r) (append_nil (g ++ b ∷ [])) ∙ sym (append_assoc (spot_text s) g (b ∷ [])) ∙ ap (λ r. r ++ b ∷ []) e;
    })
    (λ n. with_lex_stands x s g b (begin (takes s g) b) h k e (begin_goes (takes s g) b))

-- the state after a byte that follows a token is well formed, and writes the text with that byte
after_stands : (x : List ℕ) (s : Spot) (g : List ℕ) (l : Lex) (o : Option Token) (b : ℕ) → token_in l ≡ o → Stands x (at s g l) → Gives (Stands (x ++ b ∷ [])) (after s g o b)
after_stands x s g l None b e h = tt
after_stands x s g l (Some t) b e h =
    let k = token_ended (takes s g) l t h.lex h.offered e in
    let n = shifts s g t h.spot h.gap k.is k.taken in
    next_stands x (shift s g t) [] b n.is refl (append_nil _ ∙ n.text ∙ ap (λ r. spot_text s ++ (g ++ r)) k.text ∙ h.text)

-- the state after a byte that goes on with the token at hand, or else stands after it, is well formed, and writes that byte more
lex_stands : (x : List ℕ) (s : Spot) (g : List ℕ) (l : Lex) (b : ℕ) (o : Option Lex) → Stands x (at s g l) → Gives (Goes (takes s g) (lex_text l ++ b ∷ [])) o → Gives (Stands (x ++ b ∷ [])) (or_after s g l b o)
lex_stands x s g l b None h k = after_stands x s g l (token_in l) b refl h
lex_stands x s g l b (Some m) h k = record {
  spot = h.spot;
  gap = h.gap;
  lex = k.is;
  offered = k.offered;
  text = ap (λ r. spot_text s ++ (g ++ r)) k.text ∙ regrouped (spot_text s) g (lex_text l) (b ∷ []) ∙ ap (λ r. r ++ b ∷ []) h.text;
}
  where
    regrouped : (a c d e : List ℕ) → a ++ (c ++ (d ++ e)) ≡ (a ++ (c ++ d)) ++ e
    regrouped a c d e = simp append_assoc

-- the state after a byte is well formed, and writes the text with it, by what the token at hand does
lexed : (x : List ℕ) (s : Spot) (g : List ℕ) (l : Lex) (b : ℕ) → Stands x (at s g l) → Gives (Stands (x ++ b ∷ [])) (or_after s g l b (lex_step l b))
lexed x s g l b h = lex_stands x s g l b (lex_step l b) h (lex_goes (takes s g) l b h.lex h.offered)

-- the state after one more byte is well formed, and writes the text with that byte
pub step_stands : (x : List ℕ) (s : Spot) (g : List ℕ) (l : Lex) (b : ℕ) → Stands x (at s g l) → Gives (Stands (x ++ b ∷ [])) (step_in s g l b)
step_stands x s g between b h = next_stands x s g b h.spot h.gap (ap (λ r. spot_text s ++ r) (sym (append_nil g)) ∙ h.text)
step_stands x s g (marking m done rest) b h = lexed x s g (marking m done rest) b h
step_stands x s g (angle p q) b h = lexed x s g (angle p q) b h
step_stands x s g (opening l) b h = lexed x s g (opening l) b h
step_stands x s g slash b h = lexed x s g slash b h
step_stands x s g (closing l) b h = lexed x s g (closing l) b h
step_stands x s g (naming l) b h = lexed x s g (naming l) b h
step_stands x s g dollar b h = lexed x s g dollar b h
step_stands x s g (varying l) b h = lexed x s g (varying l) b h
step_stands x s g (quoting ps) b h = lexed x s g (quoting ps) b h
step_stands x s g (escaping ps) b h = lexed x s g (escaping ps) b h
step_stands x s g (pathing p) b h = lexed x s g (pathing p) b h
step_stands x s g (comparing k) b h = lexed x s g (comparing k) b h
step_stands x s g (ready t) b h = lexed x s g (ready t) b h

-- the state after a text is well formed, where that after its first byte is
after_step : (x y : List ℕ) (b : ℕ) (s : Option State) → Gives (Stands (x ++ b ∷ [])) s → ((t : State) → Stands (x ++ b ∷ []) t → Gives (Stands ((x ++ b ∷ []) ++ y)) (run t y))
    → Gives (Stands (x ++ b ∷ y)) (option_and_then (λ t. run t y) s)
after_step x y b None h k = tt
after_step x y b (Some t) h k = subst (λ z. Gives (Stands z) (run t y)) (append_assoc x (b ∷ []) y) (k t h)

-- the state after a text is well formed, and writes that text
pub run_stands : (y x : List ℕ) (s : State) → Stands x s → Gives (Stands (x ++ y)) (run s y)
run_stands [] x s h = subst (λ z. Stands z s) (sym (append_nil x)) h
run_stands (b ∷ y) x s h = after_step x y b (step s b) (step_stands x s.spot s.gap s.lex b h) (λ t k. run_stands y (x ++ b ∷ []) t k)

-- the state before a text is well formed, and writes nothing
pub start_stands : Stands [] start
start_stands = record { spot = tt; gap = refl; lex = tt; offered = tt; text = refl }

-- the text of a rule without an order, part by part
rule_regrouped : (lead c x g w cs t : List ℕ) → lead ++ (c ++ (x ++ (g ++ (w ++ (cs ++ t))))) ≡ ((lead ++ (c ++ (x ++ (g ++ w)))) ++ cs) ++ t
rule_regrouped lead c x g w cs t = simp append_assoc

-- the text of a rule, part by part
sorted_regrouped : (lead c x g w cs o t : List ℕ) → lead ++ (c ++ (x ++ (g ++ (w ++ (cs ++ (o ++ t)))))) ≡ ((lead ++ (c ++ (x ++ (g ++ w)))) ++ (cs ++ o)) ++ t
sorted_regrouped lead c x g w cs o t = simp append_assoc

-- the rule that may end at a spot is written so
at_writes : (x : List ℕ) (s : Spot) (g : List ℕ) (r : Rule) → IsSpot s → IsBlanks g → spot_text s ++ g ≡ x → rule_at s g ≡ Some r → Writes x r
at_writes x (cond_done h cs) g r i b t e =
    subst (Writes x) (some_is _ _ e) (
      record { lead = i.0.0; template = i.0.1; gap = i.0.2; conds = i.1; order = tt; tail = b },
      rule_regrouped h.lead construct_text (items_text h.template) h.gap where_text (conds_text cs) g ∙ t,
    )
at_writes x (sorted h cs o) g r i b t e =
    subst (Writes x) (some_is _ _ e) (
      record { lead = i.0.0; template = i.0.1; gap = i.0.2; conds = i.1; order = i.2; tail = b },
      sorted_regrouped h.lead construct_text (items_text h.template) h.gap where_text (conds_text cs) (order_text o) g ∙ t,
    )
at_writes x s g r i b t e = none_some r e

-- the rule that may end after a token is written as the text that was read
after_writes : (x : List ℕ) (s : Spot) (g : List ℕ) (l : Lex) (o : Option Token) (r : Rule) → token_in l ≡ o → Stands x (at s g l) → rule_after s g o ≡ Some r → Writes x r
after_writes x s g l None r e h w = none_some r w
after_writes x s g l (Some t) r e h w =
    let k = token_ended (takes s g) l t h.lex h.offered e in
    let n = shifts s g t h.spot h.gap k.is k.taken in
    at_writes x (shift s g t) [] r n.is refl (append_nil _ ∙ n.text ∙ ap (λ r. spot_text s ++ (g ++ r)) k.text ∙ h.text) w

-- the rule that has been read whole is written as the text that was read
pub whole_writes : (x : List ℕ) (s : Spot) (g : List ℕ) (l : Lex) (r : Rule) → Stands x (at s g l) → whole_in s g l ≡ Some r → Writes x r
whole_writes x s g between r h e = at_writes x s g r h.spot h.gap (ap (λ r. spot_text s ++ r) (sym (append_nil g)) ∙ h.text) e
whole_writes x s g (marking m done rest) r h e = after_writes x s g (marking m done rest) _ r refl h e
whole_writes x s g (angle p q) r h e = none_some r e
whole_writes x s g (opening l) r h e = none_some r e
whole_writes x s g slash r h e = none_some r e
whole_writes x s g (closing l) r h e = none_some r e
whole_writes x s g (naming l) r h e = after_writes x s g (naming l) _ r refl h e
whole_writes x s g dollar r h e = none_some r e
whole_writes x s g (varying l) r h e = after_writes x s g (varying l) _ r refl h e
whole_writes x s g (quoting ps) r h e = none_some r e
whole_writes x s g (escaping ps) r h e = none_some r e
whole_writes x s g (pathing p) r h e = after_writes x s g (pathing p) _ r refl h e
whole_writes x s g (comparing k) r h e = after_writes x s g (comparing k) _ r refl h e
whole_writes x s g (ready t) r h e = after_writes x s g (ready t) _ r refl h e

-- the rule that is read in a state that stands is written as the text, from an option
read_from : (x : List ℕ) (s : Option State) (r : Rule) → Gives (Stands x) s → option_and_then whole s ≡ Some r → Writes x r
read_from x None r h e = none_some r e
read_from x (Some s) r h e = whole_writes x s.spot s.gap s.lex r h e

-- what is read is written so
pub read_writes : (x : List ℕ) (r : Rule) → read_of x ≡ Some r → Writes x r
read_writes x r e = read_from x (run start x) r (run_stands x [] start start_stands) e
