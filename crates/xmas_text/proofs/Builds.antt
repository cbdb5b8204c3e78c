-- What is built of a text goes as the machine does.
use Rattle.std.proofs.Common.{◌≡◌, ◌∙◌, ◌+◌, ◌<◌, ◌≤◌, ◌^◌, ℕ, Bool, true, false, cond, List, [], ◌∷◌, ◌++◌, Option, Some, None, option_map, option_and_then, refl, sym, ap, subst, arith, length, take, drop, slice_index, slice_range, length-append, append_assoc, length-take-le, rules}
use Rattle.std.proofs.lemmas.List.{take_all, take-append-drop}
use Rattle.std.proofs.lemmas.Str.{IsUtf8-nil, IsUtf8-between, IsCharBoundary-from_take}
use Rattle.std.specs.Str.{IsUtf8}
use Rattle.mix_base.proofs.Runs.{run_append, run_one, take_next}
use Rattle.mix_base.proofs.Choices.{Gives, some_is, none_some}
use Rattle.mix_base.proofs.Lists.{append_nil}
use Rattle.xmas_tokens.specs.declared.lexer.Part.{Part}
use Rattle.xmas_tokens.specs.declared.lexer.Part.TheVariants as part
use Rattle.xmas_text.specs.declared.scan.Scan.{Scan}
use Rattle.xmas_tokens.specs.Lexical.{is_blank}
use Rattle.xmas_text.specs.Grammar.{Items, nothing, variable, literal, element, Rule, Writes, IsTemplate}
use Rattle.xmas_tokens.specs.Tokens.{Token, kind_of}
use Rattle.xmas_text.specs.Spots.{Spot, cond_done, sorted, takes}
use Rattle.xmas_tokens.specs.Lexer.{Lex, between, marking, angle, opening, slash, closing, naming, dollar, varying, quoting, escaping, pathing, ready, comparing, lex_step, token_in, begin}
use Rattle.xmas_text.specs.Machine.{State, at, with_lex, next, step, run, rule_at, whole, start}
use Rattle.xmas_tokens.specs.Parts.{part_of, part_step, kind_in, part_depth}
use Rattle.xmas_text.specs.Scans.{scan_of, scan_step}
use Rattle.xmas_text.specs.Parsed.{items_at, parsed}
use Rattle.xmas_text.specs.Drafts.{DraftForm}
use Rattle.xmas_text.specs.Shifted.{shifted}
use Rattle.xmas_text.specs.Drafted.{draft_of}
use Rattle.xmas_tokens.specs.Lexemes.{lexeme_of, IsLexeme}
use Rattle.xmas_text.specs.Building.{BuildForm, IsEndedBy, IsEnded, EndsTokenBy, EndsToken, place_after, CanBuild, BuildsBy, Builds, IsOneElement, tree_of}
use Rattle.xmas_text.proofs.Texts.{spot_text, IsSpot}
use Rattle.xmas_tokens.proofs.Texts.{lex_text}
use Rattle.xmas_text.proofs.Shifts.{shifts}
use Rattle.xmas_tokens.proofs.Sound.{Goes, begin_goes}
use Rattle.xmas_text.proofs.Runs.{Stands, run_stands, start_stands}
use Rattle.xmas_tokens.proofs.Ended.{token_ended}
use Rattle.xmas_text.proofs.Complete.{writes_read}
use Rattle.xmas_text.proofs.Prefixes.{stood_at, stopped_writes}
use Rattle.xmas_tokens.proofs.Parts.{step_part, kind_part}
use Rattle.xmas_text.proofs.Steps.{rest_by, rest_in, rest, rest_between, step_rest, step_on}
use Rattle.xmas_text.proofs.Cuts.{ScansTo, scan_more, prefix_utf8}
use Rattle.xmas_tokens.proofs.Quotes.{InQuotes, quotes_go_on}
use Rattle.xmas_text.proofs.Verdicts.{whole_rest}
use Rattle.xmas_text.proofs.Lengths.{spot_end, spot_length}
use Rattle.xmas_text.proofs.DraftMoves.{drafts}
use Rattle.xmas_tokens.proofs.Lexemes.{between_is}
use Rattle.xmas_tokens.proofs.Unique.{lexeme_is}

-- what is kept of the text up to a place is that of the machine's state
pub record Standing (text : List ℕ) (n : ℕ) (b : BuildForm) : Type 0 where
  pub state : State
  pub runs : run start (take n text) ≡ Some state
  pub scan : scan_of state ≡ b.scan
  pub draft : draft_of state.spot ≡ b.draft
  pub from : b.from ≡ length (spot_text state.spot) + length state.gap
  pub utf8 : IsUtf8 (take b.from text)
  pub depth : b.scan.depth ≤ n
  pub part : part_depth b.scan.part ≤ n

-- the state that stands at a place of a text is well formed, and writes the text up to there
stands_of : (text : List ℕ) (n : ℕ) (b : BuildForm) (h : Standing text n b) → Stands (take n text) h.state
stands_of text n b h = stood_at (take n text) (run start (take n text)) h.state (run_stands (take n text) [] start start_stands) h.runs

-- the scan that is kept at a place is where a scan of the text up to there comes to
scans_of : (text : List ℕ) (n : ℕ) (b : BuildForm) → Standing text n b → ScansTo (take n text) b.scan
scans_of text n b h = ap (option_map scan_of) h.runs ∙ ap Some h.scan

-- the token at hand ends at the place up to which the text was read, and is as long as what was read of it
from_order : (text : List ℕ) (n : ℕ) (b : BuildForm) → n ≤ length text → (h : Standing text n b) → n ≡ b.from + length (lex_text h.state.lex)
from_order text n b l h =
    let stands = stands_of text n b h in
    let whole : length (spot_text h.state.spot ++ (h.state.gap ++ lex_text h.state.lex)) ≡ length (take n text) = ap length stands.text in
    let parts : length (spot_text h.state.spot ++ (h.state.gap ++ lex_text h.state.lex)) ≡ length (spot_text h.state.spot) + (length h.state.gap + length (lex_text h.state.lex)) =
    length-append (spot_text h.state.spot) (h.state.gap ++ lex_text h.state.lex) ∙ ap (λ m. length (spot_text h.state.spot) + m) (length-append h.state.gap (lex_text h.state.lex)) in
    let long : length (take n text) ≡ n = length-take-le n text l in
    omega (arith, whole, parts, long, h.from)

-- the text from where the token at hand begins is what has been read of it
token_is : (text : List ℕ) (n : ℕ) (b : BuildForm) → n ≤ length text → (h : Standing text n b) → slice_range text b.from n ≡ lex_text h.state.lex
token_is text n b l h =
    let stands = stands_of text n b h in
    let prefix : List ℕ = spot_text h.state.spot ++ h.state.gap in
    let parts : prefix ++ (lex_text h.state.lex ++ drop n text) ≡ text =
    regrouped (spot_text h.state.spot) h.state.gap (lex_text h.state.lex) (drop n text) ∙ ap (λ r. r ++ drop n text) stands.text ∙ take-append-drop n text in
    let long : b.from ≡ length prefix = h.from ∙ sym (length-append (spot_text h.state.spot) h.state.gap) in
    ap (λ x. slice_range x b.from n) (sym parts) ∙ between_is prefix (lex_text h.state.lex) (drop n text) b.from n long (from_order text n b l h ∙ ap (λ m. m + length (lex_text h.state.lex)) long)
  where
    regrouped : (a c d e : List ℕ) → (a ++ c) ++ (d ++ e) ≡ (a ++ (c ++ d)) ++ e
    regrouped a c d e = simp append_assoc

-- the token that ends is written so, by what it is
ended_by : (x : List ℕ) (s : Spot) (g : List ℕ) (l : Lex) (o : Option Token) → Stands x (at s g l) → token_in l ≡ o → IsEndedBy (option_map kind_of o) (lex_text l)
ended_by x s g l None h e = tt
ended_by x s g l (Some t) h e = let k = token_ended (takes s g) l t h.lex h.offered e in (t, k.is, refl, k.text)

-- the token that ends is written so
pub ended_here : (text : List ℕ) (n : ℕ) (b : BuildForm) → n ≤ length text → Standing text n b → IsEnded b.scan.part (slice_range text b.from n)
ended_here text n b l h =
    let stands = stands_of text n b h in
    let t = h.state in
    let by_token : IsEndedBy (kind_in (part_of t.lex)) (lex_text t.lex) =
    subst (λ k. IsEndedBy k (lex_text t.lex)) (kind_part t.lex stands.lex) (ended_by (take n text) t.spot t.gap t.lex (token_in t.lex) stands refl) in
    subst (λ x. IsEnded b.scan.part x) (sym (token_is text n b l h)) (subst (λ s. IsEnded s.part (lex_text t.lex)) h.scan by_token)

-- the text of the token at hand is UTF-8 where the text up to its end is
pub token_utf8 : (text : List ℕ) (n : ℕ) (b : BuildForm) → IsUtf8 text → n ≤ length text → Standing text n b → IsUtf8 (take n text) → IsUtf8 (slice_range text b.from n)
token_utf8 text n b u l h k =
    let order : b.from ≤ n = omega (arith, from_order text n b l h) in
    IsUtf8-between text b.from n u order (IsCharBoundary-from_take text b.from u (omega (arith, order, l)) h.utf8) (IsCharBoundary-from_take text n u l k)

-- the machine goes on with a text that is a rule's
goes_on : (text : List ℕ) (n : ℕ) (s : Scan) (r : Rule) (o : Option State) → Writes text r → run start (take (n + 1) text) ≡ o → option_map scan_of o ≡ scan_step s (slice_index text n)
    → (t : Scan) × (scan_step s (slice_index text n) ≡ Some t)
goes_on text n s r None w e h = absurd (stopped_writes (take (n + 1) text) (drop (n + 1) text) r e (subst (λ x. Writes x r) (sym (take-append-drop (n + 1) text)) w))
goes_on text n s r (Some t) w e h = (scan_of t, sym h)

-- what the scan keeps after the next byte
next_scanned : (text : List ℕ) (n : ℕ) (b : BuildForm) → n < length text → Standing text n b → option_map scan_of (run start (take (n + 1) text)) ≡ scan_step b.scan (slice_index text n)
next_scanned text n b l h = scan_more text n b.scan l (scans_of text n b h)

-- where the token at hand does not go on, the text may be cut
cut_here : (text : List ℕ) (n : ℕ) (b : BuildForm) → IsUtf8 text → n < length text → Standing text n b → part_step b.scan.part (slice_index text n) ≡ None → IsUtf8 (take n text)
cut_here text n b u l h e = prefix_utf8 text n b.scan u (omega arith) (scans_of text n b h) (λ q. quotes_go_on b.scan.part (slice_index text n) q e)

-- the next byte of a rule's text can be added to what is built
pub can_build : (text : List ℕ) (n : ℕ) (b : BuildForm) → IsUtf8 text → (r : Rule) × Writes text r → n < length text → length text < 2 ^ 64 → Standing text n b → CanBuild text n b
can_build text n b u (r, w) l m h =
    let short : n ≤ length text = omega arith in record {
      inside = l;
      order = omega (arith, from_order text n b short h);
      depth = h.depth;
      part = h.part;
      short = m;
      goes_on = goes_on text n b.scan r (run start (take (n + 1) text)) w refl (next_scanned text n b l h);
      utf8 = λ e. token_utf8 text n b u short h (cut_here text n b u l h e);
      ended = λ e. ended_here text n b short h;
    }

-- what is kept before a text is that of the machine's first state
pub standing_start : (text : List ℕ) (b : BuildForm) → b.scan ≡ scan_of start → b.from ≡ 0 → b.draft ≡ draft_of start.spot → Standing text 0 b
standing_start text b s f d = record {
  state = start;
  runs = refl;
  scan = sym s;
  draft = sym d;
  from = f;
  utf8 = subst (λ n. IsUtf8 (take n text)) (sym f) IsUtf8-nil;
  depth = let e : b.scan.depth ≡ 0 = ap (λ t. t.depth) s in omega (arith, e);
  part = let e : part_depth b.scan.part ≡ 0 = ap (λ t. part_depth t.part) s in omega (arith, e);
}

-- where a token ends, the state is well formed, from an option
rest_stands_by : (x : List ℕ) (s : Spot) (g : List ℕ) (l : Lex) (o : Option Token) (u : State) → token_in l ≡ o → Stands x (at s g l) → rest_by s g o ≡ Some u → Stands x u
rest_stands_by x s g l None u e h r = none_some u r
rest_stands_by x s g l (Some t) u e h r =
    let k = token_ended (takes s g) l t h.lex h.offered e in
    let n = shifts s g t h.spot h.gap k.is k.taken in
    subst (Stands x) (some_is _ _ r)
    (record { spot = n.is; gap = refl; lex = tt; offered = tt; text = append_nil _ ∙ n.text ∙ ap (λ y. spot_text s ++ (g ++ y)) k.text ∙ h.text })

-- where a token ends, the state is well formed
rest_stands : (x : List ℕ) (s : Spot) (g : List ℕ) (l : Lex) (u : State) → Stands x (at s g l) → rest_in s g l ≡ Some u → Stands x u
rest_stands x s g between u h r = subst (Stands x) (some_is _ _ r) h
rest_stands x s g (marking m done q) u h r = rest_stands_by x s g (marking m done q) _ u refl h r
rest_stands x s g (angle o c) u h r = none_some u r
rest_stands x s g (opening l) u h r = none_some u r
rest_stands x s g slash u h r = none_some u r
rest_stands x s g (closing l) u h r = none_some u r
rest_stands x s g (naming l) u h r = rest_stands_by x s g (naming l) _ u refl h r
rest_stands x s g dollar u h r = none_some u r
rest_stands x s g (varying l) u h r = rest_stands_by x s g (varying l) _ u refl h r
rest_stands x s g (quoting ps) u h r = none_some u r
rest_stands x s g (escaping ps) u h r = none_some u r
rest_stands x s g (pathing p) u h r = rest_stands_by x s g (pathing p) _ u refl h r
rest_stands x s g (ready t) u h r = rest_stands_by x s g (ready t) _ u refl h r
rest_stands x s g (comparing k) u h r = rest_stands_by x s g (comparing k) _ u refl h r

-- where the token that ends is given as an option, the draft after it is that of the spot after it
rest_draft_by : (x : List ℕ) (s : Spot) (g : List ℕ) (l : Lex) (o : Option Token) (u : State) (from : ℕ) (d : DraftForm) → token_in l ≡ o → Stands x (at s g l) → rest_by s g o ≡ Some u
    → from ≡ length (spot_text s) + length g → EndsTokenBy (option_map kind_of o) (lex_text l) from (draft_of s) d → d ≡ draft_of u.spot
rest_draft_by x s g l None u from d e h r f w = none_some u r
rest_draft_by x s g l (Some t) u from d e h r f (w, i, k) =
    let ended = token_ended (takes s g) l t h.lex h.offered e in
    let says : w ≡ lexeme_of t = lexeme_is t w ended.is (subst (λ y. IsLexeme (kind_of t) y w) (sym ended.text) i) in
    let place : from ≡ spot_end s + length g = f ∙ ap (λ m. m + length g) (spot_length s h.spot) in
    k ∙ ap (λ y. shifted (draft_of s) from y) says ∙ ap (λ m. shifted (draft_of s) m (lexeme_of t)) place ∙ sym (drafts s g t h.spot ended.taken) ∙ ap (λ v. draft_of v.spot) (some_is _ _ r)

-- the draft that a token's end gives is that of the spot after the token, where a token may end
rest_draft_in : (x : List ℕ) (s : Spot) (g : List ℕ) (l : Lex) (u : State) (from : ℕ) (d : DraftForm) → Stands x (at s g l) → rest_by s g (token_in l) ≡ Some u
    → from ≡ length (spot_text s) + length g → EndsToken (part_of l) (lex_text l) from (draft_of s) d → d ≡ draft_of u.spot
rest_draft_in x s g l u from d h r f w = rest_draft_by x s g l (token_in l) u from d refl h r f (subst (λ k. EndsTokenBy k (lex_text l) from (draft_of s) d) (sym (kind_part l h.lex)) w)

-- the draft after the token that ends at a spot is that of the spot after it
rest_draft : (x : List ℕ) (s : Spot) (g : List ℕ) (l : Lex) (u : State) (from : ℕ) (d : DraftForm) → Stands x (at s g l) → rest_in s g l ≡ Some u
    → from ≡ length (spot_text s) + length g → EndsToken (part_of l) (lex_text l) from (draft_of s) d → d ≡ draft_of u.spot
rest_draft x s g between u from d h r f w = w ∙ ap (λ v. draft_of v.spot) (some_is _ _ r)
rest_draft x s g (marking m done q) u from d h r f w = rest_draft_in x s g (marking m done q) u from d h r f w
rest_draft x s g (angle o c) u from d h r f w = none_some u r
rest_draft x s g (opening l) u from d h r f w = none_some u r
rest_draft x s g slash u from d h r f w = none_some u r
rest_draft x s g (closing l) u from d h r f w = none_some u r
rest_draft x s g (naming l) u from d h r f w = rest_draft_in x s g (naming l) u from d h r f w
rest_draft x s g dollar u from d h r f w = none_some u r
rest_draft x s g (varying l) u from d h r f w = rest_draft_in x s g (varying l) u from d h r f w
rest_draft x s g (quoting ps) u from d h r f w = none_some u r
rest_draft x s g (escaping ps) u from d h r f w = none_some u r
rest_draft x s g (pathing p) u from d h r f w = rest_draft_in x s g (pathing p) u from d h r f w
rest_draft x s g (ready t) u from d h r f w = rest_draft_in x s g (ready t) u from d h r f w
rest_draft x s g (comparing k) u from d h r f w = rest_draft_in x s g (comparing k) u from d h r f w

-- where a token has ended, the whole of the text has been read
rest_length : (text : List ℕ) (n : ℕ) (u : State) → n < length text → u.lex ≡ between → Stands (take n text) u → length (spot_text u.spot) + length u.gap ≡ n
rest_length text n u l e h =
    let whole : length (spot_text u.spot ++ (u.gap ++ lex_text u.lex)) ≡ length (take n text) = ap length h.text in
    let parts : length (spot_text u.spot ++ (u.gap ++ lex_text u.lex)) ≡ length (spot_text u.spot) + (length u.gap + length (lex_text u.lex)) =
    length-append (spot_text u.spot) (u.gap ++ lex_text u.lex) ∙ ap (λ m. length (spot_text u.spot) + m) (length-append u.gap (lex_text u.lex)) in
    let none : length (lex_text u.lex) ≡ 0 = ap (λ k. length (lex_text k)) e in
    let long : length (take n text) ≡ n = length-take-le n text (omega arith) in
    omega (arith, whole, parts, long, none)

-- a token that has begun is not between two
begun_place : (p : ℕ) (l : Lex) (b : ℕ) → lex_text l ≡ b ∷ [] → place_after p (part_of l) ≡ p
begun_place p between b e = cc
begun_place p l b e = refl

-- where a byte between tokens leads
record Leads (s : Spot) (g : List ℕ) (t : State) : Type 0 where
  spot : t.spot ≡ s
  place : length (spot_text t.spot) + length t.gap ≡ place_after (length (spot_text s) + length g) (part_of t.lex)

-- a byte that begins a token keeps the spot and the place
leads_token : (s : Spot) (g : List ℕ) (b : ℕ) (o : Option Lex) (t : State) → Gives (Goes (takes s g) (b ∷ [])) o → with_lex s g o ≡ Some t → Leads s g t
leads_token s g b None t h e = none_some t e
leads_token s g b (Some l) t h e =
    subst (Leads s g) (some_is _ _ e) (record { spot = refl; place = sym (begun_place (length (spot_text s) + length g) l b h.text) })

-- a byte between tokens, a blank or a token's first one, keeps the spot and leads to the next token's place
leads : (s : Spot) (g : List ℕ) (b : ℕ) (t : State) → next s g b ≡ Some t → Leads s g t
leads s g b t e = by_case (is_blank b) e
  where
    by_case : (q : Bool) → cond q (Some (at s (g ++ b ∷ []) between)) (with_lex s g (begin (takes s g) b)) ≡ Some t → Leads s g t
    by_case true f =
        let n : length (spot_text s) + length (g ++ b ∷ []) ≡ length (spot_text s) + length g + 1 = omega (arith, length-append g (b ∷ [])) in
        subst (Leads s g) (some_is _ _ f) (record { spot = refl; place = n })
    by_case false f = leads_token s g b (begin (takes s g) b) t (begin_goes (takes s g) b) f

-- the text may be cut where the token at hand begins
place_utf8 : (text : List ℕ) (n : ℕ) (p : Part) → IsUtf8 (take n text) → (p ≡ part.Between → IsUtf8 (take (n + 1) text)) → IsUtf8 (take (place_after n p) text)
place_utf8 text n part.Between h k = k refl
place_utf8 text n p h k = h

-- between tokens no quoted label is open
between_outside : (p : Part) → p ≡ part.Between → InQuotes p → ⊥
between_outside p e q = subst InQuotes e q

-- the byte has gone on with the token at hand
went_on : (text : List ℕ) (n : ℕ) (b next' : BuildForm) (h : Standing text n b) (k : Lex) (t : State) → lex_step h.state.lex (slice_index text n) ≡ Some k → run start (take (n + 1) text) ≡ Some t
    → step h.state (slice_index text n) ≡ Some t → scan_of t ≡ next'.scan → Builds text n b next' → Standing text (n + 1) next'
went_on text n b next' h k t e runs s i w =
    let same : at h.state.spot h.state.gap k ≡ t = some_is _ _ (sym (step_on h.state.spot h.state.gap h.state.lex k (slice_index text n) e) ∙ s) in
    let goes : part_step b.scan.part (slice_index text n) ≡ Some (part_of k) =
    ap (λ q. part_step q.part (slice_index text n)) (sym h.scan) ∙ sym (step_part h.state.lex (slice_index text n) (stands_of text n b h).lex) ∙ ap (option_map part_of) e in
    let kept : BuildsBy (Some (part_of k)) text n b next' = subst (λ o. BuildsBy o text n b next') goes w.token in record {
      state = t;
      runs = runs;
      scan = i;
      draft = ap (λ v. draft_of v.spot) (sym same) ∙ h.draft ∙ sym kept.1;
      from = kept.0 ∙ h.from ∙ ap (λ v. length (spot_text v.spot) + length v.gap) same;
      utf8 = subst (λ m. IsUtf8 (take m text)) (sym kept.0) h.utf8;
      depth = w.depth;
      part = w.part;
    }

-- the byte has ended the token at hand, or stands between two
went_off : (text : List ℕ) (n : ℕ) (b next' : BuildForm) → IsUtf8 text → n < length text → (h : Standing text n b) (o : Option State) (t : State) → lex_step h.state.lex (slice_index text n) ≡ None
    → rest h.state ≡ o → run start (take (n + 1) text) ≡ Some t → option_and_then (λ u. next u.spot u.gap (slice_index text n)) o ≡ Some t → scan_of t ≡ next'.scan → Builds text n b next'
    → Standing text (n + 1) next'
went_off text n b next' u l h None t e r runs s i w = none_some t s
went_off text n b next' u l h (Some v) t e r runs s i w =
    let stands = stands_of text n b h in
    let after = rest_stands (take n text) h.state.spot h.state.gap h.state.lex v stands r in
    let lead = leads v.spot v.gap (slice_index text n) t s in
    let stops : part_step b.scan.part (slice_index text n) ≡ None =
    ap (λ q. part_step q.part (slice_index text n)) (sym h.scan) ∙ sym (step_part h.state.lex (slice_index text n) stands.lex) ∙ ap (option_map part_of) e in
    let kept : BuildsBy None text n b next' = subst (λ o. BuildsBy o text n b next') stops w.token in
    let word : EndsToken (part_of h.state.lex) (lex_text h.state.lex) b.from (draft_of h.state.spot) next'.draft =
    subst (λ d. EndsToken (part_of h.state.lex) (lex_text h.state.lex) b.from d next'.draft) (sym h.draft)
    (subst (λ q. EndsToken q.part (lex_text h.state.lex) b.from b.draft next'.draft) (sym h.scan)
    (subst (λ x. EndsToken b.scan.part x b.from b.draft next'.draft) (token_is text n b (omega arith) h) kept.1)) in
    let draft' : next'.draft ≡ draft_of v.spot = rest_draft (take n text) h.state.spot h.state.gap h.state.lex v b.from next'.draft stands r h.from word in
    let place : length (spot_text v.spot) + length v.gap ≡ n = rest_length text n v l (rest_between h.state.spot h.state.gap h.state.lex v r) after in
    let part' : part_of t.lex ≡ next'.scan.part = ap (λ q. q.part) i in
    let scans : ScansTo (take (n + 1) text) next'.scan = ap (option_map scan_of) runs ∙ ap Some i in record {
      state = t;
      runs = runs;
      scan = i;
      draft = ap draft_of lead.spot ∙ sym draft';
      from = kept.0 ∙ ap (place_after n) (sym part') ∙ ap (λ m. place_after m (part_of t.lex)) (sym place) ∙ sym lead.place;
      utf8 =
          subst (λ m. IsUtf8 (take m text)) (sym kept.0)
          (place_utf8 text n next'.scan.part (cut_here text n b u l h stops) (λ f. prefix_utf8 text (n + 1) next'.scan u (omega arith) scans (between_outside next'.scan.part f)));
      depth = w.depth;
      part = w.part;
    }

-- what is kept after one more byte is that of the machine's state, by whether the token at hand goes on
standing_by : (text : List ℕ) (n : ℕ) (b next' : BuildForm) → IsUtf8 text → n < length text → (h : Standing text n b) (o : Option Lex) (t : State) → lex_step h.state.lex (slice_index text n) ≡ o
    → run start (take (n + 1) text) ≡ Some t → step h.state (slice_index text n) ≡ Some t → scan_of t ≡ next'.scan → Builds text n b next' → Standing text (n + 1) next'
standing_by text n b next' u l h None t e runs s i w =
    went_off text n b next' u l h (rest h.state) t e refl runs (sym (step_rest h.state.spot h.state.gap h.state.lex (slice_index text n) e) ∙ s) i w
standing_by text n b next' u l h (Some k) t e runs s i w = went_on text n b next' h k t e runs s i w

-- the state after a text with the next byte is the one to which that byte leads from the state before it
stepped : (text : List ℕ) (n : ℕ) (b : BuildForm) → n < length text → (h : Standing text n b) → run start (take (n + 1) text) ≡ step h.state (slice_index text n)
stepped text n b l h =
    ap (run start) (take_next text n l) ∙ run_append step (take n text) (slice_index text n ∷ []) start ∙ ap (option_and_then (λ t. run t (slice_index text n ∷ []))) h.runs
    ∙ run_one step (step h.state (slice_index text n))

-- what is kept after one more byte is that of the machine's state, where the machine goes on with the byte
standing_at : (text : List ℕ) (n : ℕ) (b next' : BuildForm) → IsUtf8 text → n < length text → (h : Standing text n b) (o : Option State) → run start (take (n + 1) text) ≡ o
    → option_map scan_of o ≡ Some next'.scan → Builds text n b next' → Standing text (n + 1) next'
standing_at text n b next' u l h None e i w = none_some next'.scan i
standing_at text n b next' u l h (Some t) e i w =
    standing_by text n b next' u l h (lex_step h.state.lex (slice_index text n)) t refl e (sym (stepped text n b l h) ∙ e) (some_is _ _ i) w

-- what is kept after one more byte of a text is that of the machine's state
pub standing_next : (text : List ℕ) (n : ℕ) (b next' : BuildForm) → IsUtf8 text → n < length text → Standing text n b → Builds text n b next' → Standing text (n + 1) next'
standing_next text n b next' u l h w = standing_at text n b next' u l h (run start (take (n + 1) text)) refl (next_scanned text n b l h ∙ w.scan) w

-- the items of a written template, as values, are one element
template_one : (at : ℕ) (xs : Items) → IsTemplate xs → IsOneElement (items_at at xs)
template_one at nothing h = absurd h
template_one at (variable b g k e) h = absurd h
template_one at (literal b g ps) h = absurd h
template_one at (element nothing g n i j c e) h = (_, refl)
template_one at (element (variable b f k d) g n i j c e) h = absurd h.0
template_one at (element (literal b f ps) g n i j c e) h = absurd h.0
template_one at (element (element b f m l k d a) g n i j c e) h = absurd h.0

-- where a rule may end at a spot, the draft of the spot has one element, and its tree is the rule's
rule_draft : (s : Spot) (g : List ℕ) (r : Rule) → IsSpot s → rule_at s g ≡ Some r → IsOneElement (draft_of s).built.items × (tree_of (draft_of s) ≡ parsed r)
rule_draft (cond_done h cs) g r i e = (template_one _ h.template i.0.1, ap parsed (some_is _ _ e))
rule_draft (sorted h cs o) g r i e = (template_one _ h.template i.0.1, ap parsed (some_is _ _ e))
rule_draft s g r i e = none_some r e

-- the draft of a whole text: its items are one element, and its tree is the one that the text spells
pub record Finishes (text : List ℕ) (d : DraftForm) : Type 0 where
  pub one : IsOneElement d.built.items
  pub rule : Rule
  pub writes : Writes text rule
  pub tree : parsed rule ≡ tree_of d

-- where the state in which the last token ends is given as an option, the draft after that token is that of the rule
finish_by : (text : List ℕ) (b : BuildForm) (d : DraftForm) (r : Rule) (h : Standing text (length text) b) (o : Option State) → Writes text r → rest h.state ≡ o
    → option_and_then (λ v. rule_at v.spot v.gap) o ≡ Some r → EndsToken b.scan.part (slice_range text b.from (length text)) b.from b.draft d → Finishes text d
finish_by text b d r h None w e q k = none_some r q
finish_by text b d r h (Some v) w e q k =
    let stands = stands_of text (length text) b h in
    let after = rest_stands (take (length text) text) h.state.spot h.state.gap h.state.lex v stands e in
    let word : EndsToken (part_of h.state.lex) (lex_text h.state.lex) b.from (draft_of h.state.spot) d =
    subst (λ y. EndsToken (part_of h.state.lex) (lex_text h.state.lex) b.from y d) (sym h.draft)
    (subst (λ y. EndsToken y.part (lex_text h.state.lex) b.from b.draft d) (sym h.scan)
    (subst (λ x. EndsToken b.scan.part x b.from b.draft d) (token_is text (length text) b (omega arith) h) k)) in
    let draft' : d ≡ draft_of v.spot = rest_draft (take (length text) text) h.state.spot h.state.gap h.state.lex v b.from d stands e h.from word in
    let rule = rule_draft v.spot v.gap r after.spot q in record {
      one = subst (λ y. IsOneElement y.built.items) (sym draft') rule.0;
      rule = r;
      writes = w;
      tree = sym rule.1 ∙ ap tree_of (sym draft');
    }

-- the draft after the last token is that of the rule
pub finishes : (text : List ℕ) (b : BuildForm) (d : DraftForm) → (r : Rule) × Writes text r → Standing text (length text) b
    → EndsToken b.scan.part (slice_range text b.from (length text)) b.from b.draft d → Finishes text d
finishes text b d (r, w) h k =
    let all : take (length text) text ≡ text = search (rules, take_all) in
    let runs : run start text ≡ Some h.state = ap (run start) (sym all) ∙ h.runs in
    let whole' : whole h.state ≡ Some r = sym (ap (option_and_then whole) runs) ∙ writes_read text r w in
    finish_by text b d r h (rest h.state) w refl (sym (whole_rest h.state.spot h.state.gap h.state.lex) ∙ whole') k

-- the last token is UTF-8
pub last_utf8 : (text : List ℕ) (b : BuildForm) → IsUtf8 text → Standing text (length text) b → IsUtf8 (slice_range text b.from (length text))
last_utf8 text b u h =
    let all : take (length text) text ≡ text = search (rules, take_all) in
    token_utf8 text (length text) b u (omega arith) h (subst IsUtf8 (sym all) u)

-- the last token begins inside the text
pub last_order : (text : List ℕ) (b : BuildForm) → Standing text (length text) b → b.from ≤ length text
last_order text b h = omega (arith, from_order text (length text) b (omega arith) h)
