-- What the machine says of a text, in terms of the grammar.
use Rattle.std.proofs.Common.{◌≡◌, ◌⊎◌, inl, inr, ◌<◌, ◌≤◌, ◌+◌, ◌∙◌, ◌==◌, ◌||◌, ℕ, Bool, true, false, cond, IsTrue, List, [], ◌∷◌, ◌++◌, Option, Some, None, Result, Ok, Err, refl, sym, ap, subst, arith, length, append_assoc, option_and_then, take, drop, length-append, take-append-drop, nat_le}
use Rattle.std.proofs.lemmas.Bool.Decides.{nat_tests}
use Rattle.std.specs.List.{list_all}
use Rattle.std.specs.Str.{IsUtf8}
use Rattle.std.proofs.lemmas.Str.{IsUtf8-nil}
use Rattle.mix_base.proofs.Runs.{run_then, run_byte}
use Rattle.mix_base.specs.Reading.{IsPrefix}
use Rattle.mix_base.proofs.Lists.{append_nil, prefix_is, prefix_with}
use Rattle.mix_base.proofs.Choices.{and_parts, and_both, number_is, some_is, none_some, Gives, either}
use Rattle.mix_base.proofs.Utf8.{utf8_split, utf8_push}
use Rattle.mix_tree.specs.Forest.{LabelledTree}
use Rattle.mix_tree.specs.Spelling.{is_bare}
use Rattle.mix_tree.specs.LabelGrammar.{is_escape}
use Rattle.mix_tree.specs.LabelMachine as spelled
use Rattle.mix_tree.proofs.LabelComplete.{bare_goes_on}
use Rattle.bracket_text.specs.Grammar.{is_blank, Spells, SpellsShallow}
use Rattle.bracket_text.specs.Machine.{Frame, Mode, start, first, spelling, named, closed, State, at, after_tree, after_tree_in, after_label, or_other, begin, after, begins, is_deep_in, is_deep, step_in, step, run, whole, empty, Verdict, reads, unexpected, too_deep, ends, at_end, or_stop, verdict}
use Rattle.bracket_text.specs.Results.{Refuses, Answers, IsTree}
use Rattle.bracket_text.specs.ReaderState.{GivesFault, GivesVerdict}
use Rattle.bracket_text.specs.declared.fault.BracketFault.{BracketFault}
use Rattle.bracket_text.specs.declared.fault.BracketFault.TheVariants.{NotUtf8, Unexpected, TooDeep, Ends, OutOfMemory}
use Rattle.bracket_text.proofs.Runs.{label_run, MayBegin, begin_step}
use Rattle.bracket_text.proofs.Sound.{read_spelled}
use Rattle.bracket_text.proofs.Complete.{spelled_read, one_spelled}
use Rattle.bracket_text.proofs.Levels.{reached, stepped, whole_levels}
use Rattle.bracket_text.proofs.Prefixes.{run_prefix, shallow_prefix, stopped_prefix, deep_prefix, shorter_prefix}

-- each byte of a character that is not ASCII goes on there
abbrev SpotHigh : spelled.Spot → Type 0
SpotHigh spelled.start = ⊥
SpotHigh (spelled.in_bare l) = Unit {0}
SpotHigh (spelled.in_quotes l) = Unit {0}
SpotHigh (spelled.in_escape l) = ⊥
SpotHigh (spelled.after_quote l) = ⊥

-- each byte of a character that is not ASCII goes on from the mode
abbrev ModeHigh : Mode → Type 0
ModeHigh start = ⊥
ModeHigh first = ⊥
ModeHigh (spelling s) = SpotHigh s
ModeHigh (named l) = ⊥
ModeHigh (closed t) = ⊥

-- each byte of a character that is not ASCII goes on from the state
abbrev StateHigh : State → Type 0
StateHigh s = ModeHigh s.mode

-- no byte of 128 or more is an ASCII one
not_high : {Q : Type 0} (b c : ℕ) → c < 128 → 128 ≤ b → (b == c) ≡ true → Q
not_high b c low high e = absurd (omega (arith, number_is b c e))

-- no byte of 128 or more is a blank
high_blank : {Q : Type 0} (b : ℕ) → 128 ≤ b → IsTrue (is_blank b) → Q
high_blank b high h = let no : ⊥ = grind (arith, nat_tests) in absurd no

-- after a byte of 128 or more in a label, another goes on
spot_high_step : (s : spelled.Spot) (b : ℕ) → 128 ≤ b → Gives SpotHigh (spelled.step s b)
spot_high_step spelled.start b h = either _ (is_bare b) _ _ (λ k. tt) (λ n. either _ (b == 34) _ _ (λ e. tt) (λ k. tt))
spot_high_step (spelled.in_bare l) b h = either _ (is_bare b) _ _ (λ k. tt) (λ n. tt)
spot_high_step (spelled.in_quotes l) b h =
    either _ (b == 34) _ _ (λ e. not_high b 34 (omega arith) h e) (λ n. either _ (b == 92) _ _ (λ e. not_high b 92 (omega arith) h e) (λ k. tt))
spot_high_step (spelled.in_escape l) b h = either _ (is_escape b) _ _ (λ k. tt) (λ n. tt)
spot_high_step (spelled.after_quote l) b h = tt

-- where a byte of 128 or more goes on a label, or stands after it, another goes on
label_high : (o : List Frame) (r : Option spelled.Spot) (other : Option State) → Gives SpotHigh r → Gives StateHigh other → Gives StateHigh (or_other o other r)
label_high o None other h k = k
label_high o (Some s) other h k = h

-- no byte of 128 or more fits after a tree in brackets
tree_in_high : (o : List Frame) (t : LabelledTree) (b : ℕ) → 128 ≤ b → Gives StateHigh (after_tree_in o t b)
tree_in_high [] t b h = tt
tree_in_high (f ∷ o) t b h = either _ (b == 44) _ _ (λ e. not_high b 44 (omega arith) h e) (λ n. either _ (b == 93) _ _ (λ e. not_high b 93 (omega arith) h e) (λ k. tt))

-- no byte of 128 or more fits after a tree
tree_high : (o : List Frame) (t : LabelledTree) (b : ℕ) → 128 ≤ b → Gives StateHigh (after_tree o t b)
tree_high o t b h = either _ (is_blank b) _ _ (λ k. high_blank b h k) (λ n. tree_in_high o t b h)

-- no byte of 128 or more fits after a label
pub label_after_high : (o : List Frame) (l : List ℕ) (b : ℕ) → 128 ≤ b → Gives StateHigh (after_label o l b)
label_after_high o l b h = either _ (is_blank b) _ _ (λ k. high_blank b h k) (λ n. either _ (b == 91) _ _ (λ e. not_high b 91 (omega arith) h e) (λ k. tree_high o _ b h))

-- no byte of 128 or more fits where a label has ended
after_high : (o : List Frame) (l : Option (List ℕ)) (b : ℕ) → 128 ≤ b → Gives StateHigh (after o l b)
after_high o None b h = tt
after_high o (Some l) b h = label_after_high o l b h

-- a byte of 128 or more begins a bare label
begin_high : (o : List Frame) (b : ℕ) → 128 ≤ b → Gives StateHigh (begin o b)
begin_high o b h = label_high o (spelled.step spelled.start b) None (spot_high_step spelled.start b h) tt

-- after a byte of 128 or more, another goes on
mode_high_step : (o : List Frame) (m : Mode) (b : ℕ) → 128 ≤ b → Gives StateHigh (step_in o m b)
mode_high_step o start b h = either _ (is_blank b) _ _ (λ k. high_blank b h k) (λ n. begin_high o b h)
mode_high_step o first b h = either _ (is_blank b) _ _ (λ k. high_blank b h k) (λ n. either _ (b == 93) _ _ (λ e. not_high b 93 (omega arith) h e) (λ k. begin_high o b h))
mode_high_step o (spelling s) b h = label_high o (spelled.step s b) (after o (spelled.label_in s) b) (spot_high_step s b h) (after_high o (spelled.label_in s) b h)
mode_high_step o (named l) b h = label_after_high o l b h
mode_high_step o (closed t) b h = tree_high o t b h

-- a byte of 128 or more belongs to a bare character
high_bare : (b : ℕ) → 128 ≤ b → is_bare b ≡ true
high_bare b h = grind (arith, nat_tests)

-- no byte of 128 or more stops a label where such bytes go on
spot_goes : {Q : Type 0} (s : spelled.Spot) (b : ℕ) → SpotHigh s → 128 ≤ b → spelled.step s b ≡ None → Q
spot_goes spelled.start b h k e = absurd h
spot_goes (spelled.in_bare l) b h k e = by_test (is_bare b) (high_bare b k) _ e
  where
    by_test : {Q : Type 0} (c : Bool) → c ≡ true → (t : spelled.Spot) → cond c (Some t) None ≡ None → Q
    by_test true p t f = none_some t (sym f)
    by_test false p t f = cc
spot_goes (spelled.in_quotes l) b h k e = by_tests (b == 34) (b == 92) _ _ _ e
  where
    by_tests : {Q : Type 0} (c d : Bool) (p q r : spelled.Spot) → cond c (Some p) (cond d (Some q) (Some r)) ≡ None → Q
    by_tests true d p q r f = none_some p (sym f)
    by_tests false true p q r f = none_some q (sym f)
    by_tests false false p q r f = none_some r (sym f)
spot_goes (spelled.in_escape l) b h k e = absurd h
spot_goes (spelled.after_quote l) b h k e = absurd h

-- no byte of 128 or more stops in a mode from which such bytes go on
mode_goes : (o : List Frame) (m : Mode) (b : ℕ) → ModeHigh m → 128 ≤ b → step_in o m b ≡ None → ⊥
mode_goes o start b h k e = absurd h
mode_goes o first b h k e = absurd h
mode_goes o (spelling s) b h k e = by_spot (spelled.step s b) refl e
  where
    by_spot : (r : Option spelled.Spot) → spelled.step s b ≡ r → or_other o (after o (spelled.label_in s) b) r ≡ None → ⊥
    by_spot None f g = spot_goes s b h k f
    by_spot (Some t) f g = none_some (at o (spelling t)) (sym g)
mode_goes o (named l) b h k e = absurd h
mode_goes o (closed t) b h k e = absurd h

-- no label begins in a mode from which bytes of 128 or more go on
mode_not_deep : (o : List Frame) (m : Mode) (b : ℕ) → ModeHigh m → is_deep_in o m b ≡ true → ⊥
mode_not_deep o start b h e = absurd h
mode_not_deep o first b h e = absurd h
mode_not_deep o (spelling s) b h e = cc
mode_not_deep o (named l) b h e = absurd h
mode_not_deep o (closed t) b h e = absurd h

-- a byte is ASCII or not
low_or_high : (b : ℕ) → (b < 128) ⊎ (128 ≤ b)
low_or_high b = grind arith

-- a place in a text: what was read is p, the rest is y, and the state is s
pub record Read (x p y : List ℕ) (s : State) (i : ℕ) : Type 0 where
  pub utf8 : IsUtf8 x
  pub parts : x ≡ p ++ y
  pub place : i ≡ length p
  pub runs : run empty p ≡ Some s
  pub levels : reached s ≤ 200
  pub bound : IsUtf8 p ⊎ StateHigh s

-- up to a byte with which the run stops, the text is whole characters
before_stop : (x p y : List ℕ) (s : State) (i b : ℕ) → Read x p (b ∷ y) s i → (StateHigh s → 128 ≤ b → ⊥) → IsUtf8 p
before_stop x p y s i b h stops = elim (low_or_high b) [
  | inl low ↦ (utf8_split p y b low (subst IsUtf8 h.parts h.utf8)).0
  | inr high ↦ elim h.bound [ inl u ↦ u | inr k ↦ absurd (stops k high) ]
]

-- after one more byte, the text is whole characters, or the next byte of the character goes on
bound_more : (x p y : List ℕ) (s t : State) (i b : ℕ) → Read x p (b ∷ y) s i → step s b ≡ Some t → IsUtf8 (p ++ b ∷ []) ⊎ StateHigh t
bound_more x p y s t i b h e = elim (low_or_high b) [
  | inl low ↦ inl (utf8_push p b low (utf8_split p y b low (subst IsUtf8 h.parts h.utf8)).0)
  | inr high ↦ inr (by_step (step s b) e (mode_high_step s.open' s.mode b high))
]
  where
    by_step : (r : Option State) → r ≡ Some t → Gives StateHigh r → StateHigh t
    by_step None f g = none_some t f
    by_step (Some u) f g = subst StateHigh (some_is u t f) g

-- after a byte that fits, the place is one on, and one byte more was read
read_more : (x p y : List ℕ) (s t : State) (i b : ℕ) → Read x p (b ∷ y) s i → step s b ≡ Some t → is_deep s b ≡ false → Read x (p ++ b ∷ []) y t (i + 1)
read_more x p y s t i b h e n = record {
  utf8 = h.utf8;
  parts = h.parts ∙ sym (append_assoc p (b ∷ []) y);
  place = omega (arith, h.place, length-append p (b ∷ []));
  runs = run_then step p (b ∷ []) empty s h.runs ∙ run_byte step b [] s t e;
  levels = (stepped s t b e).shallow n h.levels;
  bound = bound_more x p y s t i b h e;
}

-- the place lies in the text
inside_of : (x p y : List ℕ) (s : State) (i b : ℕ) → Read x p (b ∷ y) s i → i < length x
inside_of x p y s i b h = omega (arith, h.place, ap length h.parts, length-append p (b ∷ y))

-- the prefix of the text up to the place
up_to : (x p y : List ℕ) (s : State) (i b : ℕ) → Read x p (b ∷ y) s i → take i x ≡ p
up_to x p y s i b h = ap (take i) h.parts ∙ prefix_is p y b i h.place

-- the text up to and with a byte is what was read and that byte
up_with : (x p y : List ℕ) (s : State) (i b : ℕ) → Read x p (b ∷ y) s i → take (i + 1) x ≡ p ++ b ∷ []
up_with x p y s i b h = ap (take (i + 1)) h.parts ∙ prefix_with p y b i h.place

-- what the machine says is so
abbrev Says : List ℕ → Verdict → Type 0
Says x (reads t) = IsUtf8 x × SpellsShallow x t
Says x (unexpected i) = Refuses x (Unexpected i)
Says x (too_deep i) = Refuses x (TooDeep i)
Says x ends = Refuses x Ends

-- what the machine says at the end of a text is so of the text
said_at_end : (x p : List ℕ) (s : State) (i : ℕ) (r : Option LabelledTree) → Read x p [] s i → whole s ≡ r → Says x (at_end r)
said_at_end x p s i r h e =
    let all : x ≡ p = h.parts ∙ append_nil p in
    by_whole r (ap (run empty) all ∙ h.runs) e
  where
    by_whole : (r : Option LabelledTree) → run empty x ≡ Some s → whole s ≡ r → Says x (at_end r)
    by_whole None f g = (
      h.utf8,
      shallow_prefix x s h.utf8 f h.levels,
      record { prefix = run_prefix x s h.utf8 f; none = λ t k. none_some t (sym (ap (option_and_then whole) f ∙ g) ∙ spelled_read x t k) },
    )
    by_whole (Some t) f g = (h.utf8, (read_spelled x t (ap (option_and_then whole) f ∙ g), omega (arith, whole_levels s t g, h.levels)))

-- a byte that does not fit is the first with which no text of the grammar goes on
said_unexpected : (x p y : List ℕ) (s : State) (i b : ℕ) → Read x p (b ∷ y) s i → step s b ≡ None → Refuses x (Unexpected i)
said_unexpected x p y s i b h e =
    let u : IsUtf8 p = before_stop x p y s i b h (λ k high. mode_goes s.open' s.mode b k high e) in
    let stops : run empty (p ++ b ∷ []) ≡ None = run_then step p (b ∷ []) empty s h.runs ∙ ap (option_and_then (λ t. run t [])) e in (
      h.utf8,
      subst (IsPrefix SpellsShallow) (sym (up_to x p y s i b h)) (shallow_prefix p s u h.runs h.levels),
      record {
        inside = inside_of x p y s i b h;
        prefix = subst (IsPrefix Spells) (sym (up_to x p y s i b h)) (run_prefix p s u h.runs);
        wrong = λ f. stopped_prefix (p ++ b ∷ []) stops (subst (IsPrefix Spells) (up_with x p y s i b h) f);
      },
    )

-- a text is empty or begins with an ASCII byte
abbrev LowFirst : List ℕ → Type 0
LowFirst [] = Unit {0}
LowFirst (c ∷ y) = c < 128

-- a text as bytes of characters that are not ASCII, and the rest
record HighFirst (y : List ℕ) : Type 0 where
  high : List ℕ
  rest : List ℕ
  parts : y ≡ high ++ rest
  bare : IsTrue (list_all is_bare high)
  low : LowFirst rest

-- a text as bytes of 128 or more and the rest, with one byte more before it
high_more : (c : ℕ) (y : List ℕ) → HighFirst y → (c < 128) ⊎ (128 ≤ c) → HighFirst (c ∷ y)
high_more c y h (inl k) = record { high = []; rest = c ∷ y; parts = refl; bare = refl; low = k }
high_more c y h (inr k) = record {
  high = c ∷ h.high;
  rest = h.rest;
  parts = ap (λ r. c ∷ r) h.parts;
  bare = and_both (is_bare c) (list_all is_bare h.high) (high_bare c k) h.bare;
  low = h.low;
}

-- each text is bytes of characters that are not ASCII, and the rest
high_first : (y : List ℕ) → HighFirst y
high_first [] = record { high = []; rest = []; parts = refl; bare = refl; low = tt }
high_first (c ∷ y) = high_more c y (high_first y) (low_or_high c)

-- a text is whole characters up to an ASCII byte
before_low : (p y : List ℕ) → LowFirst y → IsUtf8 (p ++ y) → IsUtf8 p
before_low p [] h u = subst IsUtf8 (append_nil p) u
before_low p (c ∷ y) h u = (utf8_split p y c h u).0

-- a label that begins, and its first spot; where the byte belongs to a longer character, the label is bare
record Begun (o : List Frame) (m : Mode) (b : ℕ) : Type 0 where
  spot : spelled.Spot
  is : step_in o m b ≡ Some (at o (spelling spot))
  bare : 128 ≤ b → spot ≡ spelled.in_bare (b ∷ [])

-- a label begins where one may, with a byte that begins one
begun_in : (o : List Frame) (m : Mode) (b : ℕ) → MayBegin m → IsTrue (begins b) → Begun o m b
begun_in o m b h k = by_tests (is_bare b) (b == 34) refl refl k
  where
    by_tests : (c d : Bool) → is_bare b ≡ c → (b == 34) ≡ d → IsTrue (c || d) → Begun o m b
    by_tests true d e f g =
        let one : spelled.step spelled.start b ≡ Some (spelled.in_bare (b ∷ [])) = rw e refl in
        record { spot = spelled.in_bare (b ∷ []); is = begin_step o m b h k ∙ ap (or_other o None) one; bare = λ high. refl }
    by_tests false true e f g =
        let one : spelled.step spelled.start b ≡ Some (spelled.in_quotes []) = rw (e, f) refl in
        record { spot = spelled.in_quotes []; is = begin_step o m b h k ∙ ap (or_other o None) one; bare = λ high. not_high b 34 (omega arith) high f }
    by_tests false false e f g = cc

-- where a label lies too deep, a label begins
begun : (o : List Frame) (m : Mode) (b : ℕ) → is_deep_in o m b ≡ true → Begun o m b
begun o start b e = begun_in o start b tt (and_parts (begins b) (nat_le 200 (length o)) e).0
begun o first b e = begun_in o first b tt (and_parts (begins b) (nat_le 200 (length o)) e).0
begun o (spelling s) b e = cc
begun o (named l) b e = cc
begun o (closed t) b e = cc

-- a tree goes on from a label's first byte that is not ASCII
high_on : (x p y : List ℕ) (s : State) (i b : ℕ) → Read x p (b ∷ y) s i → (k : Begun s.open' s.mode b) → 128 ≤ b → IsPrefix Spells (p ++ b ∷ [])
high_on x p y s i b h k high =
    let r = high_first y in
    let z = (p ++ b ∷ []) ++ r.high in
    let all : x ≡ z ++ r.rest = h.parts ∙ sym (append_assoc p (b ∷ []) y) ∙ ap (λ q. (p ++ b ∷ []) ++ q) r.parts ∙ sym (append_assoc (p ++ b ∷ []) r.high r.rest) in
    let u : IsUtf8 z = before_low z r.rest r.low (subst IsUtf8 all h.utf8) in
    let first_spot : State = at s.open' (spelling (spelled.in_bare (b ∷ []))) in
    let last_spot : State = at s.open' (spelling (spelled.in_bare (b ∷ r.high))) in
    let one : run empty (p ++ b ∷ []) ≡ Some first_spot =
    run_then step p (b ∷ []) empty s h.runs ∙ run_byte step b [] s (at s.open' (spelling k.spot)) k.is ∙ ap (λ q. Some (at s.open' (spelling q))) (k.bare high) in
    let more : run first_spot r.high ≡ Some last_spot = label_run r.high s.open' (spelled.in_bare (b ∷ [])) (spelled.in_bare (b ∷ r.high)) (bare_goes_on (b ∷ []) r.high r.bare) in
    shorter_prefix (p ++ b ∷ []) r.high (run_prefix z last_spot u (run_then step (p ++ b ∷ []) r.high empty first_spot one ∙ more))

-- a tree goes on from a label's first byte that is ASCII
low_on : (x p y : List ℕ) (s : State) (i b : ℕ) → Read x p (b ∷ y) s i → (k : Begun s.open' s.mode b) → b < 128 → IsPrefix Spells (p ++ b ∷ [])
low_on x p y s i b h k low =
    let u : IsUtf8 p = (utf8_split p y b low (subst IsUtf8 h.parts h.utf8)).0 in
    run_prefix (p ++ b ∷ []) (at s.open' (spelling k.spot)) (utf8_push p b low u) (run_then step p (b ∷ []) empty s h.runs ∙ run_byte step b [] s (at s.open' (spelling k.spot)) k.is)

-- a text is refused as too deep at a label that lies too deep
said_too_deep : (x p y : List ℕ) (s : State) (i b : ℕ) → Read x p (b ∷ y) s i → is_deep s b ≡ true → Refuses x (TooDeep i)
said_too_deep x p y s i b h e =
    let u : IsUtf8 p = before_stop x p y s i b h (λ k high. mode_not_deep s.open' s.mode b k e) in
    let k = begun s.open' s.mode b e in
    let t : State = at s.open' (spelling k.spot) in
    let goes : run empty (p ++ b ∷ []) ≡ Some t = run_then step p (b ∷ []) empty s h.runs ∙ run_byte step b [] s t k.is in
    let on : IsPrefix Spells (p ++ b ∷ []) = elim (low_or_high b) [ inl low ↦ low_on x p y s i b h k low | inr high ↦ high_on x p y s i b h k high ] in (
      h.utf8,
      record {
        inside = inside_of x p y s i b h;
        prefix = subst (IsPrefix SpellsShallow) (sym (up_to x p y s i b h)) (shallow_prefix p s u h.runs h.levels);
        goes_on = subst (IsPrefix Spells) (sym (up_with x p y s i b h)) on;
        deep = λ f. deep_prefix (p ++ b ∷ []) t goes ((stepped s t b k.is).deep e) (subst (IsPrefix SpellsShallow) (up_with x p y s i b h) f);
      },
    )

-- what is said at a byte is so
said_byte : (x p y : List ℕ) (s : State) (i b : ℕ) (c : Bool) (r : Option State) → Read x p (b ∷ y) s i → is_deep s b ≡ c → step s b ≡ r
    → ((t : State) → step s b ≡ Some t → is_deep s b ≡ false → Says x (verdict t (i + 1) y)) → Says x (cond c (too_deep i) (or_stop (λ t. verdict t (i + 1) y) (unexpected i) r))
said_byte x p y s i b true r h e f k = said_too_deep x p y s i b h e
said_byte x p y s i b false None h e f k = said_unexpected x p y s i b h f
said_byte x p y s i b false (Some t) h e f k = k t f e

-- what is said of the rest of a text is so of the text
said : (y x p : List ℕ) (s : State) (i : ℕ) → Read x p y s i → Says x (verdict s i y)
said [] x p s i h = said_at_end x p s i (whole s) h refl
said (b ∷ y) x p s i h = said_byte x p y s i b (is_deep s b) (step s b) h refl refl (λ t e n. said y x (p ++ b ∷ []) t (i + 1) (read_more x p y s t i b h e n))

-- what the machine says of a UTF-8 text from its beginning on is so of the text
said_of : (x : List ℕ) → IsUtf8 x → Says x (verdict empty 0 x)
said_of x u = said x x [] empty 0 (record { utf8 = u; parts = refl; place = refl; runs = refl; levels = omega arith; bound = inl IsUtf8-nil })

-- a fault that is what the machine says is that of the text
fault_refuses : (x : List ℕ) (e : BracketFault) (v : Verdict) → GivesFault e v → Says x v → Refuses x e
fault_refuses x (NotUtf8 i) v h s = absurd h
fault_refuses x (Unexpected i) v h s = subst (Says x) h s
fault_refuses x (TooDeep i) v h s = subst (Says x) h s
fault_refuses x Ends v h s = subst (Says x) h s
fault_refuses x OutOfMemory v h s = tt

-- a result that is what the machine says is that of the text
pub answers : (x : List ℕ) (r : Result LabelledTree BracketFault) → IsUtf8 x → GivesVerdict r (verdict empty 0 x) → Answers x r
answers x (Ok t) u h = subst (Says x) h (said_of x u)
answers x (Err e) u h = fault_refuses x e (verdict empty 0 x) h (said_of x u)

-- each prefix of a text of the grammar is one
whole_prefix : (x : List ℕ) (n : ℕ) (t : LabelledTree) → IsUtf8 x → Spells x t → IsPrefix Spells (take n x)
whole_prefix x n t u h =
    let all = take-append-drop n x in
    (drop n x, t, subst IsUtf8 (sym all) u, subst (λ z. Spells z t) (sym all) h)

-- each prefix of a text whose tree is not too deep is a prefix by the shallow grammar too
shallow_whole : (x : List ℕ) (n : ℕ) (t : LabelledTree) → IsUtf8 x → SpellsShallow x t → IsPrefix SpellsShallow (take n x)
shallow_whole x n t u h =
    let all = take-append-drop n x in
    (drop n x, t, subst IsUtf8 (sym all) u, (subst (λ z. Spells z t) (sym all) h.0, h.1))

-- a tree that the text spells is answered
pub only_tree : (x : List ℕ) (r : Result LabelledTree BracketFault) (t : LabelledTree) → Answers x r → IsUtf8 x → SpellsShallow x t → IsTree r t
only_tree x (Ok v) t h u s = one_spelled x v t h.1.0 s.0
only_tree x (Err (NotUtf8 i)) t h u s = h.0 u
only_tree x (Err (Unexpected i)) t h u s = h.2.wrong (whole_prefix x (i + 1) t u s.0)
only_tree x (Err (TooDeep i)) t h u s = h.1.deep (shallow_whole x (i + 1) t u s)
only_tree x (Err Ends) t h u s = h.2.none t s.0
only_tree x (Err OutOfMemory) t h u s = tt
