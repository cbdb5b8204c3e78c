-- The machine with values goes as the machine does.
use Rattle.std.proofs.Common.{◌≡◌, ◌<◌, ◌+◌, ◌∙◌, ◌==◌, ℕ, Bool, true, false, cond, IfSome, IfNone, IfOk, Result, Ok, Err, List, [], ◌∷◌, ◌++◌, Option, Some, None, refl, sym, ap, subst, length, append_assoc, option_and_then, option_map, arith, take, drop, slice_index}
use Rattle.std.proofs.lemmas.List.{take_more, take-append-drop}
use Rattle.std.specs.Str.{IsUtf8}
use Rattle.mix_base.specs.Runs.{LeadsTo}
use Rattle.mix_base.proofs.Runs.{kept_none, scan_prefix}
use Rattle.mix_tree.specs.LabelGrammar.{Piece, plain, escape, is_escape, escaped_byte, meaning, inside_quotes}
use Rattle.mix_tree.specs.Names.{is_name_byte}
use Rattle.path_expr.specs.Grammar.{Spelled, word, quote, group, marked, dot, bar, a_sequence, a_repeat, an_atom, is_mark, Is, Writes}
use Rattle.path_expr.specs.Form as form
use Rattle.path_expr.specs.Machine.{Frame, Mode, start, naming, quoting, escaping, past_atom, past_repeat, State, seq_with, path_with, path_in, close, after_repeat, after_atom, step_in, step, run, repeat_in, whole_in, whole, first, read_of}
use Rattle.path_expr.specs.Values as valued
use Rattle.path_expr.specs.Building as building
use Rattle.path_expr.specs.Results.{Spells}
use Rattle.mix_base.proofs.Choices.{Gives, none_some, some_is}
use Rattle.path_expr.proofs.Sound.{IsFrame, Stands, StandsAt, outer_text, frame_text, run_stands, first_stands, seq_with_is, read_writes, repeat_of_atom}
use Rattle.path_expr.proofs.Complete.{writes_read}
use Rattle.path_expr.proofs.Prefixes.{stopped_writes}
use Rattle.path_expr.proofs.Utf8.{name_utf8, quoted_utf8}
use Rattle.path_expr.specs.BuilderState.{mode_in, state_in, AreUtf8, AreUtf8Now}
use Rattle.path_expr.specs.declared.build.Builder.{Builder}
use Rattle.path_expr.specs.declared.build.Spot.{Spot}
use Rattle.path_expr.specs.declared.build.Spot.TheVariants.{Start, Naming, Quoting, Escaping, PastAtom, PastRepeat}

-- two choices by one boolean have the same values where their sides have
either : (b : Bool) (x y : Option State) (s t : Option building.State) → option_map building.values_of x ≡ s → option_map building.values_of y ≡ t → option_map building.values_of (cond b x y) ≡ cond b s t
either true x y s t h k = h
either false x y s t h k = k

-- a repeat is one member of a sequence
pub dots_of_repeat : (p : Spelled) → Is p a_repeat → (valued.read p).dots ≡ valued.value_of p ∷ []
dots_of_repeat (word l) h = refl
dots_of_repeat (quote ps) h = refl
dots_of_repeat (group p) h = refl
dots_of_repeat (marked p m) h = refl
dots_of_repeat (dot p q) h = absurd h
dots_of_repeat (bar p q) h = absurd h

-- a sequence is one member of a choice
pub bars_of_sequence : (p : Spelled) → Is p a_sequence → (valued.read p).bars ≡ valued.value_of p ∷ []
bars_of_sequence (word l) h = refl
bars_of_sequence (quote ps) h = refl
bars_of_sequence (group p) h = refl
bars_of_sequence (marked p m) h = refl
bars_of_sequence (dot p q) h = refl
bars_of_sequence (bar p q) h = absurd h

-- the members of a sequence with one more are the values of its members and of that one
seq_dots : (d : Option Spelled) (p : Spelled) → Is p a_repeat → (valued.read (seq_with d p)).dots ≡ building.dots_in d ++ valued.value_of p ∷ []
seq_dots None p h = dots_of_repeat p h
seq_dots (Some q) p h = refl

-- a sequence with one member more means the sequence of its members' values and that one's
seq_value : (d : Option Spelled) (p : Spelled) → valued.value_of (seq_with d p) ≡ form.joined form.seq (building.dots_in d ++ valued.value_of p ∷ [])
seq_value None p = refl
seq_value (Some q) p = refl

-- the members of a choice with one more are the values of its members and of that one
path_bars : (d : Option Spelled) (p : Spelled) → Is p a_sequence → (valued.read (path_with d p)).bars ≡ building.bars_in d ++ valued.value_of p ∷ []
path_bars None p h = bars_of_sequence p h
path_bars (Some q) p h = refl

-- a choice with one member more means the choice of its members' values and that one's
path_value : (d : Option Spelled) (p : Spelled) → valued.value_of (path_with d p) ≡ form.joined form.alt (building.bars_in d ++ valued.value_of p ∷ [])
path_value None p = refl
path_value (Some q) p = refl

-- the path at hand means what the machine with values has at hand
value_in : (f : Frame) (p : Spelled) → valued.value_of (path_in f p) ≡ building.path_in (building.level_of f) (valued.value_of p)
value_in f p = path_value f.bars (seq_with f.dots p) ∙ ap (λ w. form.joined form.alt (building.bars_in f.bars ++ w ∷ [])) (seq_value f.dots p)

-- the choice at hand has as its members those before the last bar, and the sequence at hand
bars_with : (f : Frame) (p : Spelled) → IsFrame f → Is p a_repeat → (valued.read (path_in f p)).bars ≡ building.bars_in f.bars ++ building.seq_in (building.level_of f) (valued.value_of p) ∷ []
bars_with f p h k = path_bars f.bars (seq_with f.dots p) (seq_with_is f.dots p h.1 k) ∙ ap (λ w. building.bars_in f.bars ++ w ∷ []) (seq_value f.dots p)

-- pieces with one more mean what they meant and what that one means
label-push : (ps : List Piece) (q : Piece) → meaning (ps ++ q ∷ []) ≡ meaning ps ++ meaning (q ∷ [])
label-push [] q = refl
label-push (plain b ∷ ps) q = ap (λ r. b ∷ r) (label-push ps q)
label-push (escape b ∷ ps) q = ap (λ r. escaped_byte b ∷ r) (label-push ps q)

-- a closing parenthesis does to the values what it does to what is written
close_value : (f : Frame) (o : List Frame) (p : Spelled) → option_map building.values_of (close o (path_in f p)) ≡ building.close (building.levels_of o) (building.path_in (building.level_of f) (valued.value_of p))
close_value f [] p = refl
close_value f (g ∷ o) p = ap (λ w. Some (building.at (building.level_of g) (building.levels_of o) (building.past_atom w))) (value_in f p)

-- a byte that ends a member does to the values what it does to what is written
repeat_value : (f : Frame) (o : List Frame) (p : Spelled) (b : ℕ) → IsFrame f → Is p a_repeat → option_map building.values_of (after_repeat f o p b) ≡ building.after_repeat (building.level_of f) (building.levels_of o) (valued.value_of p) b
repeat_value f o p b h k =
    either (b == 46) _ _ _ _ (ap (λ ds. Some (building.at (building.level (building.bars_in f.bars) ds) (building.levels_of o) building.start)) (seq_dots f.dots p k))
    (either (b == 124) _ _ _ _ (ap (λ bs. Some (building.at (building.level bs []) (building.levels_of o) building.start)) (bars_with f p h k)) (either (b == 41) _ _ _ _ (close_value f o p) refl))

-- a byte that marks an atom or ends it does to the values what it does to what is written
atom_value : (f : Frame) (o : List Frame) (p : Spelled) (b : ℕ) → IsFrame f → Is p an_atom → option_map building.values_of (after_atom f o p b) ≡ building.after_atom (building.level_of f) (building.levels_of o) (valued.value_of p) b
atom_value f o p b h k = either (is_mark b) _ _ _ _ refl (repeat_value f o p b h (repeat_of_atom p k))

-- after a step the machine with values has what the machine's state means
pub step_value : (x : List ℕ) (f : Frame) (o : List Frame) (m : Mode) (b : ℕ) → Stands x f o m → option_map building.values_of (step_in f o m b) ≡ building.step_in (building.level_of f) (building.levels_of o) (building.mode_of m) b
step_value x f o start b h = either (is_name_byte b) _ _ _ _ refl (either (b == 34) _ _ _ _ refl (either (b == 40) _ _ _ _ refl refl))
step_value x f o (naming l) b h = either (is_name_byte b) _ _ _ _ refl (atom_value f o (word l) b h.here h.mode)
step_value x f o (quoting ps) b h =
    either (b == 34) _ _ _ _ refl (either (b == 92) _ _ _ _ refl (ap (λ l. Some (building.at (building.level_of f) (building.levels_of o) (building.quoting l))) (label-push ps (plain b))))
step_value x f o (escaping ps) b h = either (is_escape b) _ _ _ _ (ap (λ l. Some (building.at (building.level_of f) (building.levels_of o) (building.quoting l))) (label-push ps (escape b))) refl
step_value x f o (past_atom p) b h = atom_value f o p b h.here h.mode
step_value x f o (past_repeat p) b h = repeat_value f o p b h.here h.mode

-- the member at hand may end in both machines or in none, with that member's value in the one with values
repeat_in_value : (m : Mode) → option_map valued.value_of (repeat_in m) ≡ building.repeat_in (building.mode_of m)
repeat_in_value start = refl
repeat_in_value (naming l) = refl
repeat_in_value (quoting ps) = refl
repeat_in_value (escaping ps) = refl
repeat_in_value (past_atom p) = refl
repeat_in_value (past_repeat p) = refl

-- where no parenthesis is open, the machine with values has the value of the path that may end
whole_in_value : (f : Frame) (o : List Frame) (r : Option Spelled) → option_map valued.value_of (whole_in f o r) ≡ building.whole_in (building.level_of f) (building.levels_of o) (option_map valued.value_of r)
whole_in_value f [] None = refl
whole_in_value f [] (Some p) = ap Some (value_in f p)
whole_in_value f (g ∷ o) r = refl

-- the path that has been read, in the machine with values, is the value of that of the machine
whole_value : (s : State) → option_map valued.value_of (whole s) ≡ building.whole (building.values_of s)
whole_value s = whole_in_value s.here s.outer (repeat_in s.mode) ∙ ap (building.whole_in (building.level_of s.here) (building.levels_of s.outer)) (repeat_in_value s.mode)

-- a machine with values that stands where the machine stands
abbrev pub BuildsTo : List ℕ → building.State → Type 0
BuildsTo = LeadsTo step building.values_of first

-- a state that a run came to stands
stood_at : (x : List ℕ) (o : Option State) (t : State) → Gives (StandsAt x) o → o ≡ Some t → StandsAt x t
stood_at x None t h e = none_some t e
stood_at x (Some s) t h e = subst (StandsAt x) (some_is _ _ e) h

-- the state that a run over a text came to is well formed, and writes the text
pub stood : (x : List ℕ) (t : State) → run first x ≡ Some t → StandsAt x t
stood x t e = stood_at x (run first x) t (run_stands x [] first first_stands) e

-- what the machine with values has after one more byte
build_more : (x : List ℕ) (i : ℕ) (s : building.State) → i < length x → BuildsTo (take i x) s
    → option_map building.values_of (run first (take (i + 1) x)) ≡ building.step s (slice_index x i)
build_more x i s h e =
    scan_prefix step building.values_of building.step first x i s (λ t b r. step_value (take i x) t.here t.outer t.mode b (stood (take i x) t r)) h e

-- a machine with values that makes one more step still stands where the machine stands
pub build_next : (x : List ℕ) (i : ℕ) (s t : building.State) → i < length x → BuildsTo (take i x) s → building.step s (slice_index x i) ≡ Some t → BuildsTo (take (i + 1) x) t
build_next x i s t h e n = build_more x i s h e ∙ n

-- what a text is read as, from an option
whole_at : (x : List ℕ) (o : Option State) (s : building.State) → run first x ≡ o → option_map building.values_of o ≡ Some s → option_map valued.value_of (read_of x) ≡ building.whole s
whole_at x None s r e = none_some s e
whole_at x (Some t) s r e = ap (λ u. option_map valued.value_of (option_and_then whole u)) r ∙ whole_value t ∙ ap building.whole (some_is _ _ e)

-- the text spells what it is read as, from an option
spells_at : (x : List ℕ) (o : Option Spelled) (w : form.Form) → read_of x ≡ o → option_map valued.value_of o ≡ Some w → Spells x w
spells_at x None w r e = none_some w e
spells_at x (Some p) w r e = (p, read_writes x p r, some_is _ _ e)

-- the text spells what was built
pub build_whole : (x : List ℕ) (s : building.State) (w : form.Form) → BuildsTo x s → building.whole s ≡ Some w → Spells x w
build_whole x s w e h = spells_at x (read_of x) w refl (whole_at x (run first x) s refl e ∙ h)

-- where building stops, no path is written so
pub build_stops : (x : List ℕ) (i : ℕ) (s : building.State) (p : Spelled) → i < length x → BuildsTo (take i x) s → building.step s (slice_index x i) ≡ None → Writes x p → ⊥
build_stops x i s p h e n w =
    stopped_writes (take (i + 1) x) (drop (i + 1) x) p
    (kept_none building.values_of (run first (take (i + 1) x)) (build_more x i s h e ∙ n))
    (subst (λ y. Writes y p) (sym (take-append-drop (i + 1) x)) w)

-- what has no value is none
value_none : (o : Option Spelled) (p : Spelled) → o ≡ Some p → option_map valued.value_of o ≡ None → ⊥
value_none None p e n = none_some p e
value_none (Some q) p e n = none_some _ (sym n)

-- where building may not end, no path is written so
pub build_ends : (x : List ℕ) (s : building.State) (p : Spelled) → BuildsTo x s → building.whole s ≡ None → Writes x p → ⊥
build_ends x s p e n w = value_none (read_of x) p (writes_read x p w) (whole_at x (run first x) s refl e ∙ n)

-- a label that ends here is UTF-8
abbrev pub IsLabelUtf8 : building.Mode → ℕ → Type 0
IsLabelUtf8 building.start b = Unit {0}
IsLabelUtf8 (building.naming l) b = IsUtf8 l
IsLabelUtf8 (building.quoting l) b = b ≡ 34 → IsUtf8 l
IsLabelUtf8 (building.escaping l) b = Unit {0}
IsLabelUtf8 (building.past_atom p) b = Unit {0}
IsLabelUtf8 (building.past_repeat p) b = Unit {0}

-- a label that ends by a byte of a UTF-8 text is UTF-8
mode_utf8 : (x y : List ℕ) (b : ℕ) (f : Frame) (o : List Frame) (m : Mode) → Stands x f o m → IsUtf8 (x ++ b ∷ y) → IsLabelUtf8 (building.mode_of m) b
mode_utf8 x y b f o start h u = tt
mode_utf8 x y b f o (naming l) h u = name_utf8 l h.mode.0
mode_utf8 x y b f o (quoting ps) h u = λ e.
    quoted_utf8 (outer_text o) (frame_text f) y ps h.mode (subst (λ c. IsUtf8 ((outer_text o ++ (frame_text f ++ 34 ∷ inside_quotes ps)) ++ c ∷ y)) e (subst (λ z. IsUtf8 (z ++ b ∷ y)) (sym h.text) u))
mode_utf8 x y b f o (escaping ps) h u = tt
mode_utf8 x y b f o (past_atom p) h u = tt
mode_utf8 x y b f o (past_repeat p) h u = tt

-- a label that ends before a byte of a UTF-8 text is UTF-8, in the machine with values
state_utf8 : (x y : List ℕ) (b : ℕ) (o : Option State) (s : building.State) → run first x ≡ o → option_map building.values_of o ≡ Some s → IsUtf8 (x ++ b ∷ y) → IsLabelUtf8 s.mode b
state_utf8 x y b None s r e u = none_some s e
state_utf8 x y b (Some t) s r e u = subst (λ q. IsLabelUtf8 q.mode b) (some_is _ _ e) (mode_utf8 x y b t.here t.outer t.mode (stood x t r) u)

-- a text is the part before a byte of it, the byte, and the part after it
parts_of : (x : List ℕ) (i : ℕ) → i < length x → take i x ++ slice_index x i ∷ drop (i + 1) x ≡ x
parts_of x i h = sym (append_assoc (take i x) (slice_index x i ∷ []) (drop (i + 1) x)) ∙ ap (λ r. r ++ drop (i + 1) x) (sym (take_more x i 0 h)) ∙ take-append-drop (i + 1) x

-- a label of a spot that ends by this byte is UTF-8, where that of its mode is
spot_utf8 : (s : Spot) (b : ℕ) → IsLabelUtf8 (mode_in s) b → AreUtf8 s b
spot_utf8 Start b h = h
spot_utf8 (Naming l) b h = h
spot_utf8 (Quoting l) b h = h
spot_utf8 (Escaping l) b h = h
spot_utf8 (PastAtom p) b h = h
spot_utf8 (PastRepeat p) b h = h

-- a label of a builder that ends by a byte of a UTF-8 text is UTF-8
pub builder_utf8 : (x : List ℕ) (i : ℕ) (r : Builder) → i < length x → BuildsTo (take i x) (state_in r) → IsUtf8 x → AreUtf8 r.spot (slice_index x i)
builder_utf8 x i r h e u =
    spot_utf8 r.spot (slice_index x i)
    (state_utf8 (take i x) (drop (i + 1) x) (slice_index x i) (run first (take i x)) (state_in r) refl e (subst IsUtf8 (sym (parts_of x i h)) u))

-- a label that ends with the text is UTF-8
mode_utf8_now : (x : List ℕ) (f : Frame) (o : List Frame) (m : Mode) → Stands x f o m → IsLabelUtf8 (building.mode_of m) 0
mode_utf8_now x f o start h = tt
mode_utf8_now x f o (naming l) h = name_utf8 l h.mode.0
mode_utf8_now x f o (quoting ps) h = λ e. absurd (omega (arith, e))
mode_utf8_now x f o (escaping ps) h = tt
mode_utf8_now x f o (past_atom p) h = tt
mode_utf8_now x f o (past_repeat p) h = tt

-- a label that ends with the text is UTF-8, in the machine with values
state_utf8_now : (x : List ℕ) (o : Option State) (s : building.State) → run first x ≡ o → option_map building.values_of o ≡ Some s → IsLabelUtf8 s.mode 0
state_utf8_now x None s r e = none_some s e
state_utf8_now x (Some t) s r e = subst (λ q. IsLabelUtf8 q.mode 0) (some_is _ _ e) (mode_utf8_now x t.here t.outer t.mode (stood x t r))

-- a label of a spot that ends with the text is UTF-8, where that of its mode is
spot_utf8_now : (s : Spot) → IsLabelUtf8 (mode_in s) 0 → AreUtf8Now s
spot_utf8_now Start h = h
spot_utf8_now (Naming l) h = h
spot_utf8_now (Quoting l) h = tt
spot_utf8_now (Escaping l) h = h
spot_utf8_now (PastAtom p) h = h
spot_utf8_now (PastRepeat p) h = h

-- a label of a builder that ends with the text is UTF-8
pub builder_utf8_now : (x : List ℕ) (r : Builder) → BuildsTo x (state_in r) → AreUtf8Now r.spot
builder_utf8_now x r e = spot_utf8_now r.spot (state_utf8_now x (run first x) (state_in r) refl e)

-- what is built at the end is spelled
pub ends_spell : {E : Type 0} (r : Result (Option form.Form) E) (x : List ℕ) (s : building.State) → BuildsTo x s → IfOk r (λ p. p ≡ building.whole s) → IfOk r (λ found. IfSome found (λ w. Spells x w))
ends_spell (Ok None) x s e h = tt
ends_spell (Ok (Some w)) x s e h = build_whole x s w e (sym h)
ends_spell (Err f) x s e h = tt

-- where nothing is built at the end, nothing is written
pub ends_none : {E : Type 0} (r : Result (Option form.Form) E) (x : List ℕ) (s : building.State) → BuildsTo x s → IfOk r (λ p. p ≡ building.whole s) → IfOk r (λ found. IfNone found ((p : Spelled) → Writes x p → ⊥))
ends_none (Ok None) x s e h = λ p. build_ends x s p e (sym h)
ends_none (Ok (Some w)) x s e h = tt
ends_none (Err f) x s e h = tt
