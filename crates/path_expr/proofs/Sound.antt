-- What the machine has read is what its state writes.
use Rattle.std.proofs.Common.{◌≡◌, ◌<◌, ◌∙◌, ◌==◌, ℕ, true, false, IfSome, List, [], ◌∷◌, ◌++◌, Option, Some, None, refl, sym, ap, subst, arith, length, append_assoc, option_and_then}
use Rattle.mix_tree.specs.LabelGrammar.{Piece, plain, escape, is_escape, is_plain, is_piece, ArePieces, inside_quotes}
use Rattle.mix_tree.specs.Names.{is_name_byte, IsName}
use Rattle.path_expr.specs.Grammar.{Spelled, word, quote, group, marked, dot, bar, Kind, a_path, a_sequence, a_repeat, an_atom, is_mark, Is, text_of, Writes}
use Rattle.path_expr.specs.Machine.{Frame, Mode, start, naming, quoting, escaping, past_atom, past_repeat, State, empty, seq_with, path_with, path_in, close, after_repeat, after_atom, begin, in_quotes, step_in, step, run, repeat_in, whole_in, whole, first, read_of}
use Rattle.mix_base.proofs.Choices.{Gives, either, number_is, list_all-push, some_is, none_some, and_both}
use Rattle.mix_base.proofs.Lists.{append_nil}

-- what stands before is of its kind
abbrev pub IsFrame : Frame → Type 0
IsFrame f = IfSome f.bars (λ p. Is p a_path) × IfSome f.dots (λ p. Is p a_sequence)

-- in each frame what stands before the last bar is a path, and before the last dot a sequence
abbrev pub AreFrames : List Frame → Type 0
AreFrames [] = Unit {0}
AreFrames (f ∷ o) = IsFrame f × AreFrames o

-- what has been read of the member at hand is of its kind
abbrev pub IsMode : Mode → Type 0
IsMode start = Unit {0}
IsMode (naming l) = IsName l
IsMode (quoting ps) = ArePieces ps
IsMode (escaping ps) = ArePieces ps
IsMode (past_atom p) = Is p an_atom
IsMode (past_repeat p) = Is p a_repeat

-- what stands before a byte, with the byte
abbrev pub before : Option Spelled → ℕ → List ℕ
before None b = []
before (Some p) b = text_of p ++ b ∷ []

-- the text of a frame
abbrev pub frame_text : Frame → List ℕ
frame_text f = before f.bars 124 ++ before f.dots 46

-- the text of frames, with an open parenthesis after each
abbrev pub outer_text : List Frame → List ℕ
outer_text [] = []
outer_text (f ∷ o) = outer_text o ++ (frame_text f ++ 40 ∷ [])

-- the text of the member at hand
abbrev pub mode_text : Mode → List ℕ
mode_text start = []
mode_text (naming l) = l
mode_text (quoting ps) = 34 ∷ inside_quotes ps
mode_text (escaping ps) = 34 ∷ inside_quotes ps ++ 92 ∷ []
mode_text (past_atom p) = text_of p
mode_text (past_repeat p) = text_of p

-- the state is well formed, and writes the text
pub record Stands (x : List ℕ) (f : Frame) (o : List Frame) (m : Mode) : Type 0 where
  pub here : IsFrame f
  pub outer : AreFrames o
  pub mode : IsMode m
  pub text : outer_text o ++ (frame_text f ++ mode_text m) ≡ x

-- the state is well formed, and writes the text: the same as `Stands` with the state's parts
abbrev pub StandsAt : List ℕ → State → Type 0
StandsAt x s = Stands x s.here s.outer s.mode

-- a repeat is a sequence
pub sequence_of_repeat : (p : Spelled) → Is p a_repeat → Is p a_sequence
sequence_of_repeat (word l) h = h
sequence_of_repeat (quote ps) h = h
sequence_of_repeat (group p) h = h
sequence_of_repeat (marked p m) h = h
sequence_of_repeat (dot p q) h = absurd h
sequence_of_repeat (bar p q) h = absurd h

-- a sequence is a path
pub path_of_sequence : (p : Spelled) → Is p a_sequence → Is p a_path
path_of_sequence (word l) h = h
path_of_sequence (quote ps) h = h
path_of_sequence (group p) h = h
path_of_sequence (marked p m) h = h
path_of_sequence (dot p q) h = h
path_of_sequence (bar p q) h = absurd h

-- an atom is a repeat
pub repeat_of_atom : (p : Spelled) → Is p an_atom → Is p a_repeat
repeat_of_atom (word l) h = h
repeat_of_atom (quote ps) h = h
repeat_of_atom (group p) h = h
repeat_of_atom (marked p m) h = absurd h
repeat_of_atom (dot p q) h = absurd h
repeat_of_atom (bar p q) h = absurd h

-- a sequence with one member more is one
pub seq_with_is : (d : Option Spelled) (p : Spelled) → IfSome d (λ q. Is q a_sequence) → Is p a_repeat → Is (seq_with d p) a_sequence
seq_with_is None p h k = sequence_of_repeat p k
seq_with_is (Some q) p h k = (h, k)

-- a choice with one member more is a path
pub path_with_is : (d : Option Spelled) (p : Spelled) → IfSome d (λ q. Is q a_path) → Is p a_sequence → Is (path_with d p) a_path
path_with_is None p h k = path_of_sequence p k
path_with_is (Some q) p h k = (h, k)

-- the text of a sequence with one member more is that before it, a dot and the member's
seq_with_text : (d : Option Spelled) (p : Spelled) → text_of (seq_with d p) ≡ before d 46 ++ text_of p
seq_with_text None p = refl
seq_with_text (Some q) p = sym (append_assoc (text_of q) (46 ∷ []) (text_of p))

-- the text of a choice with one member more is that before it, a bar and the member's
path_with_text : (d : Option Spelled) (p : Spelled) → text_of (path_with d p) ≡ before d 124 ++ text_of p
path_with_text None p = refl
path_with_text (Some q) p = sym (append_assoc (text_of q) (124 ∷ []) (text_of p))

-- the path at hand is a path
pub path_in_is : (f : Frame) (p : Spelled) → IsFrame f → Is p a_repeat → Is (path_in f p) a_path
path_in_is f p h k = path_with_is f.bars (seq_with f.dots p) h.0 (seq_with_is f.dots p h.1 k)

-- the text of the path at hand is that of its frame and of its last member
pub path_in_text : (f : Frame) (p : Spelled) → text_of (path_in f p) ≡ frame_text f ++ text_of p
path_in_text f p =
    path_with_text f.bars (seq_with f.dots p) ∙ ap (λ r. before f.bars 124 ++ r) (seq_with_text f.dots p)
    ∙ sym (append_assoc (before f.bars 124) (before f.dots 46) (text_of p))

-- the text of one piece more
pub inside-push : (ps : List Piece) (q : Piece) → inside_quotes (ps ++ q ∷ []) ≡ inside_quotes ps ++ inside_quotes (q ∷ [])
inside-push [] q = refl
inside-push (plain b ∷ ps) q = ap (λ r. b ∷ r) (inside-push ps q)
inside-push (escape b ∷ ps) q = ap (λ r. 92 ∷ b ∷ r) (inside-push ps q)

-- a byte that the next mode writes after what the mode has written is one more of the state's text
more : (x : List ℕ) (f : Frame) (o : List Frame) (m n : Mode) (b : ℕ) → Stands x f o m → IsMode n → mode_text n ≡ mode_text m ++ b ∷ [] → Stands (x ++ b ∷ []) f o n
more x f o m n b h k e = record {
  here = h.here;
  outer = h.outer;
  mode = k;
  text =
      ap (λ r. outer_text o ++ (frame_text f ++ r)) e ∙ regrouped (outer_text o) (frame_text f) (mode_text m) b
      ∙ ap (λ r. r ++ b ∷ []) h.text;
}
  where
    regrouped : (a c d : List ℕ) (y : ℕ) → a ++ (c ++ (d ++ y ∷ [])) ≡ (a ++ (c ++ d)) ++ y ∷ []
    regrouped a c d y = simp append_assoc

-- the state after an opening parenthesis is well formed, and writes that parenthesis more
opened : (x : List ℕ) (f : Frame) (o : List Frame) → Stands x f o start → Stands (x ++ 40 ∷ []) empty (f ∷ o) start
opened x f o h = record {
  here = (tt, tt);
  outer = (h.here, h.outer);
  mode = tt;
  text = append_nil _ ∙ sym (append_assoc (outer_text o) (frame_text f) (40 ∷ [])) ∙ ap (λ r. (outer_text o ++ r) ++ 40 ∷ []) (sym (append_nil (frame_text f))) ∙ ap (λ r. r ++ 40 ∷ []) h.text;
}

-- the state after the first byte of a member is well formed, and writes that byte more
begin_stands : (x : List ℕ) (f : Frame) (o : List Frame) (b : ℕ) → Stands x f o start → Gives (StandsAt (x ++ b ∷ [])) (begin f o b)
begin_stands x f o b h =
    either _ (is_name_byte b) _ _ (λ p. more x f o start (naming (b ∷ [])) b h (and_both (is_name_byte b) true p refl, omega arith) refl)
    (λ n. either _ (b == 34) _ _ (λ p. more x f o start (quoting []) b h refl (ap (λ c. c ∷ []) (number_is b 34 p)))
    (λ k. either _ (b == 40) _ _ (λ p. subst (λ c. Stands (x ++ c ∷ []) empty (f ∷ o) start) (number_is b 40 p) (opened x f o h)) (λ l. tt)))

-- a byte that is no quote and no backslash stands for itself
pub plain_of : (b : ℕ) → (b == 34) ≡ false → (b == 92) ≡ false → is_plain b ≡ true
plain_of b h k = rw (h, k) refl

-- the state after a byte inside quotes is well formed, and writes that byte more
quotes_stand : (x : List ℕ) (f : Frame) (o : List Frame) (ps : List Piece) (b : ℕ) → Stands x f o (quoting ps) → Gives (StandsAt (x ++ b ∷ [])) (in_quotes f o ps b)
quotes_stand x f o ps b h =
    either _ (b == 34) _ _ (λ p. more x f o (quoting ps) (past_atom (quote ps)) b h h.mode (ap (λ c. 34 ∷ inside_quotes ps ++ c ∷ []) (number_is b 34 p)))
    (λ n. either _ (b == 92) _ _ (λ p. more x f o (quoting ps) (escaping ps) b h h.mode (ap (λ c. 34 ∷ inside_quotes ps ++ c ∷ []) (number_is b 92 p)))
    (λ k. more x f o (quoting ps) (quoting (ps ++ plain b ∷ [])) b h (list_all-push is_piece ps (plain b) h.mode (plain_of b n k)) (ap (λ r. 34 ∷ r) (inside-push ps (plain b)))))

-- the state after a byte that is escaped is well formed, and writes that byte more
escape_stands : (x : List ℕ) (f : Frame) (o : List Frame) (ps : List Piece) (b : ℕ) → Stands x f o (escaping ps) → Gives (StandsAt (x ++ b ∷ [])) (step_in f o (escaping ps) b)
escape_stands x f o ps b h =
    either _ (is_escape b) _ _
    (λ p. more x f o (escaping ps) (quoting (ps ++ escape b ∷ [])) b h (list_all-push is_piece ps (escape b) h.mode p)
    (ap (λ r. 34 ∷ r) (inside-push ps (escape b) ∙ sym (append_assoc (inside_quotes ps) (92 ∷ []) (b ∷ [])))))
    (λ n. tt)

-- the text is that of well-formed frames and a member of the kind that may end here
pub record Ended (x : List ℕ) (f : Frame) (o : List Frame) (k : Kind) (p : Spelled) : Type 0 where
  pub here : IsFrame f
  pub outer : AreFrames o
  pub is : Is p k
  pub text : outer_text o ++ (frame_text f ++ text_of p) ≡ x

-- the state after a dot is well formed, and writes the dot more
dotted : (x : List ℕ) (f : Frame) (o : List Frame) (p : Spelled) → Ended x f o a_repeat p → Stands (x ++ 46 ∷ []) (record { bars = f.bars; dots = Some (seq_with f.dots p) }) o start
dotted x f o p h = record {
  here = (h.here.0, seq_with_is f.dots p h.here.1 h.is);
  outer = h.outer;
  mode = tt;
  text =
      ap (λ r. outer_text o ++ ((before f.bars 124 ++ (r ++ 46 ∷ [])) ++ [])) (seq_with_text f.dots p)
      ∙ regrouped (outer_text o) (before f.bars 124) (before f.dots 46) (text_of p) (46 ∷ [])
      ∙ ap (λ r. r ++ 46 ∷ []) h.text;
}
  where
    regrouped : (a b c d e : List ℕ) → a ++ ((b ++ ((c ++ d) ++ e)) ++ []) ≡ (a ++ ((b ++ c) ++ d)) ++ e
    regrouped a b c d e = ap (λ r. a ++ r) (append_nil _) ∙ simp append_assoc

-- the state after a bar is well formed, and writes the bar more
barred : (x : List ℕ) (f : Frame) (o : List Frame) (p : Spelled) → Ended x f o a_repeat p → Stands (x ++ 124 ∷ []) (record { bars = Some (path_in f p); dots = None }) o start
barred x f o p h = record {
  here = (path_in_is f p h.here h.is, tt);
  outer = h.outer;
  mode = tt;
  text =
      ap (λ r. outer_text o ++ (((r ++ 124 ∷ []) ++ []) ++ [])) (path_in_text f p)
      ∙ regrouped (outer_text o) (frame_text f) (text_of p) (124 ∷ [])
      ∙ ap (λ r. r ++ 124 ∷ []) h.text;
}
  where
    regrouped : (a b d e : List ℕ) → a ++ ((((b ++ d) ++ e) ++ []) ++ []) ≡ (a ++ (b ++ d)) ++ e
    regrouped a b d e = ap (λ r. a ++ r) (append_nil _ ∙ append_nil _) ∙ sym (append_assoc a (b ++ d) e)

-- the state after a closing parenthesis is well formed, and writes that parenthesis more
closed : (x : List ℕ) (f : Frame) (o : List Frame) (p : Spelled) → Ended x f o a_repeat p → Gives (StandsAt (x ++ 41 ∷ [])) (close o (path_in f p))
closed x f [] p h = tt
closed x f (g ∷ o) p h = record {
  here = h.outer.0;
  outer = h.outer.1;
  mode = path_in_is f p h.here h.is;
  text =
      ap (λ r. outer_text o ++ (frame_text g ++ 40 ∷ (r ++ 41 ∷ []))) (path_in_text f p)
      ∙ regrouped (outer_text o) (frame_text g) (40 ∷ []) (frame_text f ++ text_of p) (41 ∷ [])
      ∙ ap (λ r. r ++ 41 ∷ []) h.text;
}
  where
    regrouped : (a b c d e : List ℕ) → a ++ (b ++ (c ++ (d ++ e))) ≡ ((a ++ (b ++ c)) ++ d) ++ e
    regrouped a b c d e = simp append_assoc

-- the state after a byte that ends a member is well formed, and writes that byte more
repeat_stands : (x : List ℕ) (f : Frame) (o : List Frame) (p : Spelled) (b : ℕ) → Ended x f o a_repeat p → Gives (StandsAt (x ++ b ∷ [])) (after_repeat f o p b)
repeat_stands x f o p b h =
    either _ (b == 46) _ _ (λ e. let g : Frame = record { bars = f.bars; dots = Some (seq_with f.dots p) } in subst (λ c. Stands (x ++ c ∷ []) g o start) (number_is b 46 e) (dotted x f o p h))
    (λ n. either _ (b == 124) _ _ (λ e. let g : Frame = record { bars = Some (path_in f p); dots = None } in subst (λ c. Stands (x ++ c ∷ []) g o start) (number_is b 124 e) (barred x f o p h))
    (λ k. either _ (b == 41) _ _ (λ e. subst (λ c. Gives (StandsAt (x ++ c ∷ [])) (close o (path_in f p))) (number_is b 41 e) (closed x f o p h)) (λ l. tt)))

-- the state after a byte that marks an atom or ends it is well formed, and writes that byte more
atom_stands : (x : List ℕ) (f : Frame) (o : List Frame) (p : Spelled) (b : ℕ) → Ended x f o an_atom p → Gives (StandsAt (x ++ b ∷ [])) (after_atom f o p b)
atom_stands x f o p b h =
    either _ (is_mark b) _ _
    (λ e. record {
      here = h.here;
      outer = h.outer;
      mode = (h.is, e);
      text = regrouped (outer_text o) (frame_text f) (text_of p) (b ∷ []) ∙ ap (λ r. r ++ b ∷ []) h.text;
    })
    (λ n. repeat_stands x f o p b (record { here = h.here; outer = h.outer; is = repeat_of_atom p h.is; text = h.text }))
  where
    regrouped : (a c d e : List ℕ) → a ++ (c ++ (d ++ e)) ≡ (a ++ (c ++ d)) ++ e
    regrouped a c d e = simp append_assoc

-- a text with a byte more is not empty
pub longer : (l : List ℕ) (b : ℕ) → 0 < length (l ++ b ∷ [])
longer [] b = omega arith
longer (c ∷ l) b = omega arith

-- a step writes one byte more
pub step_stands : (x : List ℕ) (f : Frame) (o : List Frame) (m : Mode) (b : ℕ) → Stands x f o m → Gives (StandsAt (x ++ b ∷ [])) (step_in f o m b)
step_stands x f o start b h = begin_stands x f o b h
step_stands x f o (naming l) b h =
    either _ (is_name_byte b) _ _ (λ p. more x f o (naming l) (naming (l ++ b ∷ [])) b h (list_all-push is_name_byte l b h.mode.0 p, longer l b) refl)
    (λ n. atom_stands x f o (word l) b (record { here = h.here; outer = h.outer; is = h.mode; text = h.text }))
step_stands x f o (quoting ps) b h = quotes_stand x f o ps b h
step_stands x f o (escaping ps) b h = escape_stands x f o ps b h
step_stands x f o (past_atom p) b h = atom_stands x f o p b (record { here = h.here; outer = h.outer; is = h.mode; text = h.text })
step_stands x f o (past_repeat p) b h = repeat_stands x f o p b (record { here = h.here; outer = h.outer; is = h.mode; text = h.text })

-- the state after a text is well formed, and writes that text, from its first byte and the rest
after_step : (x y : List ℕ) (b : ℕ) (s : Option State) → Gives (StandsAt (x ++ b ∷ [])) s → ((t : State) → StandsAt (x ++ b ∷ []) t → Gives (StandsAt ((x ++ b ∷ []) ++ y)) (run t y))
    → Gives (StandsAt (x ++ b ∷ y)) (option_and_then (λ t. run t y) s)
after_step x y b None h k = tt
after_step x y b (Some t) h k = subst (λ z. Gives (StandsAt z) (run t y)) (append_assoc x (b ∷ []) y) (k t h)

-- the state after a run is well formed, and writes the run's text
pub run_stands : (y x : List ℕ) (s : State) → StandsAt x s → Gives (StandsAt (x ++ y)) (run s y)
run_stands [] x s h = subst (λ z. StandsAt z s) (sym (append_nil x)) h
run_stands (b ∷ y) x s h = after_step x y b (step s b) (step_stands x s.here s.outer s.mode b h) (λ t k. run_stands y (x ++ b ∷ []) t k)

-- the first state writes nothing
pub first_stands : StandsAt [] first
first_stands = record { here = (tt, tt); outer = tt; mode = tt; text = refl }

-- a member that may end in a mode
ended : (x : List ℕ) (f : Frame) (o : List Frame) (m : Mode) (p : Spelled) → repeat_in m ≡ Some p → Stands x f o m → Ended x f o a_repeat p
ended x f o start p e h = none_some p e
ended x f o (naming l) p e h = subst (Ended x f o a_repeat) (some_is _ _ e) (record { here = h.here; outer = h.outer; is = h.mode; text = h.text })
ended x f o (quoting ps) p e h = none_some p e
ended x f o (escaping ps) p e h = none_some p e
ended x f o (past_atom q) p e h = subst (Ended x f o a_repeat) (some_is _ _ e) (record { here = h.here; outer = h.outer; is = repeat_of_atom q h.mode; text = h.text })
ended x f o (past_repeat q) p e h = subst (Ended x f o a_repeat) (some_is _ _ e) (record { here = h.here; outer = h.outer; is = h.mode; text = h.text })

-- where a member may end and no parenthesis is open, the path that ends there writes the text; from an option
whole_ended : (x : List ℕ) (f : Frame) (o : List Frame) (r : Option Spelled) (p : Spelled) → ((q : Spelled) → r ≡ Some q → Ended x f o a_repeat q) → whole_in f o r ≡ Some p → Writes x p
whole_ended x f [] None p h e = none_some p e
whole_ended x f [] (Some q) p h e =
    let k = h q refl in
    subst (Writes x) (some_is _ _ e) (path_in_is f q k.here k.is, path_in_text f q ∙ k.text)
whole_ended x f (g ∷ o) r p h e = none_some p e

-- the path that ends there writes the text
pub whole_writes : (x : List ℕ) (s : State) (p : Spelled) → StandsAt x s → whole s ≡ Some p → Writes x p
whole_writes x s p h e = whole_ended x s.here s.outer (repeat_in s.mode) p (λ q k. ended x s.here s.outer s.mode q k h) e

-- the path that is read from a state which writes the text writes it; from an option
read_from : (x : List ℕ) (s : Option State) (p : Spelled) → Gives (StandsAt x) s → option_and_then whole s ≡ Some p → Writes x p
read_from x None p h e = none_some p e
read_from x (Some s) p h e = whole_writes x s p h e

-- what is read is written so
pub read_writes : (x : List ℕ) (p : Spelled) → read_of x ≡ Some p → Writes x p
read_writes x p e = read_from x (run first x) p (run_stands x [] first first_stands) e
