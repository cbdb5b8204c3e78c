-- The machine reads each text of the grammar as it is written.
use Rattle.std.proofs.Common.{◌≡◌, ◌∙◌, ◌==◌, ℕ, Bool, true, false, cond, IsTrue, List, [], ◌∷◌, ◌++◌, Option, Some, None, refl, sym, ap, arith, append_assoc, option_and_then}
use Rattle.std.proofs.lemmas.Bool.Decides.{nat_tests}
use Rattle.std.specs.List.{list_all}
use Rattle.mix_base.proofs.Runs.{run_then, run_byte}
use Rattle.mix_tree.specs.LabelGrammar.{Piece, plain, escape, is_escape, is_plain, is_piece, ArePieces, inside_quotes}
use Rattle.mix_tree.specs.Names.{is_name_byte, IsName}
use Rattle.path_expr.specs.Grammar.{Spelled, word, quote, group, marked, dot, bar, Kind, a_path, a_sequence, a_repeat, an_atom, is_mark, Is, text_of, Writes}
use Rattle.path_expr.specs.Machine.{Frame, Mode, start, naming, quoting, escaping, past_atom, past_repeat, State, at, empty, seq_with, path_in, after_repeat, step_in, step, run, repeat_in, whole_in, whole, read_of}
use Rattle.mix_base.proofs.Choices.{some_is, none_some, and_parts}
use Rattle.mix_base.proofs.Lists.{append_nil}

-- the atom at hand, where it may end there
abbrev pub atom_in : Mode → Option Spelled
atom_in start = None
atom_in (naming l) = Some (word l)
atom_in (quoting ps) = None
atom_in (escaping ps) = None
atom_in (past_atom p) = Some p
atom_in (past_repeat p) = None

-- from the start of a member a run over the atom ends after it
abbrev pub ReadsAtom : Spelled → Type 0
ReadsAtom c = (f : Frame) (o : List Frame) → (m : Mode) × (run (at f o start) (text_of c) ≡ Some (at f o m)) × (atom_in m ≡ Some c)

-- from the start of a member a run over the repeat ends after it
abbrev pub ReadsRepeat : Spelled → Type 0
ReadsRepeat c = (f : Frame) (o : List Frame) → (m : Mode) × (run (at f o start) (text_of c) ≡ Some (at f o m)) × (repeat_in m ≡ Some c)

-- a frame with this choice before the last bar and this sequence before the last dot
abbrev pub in_sequence : Option Spelled → Option Spelled → Frame
in_sequence b d = record { bars = b; dots = d }

-- from the start of a sequence a run over it ends in its last member
abbrev pub ReadsSequence : Spelled → Type 0
ReadsSequence c = (b : Option Spelled) (o : List Frame) → (d : Option Spelled) × (m : Mode) × (p : Spelled)
    × (run (at (in_sequence b None) o start) (text_of c) ≡ Some (at (in_sequence b d) o m)) × (repeat_in m ≡ Some p) × (seq_with d p ≡ c)

-- from the start of a path a run over it ends in its last member
abbrev pub ReadsPath : Spelled → Type 0
ReadsPath c = (o : List Frame) → (g : Frame) × (m : Mode) × (p : Spelled) × (run (at empty o start) (text_of c) ≡ Some (at g o m)) × (repeat_in m ≡ Some p) × (path_in g p ≡ c)

-- a run over what is written ends as its kind says
abbrev pub Reads : Kind → Spelled → Type 0
Reads a_path c = ReadsPath c
Reads a_sequence c = ReadsSequence c
Reads a_repeat c = ReadsRepeat c
Reads an_atom c = ReadsAtom c

-- where an atom may end, a repeat may
repeat_of_atom_in : (m : Mode) (c : Spelled) → atom_in m ≡ Some c → repeat_in m ≡ Some c
repeat_of_atom_in start c e = none_some c e
repeat_of_atom_in (naming l) c e = e
repeat_of_atom_in (quoting ps) c e = none_some c e
repeat_of_atom_in (escaping ps) c e = none_some c e
repeat_of_atom_in (past_atom p) c e = e
repeat_of_atom_in (past_repeat p) c e = none_some c e

-- an atom is read as a repeat
from_atom : (c : Spelled) → ReadsAtom c → ReadsRepeat c
from_atom c h f o = let r = h f o in (r.0, r.1, repeat_of_atom_in r.0 c r.2)

-- a repeat is read as a sequence
from_repeat : (c : Spelled) → ReadsRepeat c → ReadsSequence c
from_repeat c h b o = let r = h (in_sequence b None) o in (None, r.0, c, r.1, r.2, refl)

-- a sequence is read as a path
from_sequence : (c : Spelled) → ReadsSequence c → ReadsPath c
from_sequence c h o = let r = h None o in (in_sequence None r.0, r.1, r.2, r.3, r.4, r.5)

-- an atom is read as each kind
any_kind : (k : Kind) (c : Spelled) → ReadsAtom c → Reads k c
any_kind a_path c h = from_sequence c (from_repeat c (from_atom c h))
any_kind a_sequence c h = from_repeat c (from_atom c h)
any_kind a_repeat c h = from_atom c h
any_kind an_atom c h = h

-- a name at hand goes on with bytes of a name
name_goes_on : (l x : List ℕ) (f : Frame) (o : List Frame) → IsTrue (list_all is_name_byte x) → run (at f o (naming l)) x ≡ Some (at f o (naming (l ++ x)))
name_goes_on l [] f o h = ap (λ r. Some (at f o (naming r))) (sym (append_nil l))
name_goes_on l (b ∷ x) f o h =
    let parts = and_parts (is_name_byte b) (list_all is_name_byte x) h in
    rw parts.0 (name_goes_on (l ++ b ∷ []) x f o parts.1 ∙ ap (λ r. Some (at f o (naming r))) (append_assoc l (b ∷ []) x))

-- a name is read as an atom
reads_word : (l : List ℕ) → IsName l → ReadsAtom (word l)
reads_word [] h f o = absurd (omega arith)
reads_word (b ∷ l) h f o =
    let parts = and_parts (is_name_byte b) (list_all is_name_byte l) h.0 in
    (naming (b ∷ l), rw parts.0 (name_goes_on (b ∷ []) l f o parts.1), refl)

-- inside quotes a byte that stands for itself is read as a piece
pub plain_step : (b : ℕ) (f : Frame) (o : List Frame) (ps : List Piece) → IsTrue (is_plain b) → step_in f o (quoting ps) b ≡ Some (at f o (quoting (ps ++ plain b ∷ [])))
plain_step b f o ps h = by_cases (b == 34) (b == 92) _ _ _ h
  where
    by_cases : (c d : Bool) (x y z : Option State) → IsTrue (cond c false (cond d false true)) → cond c x (cond d y z) ≡ z
    by_cases true d x y z h = cc
    by_cases false true x y z h = cc
    by_cases false false x y z h = refl

-- an escape goes on inside quotes
escape_step : (b : ℕ) (f : Frame) (o : List Frame) (ps : List Piece) → IsTrue (is_escape b) → step_in f o (escaping ps) b ≡ Some (at f o (quoting (ps ++ escape b ∷ [])))
escape_step b f o ps h = rw h refl

-- pieces go on inside quotes
quote_goes_on : (ps qs : List Piece) (f : Frame) (o : List Frame) → ArePieces qs → run (at f o (quoting ps)) (inside_quotes qs) ≡ Some (at f o (quoting (ps ++ qs)))
quote_goes_on ps [] f o h = ap (λ r. Some (at f o (quoting r))) (sym (append_nil ps))
quote_goes_on ps (plain b ∷ qs) f o h =
    let parts = and_parts (is_plain b) (list_all is_piece qs) h in
    run_byte step b (inside_quotes qs) (at f o (quoting ps)) (at f o (quoting (ps ++ plain b ∷ []))) (plain_step b f o ps parts.0)
    ∙ quote_goes_on (ps ++ plain b ∷ []) qs f o parts.1 ∙ ap (λ r. Some (at f o (quoting r))) (append_assoc ps (plain b ∷ []) qs)
quote_goes_on ps (escape b ∷ qs) f o h =
    let parts = and_parts (is_escape b) (list_all is_piece qs) h in
    run_byte step b (inside_quotes qs) (at f o (escaping ps)) (at f o (quoting (ps ++ escape b ∷ []))) (escape_step b f o ps parts.0)
    ∙ quote_goes_on (ps ++ escape b ∷ []) qs f o parts.1 ∙ ap (λ r. Some (at f o (quoting r))) (append_assoc ps (escape b ∷ []) qs)

-- a quoted label is read
reads_quote : (ps : List Piece) → ArePieces ps → ReadsAtom (quote ps)
reads_quote ps h f o =
    (past_atom (quote ps), run_then step (inside_quotes ps) (34 ∷ []) (at f o (quoting [])) (at f o (quoting ps)) (quote_goes_on [] ps f o h), refl)

-- a byte after a member that may end, no mark and none of a name, leads on from that member
pub ends_by : (b : ℕ) (f : Frame) (o : List Frame) (m : Mode) (p : Spelled) → is_name_byte b ≡ false → is_mark b ≡ false → repeat_in m ≡ Some p → step_in f o m b ≡ after_repeat f o p b
ends_by b f o start p n k e = none_some p e
ends_by b f o (naming l) p n k e = rw (n, k) (ap (λ q. after_repeat f o q b) (some_is _ _ e))
ends_by b f o (quoting ps) p n k e = none_some p e
ends_by b f o (escaping ps) p n k e = none_some p e
ends_by b f o (past_atom q) p n k e = rw k (ap (λ q. after_repeat f o q b) (some_is _ _ e))
ends_by b f o (past_repeat q) p n k e = ap (λ q. after_repeat f o q b) (some_is _ _ e)

-- a path in parentheses is read
reads_group : (p : Spelled) → ReadsPath p → ReadsAtom (group p)
reads_group p h f o =
    let r = h (f ∷ o) in (
      past_atom (group p),
      run_then step (text_of p) (41 ∷ []) (at empty (f ∷ o) start) (at r.0 (f ∷ o) r.1) r.3
          ∙ run_byte step 41 [] (at r.0 (f ∷ o) r.1) (at f o (past_atom (group (path_in r.0 r.2)))) (ends_by 41 r.0 (f ∷ o) r.1 r.2 refl refl r.4)
          ∙ ap (λ q. Some (at f o (past_atom (group q)))) r.5,
      refl,
    )

-- no mark belongs to a name
pub mark_not_name : (b : ℕ) → IsTrue (is_mark b) → is_name_byte b ≡ false
mark_not_name b h = grind (arith, nat_tests)

-- a mark after an atom leads to the atom with its mark
mark_step : (f : Frame) (o : List Frame) (m : Mode) (p : Spelled) (b : ℕ) → atom_in m ≡ Some p → IsTrue (is_mark b) → step_in f o m b ≡ Some (at f o (past_repeat (marked p b)))
mark_step f o start p b e h = none_some p e
mark_step f o (naming l) p b e h = rw (mark_not_name b h, h) (ap (λ q. Some (at f o (past_repeat (marked q b)))) (some_is _ _ e))
mark_step f o (quoting ps) p b e h = none_some p e
mark_step f o (escaping ps) p b e h = none_some p e
mark_step f o (past_atom q) p b e h = rw h (ap (λ q. Some (at f o (past_repeat (marked q b)))) (some_is _ _ e))
mark_step f o (past_repeat q) p b e h = none_some p e

-- an atom with its mark is read
reads_marked : (p : Spelled) (b : ℕ) → ReadsAtom p → IsTrue (is_mark b) → ReadsRepeat (marked p b)
reads_marked p b h k f o =
    let r = h f o in
    (past_repeat (marked p b), run_then step (text_of p) (b ∷ []) (at f o start) (at f o r.0) r.1 ∙ run_byte step b [] (at f o r.0) _ (mark_step f o r.0 p b r.2 k), refl)

-- a sequence is read, where its first members and its last one are
reads_dot : (p q : Spelled) → ReadsSequence p → ReadsRepeat q → ReadsSequence (dot p q)
reads_dot p q h k b o =
    let r = h b o in
    let s = k (in_sequence b (Some p)) o in (
      Some p,
      s.0,
      q,
      run_then step (text_of p) (46 ∷ text_of q) (at (in_sequence b None) o start) (at (in_sequence b r.0) o r.1) r.3
          ∙ run_byte step 46 (text_of q) (at (in_sequence b r.0) o r.1) (at (in_sequence b (Some (seq_with r.0 r.2))) o start) (ends_by 46 (in_sequence b r.0) o r.1 r.2 refl refl r.4)
          ∙ ap (λ d. run (at (in_sequence b (Some d)) o start) (text_of q)) r.5 ∙ s.1,
      s.2,
      refl,
    )

-- a choice is read, where its choices and its last sequence are
reads_bar : (p q : Spelled) → ReadsPath p → ReadsSequence q → ReadsPath (bar p q)
reads_bar p q h k o =
    let r = h o in
    let s = k (Some p) o in (
      in_sequence (Some p) s.0,
      s.1,
      s.2,
      run_then step (text_of p) (124 ∷ text_of q) (at empty o start) (at r.0 o r.1) r.3
          ∙ run_byte step 124 (text_of q) (at r.0 o r.1) (at (in_sequence (Some (path_in r.0 r.2)) None) o start) (ends_by 124 r.0 o r.1 r.2 refl refl r.4)
          ∙ ap (λ d. run (at (in_sequence (Some d) None) o start) (text_of q)) r.5 ∙ s.3,
      s.4,
      ap (bar p) s.5,
    )

-- what is written is read, as its kind
pub reads : (c : Spelled) (k : Kind) → Is c k → Reads k c
reads (word l) k h = any_kind k (word l) (reads_word l h)
reads (quote ps) k h = any_kind k (quote ps) (reads_quote ps h)
reads (group p) k h = any_kind k (group p) (reads_group p (reads p a_path h))
reads (marked p m) an_atom h = absurd h
reads (marked p m) a_repeat h = reads_marked p m (reads p an_atom h.0) h.1
reads (marked p m) a_sequence h = from_repeat (marked p m) (reads_marked p m (reads p an_atom h.0) h.1)
reads (marked p m) a_path h = from_sequence (marked p m) (from_repeat (marked p m) (reads_marked p m (reads p an_atom h.0) h.1))
reads (dot p q) an_atom h = absurd h
reads (dot p q) a_repeat h = absurd h
reads (dot p q) a_sequence h = reads_dot p q (reads p a_sequence h.0) (reads q a_repeat h.1)
reads (dot p q) a_path h = from_sequence (dot p q) (reads_dot p q (reads p a_sequence h.0) (reads q a_repeat h.1))
reads (bar p q) an_atom h = absurd h
reads (bar p q) a_repeat h = absurd h
reads (bar p q) a_sequence h = absurd h
reads (bar p q) a_path h = reads_bar p q (reads p a_path h.0) (reads q a_sequence h.1)

-- a path ends where its last member does
pub whole_at : (g : Frame) (m : Mode) (p : Spelled) → repeat_in m ≡ Some p → whole (at g [] m) ≡ Some (path_in g p)
whole_at g m p e = ap (whole_in g []) e

-- what is written is read so
pub writes_read : (x : List ℕ) (c : Spelled) → Writes x c → read_of x ≡ Some c
writes_read x c h =
    let r = reads c a_path h.0 [] in
    ap read_of (sym h.1) ∙ ap (option_and_then whole) r.3 ∙ whole_at r.0 r.1 r.2 r.4 ∙ ap Some r.5
