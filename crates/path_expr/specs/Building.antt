-- Reading paths byte by byte with what has been read as values.
use Rattle.std.specs.Prelude.{ℕ, cond, ◌==◌, List, [], ◌∷◌, ◌++◌, Option, Some, None}
use Rattle.mix_tree.specs.LabelGrammar.{meaning, escaped_byte, is_escape}
use Rattle.mix_tree.specs.Names.{is_name_byte}
use Rattle.path_expr.specs.Grammar.{Spelled, is_mark}
use Rattle.path_expr.specs.Form.{seq, alt, Form, joined, repeated}
use Rattle.path_expr.specs.Values.{named, word_form, mark_head, read, value_of}
use Rattle.path_expr.specs.Machine as machine

-- the members before the one at hand: the whole sequences, and those of the sequence at hand
pub record Level : Type 0 where
  pub sequences : List Form
  pub members : List Form

-- what has been read of the member at hand
pub data Mode : Type 0 where
  start : Mode
  naming : List ℕ → Mode
  quoting : List ℕ → Mode
  escaping : List ℕ → Mode
  past_atom : Form → Mode
  past_repeat : Form → Mode

-- the path at hand, those with open parentheses around it, the innermost first, and its last member
pub record State : Type 0 where
  pub here : Level
  pub outer : List Level
  pub mode : Mode

-- the state with these levels and this mode
abbrev pub at : Level → List Level → Mode → State
at f o m = record { here = f; outer = o; mode = m }

-- the level with these whole sequences and these members of the sequence at hand
abbrev pub level : List Form → List Form → Level
level a s = record { sequences = a; members = s }

-- the sequence at hand, with its last member
abbrev pub seq_in : Level → Form → Form
seq_in f p = joined seq (f.members ++ p ∷ [])

-- the path at hand, with its last member
abbrev pub path_in : Level → Form → Form
path_in f p = joined alt (f.sequences ++ seq_in f p ∷ [])

-- a closing parenthesis ends the path at hand
abbrev pub close : List Level → Form → Option State
close [] p = None
close (f ∷ o) p = Some (at f o (past_atom p))

-- the state after a byte that ends a member
abbrev pub after_repeat : Level → List Level → Form → ℕ → Option State
after_repeat f o p b =
    cond (b == 46) (Some (at (level f.sequences (f.members ++ p ∷ [])) o start))
    (cond (b == 124) (Some (at (level (f.sequences ++ seq_in f p ∷ []) []) o start)) (cond (b == 41) (close o (path_in f p)) None))

-- the state after a byte that marks an atom or ends it
abbrev pub after_atom : Level → List Level → Form → ℕ → Option State
after_atom f o p b = cond (is_mark b) (Some (at f o (past_repeat (repeated (mark_head b) p)))) (after_repeat f o p b)

-- the state after the first byte of a member
abbrev pub begin : Level → List Level → ℕ → Option State
begin f o b =
    cond (is_name_byte b) (Some (at f o (naming (b ∷ []))))
    (cond (b == 34) (Some (at f o (quoting []))) (cond (b == 40) (Some (at (level [] []) (f ∷ o) start)) None))

-- the state after a byte inside a quoted label
abbrev pub in_quotes : Level → List Level → List ℕ → ℕ → Option State
in_quotes f o l b =
    cond (b == 34) (Some (at f o (past_atom (named l))))
    (cond (b == 92) (Some (at f o (escaping l))) (Some (at f o (quoting (l ++ b ∷ [])))))

-- the state after one more byte
abbrev pub step_in : Level → List Level → Mode → ℕ → Option State
step_in f o start b = begin f o b
step_in f o (naming l) b = cond (is_name_byte b) (Some (at f o (naming (l ++ b ∷ [])))) (after_atom f o (word_form l) b)
step_in f o (quoting l) b = in_quotes f o l b
step_in f o (escaping l) b = cond (is_escape b) (Some (at f o (quoting (l ++ escaped_byte b ∷ [])))) None
step_in f o (past_atom p) b = after_atom f o p b
step_in f o (past_repeat p) b = after_repeat f o p b

-- the state after one more byte, from a state
abbrev pub step : State → ℕ → Option State
step s b = step_in s.here s.outer s.mode b

-- the member at hand, where it may end in the mode
abbrev pub repeat_in : Mode → Option Form
repeat_in start = None
repeat_in (naming l) = Some (word_form l)
repeat_in (quoting l) = None
repeat_in (escaping l) = None
repeat_in (past_atom p) = Some p
repeat_in (past_repeat p) = Some p

-- the path, where no parenthesis is open
abbrev pub whole_in : Level → List Level → Option Form → Option Form
whole_in f [] (Some p) = Some (path_in f p)
whole_in f [] None = None
whole_in f (g ∷ o) m = None

-- the path that has been read, where it may end in the state
abbrev pub whole : State → Option Form
whole s = whole_in s.here s.outer (repeat_in s.mode)

-- the values of the machine's state
abbrev pub dots_in : Option Spelled → List Form
dots_in None = []
dots_in (Some p) = (read p).dots

-- the values of what stands before the last bar
abbrev pub bars_in : Option Spelled → List Form
bars_in None = []
bars_in (Some p) = (read p).bars

-- the values of a frame: those before the last bar, and those before the last dot
abbrev pub level_of : machine.Frame → Level
level_of f = level (bars_in f.bars) (dots_in f.dots)

-- the values of each of some frames, in order
abbrev pub levels_of : List machine.Frame → List Level
levels_of [] = []
levels_of (f ∷ o) = level_of f ∷ levels_of o

-- the value of the member at hand
abbrev pub mode_of : machine.Mode → Mode
mode_of machine.start = start
mode_of (machine.naming l) = naming l
mode_of (machine.quoting ps) = quoting (meaning ps)
mode_of (machine.escaping ps) = escaping (meaning ps)
mode_of (machine.past_atom p) = past_atom (value_of p)
mode_of (machine.past_repeat p) = past_repeat (value_of p)

-- the values of a state of the machine
abbrev pub values_of : machine.State → State
values_of s = at (level_of s.here) (levels_of s.outer) (mode_of s.mode)
