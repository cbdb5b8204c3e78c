-- Reading paths byte by byte.
use Rattle.std.specs.Prelude.{ℕ, cond, ◌==◌, List, [], ◌∷◌, ◌++◌, Option, Some, None, option_and_then}
use Rattle.mix_base.specs.Runs.{run_by}
use Rattle.mix_tree.specs.LabelGrammar.{Piece, plain, escape, is_escape}
use Rattle.mix_tree.specs.Names.{is_name_byte}
use Rattle.path_expr.specs.Grammar.{Spelled, word, quote, group, marked, dot, bar, is_mark}

-- what stands before the last | of the path at hand, and from there before the last dot
pub record Frame : Type 0 where
  pub bars : Option Spelled
  pub dots : Option Spelled

-- what has been read of the member at hand
pub data Mode : Type 0 where
  start : Mode
  naming : List ℕ → Mode
  quoting : List Piece → Mode
  escaping : List Piece → Mode
  past_atom : Spelled → Mode
  past_repeat : Spelled → Mode

-- the path at hand, those with open parentheses around it, the innermost first, and its last member
pub record State : Type 0 where
  pub here : Frame
  pub outer : List Frame
  pub mode : Mode

-- the state with these frames and this mode
abbrev pub at : Frame → List Frame → Mode → State
at f o m = record { here = f; outer = o; mode = m }

-- the frame before whose path nothing stands
abbrev pub empty : Frame
empty = record { bars = None; dots = None }

-- a sequence with one member more
abbrev pub seq_with : Option Spelled → Spelled → Spelled
seq_with None p = p
seq_with (Some d) p = dot d p

-- a choice with one member more
abbrev pub path_with : Option Spelled → Spelled → Spelled
path_with None p = p
path_with (Some d) p = bar d p

-- the path at hand, with its last member
abbrev pub path_in : Frame → Spelled → Spelled
path_in f p = path_with f.bars (seq_with f.dots p)

-- a closing parenthesis ends the path at hand
abbrev pub close : List Frame → Spelled → Option State
close [] p = None
close (f ∷ o) p = Some (at f o (past_atom (group p)))

-- the state after a byte that ends a member
abbrev pub after_repeat : Frame → List Frame → Spelled → ℕ → Option State
after_repeat f o p b =
    cond (b == 46) (Some (at (record { bars = f.bars; dots = Some (seq_with f.dots p) }) o start))
    (cond (b == 124) (Some (at (record { bars = Some (path_in f p); dots = None }) o start)) (cond (b == 41) (close o (path_in f p)) None))

-- the state after a byte that marks an atom or ends it
abbrev pub after_atom : Frame → List Frame → Spelled → ℕ → Option State
after_atom f o p b = cond (is_mark b) (Some (at f o (past_repeat (marked p b)))) (after_repeat f o p b)

-- the state after the first byte of a member
abbrev pub begin : Frame → List Frame → ℕ → Option State
begin f o b =
    cond (is_name_byte b) (Some (at f o (naming (b ∷ []))))
    (cond (b == 34) (Some (at f o (quoting []))) (cond (b == 40) (Some (at empty (f ∷ o) start)) None))

-- the state after a byte inside a quoted label
abbrev pub in_quotes : Frame → List Frame → List Piece → ℕ → Option State
in_quotes f o ps b =
    cond (b == 34) (Some (at f o (past_atom (quote ps))))
    (cond (b == 92) (Some (at f o (escaping ps))) (Some (at f o (quoting (ps ++ plain b ∷ [])))))

-- the state after one more byte
abbrev pub step_in : Frame → List Frame → Mode → ℕ → Option State
step_in f o start b = begin f o b
step_in f o (naming l) b = cond (is_name_byte b) (Some (at f o (naming (l ++ b ∷ [])))) (after_atom f o (word l) b)
step_in f o (quoting ps) b = in_quotes f o ps b
step_in f o (escaping ps) b = cond (is_escape b) (Some (at f o (quoting (ps ++ escape b ∷ [])))) None
step_in f o (past_atom p) b = after_atom f o p b
step_in f o (past_repeat p) b = after_repeat f o p b

-- the state after one more byte, from a state
abbrev pub step : State → ℕ → Option State
step s b = step_in s.here s.outer s.mode b

-- the state after a text
abbrev pub run : State → List ℕ → Option State
run = run_by step

-- the member at hand, where it may end in the mode
abbrev pub repeat_in : Mode → Option Spelled
repeat_in start = None
repeat_in (naming l) = Some (word l)
repeat_in (quoting ps) = None
repeat_in (escaping ps) = None
repeat_in (past_atom p) = Some p
repeat_in (past_repeat p) = Some p

-- the path, where no parenthesis is open
abbrev pub whole_in : Frame → List Frame → Option Spelled → Option Spelled
whole_in f [] (Some p) = Some (path_in f p)
whole_in f [] None = None
whole_in f (g ∷ o) m = None

-- the path that has been read, where it may end in the state
abbrev pub whole : State → Option Spelled
whole s = whole_in s.here s.outer (repeat_in s.mode)

-- the state before a text
abbrev pub first : State
first = at empty [] start

-- the path that the machine reads
abbrev pub read_of : List ℕ → Option Spelled
read_of x = option_and_then whole (run first x)
