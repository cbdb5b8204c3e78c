-- A machine that reads bracket text byte by byte.
use Rattle.std.specs.Prelude.{ℕ, ◌+◌, Bool, false, cond, ◌==◌, ◌||◌, ◌&&◌, nat_le, List, [], ◌∷◌, ◌++◌, length, Option, Some, None, option_map, option_and_then}
use Rattle.mix_base.specs.Runs.{run_by}
use Rattle.mix_tree.specs.Forest.{none, LabelledTree, forest_of}
use Rattle.mix_tree.specs.Spelling.{is_bare}
use Rattle.mix_tree.specs.LabelMachine as spelled
use Rattle.bracket_text.specs.Grammar.{is_blank}

-- a tree whose bracket is open, with those of its children that are whole
pub record Frame : Type 0 where
  pub label : List ℕ
  pub kids : List LabelledTree

-- what has been read of the tree at hand: nothing where a tree must come; nothing, right after a bracket that opened;
-- a label that is being spelled; a label that has ended; a tree that has ended
pub data Mode : Type 0 where
  start : Mode
  first : Mode
  spelling : spelled.Spot → Mode
  named : List ℕ → Mode
  closed : LabelledTree → Mode

-- the open trees, the innermost first, and the tree at hand
pub record State : Type 0 where
  pub open' : List Frame
  pub mode : Mode

-- the state of these open trees and this mode
abbrev pub at : List Frame → Mode → State
at o m = record { open' = o; mode = m }

-- a tree without children
abbrev pub leaf : List ℕ → LabelledTree
leaf l = record { label = l; kids = none }

-- a comma or a closing bracket after a tree that lies in the innermost open one
abbrev pub after_tree_in : List Frame → LabelledTree → ℕ → Option State
after_tree_in [] t b = None
after_tree_in (f ∷ o) t b =
    cond (b == 44) (Some (at (record { label = f.label; kids = f.kids ++ t ∷ [] } ∷ o) start))
    (cond (b == 93) (Some (at o (closed (record { label = f.label; kids = forest_of (f.kids ++ t ∷ []) })))) None)

-- a byte after a whole tree
abbrev pub after_tree : List Frame → LabelledTree → ℕ → Option State
after_tree o t b = cond (is_blank b) (Some (at o (closed t))) (after_tree_in o t b)

-- the state after a byte that follows a label
abbrev pub after_label : List Frame → List ℕ → ℕ → Option State
after_label o l b =
    cond (is_blank b) (Some (at o (named l)))
    (cond (b == 91) (Some (at (record { label = l; kids = [] } ∷ o) first)) (after_tree o (leaf l) b))

-- the label goes on, or something else follows
abbrev pub or_other : List Frame → Option State → Option spelled.Spot → Option State
or_other o other None = other
or_other o other (Some s) = Some (at o (spelling s))

-- the first byte of a label
abbrev pub begin : List Frame → ℕ → Option State
begin o b = or_other o None (spelled.step spelled.start b)

-- a byte that does not go on the label: it stands after the label, where that may end
abbrev pub after : List Frame → Option (List ℕ) → ℕ → Option State
after o None b = None
after o (Some l) b = after_label o l b

-- a closing bracket with no tree before it
abbrev pub close_empty : List Frame → Option State
close_empty [] = None
close_empty (f ∷ o) = Some (at o (closed (record { label = f.label; kids = forest_of f.kids })))

-- the state after a byte more, by the mode
abbrev pub step_in : List Frame → Mode → ℕ → Option State
step_in o start b = cond (is_blank b) (Some (at o start)) (begin o b)
step_in o first b = cond (is_blank b) (Some (at o first)) (cond (b == 93) (close_empty o) (begin o b))
step_in o (spelling s) b = or_other o (after o (spelled.label_in s) b) (spelled.step s b)
step_in o (named l) b = after_label o l b
step_in o (closed t) b = after_tree o t b

-- a byte more; None where it can't stand there
abbrev pub step : State → ℕ → Option State
step s b = step_in s.open' s.mode b

-- the state after some bytes more
abbrev pub run : State → List ℕ → Option State
run = run_by step

-- the tree at hand, where one may end there
abbrev pub tree_in : Mode → Option LabelledTree
tree_in start = None
tree_in first = None
tree_in (spelling s) = option_map leaf (spelled.label_in s)
tree_in (named l) = Some (leaf l)
tree_in (closed t) = Some t

-- the tree at hand, where no other is open
abbrev pub whole_in : List Frame → Mode → Option LabelledTree
whole_in [] m = tree_in m
whole_in (f ∷ o) m = None

-- the tree that was read, at the end of a text
abbrev pub whole : State → Option LabelledTree
whole s = whole_in s.open' s.mode

-- the state before a text
abbrev pub empty : State
empty = at [] start

-- the tree that the machine reads
abbrev pub tree_of : List ℕ → Option LabelledTree
tree_of text = option_and_then whole (run empty text)

-- a label begins with the byte
abbrev pub begins : ℕ → Bool
begins b = is_bare b || b == 34

-- a label begins with the byte below 200 open trees, by the mode
abbrev pub is_deep_in : List Frame → Mode → ℕ → Bool
is_deep_in o start b = begins b && nat_le 200 (length o)
is_deep_in o first b = begins b && nat_le 200 (length o)
is_deep_in o (spelling s) b = false
is_deep_in o (named l) b = false
is_deep_in o (closed t) b = false

-- a label begins with the byte below 200 open trees
abbrev pub is_deep : State → ℕ → Bool
is_deep s b = is_deep_in s.open' s.mode b

-- what the machine says of a text: a tree, the place of a byte that does not fit, the place of a label that lies too deep, or
-- that the text ends too early
pub data Verdict : Type 0 where
  reads : LabelledTree → Verdict
  unexpected : ℕ → Verdict
  too_deep : ℕ → Verdict
  ends : Verdict

-- what the machine says at the end of a text: the tree that was read, or that the text ends too early
abbrev pub at_end : Option LabelledTree → Verdict
at_end None = ends
at_end (Some t) = reads t

-- a byte that fits leads to what is said of the rest
abbrev pub or_stop : (State → Verdict) → Verdict → Option State → Verdict
or_stop goes_on stop None = stop
or_stop goes_on stop (Some t) = goes_on t

-- what the machine says of a text that stands at a place, from a state on
abbrev pub verdict : State → ℕ → List ℕ → Verdict
verdict s i [] = at_end (whole s)
verdict s i (b ∷ x) = cond (is_deep s b) (too_deep i) (or_stop (λ t. verdict t (i + 1) x) (unexpected i) (step s b))
