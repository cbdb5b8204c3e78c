-- What a scan keeps of the machine's state: how many parentheses are open, and the place.
use Rattle.std.specs.Prelude.{ℕ, zero, suc, ◌+◌, Bool, true, false, cond, ◌==◌, ◌&&◌, length, Option, Some, None}
use Rattle.mix_tree.specs.LabelGrammar.{is_escape}
use Rattle.mix_tree.specs.Names.{is_name_byte}
use Rattle.path_expr.specs.Grammar.{is_mark}
use Rattle.path_expr.specs.Machine.{Mode, start, naming, quoting, escaping, past_atom, past_repeat, State}
use Rattle.path_expr.specs.declared.scan.Stage.{Stage}
use Rattle.path_expr.specs.declared.scan.Stage.TheVariants.{Start, Naming, Quoting, Escaping, PastAtom, PastRepeat}
use Rattle.path_expr.specs.declared.scan.Scan.{Scan}

-- the scan with this many open parentheses at this stage
abbrev pub shape : ℕ → Stage → Scan
shape n p = record { depth = n; stage = p }

-- what stands before the next byte
abbrev pub stage_of : Mode → Stage
stage_of start = Start
stage_of (naming l) = Naming
stage_of (quoting ps) = Quoting
stage_of (escaping ps) = Escaping
stage_of (past_atom p) = PastAtom
stage_of (past_repeat p) = PastRepeat

-- what a scan keeps of a state
abbrev pub shape_of : State → Scan
shape_of s = shape (length s.outer) (stage_of s.mode)

-- what a scan keeps after a closing parenthesis
abbrev pub shape_close : ℕ → Option Scan
shape_close zero = None
shape_close (suc n) = Some (shape n PastAtom)

-- what a scan keeps after a byte that ends a member
abbrev pub shape_after : ℕ → ℕ → Option Scan
shape_after n b = cond (b == 46) (Some (shape n Start)) (cond (b == 124) (Some (shape n Start)) (cond (b == 41) (shape_close n) None))

-- what a scan keeps after a byte that marks an atom or ends it
abbrev pub shape_atom : ℕ → ℕ → Option Scan
shape_atom n b = cond (is_mark b) (Some (shape n PastRepeat)) (shape_after n b)

-- what a scan keeps after one more byte
abbrev pub shape_in : ℕ → Stage → ℕ → Option Scan
shape_in n Start b =
    cond (is_name_byte b) (Some (shape n Naming)) (cond (b == 34) (Some (shape n Quoting)) (cond (b == 40) (Some (shape (n + 1) Start)) None))
shape_in n Naming b = cond (is_name_byte b) (Some (shape n Naming)) (shape_atom n b)
shape_in n Quoting b = cond (b == 34) (Some (shape n PastAtom)) (cond (b == 92) (Some (shape n Escaping)) (Some (shape n Quoting)))
shape_in n Escaping b = cond (is_escape b) (Some (shape n Quoting)) None
shape_in n PastAtom b = shape_atom n b
shape_in n PastRepeat b = shape_after n b

-- what a scan keeps after one more byte
abbrev pub shape_step : Scan → ℕ → Option Scan
shape_step s b = shape_in s.depth s.stage b

-- whether a member may end at the stage
abbrev pub may_end : Stage → Bool
may_end Start = false
may_end Naming = true
may_end Quoting = false
may_end Escaping = false
may_end PastAtom = true
may_end PastRepeat = true

-- whether a path may end where the scan stands
abbrev pub is_whole : Scan → Bool
is_whole s = may_end s.stage && s.depth == 0
