-- Reading identifiers byte by byte.
use Rattle.std.specs.Prelude.{ℕ, zero, suc, ◌+◌, ◌-◌, ◌*◌, ◌^◌, nat_lt, Bool, true, false, cond, ◌==◌, ◌&&◌, List, [], ◌∷◌, ◌++◌, Option, Some, None, option_and_then}
use Rattle.mix_base.specs.Runs.{run_by}
use Rattle.mix_tree.specs.LabelOrder.{is_digit}
use Rattle.node_text.specs.Node.{LevelValue, level, NodeValue, node}

-- what stands before a number: whole levels, each with a slash; in a level's parentheses whole places, each with a comma, and numbers of a place,
-- each with a dot; after the levels and a colon numbers of a place, each with a dot
pub data Part : Type 0 where
  piece : (levels : List LevelValue) → Part
  tuple : (levels : List LevelValue) → (number : ℕ) → (places : List (List ℕ)) → (steps : List ℕ) → Part
  inside : (levels : List LevelValue) → (steps : List ℕ) → Part

-- what has been read: the text of the root; a level with closed parentheses, after others; a number so far, or none of it
pub data State : Type 0 where
  root : State
  closed : (levels : List LevelValue) → (number : ℕ) → (places : List (List ℕ)) → State
  at : Part → (number : Option ℕ) → State

-- levels with one more at the end
abbrev pub with_level : List LevelValue → ℕ → List (List ℕ) → List LevelValue
with_level ls n ps = ls ++ level n ps ∷ []

-- the numbers of a place with one more at the end
abbrev pub with_step : List ℕ → ℕ → List ℕ
with_step steps n = steps ++ n ∷ []

-- places with one more at the end
abbrev pub with_place : List (List ℕ) → List ℕ → List (List ℕ)
with_place ps p = ps ++ p ∷ []

-- the number, if it has 64 bits
abbrev pub if_small : ℕ → Option ℕ
if_small n = cond (nat_lt n (2 ^ 64)) (Some n) None

-- the number with one more digit; none after a leading zero
abbrev pub longer : Option ℕ → ℕ → Option ℕ
longer None d = Some d
longer (Some zero) d = None
longer (Some (suc n)) d = if_small (suc n * 10 + d)

-- the number with one more byte; none where no number goes on so
abbrev pub with_digit : Option ℕ → ℕ → Option ℕ
with_digit number b = cond (is_digit b) (longer number (b - 48)) None

-- nothing was read before this number
abbrev pub is_start : Part → Bool
is_start (piece []) = true
is_start (piece (l ∷ ls)) = false
is_start (tuple ls n ps steps) = false
is_start (inside ls steps) = false

-- the state after a byte that stands where a number must begin and is no digit
abbrev pub begin : Part → ℕ → Option State
begin part b = cond (is_start part && b == 45) (Some root) None

-- the state after a byte that ends a level
abbrev pub after_level : List LevelValue → ℕ → List (List ℕ) → ℕ → Option State
after_level ls n ps b =
    cond (b == 47) (Some (at (piece (with_level ls n ps)) None)) (cond (b == 58) (Some (at (inside (with_level ls n ps) []) None)) None)

-- the state after a byte that ends a number
abbrev pub after_number : Part → ℕ → ℕ → Option State
after_number (piece ls) n b = cond (b == 40) (Some (at (tuple ls n [] []) None)) (after_level ls n [] b)
after_number (tuple ls k ps steps) n b =
    cond (b == 46) (Some (at (tuple ls k ps (with_step steps n)) None))
    (cond (b == 44) (Some (at (tuple ls k (with_place ps (with_step steps n)) []) None))
    (cond (b == 41) (Some (closed ls k (with_place ps (with_step steps n)))) None))
after_number (inside ls steps) n b = cond (b == 46) (Some (at (inside ls (with_step steps n)) None)) None

-- the state after a byte that is no digit, whether a number stands before it or not
abbrev pub after : Part → Option ℕ → ℕ → Option State
after part None b = begin part b
after part (Some n) b = after_number part n b

-- the state at a longer number, or else another one
abbrev pub or_else : Part → Option ℕ → Option State → Option State
or_else part None other = other
or_else part (Some n) other = Some (at part (Some n))

-- the state after one more byte
abbrev pub step : State → ℕ → Option State
step root b = None
step (closed ls n ps) b = after_level ls n ps b
step (at part number) b = or_else part (with_digit number b) (after part number b)

-- the state after a text
abbrev pub run : State → List ℕ → Option State
run = run_by step

-- the identifier whose text ends with a number
abbrev pub whole_number : Part → ℕ → Option NodeValue
whole_number (piece ls) n = Some (node (with_level ls n []) [])
whole_number (tuple ls k ps steps) n = None
whole_number (inside ls steps) n = Some (node ls (with_step steps n))

-- the identifier that has been read up to a number, or where one must come; none there
abbrev pub whole_at : Part → Option ℕ → Option NodeValue
whole_at part None = None
whole_at part (Some n) = whole_number part n

-- the identifier that has been read, where it may end there
abbrev pub whole : State → Option NodeValue
whole root = Some (node [] [])
whole (closed ls n ps) = Some (node (with_level ls n ps) [])
whole (at part number) = whole_at part number

-- the state before a text
abbrev pub first : State
first = at (piece []) None

-- the identifier that the machine reads
abbrev pub read_of : List ℕ → Option NodeValue
read_of x = option_and_then whole (run first x)
