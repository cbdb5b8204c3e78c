-- Sets of positions as the bits of numbers, and the steps between them. The end of a path is one more position.
use Rattle.std.specs.Prelude.{◌≡◌, ◌≢◌, ◌<◌, ℕ, zero, suc, ◌+◌, ◌^◌, Bool, true, false, cond, ◌==◌, ◌&&◌, ◌||◌, List, [], ◌∷◌, ◌++◌, Option, Some, None, ◌↔◌}
use Rattle.std.specs.Int.{bit_at}
use Rattle.std.specs.Int.RustNames.{bit_or}
use Rattle.path_expr.specs.Form.{Head, name, any, seq, alt, star, plus, opt, Paths, none, path, Form}
use Rattle.path_expr.specs.Description.{Labels, How, in_turn, one_of}
use Rattle.path_expr.specs.Count.{count_by, count}
use Rattle.path_auto.specs.Positions.{Position, passes, Takes, listed_by, listed, tests}

-- the set of a path's first positions, where the first of all has number b, and n is the set of what comes after the path
abbrev pub entry_by : Head → (How → ℕ → ℕ → ℕ) → ℕ → ℕ → ℕ
entry_by (name l) e b n = 2 ^ b
entry_by any e b n = 2 ^ b
entry_by seq e b n = e in_turn b n
entry_by alt e b n = e one_of b n
entry_by star e b n = bit_or n (e one_of b n)
entry_by plus e b n = e one_of b n
entry_by opt e b n = bit_or n (e one_of b n)

-- the set of the first positions of paths
abbrev pub entry : Paths → How → ℕ → ℕ → ℕ
entry none in_turn b n = n
entry none one_of b n = 0
entry (path h m after) in_turn b n = entry_by h (entry m) b (entry after in_turn (b + count_by h (count m)) n)
entry (path h m after) one_of b n = bit_or (entry_by h (entry m) b n) (entry after one_of (b + count_by h (count m)) n)

-- for each position of a path, the set of those after it
abbrev pub rows_by : Head → (How → ℕ → ℕ → List ℕ) → (How → ℕ → ℕ → ℕ) → ℕ → ℕ → List ℕ
rows_by (name l) r e b n = n ∷ []
rows_by any r e b n = n ∷ []
rows_by seq r e b n = r in_turn b n
rows_by alt r e b n = r one_of b n
rows_by star r e b n = r one_of b (bit_or n (e one_of b n))
rows_by plus r e b n = r one_of b (bit_or n (e one_of b n))
rows_by opt r e b n = r one_of b n

-- for each position of paths, the set of those after it
abbrev pub rows : Paths → How → ℕ → ℕ → List ℕ
rows none w b n = []
rows (path h m after) in_turn b n =
    rows_by h (rows m) (entry m) b (entry after in_turn (b + count_by h (count m)) n) ++ rows after in_turn (b + count_by h (count m)) n
rows (path h m after) one_of b n = rows_by h (rows m) (entry m) b n ++ rows after one_of (b + count_by h (count m)) n

-- the lists of labels that lead from position i of a list to the end, whose number is the list's length
abbrev pub From : List Position → ℕ → Labels → Type 0
From [] zero x = x ≡ []
From [] (suc i) x = ⊥
From (s ∷ ss) zero x = Takes s x
From (s ∷ ss) (suc i) x = From ss i x

-- the lists of labels that lead to the end from a member of a set, by what leads there from each position
abbrev pub Leads : (ℕ → Labels → Type 0) → ℕ → Labels → Type 0
Leads T n x = (i : ℕ) × (bit_at n i ≡ 1) × T i x

-- what leads to the end from number b is what the first of given positions takes, from b + 1 what the next one takes, and so on
abbrev pub Located : (ℕ → Labels → Type 0) → ℕ → List Position → Type 0
Located T b [] = Unit {0}
Located T b (s ∷ ss) = ((x : Labels) → T b x ↔ Takes s x) × Located T (b + 1) ss

-- a step by a label: the rows of those members, from number b on, at which the label may stand
abbrev pub step_from : List (Option (List ℕ)) → List ℕ → ℕ → ℕ → List ℕ → ℕ
step_from [] rs b n l = 0
step_from (t ∷ ts) [] b n l = 0
step_from (t ∷ ts) (r ∷ rs) b n l = bit_or (cond (bit_at n b == 1 && passes t l) r 0) (step_from ts rs (b + 1) n l)

-- what a position gives to a step by a label: its row, where the label may stand there
abbrev pub row_at : List (Option (List ℕ)) → List ℕ → ℕ → List ℕ → ℕ
row_at [] rs i l = 0
row_at (t ∷ ts) [] i l = 0
row_at (t ∷ ts) (r ∷ rs) zero l = cond (passes t l) r 0
row_at (t ∷ ts) (r ∷ rs) (suc i) l = row_at ts rs i l

-- the least position of a set
pub record IsLeast (n i : ℕ) : Type 0 where
  pub has : bit_at n i ≡ 1
  pub below : (j : ℕ) → j < i → bit_at n j ≡ 0

-- a set without one of its positions
pub record IsWithout (n i m : ℕ) : Type 0 where
  pub gone : bit_at m i ≡ 0
  pub others : (j : ℕ) → j ≢ i → bit_at m j ≡ bit_at n j

-- the number of a path's end
abbrev pub end_of : Form → ℕ
end_of p = count_by p.head (count p.members)

-- the set of a path's first positions
abbrev pub first_set : Form → ℕ
first_set p = entry_by p.head (entry p.members) 0 (2 ^ end_of p)

-- all positions of a path
abbrev pub listed_in : Form → List Position
listed_in p = listed_by p.head p.members (listed p.members) none

-- for each position of a path, the set of those after it
abbrev pub rows_in : Form → List ℕ
rows_in p = rows_by p.head (rows p.members) (entry p.members) 0 (2 ^ end_of p)

-- the set after one more label
abbrev pub step : Form → ℕ → List ℕ → ℕ
step p n l = step_from (tests (listed_in p)) (rows_in p) 0 n l

-- the set after a list of labels
abbrev pub run : Form → ℕ → Labels → ℕ
run p n [] = n
run p n (l ∷ x) = run p (step p n l) x

-- whether the end is in the set
abbrev pub accepts : Form → ℕ → Bool
accepts p n = bit_at n (end_of p) == 1

-- the tests of a path's positions, by those of its members
abbrev pub tests_by : Head → List (Option (List ℕ)) → List (Option (List ℕ))
tests_by (name l) m = Some l ∷ []
tests_by any m = None ∷ []
tests_by seq m = m
tests_by alt m = m
tests_by star m = m
tests_by plus m = m
tests_by opt m = m

-- the tests of paths' positions
abbrev pub tests_of : Paths → List (Option (List ℕ))
tests_of none = []
tests_of (path h m after) = tests_by h (tests_of m) ++ tests_of after

-- whether a head describes any list at all, by whether its members do
abbrev pub some_by : Head → (How → Bool) → Bool
some_by (name l) n = true
some_by any n = true
some_by seq n = n in_turn
some_by alt n = n one_of
some_by star n = true
some_by plus n = n one_of
some_by opt n = true

-- whether paths describe any list at all
abbrev pub some : Paths → How → Bool
some none in_turn = true
some none one_of = false
some (path h m after) in_turn = some_by h (some m) && some after in_turn
some (path h m after) one_of = some_by h (some m) || some after one_of

-- for each position of a path, whether any list leads from after it to the end, where o says so of what comes after the path
abbrev pub lives_by : Head → (How → Bool → List Bool) → Bool → List Bool
lives_by (name l) v o = o ∷ []
lives_by any v o = o ∷ []
lives_by seq v o = v in_turn o
lives_by alt v o = v one_of o
lives_by star v o = v one_of o
lives_by plus v o = v one_of o
lives_by opt v o = v one_of o

-- for each position of paths, whether any list leads from after it to the end
abbrev pub lives : Paths → How → Bool → List Bool
lives none w o = []
lives (path h m after) in_turn o = lives_by h (lives m) (some after in_turn && o) ++ lives after in_turn o
lives (path h m after) one_of o = lives_by h (lives m) o ++ lives after one_of o

-- for each position of a path, whether any list leads from after it to the end
abbrev pub lives_in : Form → List Bool
lives_in p = lives_by p.head (lives p.members) true

-- the set of those of which this holds, from number b on
abbrev pub set_of : List Bool → ℕ → ℕ
set_of [] b = 0
set_of (o ∷ os) b = bit_or (cond o (2 ^ b) 0) (set_of os (b + 1))
