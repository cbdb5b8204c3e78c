-- The automaton of a path: which sets of positions a list of labels leads to, and what a set tells.
use Rattle.std.specs.Prelude.{ℕ, Bool, IsTrue, ◌==◌, not, List, [], ◌∷◌, ◌++◌, Option, length, ◌↔◌}
use Rattle.std.specs.Str.{IsUtf8}
use Rattle.std.specs.Int.{bit_at}
use Rattle.std.specs.Int.RustNames.{bit_and}
use Rattle.path_expr.specs.Form.{Form}
use Rattle.path_expr.specs.Description.{Labels, Describes}
use Rattle.path_auto.specs.Sets.{step_from, tests_by, tests_of, rows_in, lives_in, set_of, first_set}

-- an automaton: the states before any label, a step by a label, whether states accept, and whether they go on
pub record Machine : Type 0 where
  pub start : ℕ
  pub step : ℕ → List ℕ → ℕ
  pub accepts : ℕ → Bool
  pub goes_on : ℕ → Bool

-- the states after a list of labels
abbrev pub steps : Machine → ℕ → Labels → ℕ
steps m n [] = n
steps m n (l ∷ x) = steps m (m.step n l) x

-- the states after a list of labels, from the start
abbrev pub states_after : Machine → Labels → ℕ
states_after m x = steps m m.start x

-- each label is UTF-8
abbrev pub AreTexts : Labels → Type 0
AreTexts [] = Unit {0}
AreTexts (l ∷ x) = IsUtf8 l × AreTexts x

-- the path describes some longer list that begins so and goes on by UTF-8 labels
abbrev pub GoesOn : Form → Labels → Type 0
GoesOn p x = (l : List ℕ) × (y : Labels) × IsUtf8 l × AreTexts y × Describes p (x ++ l ∷ y)

-- the machine follows the path: after a list of labels it accepts exactly where the path describes the list, and goes on where it
-- describes some longer one
pub record Follows (m : Machine) (p : Form) : Type 0 where
  pub accepts : (x : Labels) → IsTrue (m.accepts (states_after m x)) ↔ Describes p x
  pub longer : (x : Labels) (l : List ℕ) (y : Labels) → Describes p (x ++ l ∷ y) → IsTrue (m.goes_on (states_after m x))

-- the machine is the automaton of the path: it follows the path, and goes on only where the path describes some longer list that
-- goes on by UTF-8 labels
pub record IsAutomatonOf (m : Machine) (p : Form) : Type 0 where
  pub follows : Follows m p
  pub goes_on : (x : Labels) → IsTrue (m.goes_on (states_after m x)) → GoesOn p x

-- the table of an automaton: for each position its label (None: any) and the set after it, the set of those from after which
-- some list leads to the end, and the first set
pub record Table : Type 0 where
  pub labels : List (Option (List ℕ))
  pub after : List ℕ
  pub live : ℕ
  pub first : ℕ

-- the machine of a table; the end is the position after the others
unfoldable pub machine_of : Table → Machine
machine_of t = record {
  start = t.first;
  step = λ n l. step_from t.labels t.after 0 n l;
  accepts = λ n. bit_at n (length t.labels) == 1;
  goes_on = λ n. not (bit_and n t.live == 0);
}

-- the table of a path
abbrev pub table_of : Form → Table
table_of p = record { labels = tests_by p.head (tests_of p.members); after = rows_in p; live = set_of (lives_in p) 0; first = first_set p }
