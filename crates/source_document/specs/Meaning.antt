-- What a mounted document means over tables.
use Rattle.std.specs.Prelude.{◌≡◌, ℕ, ◌+◌, ◌≤◌, Bool, true, false, Option, Some, None, refl}
use Rattle.mix_tree.specs.Forest.{Forest}
use Rattle.lxp_core.specs.declared.open_tree.HoleId.{HoleId}
use Rattle.lxp_core.specs.Fill.{Piecewise}
use Rattle.table_keep.specs.Views.{Declared, TablesView, KeepsTables, unasked}

-- the meaning of a document whose rows may be asked of tables
pub record Meaning : Type 0 where
  -- the hole that stands for the whole document
  pub root : HoleId
  -- whether a hole is known
  pub knows : HoleId → Bool
  -- the weight of a known hole
  pub weight : HoleId → ℕ
  -- whether it is told, by what tables mean
  pub told : TablesView → Bool
  -- the trees that a known hole of a told document stands for, by what tables mean
  pub forest : TablesView → HoleId → Forest
  -- the declared table of which its rows are asked, where there is one
  pub table : Option Declared
  -- whether a fill of a hole asks a page of that table
  pub asks : HoleId → Bool
  -- how many rows a page has at most
  pub rows : ℕ

-- how often a document failed: as often as a page of its table did, and never where it has none
abbrev pub faults_of : TablesView → Option Declared → ℕ
faults_of v None = 0
faults_of v (Some t) = v.faults t

-- what a document means as one that is given piece by piece, over given tables: each list is forward and small
abbrev pub over : Meaning → TablesView → Piecewise
over m v = record {
  told = m.told v;
  knows = m.knows;
  forest = m.forest v;
  weight = m.weight;
  forward = true;
  small = true;
  faults = faults_of v m.table;
}

-- what a document means as one that is given piece by piece, where there are no tables
abbrev pub without_tables : Meaning → Piecewise
without_tables m = over m (unasked (λ d. None))

-- the meaning of a document that lies in memory: it is told, and asks no table
abbrev pub in_memory : HoleId → (HoleId → Bool) → (HoleId → ℕ) → (HoleId → Forest) → Meaning
in_memory root knows weight forest = record {
  root = root;
  knows = knows;
  weight = weight;
  told = λ v. true;
  forest = λ v. forest;
  table = None;
  asks = λ h. false;
  rows = 0;
}

-- the trees of a whole document
abbrev pub document : TablesView → Meaning → Forest
document v m = m.forest v m.root

-- where tables keep what every call keeps, a document is told as before, and its holes stand for the same trees
pub record IsKept (m : Meaning) : Type 0 where
  pub told : (old new : TablesView) → KeepsTables old new → m.told new ≡ m.told old
  pub forest : (old new : TablesView) → KeepsTables old new → m.forest new ≡ m.forest old

-- a document in memory means the same over all tables
pub in_memory_kept : (root : HoleId) (knows : HoleId → Bool) (weight : HoleId → ℕ) (forest : HoleId → Forest) → IsKept (in_memory root knows weight forest)
in_memory_kept root knows weight forest = record { told = λ old new k. refl; forest = λ old new k. refl }

-- at most one page was asked, of at most so many rows
pub record IsPaged (most : ℕ) (old new : TablesView) : Type 0 where
  pub at_most_one : new.pages ≤ old.pages + 1
  pub at_most_rows : new.rows ≤ old.rows + most
