-- What the text of a source's file stands for, by the kind of the source.
use Rattle.std.specs.Prelude.{ℕ, Bool, true, false, List, Option, Some, None}
use Rattle.mix_tree.specs.Forest.{LabelledTree}
use Rattle.mix_io.specs.Views.{FilesView}
use Rattle.bracket_text.specs.Stands.{SpellsTree}
use Rattle.csv_wrap.specs.Stands.{HoldsRows}
use Rattle.json_text.specs.Stands.{HoldsValue}
use Rattle.mix_catalog.specs.declared.source.SourceKind.{SourceKind}
use Rattle.mix_catalog.specs.declared.source.SourceKind.TheVariants.{Bracket, Csv, Table, Remote, Json, View}
use Rattle.mix_catalog.specs.declared.source.SourceSpec.{SourceSpec}
use Rattle.mix_catalog.specs.Grammar.{file_of}
use Rattle.far_keep.specs.declared.far_source.FarSource.{FarSource}
use Rattle.mix_place.specs.declared.refusal.FileFault.{FileFault}
use Rattle.mix_place.specs.Causes.{IsRead, IsNoTree, IsNoCsv, IsNoJson}

-- whether a source of a kind is a file that holds its document, read whole: a table, a source of another machine and a view are none
abbrev pub is_file_of : SourceKind → Bool
is_file_of (Bracket file deep) = true
is_file_of (Csv file columns) = true
is_file_of (Table file table key columns) = false
is_file_of (Remote replies requests number) = false
is_file_of (Json file) = true
is_file_of (View file) = false

-- the source of another machine that a source of a kind is
abbrev pub far_in : SourceKind → Option FarSource
far_in (Bracket file deep) = None
far_in (Csv file columns) = None
far_in (Table file table key columns) = None
far_in (Remote replies requests number) = Some (record { replies = replies; requests = requests; number = number })
far_in (Json file) = None
far_in (View file) = None

-- the tree that a text stands for as the file of a source of this name and kind; that of a table, of another machine or of a view stands for none
abbrev pub StandsFor : List ℕ → SourceKind → List ℕ → LabelledTree → Type 0
StandsFor name (Bracket file deep) = SpellsTree
StandsFor name (Csv file columns) = HoldsRows name columns
StandsFor name (Table file table key columns) = λ text t. ⊥
StandsFor name (Remote replies requests number) = λ text t. ⊥
StandsFor name (Json file) = HoldsValue name
StandsFor name (View file) = λ text t. ⊥

-- a fault says why a text stands for no tree as the file of a source of a given kind
abbrev pub StandsForNone : SourceKind → List ℕ → FileFault → Type 0
StandsForNone (Bracket file deep) = IsNoTree
StandsForNone (Csv file columns) = IsNoCsv columns
StandsForNone (Table file table key columns) = λ text fault. ⊥
StandsForNone (Remote replies requests number) = λ text fault. ⊥
StandsForNone (Json file) = IsNoJson
StandsForNone (View file) = λ text fault. ⊥

-- whether a source of a kind gives the children of a node as whole subtrees: rows are given so; of another machine's, and of a view's, nothing is said
abbrev pub is_deep : SourceKind → Bool
is_deep (Bracket file deep) = deep
is_deep (Csv file columns) = true
is_deep (Table file table key columns) = true
is_deep (Remote replies requests number) = false
is_deep (Json file) = false
is_deep (View file) = false

-- a file was read whole, and its text stands for a tree by what texts of its kind stand for
pub record IsDocument (Stands : List ℕ → LabelledTree → Type 0) (files : FilesView) (path : List ℕ) (t : LabelledTree) : Type 0 where
  pub text : List ℕ
  pub read : IsRead files path text
  pub stands : Stands text t

-- the file of a source was read whole and stands for the source's document
abbrev pub IsSourceDocument : FilesView → SourceSpec → LabelledTree → Type 0
IsSourceDocument files spec t = IsDocument (StandsFor spec.name spec.kind) files (file_of spec.kind) t
