-- A document that was mounted alone.
use Rattle.std.specs.Prelude.{◌≡◌, ℕ, false, List, [], ◌∷◌}
use Rattle.mix_tree.specs.Forest.{LabelledTree}
use Rattle.bracket_text.specs.Stands.{SpellsTree}
use Rattle.mix_io.specs.Views.{FilesView}
use Rattle.mix_mount.specs.declared.mount.Mount.{Mount}
use Rattle.mix_mount.specs.declared.mounted.Mounted.{Mounted}
use Rattle.mix_mount.specs.Mounts.{IsAlone, docs_of, mounted_in}
use Rattle.table_keep.specs.declared.no_tables.NoTables.{NoTables}
use Rattle.table_keep.specs.Untold.{no_tables_view}
use Rattle.mix_place.specs.Mounting.{IsMountedFile}

-- the only mounted source is the document that a file spells, which gives one child at a time
pub record IsMounted (files : FilesView) (path : List ℕ) (source : Mounted NoTables) : Type 0 where
  pub mount : Mount
  pub only : docs_of source ≡ mount ∷ []
  pub file : IsMountedFile SpellsTree files path 1 false mount

-- a given tree is the only document that is mounted
abbrev pub IsOnly : Mounted NoTables → LabelledTree → Type 0
IsOnly source t = IsAlone (mounted_in no_tables_view source) t
