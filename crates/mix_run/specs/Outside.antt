-- What a run finds outside of the program.
use Rattle.mix_io.specs.Views.{FilesView}
use Rattle.mix_reach.specs.Stores.{StoresView}

-- what a run finds outside of the program: files, and stores, which are tables and sources of other machines
pub record Outside : Type 0 where
  pub files : FilesView
  pub stores : StoresView

-- files and stores, as what a run finds outside of the program
abbrev pub outside : FilesView → StoresView → Outside
outside files stores = record { files = files; stores = stores }
