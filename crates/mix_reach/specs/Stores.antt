-- What tables and sources of other machines mean together.
use Rattle.far_keep.specs.Views.{FarsView, KeepsFars}
use Rattle.mix_reach.specs.Reach.{Reaching}
use Rattle.mix_reach.specs.declared.stores.Stores.{Stores}
use Rattle.table_keep.specs.Views.{KeepsTables, TablesView}

-- what tables and sources of other machines mean together
pub record StoresView : Type 0 where
  pub tables : TablesView
  pub fars : FarsView

-- what every call keeps of them: the rows of tables and the documents of other machines; no count falls
pub record KeepsStores (old new : StoresView) : Type 0 where
  pub tables : KeepsTables old.tables new.tables
  pub fars : KeepsFars old.fars new.fars

-- what they mean in a state, given what its tables and its sources of other machines mean
abbrev pub stores_in : {T R : Type 0} → (T → TablesView) → (R → FarsView) → Stores T R → StoresView
stores_in view far s = record { tables = view s.tables; fars = far s.fars }

-- the stores of sources that are reached
abbrev pub stores_of : Reaching → StoresView
stores_of r = record { tables = r.mounted.tables; fars = r.fars }
