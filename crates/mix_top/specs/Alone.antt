-- Stores without a source of another machine.
use Rattle.std.specs.Prelude.{ℕ}
use Rattle.far_keep.specs.Untold.{untold_fars}
use Rattle.mix_reach.specs.Stores.{StoresView}
use Rattle.table_keep.specs.Views.{TablesView}

-- what stores mean that have tables alone: each source of another machine is untold, and failed so often
abbrev pub tables_alone : TablesView → ℕ → StoresView
tables_alone tables faults = record { tables = tables; fars = untold_fars faults }
