-- What is said of sources, one after another.
use Rattle.std.proofs.Common.{◌≡◌, ◌∙◌, ◌+◌, ◌++◌, ℕ, Bool, List, Option, Some, add-one, arith, refl, subst, sym, slice_get}
use Rattle.mix_catalog.specs.declared.source.SourceSpec.{SourceSpec}
use Rattle.mix_io.proofs.Keeps.{keeps_files_same, keeps_files_twice}
use Rattle.source_checks.specs.Checks.{Keeps, Moment, SaysAt, SaysSources, SaysWhere}
use Rattle.table_keep.specs.Views.{KeepsTables, TablesView}

-- tables of which no page is asked keep everything
pub keeps_tables_same : (tables : TablesView) → KeepsTables tables tables
keeps_tables_same tables = record { told = λ d. refl; pages = omega arith; rows = omega arith; faults = λ d. omega arith }

-- what two calls keep of tables, both together keep
keeps_tables_twice : (old mid new : TablesView) → KeepsTables old mid → KeepsTables mid new → KeepsTables old new
keeps_tables_twice old mid new first second =
    record {
      told = λ d. second.told d ∙ first.told d;
      pages = omega (arith, first.pages, second.pages);
      rows = omega (arith, first.rows, second.rows);
      faults = λ d. omega (arith, first.faults d, second.faults d);
    }

-- where no call is made, files and tables keep everything
pub keeps_same : (m : Moment) → Keeps m m
keeps_same m = record { files = keeps_files_same m.files; tables = keeps_tables_same m.tables }

-- what two calls keep, both together keep
pub keeps_twice : (old mid new : Moment) → Keeps old mid → Keeps mid new → Keeps old new
keeps_twice old mid new first second =
    record {
      files = keeps_files_twice old.files mid.files new.files first.files second.files;
      tables = keeps_tables_twice old.tables mid.tables new.tables first.tables second.tables;
    }

-- lines of the first sources, and those of the next one after them, are lines of one source more
pub says_more :
    (chosen : ℕ → Bool) (sources : List SourceSpec) (n : ℕ) (spec : SourceSpec) (old mid new : Moment) (before after lines : List ℕ)
    → slice_get sources n ≡ Some spec → Keeps old mid → Keeps mid new → SaysSources chosen sources n old mid before
    → SaysWhere (chosen n) spec mid new after → lines ≡ before ++ after → SaysSources chosen sources (n + 1) old new lines
says_more chosen sources n spec old mid new before after lines there first second says said are =
    rw add-one (
      mid,
      first,
      second,
      before,
      says,
      after,
      subst (λ (o : Option SourceSpec). SaysAt (chosen n) o mid new after) (sym there) said,
      are,
    )
