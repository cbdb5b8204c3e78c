-- Why a file is not what a source declares.
use Rattle.std.proofs.Common.{◌≡◌, ℕ, List, subst, sym}
use Rattle.csv_wrap.specs.declared.fault.CsvFault.{CsvFault}
use Rattle.mix_catalog.specs.declared.source.SourceKind.{SourceKind}
use Rattle.mix_catalog.specs.declared.source.SourceKind.TheVariants.{Bracket, Csv, Table, Remote, Json, View}
use Rattle.mix_io.specs.Views.{FilesView}
use Rattle.mix_place.specs.Causes.{IsCause, IsNoCsv, IsNoJson, IsNoTree, IsRead}
use Rattle.mix_place.specs.Documents.{StandsForNone}
use Rattle.mix_place.specs.declared.refusal.FileFault.{FileFault}

-- a fault that says why the text that was read of a file is not a source's document is the cause of the file's refusal
pub cause_of : (kind : SourceKind) (old new : FilesView) (path text : List ℕ) (fault : FileFault) → IsRead old path text → StandsForNone kind text fault
    → IsCause (StandsForNone kind) old new path fault
cause_of (Bracket file deep) old new path text fault read h =
    subst (λ (f : FileFault). IsCause IsNoTree old new path f) (sym h.1) (text, read, subst (IsNoTree text) h.1 h)
cause_of (Csv file columns) old new path text fault read h =
    subst (λ (f : FileFault). IsCause (IsNoCsv columns) old new path f) (sym h.1) (text, read, subst (IsNoCsv columns text) h.1 h)
cause_of (Table file table key columns) old new path text fault read h = absurd h
cause_of (Remote replies requests number) old new path text fault read h = absurd h
cause_of (Json file) old new path text fault read h =
    subst (λ (f : FileFault). IsCause IsNoJson old new path f) (sym h.1) (text, read, subst (IsNoJson text) h.1 h)
cause_of (View file) old new path text fault read h = absurd h
