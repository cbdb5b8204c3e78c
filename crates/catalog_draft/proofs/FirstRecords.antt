-- The first record of a file, by what a reader of its text has read.
use Rattle.std.proofs.Common.{◌≡◌, ◌++◌, ℕ, Bool, true, false, List, [], ◌∷◌, Result, Ok, Err}
use Rattle.std.specs.Borrow.{Bor}
use Rattle.std.specs.Prelude.{IfOk, MatchBool}
use Rattle.std.specs.declared.alloc.AllocError.{AllocError}
use Rattle.csv.specs.Reading.{default_config, reader_state, records}
use Rattle.csv.specs.declared.reader.Reader.{Reader}
use Rattle.csv_wrap.specs.Csv.{IsAt, file_records, without_marks}
use Rattle.csv_wrap.proofs.ReachFacts.{file_header}
use Rattle.catalog_draft.specs.Header.{IsFirst}

-- what a first read of a file's text finds is the first record of the file
pub first_is : (bytes : List ℕ) (fields : List (List ℕ)) (reader : Reader (Bor (List ℕ))) (r : Result Bool AllocError)
    → IfOk r (λ more. MatchBool more (IsAt (without_marks bytes) ([] ++ fields ∷ []) reader) (records default_config (without_marks bytes) ≡ [])) → IfOk r (IsFirst bytes fields)
unfolding file_records
first_is bytes fields reader (Ok true) at = file_header bytes fields (reader_state reader) at.3 at.5
first_is bytes fields reader (Ok false) none = none
first_is bytes fields reader (Err e) h = h
