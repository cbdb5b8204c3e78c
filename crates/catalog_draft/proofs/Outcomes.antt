-- What came of writing.
use Rattle.std.proofs.Common.{◌≡◌, ℕ, List, [], ◌∷◌, inr, Result, Ok, Err, None, refl}
use Rattle.std.specs.Prelude.{IfOk, OnOk, Vec}
use Rattle.std.specs.declared.alloc.AllocError.{AllocError}
use Rattle.std.specs.declared.alloc.Global.{Global}
use Rattle.schema_keep.specs.declared.shape.TableShape.{TableShape}
use Rattle.catalog_draft.specs.declared.reasons.Unsaid.{Unsaid}
use Rattle.catalog_draft.specs.declared.reasons.Unsaid.TheVariants.{NotUtf8}
use Rattle.catalog_draft.specs.declared.tables.Written.{Written}
use Rattle.catalog_draft.specs.Header.{AreFields, SaysLine}
use Rattle.catalog_draft.specs.Lines.{file_note, text_of}
use Rattle.catalog_draft.specs.Written.{IsWritten}

-- the line that says that a field is no text is the line for each header with such a field
pub says_none : (path : List ℕ) (r : Result (Vec ℕ Global) AllocError) → IfOk r (λ text. text.items ≡ text_of (file_note path NotUtf8 ∷ []))
    → IfOk r (λ text. (header : List (List ℕ)) → AreFields header None → SaysLine path header text.items)
says_none path (Ok text) e = λ header none. (file_note path NotUtf8, inr (none, refl), e)
says_none path (Err x) h = h

-- what says why no line says a table is what is written of the table
pub noted : (path : List ℕ) (t : TableShape) (d : Result (List ℕ) Unsaid) (why : Unsaid) (old new : Written) (r : Result (Unit {0}) AllocError) → d ≡ Err why
    → OnOk r ((p : List ℕ) → IsWritten p t (Err why) old new) → OnOk r (IsWritten path t d old new)
noted path t d why old new (Ok u) e h = rw e (h path)
noted path t d why old new (Err x) e h = h
