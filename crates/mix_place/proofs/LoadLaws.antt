-- How the stop of one call is that of the call around it, and what a later moment says of an earlier one.
use Rattle.std.proofs.Common.{◌≡◌, ◌<◌, ◌∙◌, ℕ, List, Option, IfSome, Err, refl, subst, length}
use Rattle.mix_base.specs.Counts.{HasRisen}
use Rattle.mix_io.specs.Views.{FilesView, KeepsFiles, ReadsOnly}
use Rattle.mix_place.specs.declared.refusal.FileFault.{FileFault}
use Rattle.mix_place.specs.declared.refusal.FileFault.TheVariants.{Unread, TooLong, Document, Csv, Json, Catalog, Script, View, Plan}
use Rattle.mix_place.specs.declared.refusal.Stop.{Stop}
use Rattle.mix_place.specs.declared.refusal.Stop.TheVariants.{Refused, SinkFailed, OutOfMemory}
use Rattle.mix_place.specs.Causes.{IsRead, IsNotAccepted, IsNoBytes, RefusesScript, IsCause}
use Rattle.mix_script.specs.Steps.{steps_of}
use Rattle.mix_script.specs.declared.step.Forms.{Forms}
use Rattle.mix_script.specs.declared.script.ScriptFault.{ScriptFault}
use Rattle.mix_script.specs.declared.script.ScriptFault.TheVariants as script
use Rattle.mix_place.specs.Files.{IsRefused, IsRefusedLast}
use Rattle.mix_place.specs.Reading.{ReadsAmong}
use Rattle.mix_place.proofs.ReadingLaws.{reads_more}
use Rattle.mix_place.specs.Stops.{IsStopFor, IsLoadStop}

-- a file that is refused for a cause was not loaded
pub load_stop : (IsNone : List ℕ → FileFault → Type 0) (old new : FilesView) (path : List ℕ) (fault : FileFault) (stop : Stop) → IsStopFor path fault stop
    → IsCause IsNone old new path fault → IsLoadStop IsNone old new path stop
load_stop IsNone old new path fault (Refused r) h cause = record { fault = fault; cause = cause; status_is = h.0; line_is = h.1 }
load_stop IsNone old new path fault SinkFailed h cause = h
load_stop IsNone old new path fault OutOfMemory h cause = h

-- a file that could not be read, or is too long, is refused whatever its kind
pub load_stop_unread : (IsNone : List ℕ → FileFault → Type 0) (old new : FilesView) (path : List ℕ) (stop : Stop) → IsLoadStop IsNoBytes old new path stop
    → IsLoadStop IsNone old new path stop
load_stop_unread IsNone old new path (Refused r) h =
    record { fault = h.fault; cause = cause h.fault h.cause; status_is = h.status_is; line_is = h.line_is }
  where
    cause : (fault : FileFault) → IsCause IsNoBytes old new path fault → IsCause IsNone old new path fault
    cause Unread k = k
    cause TooLong k = k
    cause (Document e) k = absurd k.2
    cause (Csv e) k = absurd k.2
    cause (Json e) k = absurd k.2
    cause (Catalog e) k = absurd k.2
    cause (Script e) k = absurd k.2
    cause (View e) k = absurd k.2
    cause (Plan e) k = absurd k.2
load_stop_unread IsNone old new path SinkFailed h = h
load_stop_unread IsNone old new path OutOfMemory h = h

-- a text that is no script is refused for this fault
pub script_refused : (forms : Forms) (text : List ℕ) (e : ScriptFault) → ((n : ℕ) → e ≡ script.Line n → steps_of forms text ≡ Err n) → RefusesScript forms text e
script_refused forms text (script.Line n) h = h n refl
script_refused forms text script.OutOfMemory h = tt

-- what was read of a file later was there before
pub read_before : (old mid : FilesView) (path text : List ℕ) → mid.told path ≡ old.told path → IsRead mid path text → IsRead old path text
read_before old mid path text told h = record { all = subst (λ (o : Option (List ℕ)). IfSome o (λ contents. contents ≡ text)) told h.all; short = h.short }

-- a file whose text is not accepted at a later moment was one already at an earlier moment at which it told the same
not_accepted_before : (IsNone : List ℕ → FileFault → Type 0) (old mid : FilesView) (path : List ℕ) (fault : FileFault) → mid.told path ≡ old.told path
    → IsNotAccepted IsNone mid path fault → IsNotAccepted IsNone old path fault
not_accepted_before IsNone old mid path fault told h = (h.0, read_before old mid path h.0 told h.1, h.2)

-- a cause that stands from a later moment on stands from an earlier one on, where no read failed between them
pub cause_before : (IsNone : List ℕ → FileFault → Type 0) (old mid new : FilesView) (path : List ℕ) (fault : FileFault) → mid.told path ≡ old.told path
    → mid.faults path ≡ old.faults path → IsCause IsNone mid new path fault → IsCause IsNone old new path fault
cause_before IsNone old mid new path Unread told steady h = subst (λ n. HasRisen n (new.faults path)) steady h
cause_before IsNone old mid new path TooLong told steady h =
    record {
      unfailed = h.unfailed ∙ steady;
      long = subst (λ (o : Option (List ℕ)). IfSome o (λ contents. 67108864 < length contents)) told h.long;
      far = h.far;
    }
cause_before IsNone old mid new path (Document e) told steady h = not_accepted_before IsNone old mid path (Document e) told h
cause_before IsNone old mid new path (Csv e) told steady h = not_accepted_before IsNone old mid path (Csv e) told h
cause_before IsNone old mid new path (Json e) told steady h = not_accepted_before IsNone old mid path (Json e) told h
cause_before IsNone old mid new path (Catalog e) told steady h = not_accepted_before IsNone old mid path (Catalog e) told h
cause_before IsNone old mid new path (Script e) told steady h = not_accepted_before IsNone old mid path (Script e) told h
cause_before IsNone old mid new path (View e) told steady h = not_accepted_before IsNone old mid path (View e) told h
cause_before IsNone old mid new path (Plan e) told steady h = not_accepted_before IsNone old mid path (Plan e) told h

-- a refusal from a later moment on is one from an earlier one on, where no read failed between them
pub refused_before : (IsNone : List ℕ → FileFault → Type 0) (old mid new : FilesView) (path : List ℕ) (status : ℕ) (line : List ℕ) → KeepsFiles old mid
    → ((p : List ℕ) → mid.faults p ≡ old.faults p) → IsRefused IsNone mid new path status line → IsRefused IsNone old new path status line
refused_before IsNone old mid new path status line keeps steady h =
    record { fault = h.fault; cause = cause_before IsNone old mid new path h.fault (keeps.told path) (steady path) h.cause; status_is = h.status_is; line_is = h.line_is }

-- a refusal from a later moment on, up to which given files were read, is one after these from an earlier one on, where no read failed between them
pub refused_after : (Before : List ℕ → Type 0) (IsNone : List ℕ → FileFault → Type 0) (old mid new : FilesView) (path : List ℕ) (status : ℕ) (line : List ℕ) → KeepsFiles old mid
    → ((p : List ℕ) → mid.faults p ≡ old.faults p) → ReadsAmong Before old mid → IsRefused IsNone mid new path status line → ReadsOnly path mid new → IsRefusedLast Before IsNone old new path status line
refused_after Before IsNone old mid new path status line keeps steady reads h only =
    (refused_before IsNone old mid new path status line keeps steady h, reads_more Before (λ p. p ≡ path) old mid new reads only)
