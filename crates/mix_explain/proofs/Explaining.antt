-- Refusals that are explained.
use Rattle.std.proofs.Common.{◌≡◌, ◌≤◌, ℕ, List, [], IfSome, Option, Some, None, refl, sym, length}
use Rattle.mix_base.specs.Counts.{HasRisen}
use Rattle.mix_io.specs.Views.{FilesView}
use Rattle.mix_io.specs.declared.whole.ReadWhole.{ReadWhole}
use Rattle.mix_io.specs.declared.whole.ReadWhole.TheVariants.{Failed, OutOfMemory}
use Rattle.mix_io.specs.declared.whole.ReadWhole.TheVariants as whole
use Rattle.mix_place.specs.declared.refusal.FileFault.{FileFault}
use Rattle.mix_place.specs.declared.refusal.FileFault.TheVariants.{Unread, TooLong}
use Rattle.mix_place.specs.Causes.{IsCause, IsRead, IsTooLong}
use Rattle.mix_explain.specs.declared.explained.Explained.{Explained}
use Rattle.mix_explain.specs.Explained.{ExplainsRefusal, IsRefusalOf, IsSaid, IsUnreadFor}

-- a refusal for a cause, with what is said of it, is explained
pub explained_for :
    (IsNone : List ℕ → FileFault → Type 0) (names : List (List ℕ)) (old new : FilesView) (path : List ℕ) (fault : FileFault) (words : List ℕ) (e : Explained)
    → IsCause IsNone old new path fault → IsSaid names old path fault words → IsRefusalOf path fault words e
    → ExplainsRefusal IsNone names old new path e.status e.lines.items
explained_for IsNone names old new path fault words e cause said h =
    record {
      line = h.1.0;
      refused = record { fault = fault; cause = cause; status_is = h.0; line_is = h.1.1 };
      words = words;
      said = said;
      lines_are = h.1.2;
    }

-- a file that isn't read whole is explained by its refusal alone
pub unread_explained :
    (IsNone : List ℕ → FileFault → Type 0) (names : List (List ℕ)) (old new : FilesView) (path : List ℕ) (fault : ReadWhole) (e : Explained)
    → (fault ≡ Failed → HasRisen (old.faults path) (new.faults path)) → (fault ≡ whole.TooLong → IsTooLong old new path) → IsUnreadFor path fault e
    → ExplainsRefusal IsNone names old new path e.status e.lines.items
unread_explained IsNone names old new path Failed e risen long h = explained_for IsNone names old new path Unread [] e (risen refl) refl h
unread_explained IsNone names old new path whole.TooLong e risen long h = explained_for IsNone names old new path TooLong [] e (long refl) refl h
unread_explained IsNone names old new path OutOfMemory e risen long h = absurd h

-- bytes that are what a file tells are what was read of it
pub read_of : (files : FilesView) (path bytes : List ℕ) → IfSome (files.told path) (λ contents. bytes ≡ contents) → length bytes ≤ 67108864 → IsRead files path bytes
read_of files path bytes told short = record { all = turned (files.told path) told; short = short }
  where
    turned : (o : Option (List ℕ)) → IfSome o (λ contents. bytes ≡ contents) → IfSome o (λ contents. contents ≡ bytes)
    turned None h = h
    turned (Some contents) h = sym h
