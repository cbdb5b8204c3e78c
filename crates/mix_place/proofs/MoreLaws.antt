-- What is read and refused of sources that are mounted beside others.
use Rattle.std.proofs.Common.{◌≡◌, ◌⊎◌, ◌<◌, ◌+◌, inr, IsTrue, ℕ, Bool, List, Some, arith, subst, slice_get}
use Rattle.mix_io.specs.Views.{FilesView}
use Rattle.mix_catalog.specs.declared.source.SourceSpec.{SourceSpec}
use Rattle.mix_catalog.specs.Grammar.{file_of}
use Rattle.mix_mount.specs.declared.mount.Mount.{Mount}
use Rattle.mix_place.specs.Chosen.{AreAccepted, ChosenMayRead}
use Rattle.mix_place.specs.Documents.{StandsForNone}
use Rattle.mix_place.specs.Mounting.{IsMountStop, IsSpecStop, IsStopWhere}
use Rattle.mix_place.specs.Reading.{IsFileBefore, IsFileFor, IsWholeFile, ReadsAmong}
use Rattle.mix_place.specs.declared.refusal.Stop.{Stop}
use Rattle.mix_place.specs.declared.refusal.Stop.TheVariants.{Refused, SinkFailed, OutOfMemory}
use Rattle.mix_place.proofs.LoadLaws.{refused_after}
use Rattle.mix_place.proofs.MountLaws.{IsSteady}
use Rattle.mix_place.proofs.Needs.{AreBesideTo, beside_accepted}
use Rattle.mix_place.proofs.ReadingLaws.{reads_twice, reads_wider}

-- where the files of the sources before a number alone were read, and they were mounted beside others, sources were read as allowed
pub beside_reads : (old new : FilesView) (chosen : ℕ → Bool) (sources : List SourceSpec) (n : ℕ) (before docs : List Mount) → AreBesideTo old chosen sources n before docs → ReadsAmong (IsFileBefore chosen sources n) old new
    → ReadsAmong (ChosenMayRead old chosen sources) old new
beside_reads old new chosen sources n before docs h reads =
    reads_wider (IsFileBefore chosen sources n) (ChosenMayRead old chosen sources) old new (λ path is. (is.0, is.1, is.3, is.4, accepted is.0 is.2)) reads
  where
    accepted : (k : ℕ) → k < n → AreAccepted old chosen sources k
    accepted k less = λ j spec below. beside_accepted old chosen sources n before docs h j spec (omega (arith, less, below))

-- where the files of the sources before it alone were read and then the next source's file, sources were read as allowed
pub more_reads : (old mid new : FilesView) (chosen : ℕ → Bool) (sources : List SourceSpec) (n : ℕ) (before docs : List Mount) (spec : SourceSpec) (added : Bool) → AreBesideTo old chosen sources n before docs
    → slice_get sources n ≡ Some spec → ReadsAmong (IsFileBefore chosen sources n) old mid → added ≡ chosen n → ReadsAmong (λ path. IsTrue added × IsWholeFile spec path) mid new → ReadsAmong (ChosenMayRead old chosen sources) old new
more_reads old mid new chosen sources n before docs spec added h there earlier is now =
    let May = ChosenMayRead old chosen sources in
    reads_twice May old mid new (beside_reads old mid chosen sources n before docs h earlier)
    (reads_wider (IsFileFor chosen n spec) May mid new (λ path own. (n, spec, there, own, beside_accepted old chosen sources n before docs h))
    (subst (λ (b : Bool). ReadsAmong (λ path. IsTrue b × IsWholeFile spec path) mid new) is now))

-- where the next source is refused, the mounting of the sources stops
pub more_stops : (old mid new : FilesView) (chosen : ℕ → Bool) (sources : List SourceSpec) (n : ℕ) (before docs : List Mount) (spec : SourceSpec) (added : Bool) (stop : Stop) → IsSteady old mid
    → AreBesideTo old chosen sources n before docs → slice_get sources n ≡ Some spec → ReadsAmong (IsFileBefore chosen sources n) old mid → added ≡ chosen n → IsStopWhere mid new added spec stop
    → ReadsAmong (λ path. IsTrue added × IsWholeFile spec path) mid new → IsMountStop old new chosen sources stop
more_stops old mid new chosen sources n before docs spec added (Refused r) steady h there earlier is stop now = record {
  number = n;
  spec = spec;
  there = there;
  read = subst (λ (b : Bool). IsTrue b) is stop.0;
  file = stop.1.0;
  earlier = beside_accepted old chosen sources n before docs h;
  refused = refused_after (λ p. ⊥ ⊎ IsFileBefore chosen sources n p) (StandsForNone spec.kind) old mid new (file_of spec.kind) _ _ steady.keeps steady.faults
      (reads_wider (IsFileBefore chosen sources n) (λ p. ⊥ ⊎ IsFileBefore chosen sources n p) old mid (λ p is. inr is) earlier) stop.1.1 (λ p unset. now p (λ own. unset own.1.1));
}
more_stops old mid new chosen sources n before docs spec added SinkFailed steady h there earlier is stop now = absurd stop.1
more_stops old mid new chosen sources n before docs spec added OutOfMemory steady h there earlier is stop now = tt
