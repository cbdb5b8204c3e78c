-- What is read by calls one after another.
use Rattle.std.proofs.Common.{◌≡◌, ◌⊎◌, ◌<◌, ◌∙◌, ◌+◌, inl, inr, ℕ, Bool, List, Some, arith, subst, sym, slice_get}
use Rattle.mix_io.specs.Views.{FilesView, ReadsOnly}
use Rattle.mix_catalog.specs.declared.source.SourceSpec.{SourceSpec}
use Rattle.mix_place.specs.Reading.{IsFileBefore, IsFileFor, ReadsAmong}

-- what each of two calls may read, both may
pub reads_twice : (May : List ℕ → Type 0) (old mid new : FilesView) → ReadsAmong May old mid → ReadsAmong May mid new → ReadsAmong May old new
reads_twice May old mid new a b = λ path no. b path no ∙ a path no

-- where one file alone was read, and it may be read, only files that may be read were
pub reads_one : (May : List ℕ → Type 0) (path : List ℕ) (old new : FilesView) → May path → ReadsOnly path old new → ReadsAmong May old new
reads_one May path old new may only = λ other no. only other (λ e. no (subst May (sym e) may))

-- what may be read by one rule may be read by a wider one
pub reads_wider : (A B : List ℕ → Type 0) (old new : FilesView) → ((path : List ℕ) → A path → B path) → ReadsAmong A old new → ReadsAmong B old new
reads_wider A B old new wider reads = λ path no. reads path (λ a. no (wider path a))

-- where given files were read and then others, nothing was read but these
pub reads_more : (A B : List ℕ → Type 0) (old mid new : FilesView) → ReadsAmong A old mid → ReadsAmong B mid new → ReadsAmong (λ p. A p ⊎ B p) old new
reads_more A B old mid new first second =
    let May : List ℕ → Type 0 = λ p. A p ⊎ B p in
    reads_twice May old mid new (reads_wider A May old mid (λ path a. inl a) first) (reads_wider B May mid new (λ path b. inr b) second)

-- where the files of the sources before one were read and then its own, the files of all sources before the next were
pub reads_sources : (chosen : ℕ → Bool) (sources : List SourceSpec) (n : ℕ) (spec : SourceSpec) (old mid new : FilesView) → slice_get sources n ≡ Some spec → ReadsAmong (IsFileBefore chosen sources n) old mid
    → ReadsAmong (IsFileFor chosen n spec) mid new → ReadsAmong (IsFileBefore chosen sources (n + 1)) old new
reads_sources chosen sources n spec old mid new there before now =
    let May : List ℕ → Type 0 = IsFileBefore chosen sources (n + 1) in
    reads_twice May old mid new (reads_wider (IsFileBefore chosen sources n) May old mid (λ path h. (h.0, h.1, below h.0 h.2, h.3, h.4)) before)
    (reads_wider (IsFileFor chosen n spec) May mid new (λ path h. (n, spec, omega arith, there, h)) now)
  where
    below : (k : ℕ) → k < n → k < n + 1
    below k less = omega (arith, less)
