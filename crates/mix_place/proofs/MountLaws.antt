-- Sources mounted one after another, and what was read at a later moment.
use Rattle.std.proofs.Common.{◌≡◌, ◌⊎◌, ◌∙◌, ◌<◌, ◌+◌, inl, inr, ℕ, Bool, List, [], ◌∷◌, ◌++◌, Some, refl, sym, subst, arith, length, slice_get, get_or}
use Rattle.std.proofs.lemmas.Bool.{cases_lt}
use Rattle.std.proofs.lemmas.Option.{same_Some, slice_get_within}
use Rattle.std.proofs.lemmas.List.{get_or_append_left, length-append}
use Rattle.std.proofs.Math.Seq.{get_or-append_seam}
use Rattle.mix_io.specs.Views.{FilesView, KeepsFiles}
use Rattle.mix_io.proofs.Keeps.{keeps_files_twice}
use Rattle.mix_tree.specs.Forest.{LabelledTree}
use Rattle.mix_catalog.specs.declared.source.SourceSpec.{SourceSpec}
use Rattle.mix_mount.specs.declared.mount.Mount.{Mount}
use Rattle.mix_mount.specs.declared.mount.Mount.TheVariants.{Absent}
use Rattle.mix_mount.specs.Mounts.{mount_at}
use Rattle.mix_place.specs.declared.refusal.Stop.{Stop}
use Rattle.mix_place.specs.declared.refusal.Stop.TheVariants.{Refused, SinkFailed, OutOfMemory}
use Rattle.mix_catalog.specs.Grammar.{file_of}
use Rattle.mix_place.specs.Chosen.{every}
use Rattle.mix_place.specs.Documents.{StandsFor, StandsForNone, IsDocument}
use Rattle.mix_place.specs.Mounting.{AreChosenMounted, IsMountFor, IsMountStop, IsMountedSpec, IsSourceStop, IsSpecStop}
use Rattle.mix_place.specs.Reading.{IsFileBefore, IsFileFor, ReadsAmong}
use Rattle.mix_place.proofs.ReadingLaws.{reads_wider}
use Rattle.mix_place.proofs.LoadLaws.{read_before, refused_after}

-- between two moments no contents changed and nothing failed
pub record IsSteady (old new : FilesView) : Type 0 where
  pub keeps : KeepsFiles old new
  pub faults : (p : List ℕ) → new.faults p ≡ old.faults p

-- where a call keeps contents and says that nothing failed, the two moments are steady
pub is_steady : (old new : FilesView) → KeepsFiles old new → ((p : List ℕ) → new.faults p ≡ old.faults p) → IsSteady old new
is_steady old new keeps faults = record { keeps = keeps; faults = faults }

-- where nothing changed or failed from a first moment to a second and on to a third, nothing did from the first to the third
pub steady_twice : (old mid new : FilesView) → IsSteady old mid → IsSteady mid new → IsSteady old new
steady_twice old mid new a b = record { keeps = keeps_files_twice old mid new a.keeps b.keeps; faults = λ p. b.faults p ∙ a.faults p }

-- a document that a file gives later was there before
pub document_before : (Stands : List ℕ → LabelledTree → Type 0) (old mid : FilesView) (path : List ℕ) (t : LabelledTree) → KeepsFiles old mid → IsDocument Stands mid path t → IsDocument Stands old path t
document_before Stands old mid path t keeps d = record { text = d.text; read = read_before old mid path d.text (keeps.told path) d.read; stands = d.stands }

-- what is mounted for a source at a later moment is mounted for it at an earlier one
pub mounted_before : (old mid : FilesView) (chosen : ℕ → Bool) (s : ℕ) (spec : SourceSpec) (m : Mount) → KeepsFiles old mid → IsMountFor mid chosen s spec m → IsMountFor old chosen s spec m
mounted_before old mid chosen s spec m keeps h = record {
  read = λ is.
      let k = h.read is in
      record {
        file = λ e. (
            let f = k.file e in
            record {
              tree = f.tree;
              document_is = document_before (StandsFor spec.name spec.kind) old mid (file_of spec.kind) f.tree keeps f.document_is;
              in_memory = f.in_memory;
              told = f.told;
              given = f.given;
              given_by = f.given_by;
            });
        table = k.table;
        far = k.far;
        other = k.other;
      };
  unread = h.unread;
}

-- of the first n sources those that are chosen are mounted
pub record AreMountedTo (files : FilesView) (chosen : ℕ → Bool) (sources : List SourceSpec) (n : ℕ) (docs : List Mount) : Type 0 where
  pub count : length docs ≡ n
  pub each : (s : ℕ) (spec : SourceSpec) → s < n → slice_get sources s ≡ Some spec → IsMountFor files chosen s spec (mount_at docs s)

-- before the first source no source is mounted
pub none_mounted : (files : FilesView) (chosen : ℕ → Bool) (sources : List SourceSpec) → AreMountedTo files chosen sources 0 []
none_mounted files chosen sources = record { count = refl; each = λ s spec h. absurd (omega arith) }

-- where the first n sources are mounted and the next one too, the first n + 1 sources are
pub mounted_more : (old mid : FilesView) (chosen : ℕ → Bool) (sources : List SourceSpec) (n : ℕ) (docs : List Mount) (spec : SourceSpec) (m : Mount) → KeepsFiles old mid → AreMountedTo old chosen sources n docs
    → slice_get sources n ≡ Some spec → IsMountFor mid chosen n spec m → AreMountedTo old chosen sources (n + 1) (docs ++ m ∷ [])
mounted_more old mid chosen sources n docs spec m keeps h there new = record {
  count = (let l = length-append docs (m ∷ []) in let c = h.count in omega (arith, l, c));
  each = λ s other less at.
      elim (cases_lt s n) as (λ _. IsMountFor old chosen s other (mount_at (docs ++ m ∷ []) s)) [
        | inl low ↦ (
            let c = h.count in
            let inside : s < length docs = omega (arith, low, c) in
            subst (λ (x : Mount). IsMountFor old chosen s other x) (sym (get_or_append_left docs (m ∷ []) Absent s inside)) (h.each s other low at)
            )
        | inr high ↦ (
            let e : n ≡ s = omega (arith, less, high) in
            subst (λ (k : ℕ). slice_get sources k ≡ Some other → IsMountFor old chosen k other (mount_at (docs ++ m ∷ []) k)) e last at
            )
      ];
}
  where
    last : {other : SourceSpec} → slice_get sources n ≡ Some other → IsMountFor old chosen n other (mount_at (docs ++ m ∷ []) n)
    last {other} at =
        let place : mount_at (docs ++ m ∷ []) n ≡ m = subst (λ (k : ℕ). get_or (docs ++ m ∷ []) k Absent ≡ m) h.count (get_or-append_seam docs m [] Absent) in
        subst (λ (x : Mount). IsMountFor old chosen n other x) (sym place)
        (subst (λ (x : SourceSpec). IsMountFor old chosen n x m) (same_Some spec other (sym there ∙ at)) (mounted_before old mid chosen n spec m keeps new))

-- where as many sources as there are were mounted, all are
pub all_mounted : (files : FilesView) (chosen : ℕ → Bool) (sources : List SourceSpec) (n : ℕ) (docs : List Mount) → n ≡ length sources → AreMountedTo files chosen sources n docs → AreChosenMounted files chosen sources docs
all_mounted files chosen sources n docs e h = record {
  count = h.count ∙ e;
  each = λ s spec at. h.each s spec (let w = slice_get_within sources s spec at in omega (arith, w, e)) at;
}

-- the document of a source is what is mounted for it where all are chosen
pub spec_mounted : (files : FilesView) (s : ℕ) (spec : SourceSpec) (m : Mount) → IsMountedSpec files spec m → IsMountFor files every s spec m
spec_mounted files s spec m h = record { read = λ is. h; unread = λ no. absurd cc }

-- where the mounting of a source stopped, it stopped where all are chosen
pub spec_stops : (old new : FilesView) (s : ℕ) (spec : SourceSpec) (stop : Stop) → IsSpecStop old new spec stop → IsSourceStop old new every s spec stop
spec_stops old new s spec (Refused r) h = (refl, h)
spec_stops old new s spec SinkFailed h = absurd h
spec_stops old new s spec OutOfMemory h = tt

-- where the next source is refused, the mounting of the sources stops
pub mount_stops : (old mid new : FilesView) (chosen : ℕ → Bool) (sources : List SourceSpec) (n : ℕ) (docs : List Mount) (spec : SourceSpec) (stop : Stop) → IsSteady old mid → AreMountedTo old chosen sources n docs
    → slice_get sources n ≡ Some spec → ReadsAmong (IsFileBefore chosen sources n) old mid → IsSourceStop mid new chosen n spec stop → ReadsAmong (IsFileFor chosen n spec) mid new
    → IsMountStop old new chosen sources stop
mount_stops old mid new chosen sources n docs spec (Refused r) steady h there before stop now = record {
  number = n;
  spec = spec;
  there = there;
  read = stop.0;
  file = stop.1.0;
  earlier = λ k before less at is file. let f = ((h.each k before less at).read is).file file in (f.tree, f.document_is);
  refused = refused_after (λ p. ⊥ ⊎ IsFileBefore chosen sources n p) (StandsForNone spec.kind) old mid new (file_of spec.kind) _ _ steady.keeps steady.faults
      (reads_wider (IsFileBefore chosen sources n) (λ p. ⊥ ⊎ IsFileBefore chosen sources n p) old mid (λ p is. inr is) before) stop.1.1 (λ p no. now p (λ is. no is.1.1));
}
mount_stops old mid new chosen sources n docs spec SinkFailed steady h there before stop now = absurd stop
mount_stops old mid new chosen sources n docs spec OutOfMemory steady h there before stop now = tt
