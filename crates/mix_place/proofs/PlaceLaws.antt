-- What was read, refused and placed of sources and views later was so before.
use Rattle.std.proofs.Common.{◌≡◌, ◌⊎◌, inl, inr, ℕ, Bool, List, Option, Some, None, refl, length, string_bytes}
use Rattle.mix_io.specs.Views.{FilesView, KeepsFiles}
use Rattle.mix_catalog.specs.declared.source.SourceSpec.{SourceSpec}
use Rattle.mix_catalog.specs.Grammar.{file_of}
use Rattle.mix_catalog.specs.Sources.{base_of}
use Rattle.plan_core.specs.declared.plan.Plan.{Plan}
use Rattle.plan_core.specs.PlanMade.{plan_value}
use Rattle.plan_core.specs.Plans.{Operator}
use Rattle.xmas_read.specs.Results.{names_of_sources}
use Rattle.mix_place.specs.Causes.{IsNoRule}
use Rattle.mix_place.specs.Chosen.{IsChosenRefused}
use Rattle.mix_place.specs.Documents.{StandsFor, StandsForNone}
use Rattle.mix_place.specs.Files.{IsRefusedLast}
use Rattle.mix_place.specs.Placed.{AreLower, AreReadTo, AreViewsRefused, ArePlaced, IsFileUpTo, IsSourceRefused, IsViewFileBefore, IsViewPlaced, IsViewRefused, Placed, SourceMayRead, ViewMayRead, ViewsMayRead}
use Rattle.mix_place.specs.Reading.{IsFileBefore, ReadsAmong}
use Rattle.mix_place.specs.Views.{adds, lower_of, needs}
use Rattle.mix_place.specs.declared.refusal.FileFault.{FileFault}
use Rattle.mix_place.proofs.ChosenLaws.{accepted_before, source_may_before}
use Rattle.mix_place.proofs.Earlier.{mounts_before, plan_before}
use Rattle.mix_place.proofs.LoadLaws.{refused_before}
use Rattle.mix_place.proofs.MountLaws.{IsSteady, document_before}
use Rattle.mix_place.proofs.Needs.{spec_before}
use Rattle.mix_mount.specs.declared.mount.Mount.{Mount}
use Rattle.mix_mount.specs.Mounts.{mount_at}
use Rattle.mix_place.specs.Mounting.{AreMountedBeside}
use Rattle.mix_place.proofs.ReadingLaws.{reads_twice, reads_wider}
use Rattle.mix_place.proofs.ViewLaws.{lower_before}

-- views that were read later were there before
pub lower_all_before : (old mid : FilesView) (ops : List Operator) (sources : List SourceSpec) (n : ℕ) (lower : List (Option (List Operator))) → KeepsFiles old mid → AreLower mid ops sources n lower → AreLower old ops sources n lower
lower_all_before old mid ops sources n lower keeps h = record { count = h.count; each = λ i spec less at. lower_before old mid (names_of_sources (base_of sources)) spec _ _ keeps (h.each i spec less at) }

-- what was accepted later was accepted before
read_to_before : (old mid : FilesView) (ops : List Operator) (sources : List SourceSpec) (n : ℕ) (lower : List (Option (List Operator))) → KeepsFiles old mid → AreReadTo mid ops sources n lower → AreReadTo old ops sources n lower
read_to_before old mid ops sources n lower keeps h = record {
  views = lower_all_before old mid ops sources n lower keeps h.views;
  accepted = accepted_before old mid (needs ops lower) (base_of sources) (length (base_of sources)) keeps h.accepted;
}

-- where the files of views may be read at a later moment, they may be read at an earlier one
pub views_may_before : (old mid : FilesView) (ops : List Operator) (sources : List SourceSpec) → KeepsFiles old mid → (path : List ℕ) → ViewsMayRead mid ops sources path → ViewsMayRead old ops sources path
views_may_before old mid ops sources keeps path h = (h.0, h.1, h.2, h.3, h.4, lower_all_before old mid ops sources h.0 h.4 keeps h.5)

-- where the files of a plan's sources may be read at a later moment, they may be read at an earlier one
pub place_may_before : (old mid : FilesView) (ops : List Operator) (sources : List SourceSpec) → KeepsFiles old mid → (path : List ℕ) → SourceMayRead mid ops sources path → SourceMayRead old ops sources path
place_may_before old mid ops sources keeps path (inl h) = inl (source_may_before old mid _ (base_of sources) keeps path h)
place_may_before old mid ops sources keeps path (inr h) =
    inr (record {
      place = h.place;
      spec = h.spec;
      lower = h.lower;
      is = h.is;
      earlier = read_to_before old mid ops sources h.place h.lower keeps h.earlier;
      may = elim h.may [
        | inl own ↦ inl own
        | inr more ↦ inr (more.0, lower_before old mid (names_of_sources (base_of sources)) h.spec _ more.0 keeps more.1, source_may_before old mid (adds ops h.lower more.0) (base_of sources) keeps path more.2)
      ];
    })

-- a file that is refused after some files from a later moment on is refused after others and these from an earlier one on
last_after : (A B C : List ℕ → Type 0) (IsNone : List ℕ → FileFault → Type 0) (old mid new : FilesView) (path : List ℕ) (status : ℕ) (line : List ℕ) → IsSteady old mid → ((p : List ℕ) → A p → C p) → ((p : List ℕ) → B p → C p)
    → ReadsAmong A old mid → IsRefusedLast B IsNone mid new path status line → IsRefusedLast C IsNone old new path status line
last_after A B C IsNone old mid new path status line steady a b reads h =
    let May : List ℕ → Type 0 = λ p. C p ⊎ (p ≡ path) in
    let Own : List ℕ → Type 0 = λ p. B p ⊎ (p ≡ path) in (
      refused_before IsNone old mid new path status line steady.keeps steady.faults h.0,
      reads_twice May old mid new (reads_wider A May old mid (λ p is. inl (a p is)) reads) (reads_wider Own May mid new (λ p is. elim is [ inl x ↦ inl (b p x) | inr x ↦ inr x ]) h.1),
    )

-- the file of a chosen source that is refused after some files from a later moment on is refused after others and these from an earlier one on
chosen_after : (A B C : List ℕ → Type 0) (old mid new : FilesView) (chosen : ℕ → Bool) (sources : List SourceSpec) (status : ℕ) (line : List ℕ) → IsSteady old mid → ((p : List ℕ) → A p → C p) → ((p : List ℕ) → B p → C p)
    → ReadsAmong A old mid → IsChosenRefused B mid new chosen sources status line → IsChosenRefused C old new chosen sources status line
chosen_after A B C old mid new chosen sources status line steady a b reads h = record {
  number = h.number;
  spec = h.spec;
  there = h.there;
  read = h.read;
  file = h.file;
  earlier = λ k before less at is file. let f = h.earlier k before less at is file in (f.0, document_before (StandsFor before.name before.kind) old mid (file_of before.kind) f.0 steady.keeps f.1);
  refused = last_after A (λ p. B p ⊎ IsFileBefore chosen sources h.number p) (λ p. C p ⊎ IsFileBefore chosen sources h.number p) (StandsForNone h.spec.kind) old mid new (file_of h.spec.kind) status line steady (λ p is. inl (a p is))
      (λ p is. elim is [ inl x ↦ inl (b p x) | inr x ↦ inr x ]) reads h.refused;
}

module _ (Before : List ℕ → Type 0) (old mid new : FilesView) (ops : List Operator) (sources : List SourceSpec) (status : ℕ) (line : List ℕ) (steady : IsSteady old mid) (reads : ReadsAmong Before old mid) where
  -- the file of a view that is refused from a later moment on, up to which given files were read, is refused after these from an earlier one on
  pub views_refused_after : AreViewsRefused (λ p. ⊥) mid new ops sources status line → AreViewsRefused Before old new ops sources status line
  views_refused_after h = record {
    place = h.place;
    spec = h.spec;
    lower = h.lower;
    is = h.is;
    earlier = lower_all_before old mid ops sources h.place h.lower steady.keeps h.earlier;
    refused = last_after Before (λ p. ⊥ ⊎ IsViewFileBefore ops sources h.place p) (λ p. Before p ⊎ IsViewFileBefore ops sources h.place p) (IsNoRule (names_of_sources (base_of sources))) old mid new (file_of h.spec.kind) status line steady
        (λ p is. inl is) (λ p is. elim is [ inl x ↦ absurd x | inr x ↦ inr x ]) reads h.refused;
  }

  -- the file of a source that is refused from a later moment on, up to which given files were read, is refused after these from an earlier one on
  pub place_refused_after : IsSourceRefused (λ p. ⊥) mid new ops sources status line → IsSourceRefused Before old new ops sources status line
  place_refused_after (inl h) = inl (chosen_after Before (λ p. ⊥) Before old mid new _ (base_of sources) status line steady (λ p is. is) (λ p none. absurd none) reads h)
  place_refused_after (inr h) =
      let Up : List ℕ → Type 0 = IsFileUpTo ops sources h.place h.lower in
      inr (record {
        place = h.place;
        spec = h.spec;
        lower = h.lower;
        is = h.is;
        earlier = read_to_before old mid ops sources h.place h.lower steady.keeps h.earlier;
        refused = elim h.refused [
          | inl own ↦ inl (last_after Before (λ p. ⊥ ⊎ Up p) (λ p. Before p ⊎ Up p) (IsNoRule (names_of_sources (base_of sources))) old mid new (file_of h.spec.kind) status line steady (λ p is. inl is)
              (λ p is. elim is [ inl x ↦ absurd x | inr x ↦ inr x ]) reads own)
          | inr more ↦ inr (
            more.0,
            lower_before old mid (names_of_sources (base_of sources)) h.spec _ more.0 steady.keeps more.1,
            chosen_after Before (λ p. (⊥ ⊎ Up p) ⊎ (p ≡ file_of h.spec.kind)) (λ p. (Before p ⊎ Up p) ⊎ (p ≡ file_of h.spec.kind)) old mid new (adds ops h.lower more.0) (base_of sources) status line steady (λ p is. inl (inl is))
                (λ p is. elim is [ inl x ↦ inl (elim x [ inl y ↦ absurd y | inr y ↦ inr y ]) | inr x ↦ inr x ]) reads more.2,
          )
        ];
      })

-- a view that was placed later was placed before
pub view_placed_before : (old mid : FilesView) (base : List SourceSpec) (spec : SourceSpec) (view : Option Plan) → KeepsFiles old mid → IsViewPlaced mid base spec view → IsViewPlaced old base spec view
view_placed_before old mid base spec None keeps h = tt
view_placed_before old mid base spec (Some p) keeps h = (plan_before old mid (file_of spec.kind) base (plan_value p) keeps h.0, h.1)

-- what was placed later was placed before
pub place_before : (old mid : FilesView) (ops : List Operator) (sources : List SourceSpec) (p : Placed) → KeepsFiles old mid → ArePlaced mid ops sources p → ArePlaced old ops sources p
place_before old mid ops sources p keeps h = record {
  mounted = mounts_before old mid (needs ops (lower_of p.views)) (base_of sources) p.docs keeps h.mounted;
  sites = h.sites;
  last = h.last;
  lower = (lower_all_before old mid ops sources _ (lower_of p.views) keeps h.lower.0, h.lower.1);
  views = λ i spec at. view_placed_before old mid (base_of sources) spec _ keeps (h.views i spec at);
}

-- what was mounted beside others later is mounted beside them at an earlier moment
pub mounted_still : (old mid : FilesView) (chosen : ℕ → Bool) (sources : List SourceSpec) (before after : List Mount) → KeepsFiles old mid → AreMountedBeside mid chosen sources before after → AreMountedBeside old chosen sources before after
mounted_still old mid chosen sources before after keeps h = record {
  count = h.count;
  each = λ s spec at. ((λ is. spec_before old mid spec (mount_at after s) keeps ((h.each s spec at).0 is)), (h.each s spec at).1);
}
