-- What was read later was there before.
use Rattle.std.proofs.Common.{◌≡◌, ◌⊎◌, inl, inr, ℕ, Bool, List}
use Rattle.mix_io.specs.Views.{FilesView, KeepsFiles}
use Rattle.mix_catalog.specs.declared.source.SourceSpec.{SourceSpec}
use Rattle.mix_catalog.specs.Grammar.{file_of}
use Rattle.mix_mount.specs.declared.mount.Mount.{Mount}
use Rattle.mix_mount.specs.Mounts.{mount_at}
use Rattle.mix_script.specs.declared.step.Step.{Step}
use Rattle.plan_core.specs.Plans.{PlanValue}
use Rattle.xmas_rule.specs.Rules.{RuleValue}
use Rattle.xmas_read.specs.Results.{names_of_sources}
use Rattle.mix_script.specs.declared.step.Forms.{Forms}
use Rattle.mix_place.specs.Files.{IsPlanFile, IsRuleFile, IsScript}
use Rattle.mix_place.specs.Chosen.{IsChosenRefused}
use Rattle.mix_place.specs.Documents.{StandsFor, StandsForNone}
use Rattle.mix_place.specs.Mounting.{AreChosenMounted}
use Rattle.mix_place.specs.Plans.{IsViewPlan}
use Rattle.mix_place.proofs.MountLaws.{IsSteady, document_before, mounted_before}
use Rattle.mix_place.specs.Reading.{IsFileBefore, ReadsAmong}
use Rattle.mix_place.proofs.ReadingLaws.{reads_twice, reads_wider}
use Rattle.mix_place.proofs.LoadLaws.{read_before, refused_before}

-- a script that was read later was there before
pub script_before : (forms : Forms) (old mid : FilesView) (path : List ℕ) (steps : List Step) → KeepsFiles old mid → IsScript forms mid path steps → IsScript forms old path steps
script_before forms old mid path steps keeps s = record { text = s.text; read = read_before old mid path s.text (keeps.told path) s.read; accepted = s.accepted }

-- a view that was read later was there before
pub rule_before : (old mid : FilesView) (path : List ℕ) (sources : List (List ℕ)) (v : RuleValue) → KeepsFiles old mid → IsRuleFile mid path sources v → IsRuleFile old path sources v
rule_before old mid path sources v keeps r = record { text = r.text; read = read_before old mid path r.text (keeps.told path) r.read; spelled = r.spelled }

-- a view that gives a plan later gave it before
pub plan_before : (old mid : FilesView) (path : List ℕ) (sources : List SourceSpec) (p : PlanValue) → KeepsFiles old mid → IsViewPlan mid path sources p → IsViewPlan old path sources p
plan_before old mid path sources p keeps h =
    record { rule = h.rule; rule_is = rule_before old mid path (names_of_sources sources) h.rule keeps h.rule_is; made = h.made; plan_is = h.plan_is; means = h.means }

-- a plan text that was read later was there before
pub plan_file_before : (old mid : FilesView) (path : List ℕ) (sources : List SourceSpec) (p : PlanValue) → KeepsFiles old mid → IsPlanFile mid path sources p → IsPlanFile old path sources p
plan_file_before old mid path sources p keeps h = record { text = h.text; read = read_before old mid path h.text (keeps.told path) h.read; spelled = h.spelled; valid = h.valid }

-- the files of sources that were mounted later were there before
pub mounts_before : (old mid : FilesView) (chosen : ℕ → Bool) (sources : List SourceSpec) (docs : List Mount) → KeepsFiles old mid → AreChosenMounted mid chosen sources docs → AreChosenMounted old chosen sources docs
mounts_before old mid chosen sources docs keeps h = record { count = h.count; each = λ s spec at. mounted_before old mid chosen s spec (mount_at docs s) keeps (h.each s spec at) }

-- where given files were read, and then those of sources up to one, nothing was read but these
sources_after : (Before : List ℕ → Type 0) (chosen : ℕ → Bool) (sources : List SourceSpec) (n : ℕ) (path : List ℕ) (old mid new : FilesView) → ReadsAmong Before old mid
    → ReadsAmong (λ p. (⊥ ⊎ IsFileBefore chosen sources n p) ⊎ (p ≡ path)) mid new → ReadsAmong (λ p. (Before p ⊎ IsFileBefore chosen sources n p) ⊎ (p ≡ path)) old new
sources_after Before chosen sources n path old mid new first second =
    reads_twice May old mid new (reads_wider Before May old mid (λ p is. inl (inl is)) first) (reads_wider Own May mid new own second)
  where
    Own : List ℕ → Type 0
    Own p = (⊥ ⊎ IsFileBefore chosen sources n p) ⊎ (p ≡ path)

    May : List ℕ → Type 0
    May p = (Before p ⊎ IsFileBefore chosen sources n p) ⊎ (p ≡ path)

    own : (p : List ℕ) → Own p → May p
    own p (inl (inl none)) = absurd none
    own p (inl (inr is)) = inl (inr is)
    own p (inr is) = inr is

-- the file of a source that is refused from a later moment on, up to which given files were read, is refused after these from an earlier one on
pub source_refused_after : (Before : List ℕ → Type 0) (old mid new : FilesView) (chosen : ℕ → Bool) (sources : List SourceSpec) (status : ℕ) (line : List ℕ) → IsSteady old mid → ReadsAmong Before old mid
    → IsChosenRefused (λ p. ⊥) mid new chosen sources status line → IsChosenRefused Before old new chosen sources status line
source_refused_after Before old mid new chosen sources status line steady reads h = record {
  number = h.number;
  spec = h.spec;
  there = h.there;
  read = h.read;
  file = h.file;
  earlier = λ k before less at is file. let f = h.earlier k before less at is file in (f.0, document_before (StandsFor before.name before.kind) old mid (file_of before.kind) f.0 steady.keeps f.1);
  refused = (
    refused_before (StandsForNone h.spec.kind) old mid new (file_of h.spec.kind) status line steady.keeps steady.faults h.refused.0,
    sources_after Before chosen sources h.number (file_of h.spec.kind) old mid new reads h.refused.1,
  );
}
