-- What comes of a view after its catalog was accepted.
use Rattle.std.proofs.Common.{◌≡◌, ℕ, List, IfOk, IfSome, Option, Result, Ok, Err, arith, inl, inr, refl, subst}
use Rattle.mix_io.specs.Views.{FilesView, KeepsFiles, ReadsOnly}
use Rattle.mix_io.proofs.Keeps.{keeps_files_twice}
use Rattle.mix_catalog.specs.declared.source.SourceSpec.{SourceSpec}
use Rattle.xmas_read.specs.Results.{names_of_sources}
use Rattle.xmas_rule.specs.Rules.{RuleValue}
use Rattle.mix_place.specs.declared.refusal.FileFault.{FileFault}
use Rattle.mix_place.specs.declared.refusal.FileFault.TheVariants.{Unread, TooLong, Document, Csv, Json, Catalog, Script, View, Plan}
use Rattle.mix_place.specs.Causes.{IsNoRule, IsRead}
use Rattle.mix_place.specs.Files.{IsCatalogFile, IsRuleFile}
use Rattle.mix_place.proofs.LoadLaws.{cause_before}
use Rattle.mix_explain.specs.Answers.{IsSteady}
use Rattle.mix_place.proofs.ReadingLaws.{reads_one, reads_twice, reads_wider}
use Rattle.mix_place.specs.Reading.{ReadsAmong}
use Rattle.source_checks.specs.Checks.{Moment, moment}
use Rattle.table_keep.specs.Views.{KeepsTables, TablesView}
use Rattle.mix_explain.specs.Explained.{Explains, ExplainsRefusal, IsSaid, ReportsRule}
use Rattle.mix_explain.specs.Words.{IsReportedFile, ReportMayRead}

-- what was read of a file later was there before
read_before : (old mid : FilesView) (path text : List ℕ) → mid.told path ≡ old.told path → IsRead mid path text → IsRead old path text
read_before old mid path text told h = record { all = subst (λ (o : Option (List ℕ)). IfSome o (λ contents. contents ≡ text)) told h.all; short = h.short }

-- what is said of a file at a later moment was to be said before
said_before : (names : List (List ℕ)) (old mid : FilesView) (path : List ℕ) (fault : FileFault) (words : List ℕ) → mid.told path ≡ old.told path
    → IsSaid names mid path fault words → IsSaid names old path fault words
said_before names old mid path Unread words told h = h
said_before names old mid path TooLong words told h = h
said_before names old mid path (Document e) words told h = h
said_before names old mid path (Csv e) words told h = h
said_before names old mid path (Json e) words told h = h
said_before names old mid path (Catalog e) words told h = (h.0, read_before old mid path h.0 told h.1, h.2)
said_before names old mid path (Script e) words told h = h
said_before names old mid path (View e) words told h = (h.0, read_before old mid path h.0 told h.1, h.2)
said_before names old mid path (Plan e) words told h = h

-- a refusal that is explained from a later moment on is explained from an earlier one on, where no read failed between them
explains_before :
    (IsNone : List ℕ → FileFault → Type 0) (names : List (List ℕ)) (old mid new : FilesView) (path : List ℕ) (status : ℕ) (lines : List ℕ) → KeepsFiles old mid
    → IsSteady old mid → ExplainsRefusal IsNone names mid new path status lines → ExplainsRefusal IsNone names old new path status lines
explains_before IsNone names old mid new path status lines keeps steady h =
    record {
      line = h.line;
      refused = record {
        fault = h.refused.fault;
        cause = cause_before IsNone old mid new path h.refused.fault (keeps.told path) (steady path) h.refused.cause;
        status_is = h.refused.status_is;
        line_is = h.refused.line_is;
      };
      words = h.words;
      said = said_before names old mid path h.refused.fault h.words (keeps.told path) h.said;
      lines_are = h.lines_are;
    }

-- after an accepted catalog, a view that is refused is explained
pub view_refused :
    (old : Moment) (mid : FilesView) (new : Moment) (view catalog : List ℕ) (sources : List SourceSpec) (status : ℕ) (lines : List ℕ)
    → KeepsFiles old.files mid → IsSteady old.files mid → IsCatalogFile old.files catalog sources
    → (let names = names_of_sources sources in ExplainsRefusal (IsNoRule names) names mid new.files view status lines)
    → Explains old new view catalog status lines
view_refused old mid new view catalog sources status lines keeps steady accepted h =
    let names = names_of_sources sources in
    inr (sources, accepted, inl (explains_before (IsNoRule names) names old.files mid new.files view status lines keeps steady h))

-- a rule that a file spells at a later moment it spelled before
pub rule_before : (old mid : FilesView) (view : List ℕ) (names : List (List ℕ)) (rule : RuleValue) → KeepsFiles old mid → IsRuleFile mid view names rule
    → IsRuleFile old view names rule
rule_before old mid view names rule keeps h = record { text = h.text; read = read_before old mid view h.text (keeps.told view) h.read; spelled = h.spelled }

-- tables of which no page is asked keep everything
tables_same : (tables : TablesView) → KeepsTables tables tables
tables_same tables = record { told = λ d. refl; pages = omega arith; rows = omega arith; faults = λ d. omega arith }

-- after an accepted catalog, a view that is accepted is reported, and its sources after it
pub view_accepted :
    (old mid late : FilesView) (tables : TablesView) (new : Moment) (view catalog : List ℕ) (sources : List SourceSpec) (rule : RuleValue) (status : ℕ)
    (lines : List ℕ) → KeepsFiles old mid → KeepsFiles mid late → IsCatalogFile old catalog sources → IsRuleFile mid view (names_of_sources sources) rule
    → status ≡ 0 → ReportsRule sources rule (moment late tables) new lines → Explains (moment old tables) new view catalog status lines
view_accepted old mid late tables new view catalog sources rule status lines keeps after accepted h zero reports =
    inr (
      sources,
      accepted,
      inr (
        rule,
        rule_before old mid view (names_of_sources sources) rule keeps h,
        zero,
        moment late tables,
        record { files = keeps_files_twice old mid late keeps after; tables = tables_same tables },
        reports,
      ),
    )

-- where the catalog and the view were read, no more was read than an explanation may
pub reads_files :
    (old mid late : FilesView) (view catalog : List ℕ) (sources : List SourceSpec) → IsCatalogFile old catalog sources → ReadsOnly catalog old mid
    → ReadsOnly view mid late → ReadsAmong (ReportMayRead old view catalog) old late
reads_files old mid late view catalog sources accepted first second =
    let May : List ℕ → Type 0 = ReportMayRead old view catalog in
    reads_twice May old mid late (reads_one May catalog old mid (inl (inl refl)) first) (reads_one May view mid late (inl (inr (refl, sources, accepted))) second)

-- where after both the files of the sources were read, no more was read than an explanation may
pub reads_all :
    (old mid late new : FilesView) (view catalog : List ℕ) (sources : List SourceSpec) (rule : RuleValue) → KeepsFiles old mid → IsCatalogFile old catalog sources
    → IsRuleFile mid view (names_of_sources sources) rule → ReadsOnly catalog old mid → ReadsOnly view mid late
    → ReadsAmong (IsReportedFile sources rule) late new → ReadsAmong (ReportMayRead old view catalog) old new
reads_all old mid late new view catalog sources rule keeps accepted h first second third =
    let May : List ℕ → Type 0 = ReportMayRead old view catalog in
    reads_twice May old late new (reads_files old mid late view catalog sources accepted first second)
    (reads_wider (IsReportedFile sources rule) May late new
    (λ path is. inr (sources, accepted, (rule, rule_before old mid view (names_of_sources sources) rule keeps h, is))) third)

-- what two clauses together say of an answer holds where both do
pub ok_by_both : {T E : Type 0} (r : Result T E) (P Q R : T → Type 0) → ((x : T) → P x → Q x → R x) → IfOk r P → IfOk r Q → IfOk r R
ok_by_both (Ok x) P Q R both p q = both x p q
ok_by_both (Err e) P Q R both p q = tt
