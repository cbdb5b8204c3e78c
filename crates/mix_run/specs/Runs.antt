-- The course of a run: what its files and its stores let it write, and its status then.
use Rattle.std.specs.Prelude.{◌≡◌, ◌⊎◌, ◌-◌, ℕ, Bool, true, false, IsTrue, IfSome, List, ◌++◌, Option, Some, None, length, slice_get}
use Rattle.mix_tree.specs.Forest.{Forest, LabelledTree, none, alone}
use Rattle.mix_tree.specs.Nodes.{Documents}
use Rattle.mix_io.specs.Views.{FilesView, SinkView}
use Rattle.mix_script.specs.declared.step.Forms.{Forms}
use Rattle.mix_script.specs.declared.step.Forms.TheVariants.{Plain, WithIds}
use Rattle.mix_script.specs.declared.step.Step.{Step}
use Rattle.mix_catalog.specs.declared.source.SourceSpec.{SourceSpec}
use Rattle.far_keep.specs.Views.{document as far_document}
use Rattle.far_keep.specs.declared.far_source.FarSource.{FarSource}
use Rattle.mix_reach.specs.Stores.{StoresView}
use Rattle.table_keep.specs.Views.{Declared}
use Rattle.table_wrap.specs.Document.{declared_in}
use Rattle.table_wrap.specs.Rows.{table_tree}
use Rattle.xmas_rule.specs.Rules.{RuleValue}
use Rattle.xmas_rule.specs.Meaning.{IsFinished}
use Rattle.xmas_read.specs.Results.{names_of_sources}
use Rattle.plan_core.specs.Plans.{Operator, PlanValue}
use Rattle.plan_rewrite.specs.Rewritten.{operators_for, plan_for}
use Rattle.mix_place.specs.declared.refusal.FileFault.{FileFault}
use Rattle.mix_run.specs.Answered.{IsAnswered}
use Rattle.mix_run.specs.Outside.{Outside}
use Rattle.mix_run.specs.Question.{AreNamed, IsPlanDocument, Question}
use Rattle.mix_place.specs.Causes.{IsNoCatalog, IsNoPlan, IsNoRule, IsNoScript}
use Rattle.mix_place.specs.Documents.{IsSourceDocument, far_in, is_file_of}
use Rattle.mix_run.specs.Counts.{class_over, count_lines}
use Rattle.mix_place.specs.Reading.{IsEither}
use Rattle.mix_catalog.specs.Grammar.{file_of, is_view}
use Rattle.mix_catalog.specs.Sources.{base_of}
use Rattle.mix_place.specs.Placed.{AreAllLower, IsSourceRefused, view_number}
use Rattle.mix_place.specs.Files.{IsCatalogFile, IsPlanFile, IsRefusedFirst, IsRefusedLast, IsRuleFile, IsScript}
use Rattle.mix_place.specs.Views.{lower_at, needs}

-- the document of a source: what its file gives, or of a table the tree of its rows, and of another machine's source its document, where these are told
pub record IsDocumentOf (before : Outside) (spec : SourceSpec) (f : Forest) : Type 0 where
  pub file : is_file_of spec.kind ≡ true → (t : LabelledTree) × IsSourceDocument before.files spec t × (f ≡ alone t)
  pub rows : (d : Declared) → declared_in spec.kind ≡ Some d → IfSome (before.stores.tables.told d) (λ rows. f ≡ alone (table_tree spec.name d.columns rows))
  pub far : (far : FarSource) → far_in spec.kind ≡ Some far → before.stores.fars.told far ≡ true → f ≡ far_document before.stores.fars far

-- the document of a source's number by a choice of sources: the source's document where it is chosen, else nothing
abbrev pub HasDocument : Outside → (ℕ → Bool) → ℕ → SourceSpec → Forest → Type 0
HasDocument before chosen s spec f = (IsTrue (chosen s) → IsDocumentOf before spec f) × (chosen s ≡ false → f ≡ none)

-- the document of a view that is a source: nothing where it is not read; else its file spells a rule over sources of given names, of whose plan these are the
-- operators, and the document is the rule's finished document over the documents of these sources
abbrev pub IsViewDocument : FilesView → List (List ℕ) → SourceSpec → Documents → Option (List Operator) → Forest → Type 0
IsViewDocument files names spec below None f = f ≡ none
IsViewDocument files names spec below (Some ops) f =
    (v : RuleValue) × IsRuleFile files (file_of spec.kind) names v × (ops ≡ operators_for v) × (t : LabelledTree) × IsFinished below v t × (f ≡ alone t)

-- the documents of what is asked, by the numbers of its sources: of those that are no views and that the plan or a view that it reads needs, and, over these, of the
-- views that it reads
pub record AreDocuments (before : Outside) (q : Question) : Type 0 where
  pub lower : AreAllLower before.files q.ops q.sources q.lower
  pub below : (s : ℕ) (spec : SourceSpec) → slice_get q.sources s ≡ Some spec → is_view spec.kind ≡ false → HasDocument before (needs q.ops q.lower) s spec (q.below s)
  pub same : (s : ℕ) (spec : SourceSpec) → slice_get q.sources s ≡ Some spec → is_view spec.kind ≡ false → q.docs s ≡ q.below s
  pub views : (i : ℕ) (spec : SourceSpec) → slice_get q.sources (view_number q.sources i) ≡ Some spec
      → IsViewDocument before.files (names_of_sources (base_of q.sources)) spec q.below (lower_at q.lower i) (q.docs (view_number q.sources i))

-- what is asked of a view over a catalog, both accepted: their sources, the plan of the view's rule, the documents of the sources that it reads, and the
-- rule's finished document over them
pub record IsViewQuestion (before : Outside) (view catalog : List ℕ) (q : Question) : Type 0 where
  pub catalog_is : IsCatalogFile before.files catalog q.sources
  pub rule : RuleValue
  pub rule_is : IsRuleFile before.files view (names_of_sources q.sources) rule
  pub plan_is : q.ops ≡ operators_for rule
  pub documents : AreDocuments before q
  pub finished : IsFinished q.docs rule q.tree

-- what is asked of a plan text over a catalog, both accepted: their sources, the plan as it stands, the documents of the sources that it reads, and the
-- plan's document over them
pub record IsPlanQuestion (before : Outside) (text catalog : List ℕ) (q : Question) : Type 0 where
  pub catalog_is : IsCatalogFile before.files catalog q.sources
  pub plan : PlanValue
  pub plan_file : IsPlanFile before.files text q.sources plan
  pub plan_is : q.ops ≡ plan.ops
  pub documents : AreDocuments before q
  pub finished : IsPlanDocument q.docs q.ops q.tree

-- how the file after a catalog gives a plan: which faults say why a text gives none over given sources, which plan and which operators a file gives over them,
-- what is asked of it, and which forms the lines of a script may have that is answered on the plan's document
pub record PlanFile : Type 1 where
  pub forms : Forms
  pub IsNone : List SourceSpec → List ℕ → FileFault → Type 0
  pub GivesPlan : FilesView → List ℕ → List SourceSpec → PlanValue → Type 0
  pub Gives : FilesView → List ℕ → List SourceSpec → List Operator → Type 0
  pub IsQuestion : Outside → List ℕ → List ℕ → Question → Type 0

-- a view gives the operators of the plan of the rule that it spells, its selections moved
abbrev pub by_view : PlanFile
by_view = record {
  forms = WithIds;
  IsNone = λ sources. IsNoRule (names_of_sources sources);
  GivesPlan = λ files path sources p. (v : RuleValue) × IsRuleFile files path (names_of_sources sources) v × (p ≡ plan_for (names_of_sources sources) v);
  Gives = λ files path sources ops. (v : RuleValue) × IsRuleFile files path (names_of_sources sources) v × (ops ≡ operators_for v);
  IsQuestion = IsViewQuestion;
}

-- a plan text gives the operators of the plan that it spells, as they stand
abbrev pub by_text : PlanFile
by_text = record {
  forms = Plain;
  IsNone = IsNoPlan;
  GivesPlan = IsPlanFile;
  Gives = λ files path sources ops. (p : PlanValue) × IsPlanFile files path sources p × (ops ≡ p.ops);
  IsQuestion = IsPlanQuestion;
}

-- what a run asks whose files were all accepted: what is asked of the file that gives its plan over its catalog, and the steps of its script, whose texts are said to
-- name what they name
pub record IsRun (given : PlanFile) (before : Outside) (file catalog script : List ℕ) (q : Question) : Type 0 where
  pub file_is : given.IsQuestion before file catalog q
  pub script_is : IsScript given.forms before.files script q.steps
  pub texts : AreNamed q

-- the first refused file of a command in this order: the catalog, the file that is to give a plan, and then as a given relation says of the files after them
abbrev pub IsRefusedAfter :
    PlanFile → (List SourceSpec → List Operator → ℕ → List ℕ → Type 0) → FilesView → FilesView → List ℕ → List ℕ → ℕ → List ℕ → Type 0
IsRefusedAfter given Then old new view catalog status lines =
    IsRefusedFirst IsNoCatalog old new catalog status lines
    ⊎ ((sources : List SourceSpec) × IsCatalogFile old catalog sources
    × (IsRefusedLast (λ p. p ≡ catalog) (given.IsNone sources) old new view status lines
    ⊎ ((ops : List Operator) × given.Gives old view sources ops × Then sources ops status lines)))

-- after the given files of its catalog and its plan, a run's script is refused, or after it a file of the sources that the plan reads
abbrev pub IsScriptRefused : Forms → (List ℕ → Type 0) → FilesView → FilesView → List ℕ → List SourceSpec → List Operator → ℕ → List ℕ → Type 0
IsScriptRefused forms Before old new script sources ops status lines =
    IsRefusedLast Before (IsNoScript forms) old new script status lines
    ⊎ ((steps : List Step) × IsScript forms old script steps × IsSourceRefused (λ p. Before p ⊎ (p ≡ script)) old new ops sources status lines)

-- the first refused file of a run in this order: the catalog, the file that gives its plan, the script, and the files of the sources that the plan reads
abbrev pub IsRunRefused : PlanFile → FilesView → FilesView → List ℕ → List ℕ → List ℕ → ℕ → List ℕ → Type 0
IsRunRefused given old new file catalog script = IsRefusedAfter given (IsScriptRefused given.forms (IsEither catalog file) old new script) old new file catalog

-- a relation that says what is written of a run, over stores that meant the first before and mean the second after
abbrev pub RunLines : Type 1
RunLines = StoresView → StoresView → Question → SinkView → SinkView → ℕ → List ℕ → Type 0

-- what `run` writes: the lines that answer the script on the plan's document
abbrev pub lines_of_run : RunLines
lines_of_run before after q sink sink' status lines = (fills : ℕ) × IsAnswered before after q fills sink sink' status lines

-- what `count` writes: the lines that answer the script, and after these the numbers of steps, fills and pages asked, and the class of the plan
abbrev pub lines_of_count : RunLines
lines_of_count before after q sink sink' status lines =
    (fills : ℕ) × (answers : List ℕ) × IsAnswered before after q fills sink sink' status answers
    × (lines ≡ answers ++ count_lines (length q.steps) fills (after.tables.pages - before.tables.pages) (class_over q.sources q.ops))

-- what a run comes to: a file is refused and nothing is asked of stores, or its lines are those that a given relation says
abbrev pub Runs : PlanFile → RunLines → Outside → Outside → List ℕ → List ℕ → List ℕ → SinkView → SinkView → ℕ → List ℕ → Type 0
Runs given Lines before after file catalog script sink sink' status lines =
    (IsRunRefused given before.files after.files file catalog script status lines × (after.stores ≡ before.stores))
    ⊎ ((q : Question) × IsRun given before file catalog script q × Lines before.stores after.stores q sink sink' status lines)
