-- What a run comes to whose files are all accepted: the answers to its steps, and its lines.
use Rattle.std.specs.Prelude.{◌≡◌, ◌⊎◌, ◌≤◌, ◌++◌, ℕ, ◌+◌, ◌*◌, Bool, true, false, ◌&&◌, ◌||◌, not, cond, IsTrue, List, [], ◌∷◌, Option, Some, None, is_some, length, map, slice_get}
use Rattle.std.specs.List.{AllByRecursion}
use Rattle.mix_base.specs.Counts.{HasRisenBy}
use Rattle.mix_catalog.specs.declared.source.SourceSpec.{SourceSpec}
use Rattle.mix_catalog.specs.Grammar.{is_view}
use Rattle.mix_catalog.specs.Sources.{base_of}
use Rattle.mix_io.specs.Views.{SinkView}
use Rattle.mix_io.specs.Contents.{Appends}
use Rattle.far_keep.specs.Views.{FarsView}
use Rattle.far_keep.specs.declared.far_source.FarSource.{FarSource}
use Rattle.mix_reach.specs.Stores.{StoresView}
use Rattle.table_keep.specs.Views.{Declared, TablesView}
use Rattle.table_wrap.specs.Document.{declared_in}
use Rattle.mix_script.specs.Names.{no_names}
use Rattle.mix_script.specs.Allowed.{AreAnswers, begun, faults_of, has_fault, notes_of, walks_owed}
use Rattle.mix_script.specs.Steps.{ArePlain}
use Rattle.mix_script.specs.Transcript.{AreNotes, Note, failed, names_after, nothing, spelled, transcript, unnamed}
use Rattle.mix_script.specs.declared.answer.Answer.{Answer}
use Rattle.mix_lines.specs.Heard.{Heard, step, steps_in}
use Rattle.mix_lines.specs.Lines.{heard_transcript, spoken}
use Rattle.mix_session.specs.Stepped.{act_toll_by}
use Rattle.mix_session.specs.Tolls.{toll_from}
use Rattle.mix_session.specs.Walks.{place_toll}
use Rattle.plan_core.specs.Plans.{Operator}
use Rattle.lazy_follow.specs.Marks.{text_reach}
use Rattle.lazy_walk.specs.Finding.{walk_charge}
use Rattle.xmas_read.specs.Results.{names_of_sources}
use Rattle.mix_place.specs.Documents.{far_in}
use Rattle.mix_run.specs.Question.{AreCheap, Question, finished, naming}
use Rattle.mix_place.specs.Placed.{view_number}
use Rattle.mix_place.specs.Views.{lower_at, needs}
use Rattle.view_stack.specs.Stacks.{sum_below}
use Rattle.view_class.specs.Reads.{reads_source}

-- by a choice of sources the source of this number is chosen, which is this declared table
pub record IsTable (chosen : ℕ → Bool) (sources : List SourceSpec) (s : ℕ) (d : Declared) : Type 0 where
  pub spec : SourceSpec
  pub there : slice_get sources s ≡ Some spec
  pub read : IsTrue (chosen s)
  pub declares : declared_in spec.kind ≡ Some d

-- by a choice of sources the source of this number is chosen, which is a table
abbrev pub IsTableOf : (ℕ → Bool) → List SourceSpec → ℕ → Type 0
IsTableOf chosen sources s = (d : Declared) × IsTable chosen sources s d

-- by a choice of sources the source of this number is chosen, which is this source of another machine
pub record IsFar (chosen : ℕ → Bool) (sources : List SourceSpec) (s : ℕ) (far : FarSource) : Type 0 where
  pub spec : SourceSpec
  pub there : slice_get sources s ≡ Some spec
  pub read : IsTrue (chosen s)
  pub declares : far_in spec.kind ≡ Some far

-- by a choice of sources the source of this number is chosen, which is one of another machine
abbrev pub IsFarOf : (ℕ → Bool) → List SourceSpec → ℕ → Type 0
IsFarOf chosen sources s = (far : FarSource) × IsFar chosen sources s far

-- by a choice of sources the source of this number is chosen, which is a view
pub record IsViewOf (chosen : ℕ → Bool) (sources : List SourceSpec) (s : ℕ) : Type 0 where
  pub spec : SourceSpec
  pub there : slice_get sources s ≡ Some spec
  pub read : IsTrue (chosen s)
  pub view : is_view spec.kind ≡ true

-- by a choice of sources the source of this number is chosen, and it may fail: it is a table, a source of another machine, or a view
abbrev pub MayFail : (ℕ → Bool) → List SourceSpec → ℕ → Type 0
MayFail chosen sources s = IsTableOf chosen sources s ⊎ (IsFarOf chosen sources s ⊎ IsViewOf chosen sources s)

-- how often a declared table failed; never where none is declared
abbrev pub table_faults : TablesView → Option Declared → ℕ
table_faults tables None = 0
table_faults tables (Some d) = tables.faults d

-- how often a source of another machine failed; never where there is none
abbrev pub far_faults : FarsView → Option FarSource → ℕ
far_faults fars None = 0
far_faults fars (Some far) = fars.faults far

-- how often the table of a source failed, or the source at another machine; a source that is neither never does
abbrev pub spec_faults : StoresView → Option SourceSpec → ℕ
spec_faults stores None = 0
spec_faults stores (Some spec) = table_faults stores.tables (declared_in spec.kind) + far_faults stores.fars (far_in spec.kind)

-- how often the sources failed, each counted once, that a view's operators read among those that are no views
abbrev pub faults_below : StoresView → List SourceSpec → List Operator → ℕ
faults_below stores sources ops = let base = base_of sources in sum_below (reads_source ops) (λ s. spec_faults stores (slice_get base s)) (length base)

-- whether the rows of a declared table are told; true where no table is declared
abbrev pub is_table_told : TablesView → Option Declared → Bool
is_table_told tables None = true
is_table_told tables (Some d) = is_some (tables.told d)

-- whether the document of a source of another machine is told; true where there is none
abbrev pub is_far_told : FarsView → Option FarSource → Bool
is_far_told fars None = true
is_far_told fars (Some far) = fars.told far

-- whether the document of a source is told: that of a file is, and of a view it is where those below it are
abbrev pub is_spec_told : StoresView → SourceSpec → Bool
is_spec_told stores spec = is_table_told stores.tables (declared_in spec.kind) && is_far_told stores.fars (far_in spec.kind)

-- whether the document is told of each chosen source among given sources, which are numbered from a given number on
abbrev pub told_from : StoresView → (ℕ → Bool) → ℕ → List SourceSpec → Bool
told_from stores chosen n [] = true
told_from stores chosen n (spec ∷ sources) = (not (chosen n) || is_spec_told stores spec) && told_from stores chosen (n + 1) sources

-- whether the document of each chosen source is told
abbrev pub all_told : StoresView → (ℕ → Bool) → List SourceSpec → Bool
all_told stores chosen sources = told_from stores chosen 0 sources

-- whether the document of each source is told that the plan of what is asked needs, or a view that it reads
abbrev pub is_told : StoresView → Question → Bool
is_told stores q = all_told stores (needs q.ops q.lower) q.sources

-- what the steps with given answers, and the next step where there is one, may cost on the document of a plan: their tolls, of one that follows a text as far as its
-- places reach, and what the nodes that texts named may cost beside these
abbrev pub steps_charge : Question → List Answer → ℕ
steps_charge q answers =
    begun (act_toll_by 0 (place_toll q.docs q.ops) text_reach q.tree) (names_after (finished q)) no_names answers q.steps
    + walks_owed (λ node. toll_from (walk_charge q.docs q.ops) (q.named node)) 0 answers q.steps

-- lines begin with the whole lines of these answers, which are to the first part of what was heard
pub record BeginsWith (q : Question) (heard : List Heard) (whole : List Answer) (lines : List ℕ) : Type 0 where
  pub done : List Heard
  pub later : List Heard
  pub parts : heard ≡ done ++ later
  pub all : length whole ≡ length (steps_in done)
  pub rest : List ℕ
  pub are : lines ≡ spoken (names_of_sources q.sources) done whole ++ rest

-- at most as many fills were asked as the steps may cost that were begun, each as often as a step costs at most in a view that the plan reads: those whose
-- lines were written whole, and the next one
pub record IsFrugal (heard : List Heard) (before after : Option (List ℕ)) (q : Question) (fills : ℕ) (answers : List Answer) : Type 0 where
  pub whole : List Answer
  pub later : List Answer
  pub parts : answers ≡ whole ++ later
  pub lines : List ℕ
  pub begin : BeginsWith q heard whole lines
  pub written : Appends before after lines
  pub cost : (most : ℕ) → AreCheap q most → fills ≤ most * steps_charge q whole

-- a note says of no source that it failed
abbrev pub IsNoFault : Note → Type 0
IsNoFault nothing = Unit {0}
IsNoFault (failed source) = ⊥
IsNoFault (spelled text) = Unit {0}

-- given lines are those of all that was heard on the finished document of what is asked, under notes that stand only where they may: the first of them the answers
-- show, and no other says that a source failed
pub record AreLinesOf (heard : List Heard) (q : Question) (answers : List Answer) (lines : List ℕ) : Type 0 where
  pub more : List Note
  pub others : AllByRecursion IsNoFault more
  pub allowed : AreNotes false (naming q) (finished q) no_names (notes_of answers ++ more) q.steps
  pub are : lines ≡ heard_transcript (finished q) (names_of_sources q.sources) (notes_of answers ++ more) heard

-- what all that was heard comes to, where its steps are those that are asked, and are answered over stores that meant the first before and mean the second after,
-- what that asked, and what a sink has taken of the lines
pub record IsHeardAnswered (heard : List Heard) (before after : StoresView) (q : Question) (fills : ℕ) (sink sink' : SinkView) (status : ℕ) (lines : List ℕ) : Type 0 where
  -- the answers to the first steps; a fault is one of a table, of another machine's source or of a view that the plan reads
  pub answers : List Answer
  pub allowed : AreAnswers false (MayFail (reads_source q.ops) q.sources) no_names answers q.steps
  -- a table failed as often as it is marked, and so did a source of another machine
  pub counted : (s : ℕ) (d : Declared) → IsTable (reads_source q.ops) q.sources s d → HasRisenBy (faults_of s answers) (before.tables.faults d) (after.tables.faults d)
  pub counted_far : (s : ℕ) (far : FarSource) → IsFar (reads_source q.ops) q.sources s far → HasRisenBy (faults_of s answers) (before.fars.faults far) (after.fars.faults far)
  -- a view is marked at most as often as the sources below it failed
  pub counted_view : (i : ℕ) (ops : List Operator) → lower_at q.lower i ≡ Some ops
      → HasRisenBy (faults_of (view_number q.sources i) answers) (faults_below before q.sources ops) (faults_below after q.sources ops)
  pub status_is : status ≡ cond (has_fault answers) 1 0
  -- no more pages of tables were asked than fills
  pub pages : after.tables.pages ≤ before.tables.pages + fills
  -- over told documents no more fills were asked than the steps may cost that were begun
  pub cost : is_told before q ≡ true → IsFrugal heard sink.written sink'.written q fills answers
  -- over told documents the lines are those of all that was heard on the finished document, under the notes that the answers show
  pub told : is_told before q ≡ true → AreLinesOf heard q answers lines
  -- over documents that are not all told the lines are those of answers to all steps
  pub untold : is_told before q ≡ false → (length answers ≡ length q.steps) × (lines ≡ spoken (names_of_sources q.sources) heard answers)

-- the answers to the steps of a run, which are what is heard of it, its status and lines, over stores that meant the first before and mean the second after
abbrev pub IsAnswered : StoresView → StoresView → Question → ℕ → SinkView → SinkView → ℕ → List ℕ → Type 0
IsAnswered before after q = IsHeardAnswered (map step q.steps) before after q

-- where neither a plan nor a view that it reads needs a table or a source of another machine, and it reads no view, the status of a run is 0, and where no step writes
-- an identifier down or follows one, its lines are the transcript without notes
abbrev pub RunsWithoutTablesAreUnmarked : Type 0
RunsWithoutTablesAreUnmarked =
    (before after : StoresView) (q : Question) (fills : ℕ) (sink sink' : SinkView) (status : ℕ) (lines : List ℕ)
    → ((s : ℕ) → MayFail (needs q.ops q.lower) q.sources s → ⊥) → IsAnswered before after q fills sink sink' status lines → (status ≡ 0) × (ArePlain q.steps → lines ≡ transcript (unnamed q.tree) [] [] q.steps)
