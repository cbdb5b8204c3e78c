-- What answers over sources and views over them come to.
use Rattle.std.proofs.Common.{◌≡◌, ◌∙◌, ◌+◌, ◌*◌, ◌≤◌, IsTrue, ℕ, Bool, true, false, cond, nat_lt, List, [], ◌++◌, Option, Some, None, refl, ap, sym, subst, arith, length, take}
use Rattle.std.specs.List.{AllByRecursion}
use Rattle.std.proofs.lemmas.Bool.Decides.{nat_tests}
use Rattle.mix_base.proofs.Lists.{append_nil}
use Rattle.mix_base.specs.Counts.{HasRisenBy}
use Rattle.mix_io.specs.Views.{SinkView}
use Rattle.mix_io.specs.Contents.{Appends, AppendsPrefix}
use Rattle.mix_tree.specs.Forest.{none}
use Rattle.mix_tree.specs.Nodes.{Documents}
use Rattle.lxp_core.specs.View.{View, document as given}
use Rattle.lxp_remote.specs.Remotes.{Tells}
use Rattle.mix_mount.specs.Mounts.{mount_at, view_of as mount_view}
use Rattle.mix_reach.specs.Reach.{Reaching, document_at as source_at, root_at, site_at, view_of}
use Rattle.mix_reach.specs.Stores.{stores_of}
use Rattle.mix_reach.specs.declared.site.Site.{Site}
use Rattle.mix_reach.specs.declared.site.Site.TheVariants.{Here, Far}
use Rattle.far_keep.specs.declared.far_source.FarSource.{FarSource}
use Rattle.mix_place.specs.Placed.{view_number}
use Rattle.mix_place.specs.Views.{lower_at}
use Rattle.table_keep.specs.Views.{Declared}
use Rattle.xmas_read.specs.Results.{names_of_sources}
use Rattle.plan_core.specs.Plans.{Operator}
use Rattle.plan_core.specs.declared.plan.Plan.{Plan}
use Rattle.lazy_plan.specs.Bench.{BenchState, ops_of, documents, forward}
use Rattle.lazy_binding.specs.Cursors.{IsRead}
use Rattle.lazy_follow.specs.Marks.{text_reach}
use Rattle.lazy_walk.specs.Finding.{walk_charge}
use Rattle.plan_evidence.specs.Named.{Names}
use Rattle.mix_script.specs.Allowed.{AreAnswers, begun, faults_of, has_fault, notes_of, walks_owed}
use Rattle.mix_script.specs.Finished.{AreOf}
use Rattle.mix_script.specs.Names.{no_names}
use Rattle.mix_script.specs.Transcript.{AreNotes, IsRight, Note, names_after}
use Rattle.mix_script.specs.declared.answer.Answer.{Answer}
use Rattle.mix_lines.specs.Ends.{IsLazy, IsRun}
use Rattle.mix_lines.specs.Heard.{Heard, steps_in}
use Rattle.mix_lines.specs.Lines.{heard_transcript, spoken}
use Rattle.mix_lines.proofs.Telling.{spoken_more}
use Rattle.mix_session.specs.Stepped.{act_toll_by}
use Rattle.mix_session.specs.Tolls.{toll_from}
use Rattle.mix_session.specs.Walks.{IsDocument, place_toll, plan_course}
use Rattle.mix_run.specs.Answered.{BeginsWith, IsFar, IsFrugal, IsHeardAnswered, IsNoFault, IsTable, MayFail, faults_below, is_told, steps_charge}
use Rattle.mix_run.specs.Question.{AreCheap, Question, finished, naming}
use Rattle.mix_run.specs.Running.{document_at, documents_of, placed_of}
use Rattle.mix_run.proofs.Completing.{answers_may, complete}
use Rattle.mix_run.proofs.Lines.{first_prefix}
use Rattle.mix_run.proofs.Noting.{lines_all, lines_begin, notes_complete}
use Rattle.mix_run.specs.Finishing.{IsFinishedOf}
use Rattle.view_class.specs.Reads.{reads_source}

-- sources tell their own documents
pub tells_itself : (x : Reaching) → Tells (view_of x) (view_of x)
tells_itself x = record { count = refl; told = λ s. refl; documents = λ s h. refl; forward = λ s. refl }

-- the document of a source, by where it is, is what is mounted here or what stands at another machine
document_is_at : (x : Reaching) (s : ℕ) (site : Site) → (source_at (mount_view x.mounted) x.fars s site).forest (root_at (mount_view x.mounted) s site) ≡ document_at (stores_of x) site (mount_at x.mounted.docs s)
document_is_at x s Here = refl
document_is_at x s (Far far) = refl

-- sources that tell what others do have the documents of these
pub documents_told : (v : View) (x : Reaching) (views : List (Option Plan)) → Tells v (view_of x) → (s : ℕ) → cond (nat_lt s v.count) (given v s) none ≡ documents_of (stores_of x) (placed_of x views) s
documents_told v x views tells s =
    ap (λ (n : ℕ). cond (nat_lt s n) (given v s) none) tells.count ∙ here (nat_lt s (length x.mounted.docs)) refl
  where
    here : (b : Bool) → nat_lt s (length x.mounted.docs) ≡ b
        → cond b (given v s) none ≡ cond b (document_at (stores_of x) (site_at x.sites s) (mount_at x.mounted.docs s)) none
    here true is = tells.documents s (grind (arith, nat_tests, is)) ∙ document_is_at x s (site_at x.sites s)
    here false is = refl

-- a prefix of lines is a prefix of the whole lines that begin with them
pub prefix_of : (before after : Option (List ℕ)) (n : ℕ) (lines rest whole : List ℕ) → lines ++ rest ≡ whole → Appends before after (take n lines) → AppendsPrefix before after whole
prefix_of None after n lines rest whole e h = h
prefix_of (Some b) after n lines rest whole e h = subst (λ (w : List ℕ). AppendsPrefix (Some b) after w) e (first_prefix (Some b) after lines rest (n, h))

-- over told documents no more fills were asked than the steps may cost that were begun
abbrev pub Frugal : List Heard → Reaching → Reaching → Question → SinkView → SinkView → List Answer → Type 0
Frugal heard a b q before after answers = is_told (stores_of a) q ≡ true → IsFrugal heard before.written after.written q b.fills answers

-- over told documents answers are those of the finished document
abbrev pub AreFinished : Reaching → Question → List Answer → Type 0
AreFinished a q answers = is_told (stores_of a) q ≡ true → AreOf (naming q) (finished q) no_names answers q.steps

-- the lines of some run may begin with the lines of these answers
pub record IsPrefix (heard : List Heard) (a b : Reaching) (q : Question) (before after : SinkView) (answers : List Answer) : Type 0 where
  pub status : ℕ
  pub lines : List ℕ
  pub is : IsHeardAnswered heard (stores_of a) (stores_of b) q b.fills before after status lines
  pub rest : List ℕ
  pub begun : spoken (names_of_sources q.sources) heard answers ++ rest ≡ lines

-- tables, sources of other machines and views failed at least as often as answers mark them
pub record AreCounted (a b : Reaching) (q : Question) (answers : List Answer) : Type 0 where
  pub tables : (s : ℕ) (d : Declared) → IsTable (reads_source q.ops) q.sources s d → HasRisenBy (faults_of s answers) (a.mounted.tables.faults d) (b.mounted.tables.faults d)
  pub fars : (s : ℕ) (far : FarSource) → IsFar (reads_source q.ops) q.sources s far → HasRisenBy (faults_of s answers) (a.fars.faults far) (b.fars.faults far)
  pub views : (i : ℕ) (ops : List Operator) → lower_at q.lower i ≡ Some ops
      → HasRisenBy (faults_of (view_number q.sources i) answers) (faults_below (stores_of a) q.sources ops) (faults_below (stores_of b) q.sources ops)

module _ (heard : List Heard) (a b : Reaching) (q : Question) (few : b.mounted.tables.pages ≤ a.mounted.tables.pages + b.fills) (before after : SinkView)
    (same : q.steps ≡ steps_in heard) (texts : IsFinishedOf q.docs q.ops q.steps (finished q)) (answers : List Answer) (allowed : AreAnswers false (MayFail (reads_source q.ops) q.sources) no_names answers q.steps) (counted : AreCounted a b q answers)
    (of : AreFinished a q answers) (less : Frugal heard a b q before after answers) where
  -- the lines of some run on the document may begin with the lines of the answers
  abbrev Begins : Type 0
  Begins = IsPrefix heard a b q before after answers

  -- where all documents are told, there are notes for all steps, of which the answers show the first
  noted : is_told (stores_of a) q ≡ true → (more : List Note) × AllByRecursion IsNoFault more × AreNotes false (naming q) (finished q) no_names (notes_of answers ++ more) q.steps
  noted e = notes_complete (naming q) (finished q) texts.each texts.nodes false (MayFail (reads_source q.ops) q.sources) answers q.steps texts.named allowed (of e)

  -- where all documents are told, answers begin with the lines under the notes so far
  told_begins : is_told (stores_of a) q ≡ true → Begins
  told_begins e =
      let notes = noted e in
      let begin = lines_begin (naming q) (finished q) (names_of_sources q.sources) notes.0 heard answers (subst (AreOf (naming q) (finished q) no_names answers) same (of e)) in
      record {
        status = cond (has_fault answers) 1 0;
        lines = heard_transcript (finished q) (names_of_sources q.sources) (notes_of answers ++ notes.0) heard;
        is = record {
          answers = answers;
          allowed = allowed;
          counted = counted.tables;
          counted_far = counted.fars;
          counted_view = counted.views;
          status_is = refl;
          pages = few;
          cost = less;
          told = λ _. record { more = notes.0; others = notes.1; allowed = notes.2; are = refl };
          untold = λ no. absurd (let z : true ≡ false = sym e ∙ no in cc);
        };
        rest = begin.0;
        begun = begin.1;
      }

  -- where a document isn't told, answers are begun by some answers, completed without a further fault
  untold_begins : is_told (stores_of a) q ≡ false → Begins
  untold_begins e =
      let found = complete (MayFail (reads_source q.ops) q.sources) (names_of_sources q.sources) no_names answers q.steps allowed in
      let all : List Answer = answers ++ found.0 in
      let c = found.1 in
      let more = spoken_more (names_of_sources q.sources) heard answers found.0 in
      record {
        status = cond (has_fault all) 1 0;
        lines = spoken (names_of_sources q.sources) heard all;
        is = record {
          answers = all;
          allowed = c.allowed;
          counted = λ s d i. subst (λ (n : ℕ). HasRisenBy n (a.mounted.tables.faults d) (b.mounted.tables.faults d)) (sym (c.faults s)) (counted.tables s d i);
          counted_far = λ s far i. subst (λ (n : ℕ). HasRisenBy n (a.fars.faults far) (b.fars.faults far)) (sym (c.faults s)) (counted.fars s far i);
          counted_view = λ i ops at.
              subst (λ (n : ℕ). HasRisenBy n (faults_below (stores_of a) q.sources ops) (faults_below (stores_of b) q.sources ops)) (sym (c.faults (view_number q.sources i))) (counted.views i ops at);
          status_is = refl;
          pages = few;
          cost = λ yes. absurd (let z : true ≡ false = sym yes ∙ e in cc);
          told = λ yes. absurd (let z : true ≡ false = sym yes ∙ e in cc);
          untold = λ _. (c.all, refl);
        };
        rest = more.0;
        begun = sym more.1;
      }

  -- the lines of answers that steps may have are the first ones of some run
  pub some_begins : Begins
  some_begins = elim (is_told (stores_of a) q) as (λ c. is_told (stores_of a) q ≡ c → Begins) [ true ↦ told_begins | false ↦ untold_begins ] refl

-- nothing is no more than any number
no_more : (n m : ℕ) → n ≡ 0 → n ≤ m
no_more n m e = omega (arith, e)

-- nothing is written of no lines
unwritten : (written : Option (List ℕ)) → Appends written written []
unwritten None = refl
unwritten (Some bytes) = ap Some (sym (append_nil bytes))

-- where no fill was asked and nothing was written, some run may go on from there
pub unanswered : (heard : List Heard) (a b : Reaching) (q : Question) → AreCounted a b q [] → b.fills ≡ 0 → b.mounted.tables.pages ≤ a.mounted.tables.pages + b.fills → (before : SinkView) → q.steps ≡ steps_in heard
    → IsFinishedOf q.docs q.ops q.steps (finished q) → BeginsWith q heard [] [] → IsPrefix heard a b q before before []
unanswered heard a b q counted none_asked few before same texts begin =
    some_begins heard a b q few before before same texts [] tt counted (λ e. tt)
    (λ e. record { whole = []; later = []; parts = refl; lines = []; begin = begin; written = unwritten before.written; cost = λ most cheap. no_more b.fills (most * steps_charge q []) none_asked })

-- what is known of sources that are walked by a bench, which stand over others that are reached, and of what is asked over these: the bench walks the documents of the
-- question; no other source failed than those that may; as often as they failed, what stands below did; and where all is told, at most as many fills were asked of
-- what is reached as a step of a view costs, for each that was asked of them
pub record IsOver (old new : View) (st : BenchState) (a b : Reaching) (q : Question) : Type 0 where
  pub ops : ops_of st ≡ q.ops
  pub docs : documents st ≡ q.docs
  pub told : is_told (stores_of a) q ≡ true → IsDocument st q.tree × IsTrue (forward st)
  pub failed : (s times : ℕ) → HasRisenBy times (old.faults s) (new.faults s) → IsRead q.ops s → (times ≡ 0 → ⊥) → MayFail (reads_source q.ops) q.sources s
  pub tables : (s times : ℕ) (d : Declared) → IsTable (reads_source q.ops) q.sources s d → HasRisenBy times (old.faults s) (new.faults s) → HasRisenBy times (a.mounted.tables.faults d) (b.mounted.tables.faults d)
  pub fars : (s times : ℕ) (far : FarSource) → IsFar (reads_source q.ops) q.sources s far → HasRisenBy times (old.faults s) (new.faults s) → HasRisenBy times (a.fars.faults far) (b.fars.faults far)
  pub views : (i times : ℕ) (ops : List Operator) → lower_at q.lower i ≡ Some ops → HasRisenBy times (old.faults (view_number q.sources i)) (new.faults (view_number q.sources i))
      → HasRisenBy times (faults_below (stores_of a) q.sources ops) (faults_below (stores_of b) q.sources ops)
  pub unasked : old.fills ≡ 0
  pub fills : is_told (stores_of a) q ≡ true → (most asked : ℕ) → AreCheap q most → new.fills ≤ asked → b.fills ≤ most * asked

-- what is known of answers that are a run's on the course of a plan: their cost, their status and their lines
pub record IsAnswering (heard : List Heard) (old new : View) (a b : Reaching) (q : Question) (st : BenchState) (before after : SinkView) : Type 0 where
  pub frugal : (whole later : List Answer) (lines : List ℕ) → IsLazy (plan_course st) old.fills new.fills q.steps whole → BeginsWith q heard whole lines → Appends before.written after.written lines
      → Frugal heard a b q before after (whole ++ later)
  pub whole : (answers : List Answer) → IsRun (plan_course st) old.faults new.faults q.steps answers → Frugal heard a b q before after answers
      → length answers ≡ length q.steps → IsHeardAnswered heard (stores_of a) (stores_of b) q b.fills before after (cond (has_fault answers) 1 0) (spoken (names_of_sources q.sources) heard answers)
  pub prefix : (answers : List Answer) → IsRun (plan_course st) old.faults new.faults q.steps answers → Frugal heard a b q before after answers → IsPrefix heard a b q before after answers

module _ (heard : List Heard) (old new : View) (st : BenchState) (a b : Reaching) (q : Question) (over : IsOver old new st a b q)
    (few : b.mounted.tables.pages ≤ a.mounted.tables.pages + b.fills) (before after : SinkView) (same : q.steps ≡ steps_in heard) (texts : IsFinishedOf q.docs q.ops q.steps (finished q)) where
  -- answers that a run on the course of the plan gives
  abbrev Are : List Answer → Type 0
  Are answers = IsRun (plan_course st) old.faults new.faults q.steps answers

  -- where an answer of the run is a fault, it is one of a source that may fail and that the plan reads
  allowed : (answers : List Answer) → Are answers → AreAnswers false (MayFail (reads_source q.ops) q.sources) no_names answers q.steps
  allowed answers run =
      answers_may (IsRead (ops_of st)) (MayFail (reads_source q.ops) q.sources) no_names answers q.steps
      (λ s read some. over.failed s (faults_of s answers) (run.counted s) (subst (λ (ops : List Operator). IsRead ops s) over.ops read) some) run.allowed

  -- in a run what is marked failed as often
  counted : (answers : List Answer) → Are answers → AreCounted a b q answers
  counted answers run = record {
    tables = λ s d i. over.tables s (faults_of s answers) d i (run.counted s);
    fars = λ s far i. over.fars s (faults_of s answers) far i (run.counted s);
    views = λ i ops at. over.views i (faults_of (view_number q.sources i) answers) ops at (run.counted (view_number q.sources i));
  }

  -- what the steps may cost on the course of the plan
  abbrev course_charge : Documents → List Operator → List Answer → ℕ
  course_charge docs ops answers =
      begun (act_toll_by 0 (place_toll docs ops) text_reach q.tree) (names_after (finished q)) no_names answers q.steps
      + walks_owed (λ node. toll_from (walk_charge docs ops) (q.named node)) 0 answers q.steps

  -- what the steps may cost is told by the plan and its documents
  charges : (answers : List Answer) → course_charge (documents st) (ops_of st) answers ≡ course_charge q.docs q.ops answers
  charges answers = ap (λ (docs : Documents). course_charge docs (ops_of st) answers) over.docs ∙ ap (λ (ops : List Operator). course_charge q.docs ops answers) over.ops

  -- which node a text names is told by the plan and its documents
  senses : IsRight (Names (documents st) (ops_of st)) (finished q) q.steps
  senses =
      subst (λ (docs : Documents). IsRight (Names docs (ops_of st)) (finished q) q.steps) (sym over.docs)
      (subst (λ (ops : List Operator). IsRight (Names q.docs ops) (finished q) q.steps) (sym over.ops) texts.named)

  -- over told documents no more fills were asked than the steps may cost that were begun
  asked : (answers : List Answer) → IsLazy (plan_course st) old.fills new.fills q.steps answers → is_told (stores_of a) q ≡ true → new.fills ≤ steps_charge q answers
  asked answers lazy e =
      let known = over.told e in
      let h = lazy.tree (known.0.0, known.1) (finished q) known.0 senses in
      let is = charges answers in
      let start = over.unasked in
      omega (arith, h, is, start)

  -- over told documents the answers of a run are those of the finished document
  finished_are : (answers : List Answer) → Are answers → AreFinished a q answers
  finished_are answers run e =
      subst (λ (docs : Documents). AreOf (Names docs q.ops) (finished q) no_names answers q.steps) over.docs
      (subst (λ (ops : List Operator). AreOf (Names (documents st) ops) (finished q) no_names answers q.steps) over.ops (run.told (finished q) (over.told e).0 senses))

  -- over told documents a run asked for no more than the begun steps may cost, of which those of whole lines were written
  frugal : (whole later : List Answer) (lines : List ℕ) → IsLazy (plan_course st) old.fills new.fills q.steps whole → BeginsWith q heard whole lines → Appends before.written after.written lines → Frugal heard a b q before after (whole ++ later)
  frugal whole later lines lazy begin written e = record {
    whole = whole;
    later = later;
    parts = refl;
    lines = lines;
    begin = begin;
    written = written;
    cost = λ most cheap. over.fills e most (steps_charge q whole) cheap (asked whole lazy e);
  }

  -- a run that answers all steps has its answers' status and lines
  whole : (answers : List Answer) → Are answers → Frugal heard a b q before after answers → length answers ≡ length q.steps
      → IsHeardAnswered heard (stores_of a) (stores_of b) q b.fills before after (cond (has_fault answers) 1 0) (spoken (names_of_sources q.sources) heard answers)
  whole answers run less all = record {
    answers = answers;
    allowed = allowed answers run;
    counted = (counted answers run).tables;
    counted_far = (counted answers run).fars;
    counted_view = (counted answers run).views;
    status_is = refl;
    pages = few;
    cost = less;
    told = λ e.
        let of = finished_are answers run e in
        let notes = notes_complete (naming q) (finished q) texts.each texts.nodes false (MayFail (reads_source q.ops) q.sources) answers q.steps texts.named (allowed answers run) of in
        record { more = notes.0; others = notes.1; allowed = notes.2; are = lines_all (naming q) (finished q) (names_of_sources q.sources) notes.0 heard answers (subst (AreOf (naming q) (finished q) no_names answers) same of) (all ∙ ap (λ xs. length xs) same) };
    untold = λ e. (all, refl);
  }

  prefix : (answers : List Answer) → Are answers → Frugal heard a b q before after answers → IsPrefix heard a b q before after answers
  prefix answers run less =
      some_begins heard a b q few before after same texts answers (allowed answers run) (counted answers run) (finished_are answers run) less

  -- the answers of a run are as is known of them: their cost, their status and their lines
  pub answering : IsAnswering heard old new a b q st before after
  answering = record { frugal = frugal; whole = whole; prefix = prefix }
