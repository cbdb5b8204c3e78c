-- Where a plan reads no table and no source of another machine, the lines are the transcript without marks.
use Rattle.std.proofs.Common.{◌≡◌, ◌∙◌, ◌+◌, ◌||◌, IsTrue, inl, inr, not, ℕ, suc, Bool, true, false, cond, is_some, List, [], ◌∷◌, ◌++◌, Option, Some, None, refl, ap, subst, arith, slice_get}
use Rattle.std.specs.Prelude.{option_and_then}
use Rattle.mix_base.proofs.Choices.{and_both}
use Rattle.mix_tree.specs.Forest.{LabelledTree, alone}
use Rattle.mix_tree.specs.Place.{has_place, tree_at}
use Rattle.mix_catalog.specs.declared.source.SourceSpec.{SourceSpec}
use Rattle.far_keep.specs.declared.far_source.FarSource.{FarSource}
use Rattle.mix_reach.specs.Stores.{StoresView}
use Rattle.table_keep.specs.Views.{Declared}
use Rattle.table_wrap.specs.Document.{declared_in}
use Rattle.mix_script.specs.Names.{no_names}
use Rattle.mix_script.specs.Answers.{line_of}
use Rattle.mix_script.specs.Allowed.{mark_of, note_of, notes_of, has_fault}
use Rattle.mix_script.specs.Steps.{ArePlain, is_plain}
use Rattle.mix_script.specs.Transcript.{AreNotes, Finished, IsTextFor, MayBeNoted, Names, Naming, Note, answer_of, answered, failed, first_note, goal_of, if_held, label_answer, later_notes, lines_from, move_answer, named_answer, nothing, spelled, text_answer, unnamed}
use Rattle.mix_script.specs.declared.step.Act.{Act}
use Rattle.mix_script.specs.declared.step.Act.TheVariants.{Root, Move, Select, Fetch, Print, Id, At}
use Rattle.mix_script.specs.declared.step.Step.{Step}
use Rattle.mix_script.specs.declared.answer.Answer.{Answer}
use Rattle.mix_script.specs.declared.answer.Answer.TheVariants as answer
use Rattle.mix_script.proofs.Answering.{unmarked}
use Rattle.mix_lines.proofs.Script.{transcript_of_script}
use Rattle.xmas_read.specs.Results.{names_of_sources}
use Rattle.mix_run.specs.Answered.{IsNoFault, MayFail, RunsWithoutTablesAreUnmarked, all_told, is_far_told, is_spec_told, is_table_told, told_from}
use Rattle.mix_place.specs.Documents.{far_in}
use Rattle.mix_place.proofs.SourceKinds.{each_is_one, file_is_apart, view_is_apart}
use Rattle.view_class.specs.Reads.{reads_source}
use Rattle.std.specs.List.{AllByRecursion, list_any}
use Rattle.mix_run.specs.Question.{finished, naming}
use Rattle.std.proofs.lemmas.Bool.{or_left}
use Rattle.mix_place.specs.Views.{needs, reads_lower}

-- an answer that is no fault is no fault either where a name may hold no place
held_quiet : (o : Option (List ℕ)) (a : Answer) → mark_of a ≡ None → mark_of (if_held o a) ≡ None
held_quiet None a e = refl
held_quiet (Some place) a e = e

-- the answer of a move in a finished tree marks no source
move_quiet : (t : LabelledTree) (goal : Option (List ℕ)) → mark_of (move_answer t goal) ≡ None
move_quiet t None = refl
move_quiet t (Some place) = elim (has_place (alone t) place) as (λ b. mark_of (cond b answer.Node answer.None) ≡ None) [ true ↦ refl | false ↦ refl ]

-- the answer of a fetch in a finished tree marks no source
label_quiet : (o : Option LabelledTree) → mark_of (label_answer o) ≡ None
label_quiet None = refl
label_quiet (Some t) = refl

-- the answer of a print in a finished tree marks no source
text_quiet : (o : Option LabelledTree) → mark_of (text_answer o) ≡ None
text_quiet None = refl
text_quiet (Some t) = refl

-- the answer where a text is followed marks no source
named_quiet : (o : Option (List ℕ)) → mark_of (named_answer o) ≡ None
named_quiet None = refl
named_quiet (Some place) = refl

-- an answer of a finished document without a note is no fault
quiet : (f : Finished) (names : Names) (client : List ℕ) (act : Act) → mark_of (answer_of f names nothing client act) ≡ None
quiet f names client (Root name) = refl
quiet f names client (Move way name from) = held_quiet (names client from) _ (move_quiet f.tree (goal_of f names client (Move way name from)))
quiet f names client (Select name from label) = held_quiet (names client from) _ (move_quiet f.tree (goal_of f names client (Select name from label)))
quiet f names client (Fetch from) = label_quiet (option_and_then (tree_at f.tree) (names client from))
quiet f names client (Print from) = held_quiet (names client from) _ (text_quiet (option_and_then (tree_at f.tree) (names client from)))
quiet f names client (Id from) = held_quiet (names client from) _ refl
quiet f names client (At name node) = named_quiet (f.named node)

-- the line of an answer that is no fault names no source
same_line : (sources : List (List ℕ)) (client : List ℕ) (a : Answer) → mark_of a ≡ None → line_of sources client a ≡ line_of [] client a
same_line sources client answer.Node e = refl
same_line sources client answer.None e = refl
same_line sources client (answer.Label l) e = refl
same_line sources client (answer.Text x) e = refl
same_line sources client answer.NoNode e = refl
same_line sources client (answer.Fault s) e = cc
same_line sources client (answer.Id x) e = refl
same_line sources client answer.Foreign e = refl

-- neither the first answer nor a later one is a fault
no_mark : (mark : Option ℕ) (more : Bool) → is_some mark || more ≡ false → (mark ≡ None) × (more ≡ false)
no_mark None more e = (refl, e)
no_mark (Some source) more e = absurd (let z : true ≡ false = e in cc)

-- notes that may stand at plain steps of which none is a fault are none at all
plain_note : (NamesAt : Naming) (names : Names) (step : Step) → IsTrue (is_plain step.act) → (note : Note) → MayBeNoted false NamesAt names step note → IsNoFault note → note ≡ nothing
plain_note NamesAt names step plain nothing may none = refl
plain_note NamesAt names step plain (failed s) may none = absurd none
plain_note NamesAt names step plain (spelled x) may none = absurd (by step.act plain may)
  where
    by : (act : Act) → IsTrue (is_plain act) → IsTextFor NamesAt names step.client act x → ⊥
    by (Root name) p h = h
    by (Move way name from) p h = h
    by (Select name from label) p h = h
    by (Fetch from) p h = h
    by (Print from) p h = h
    by (Id from) p h = absurd (let z : false ≡ true = p in cc)
    by (At name node) p h = h

-- one finished document answers plain steps as another with the same tree
same_answered : (f : Finished) (names : Names) (note : Note) (step : Step) → IsTrue (is_plain step.act) → answered f names note step ≡ answered (unnamed f.tree) names note step
same_answered f names note step plain = by step.act plain
  where
    by : (act : Act) → IsTrue (is_plain act) → answered f names note (record { client = step.client; act = act }) ≡ answered (unnamed f.tree) names note (record { client = step.client; act = act })
    by (Root name) p = refl
    by (Move way name from) p = refl
    by (Select name from label) p = refl
    by (Fetch from) p = refl
    by (Print from) p = refl
    by (Id from) p = refl
    by (At name node) p = absurd (let z : false ≡ true = p in cc)

module _ (NamesAt : Naming) (f : Finished) (sources : List (List ℕ)) where
  -- the lines of plain steps under notes of which none is a fault are those of the tree without notes, and name no source
  plain_lines : (names : Names) (notes : List Note) (steps : List Step) → ArePlain steps → AreNotes false NamesAt f names notes steps → AllByRecursion IsNoFault notes
      → lines_from f sources names notes steps ≡ lines_from (unnamed f.tree) [] names [] steps
  plain_lines names notes [] plain may none = refl
  plain_lines names notes (step ∷ steps) plain may none =
      let quiet_note : first_note notes ≡ nothing = plain_note NamesAt names step plain.0 (first_note notes) may.0 (first_of notes none) in
      let now = answered (unnamed f.tree) names nothing step in
      let same : answered f names (first_note notes) step ≡ now = ap (λ n. answered f names n step) quiet_note ∙ same_answered f names nothing step plain.0 in
      let later = plain_lines (answered f names (first_note notes) step).1 (later_notes notes) steps plain.1 may.1 (later_of notes none) in
      ap (λ r. line_of sources step.client (answered f names (first_note notes) step).0 ++ r) later
      ∙ ap (λ a. line_of sources step.client a.0 ++ lines_from (unnamed f.tree) [] a.1 [] steps) same
      ∙ ap (λ l. l ++ lines_from (unnamed f.tree) [] now.1 [] steps) (same_line sources step.client now.0 (quiet (unnamed f.tree) names step.client step.act))
    where
      first_of : (notes : List Note) → AllByRecursion IsNoFault notes → IsNoFault (first_note notes)
      first_of [] all = tt
      first_of (note ∷ notes) all = all.0

      later_of : (notes : List Note) → AllByRecursion IsNoFault notes → AllByRecursion IsNoFault (later_notes notes)
      later_of [] all = tt
      later_of (note ∷ notes) all = all.1

-- answers without a fault show notes without one, and so do others after them
no_faults : (answers : List Answer) (more : List Note) → has_fault answers ≡ false → AllByRecursion IsNoFault more → AllByRecursion IsNoFault (notes_of answers ++ more)
no_faults [] more none others = others
no_faults (a ∷ answers) more none others =
    let both = no_mark (mark_of a) (has_fault answers) none in
    (of a both.0, no_faults answers more both.1 others)
  where
    of : (a : Answer) → mark_of a ≡ None → IsNoFault (note_of a)
    of answer.Node e = tt
    of answer.None e = tt
    of (answer.Label l) e = tt
    of (answer.Text x) e = tt
    of answer.NoNode e = tt
    of (answer.Fault s) e = absurd (let z : Some s ≡ None = e in cc)
    of (answer.Id x) e = tt
    of answer.Foreign e = tt

-- what isn't read, or is no table and at no other machine, has nothing untold
told_head : (stores : StoresView) (spec : SourceSpec) (b : Bool) → (b ≡ true → (declared_in spec.kind ≡ None) × (far_in spec.kind ≡ None)) → not b || is_spec_told stores spec ≡ true
told_head stores spec true h =
    let is = h refl in
    and_both (is_table_told stores.tables (declared_in spec.kind)) (is_far_told stores.fars (far_in spec.kind))
    (ap (λ (x : Option Declared). is_table_told stores.tables x) is.0) (ap (λ (x : Option FarSource). is_far_told stores.fars x) is.1)
told_head stores spec false h = refl

-- where no chosen source is a table or at another machine, there is nothing that isn't told
nothing_untold : (stores : StoresView) (chosen : ℕ → Bool) (n : ℕ) (sources : List SourceSpec)
    → ((s : ℕ) (spec : SourceSpec) → slice_get sources s ≡ Some spec → chosen (n + s) ≡ true → (declared_in spec.kind ≡ None) × (far_in spec.kind ≡ None)) → told_from stores chosen n sources ≡ true
nothing_untold stores chosen n [] h = refl
nothing_untold stores chosen n (x ∷ xs) h =
    let place : n ≡ n + 0 = omega arith in
    and_both (not (chosen n) || is_spec_told stores x) (told_from stores chosen (n + 1) xs)
    (told_head stores x (chosen n) (λ read. h 0 x refl (subst (λ (k : ℕ). chosen k ≡ true) place read)))
    (nothing_untold stores chosen (n + 1) xs
    (λ s spec at read. h (suc s) spec at (let next : n + 1 + s ≡ n + suc s = omega arith in subst (λ (k : ℕ). chosen k ≡ true) next read)))

-- a chosen source is no table and at no other machine, where no chosen source may fail
is_file : (chosen : ℕ → Bool) (sources : List SourceSpec) → ((s : ℕ) → MayFail chosen sources s → ⊥) → (s : ℕ) (spec : SourceSpec) → slice_get sources s ≡ Some spec → chosen (0 + s) ≡ true
    → (declared_in spec.kind ≡ None) × (far_in spec.kind ≡ None)
is_file chosen sources none s spec at read =
    let place : 0 + s ≡ s = omega arith in
    let here = subst (λ (k : ℕ). chosen k ≡ true) place read in
    elim (each_is_one spec.kind) as (λ _. (declared_in spec.kind ≡ None) × (far_in spec.kind ≡ None)) [
      | inl e ↦ file_is_apart spec.kind e
      | inr (inl found) ↦ absurd (none s (inl (found.0, record { spec = spec; there = at; read = here; declares = found.1 })))
      | inr (inr (inl found)) ↦ absurd (none s (inr (inl (found.0, record { spec = spec; there = at; read = here; declares = found.1 }))))
      | inr (inr (inr view)) ↦ view_is_apart spec.kind view
    ]

-- a source that may fail among those of one choice may fail among those of a wider one
may_wider : (A B : ℕ → Bool) → ((s : ℕ) → A s ≡ true → B s ≡ true) → (sources : List SourceSpec) (s : ℕ) → MayFail A sources s → MayFail B sources s
may_wider A B w sources s (inl t) = inl (t.0, record { spec = t.1.spec; there = t.1.there; read = w s t.1.read; declares = t.1.declares })
may_wider A B w sources s (inr (inl f)) = inr (inl (f.0, record { spec = f.1.spec; there = f.1.there; read = w s f.1.read; declares = f.1.declares }))
may_wider A B w sources s (inr (inr v)) = inr (inr (record { spec = v.spec; there = v.there; read = w s v.read; view = v.view }))

-- a run of a plan that needs no table and no source of another machine, and reads no view
pub without_tables : RunsWithoutTablesAreUnmarked
without_tables before after q fills sink sink' status lines none is =
    let chosen = needs q.ops q.lower in
    let wider = may_wider (reads_source q.ops) chosen (λ s read. or_left (reads_source q.ops s) (list_any (reads_lower s) q.lower) read) q.sources in
    let faultless = unmarked false (MayFail (reads_source q.ops) q.sources) no_names is.answers q.steps is.allowed (λ s may. absurd (none s (wider s may))) in
    let told : all_told before chosen q.sources ≡ true = nothing_untold before chosen 0 q.sources (is_file chosen q.sources none) in (
      is.status_is ∙ ap (λ b. cond b 1 0) faultless,
      λ plain.
          let of = is.told told in
          of.are ∙ transcript_of_script (finished q) (names_of_sources q.sources) no_names (notes_of is.answers ++ of.more) q.steps
          ∙ plain_lines (naming q) (finished q) (names_of_sources q.sources) no_names (notes_of is.answers ++ of.more) q.steps plain of.allowed (no_faults is.answers of.more faultless of.others),
    )
