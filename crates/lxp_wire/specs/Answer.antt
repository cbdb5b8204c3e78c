-- What sources answer to requests.
use Rattle.std.specs.Prelude.{◌≡◌, ℕ, ◌+◌, ◌<◌, ◌≤◌, true, false, List, [], ◌∷◌, ◌++◌}
use Rattle.mix_base.specs.Counts.{HasRisen}
use Rattle.lxp_core.specs.declared.open_tree.HoleId.{HoleId}
use Rattle.lxp_core.specs.Fill.{Answers as AnswersHole, source_of}
use Rattle.lxp_core.specs.Small.{IsSmall}
use Rattle.lxp_core.specs.View.{View, Keeps}
use Rattle.wire_text.specs.declared.request.Request.{Request}
use Rattle.wire_text.specs.declared.request.Request.TheVariants.{Count, Root, Fill}
use Rattle.wire_text.specs.Wired.{Wired, without_weights, with_weights}
use Rattle.wire_text.specs.Reply.{Said, count, root, list, failed, unknown_hole, no_memory, no_source, IsReply, reply_bytes}

-- the list is one that a fill of the hole may answer, each hole in it comes with its weight, and it is small enough for a wire
pub record IsListOf (old new : View) (s : ℕ) (h : HoleId) (o : Wired) : Type 0 where
  pub weighed : o ≡ with_weights (new.weight s) (without_weights o)
  pub answers : AnswersHole (source_of old s) (source_of new s) h (without_weights o)
  pub small : IsSmall (without_weights o)

-- how many sources there are
abbrev pub AnswersCount : View → Said → Type 0
AnswersCount v (count n) = n ≡ v.count
AnswersCount v (root id weight) = ⊥
AnswersCount v (list o) = ⊥
AnswersCount v failed = ⊥
AnswersCount v unknown_hole = ⊥
AnswersCount v no_memory = Unit {0}
AnswersCount v no_source = ⊥

-- the root of a source and its weight; no source exactly where there are not so many
abbrev pub AnswersRoot : View → ℕ → Said → Type 0
AnswersRoot v s (count n) = ⊥
AnswersRoot v s (root id weight) = (s < v.count) × (id ≡ v.root s) × (weight ≡ v.weight s id)
AnswersRoot v s (list o) = ⊥
AnswersRoot v s failed = ⊥
AnswersRoot v s unknown_hole = ⊥
AnswersRoot v s no_memory = Unit {0}
AnswersRoot v s no_source = v.count ≤ s

-- the list of a hole; a failure only where the source failed; an unknown hole exactly where the source doesn't know it
abbrev pub AnswersFill : View → View → ℕ → HoleId → Said → Type 0
AnswersFill old new s h (count n) = ⊥
AnswersFill old new s h (root id weight) = ⊥
AnswersFill old new s h (list o) = (s < old.count) × (old.knows s h ≡ true) × IsListOf old new s h o
AnswersFill old new s h failed = (s < old.count) × (old.knows s h ≡ true) × HasRisen (old.faults s) (new.faults s)
AnswersFill old new s h unknown_hole = (s < old.count) × (old.knows s h ≡ false)
AnswersFill old new s h no_memory = Unit {0}
AnswersFill old new s h no_source = old.count ≤ s

-- what sources answer to a request
abbrev pub Answers : View → View → Request → Said → Type 0
Answers old new Count said = AnswersCount old said
Answers old new (Root s) said = AnswersRoot old s said
Answers old new (Fill s h) said = AnswersFill old new s h said

-- how many fills a request asks for
abbrev pub fills_of : Request → ℕ
fills_of Count = 0
fills_of (Root s) = 0
fills_of (Fill s h) = 1

-- how many fills requests ask for
abbrev pub fills_in : List Request → ℕ
fills_in [] = 0
fills_in (r ∷ rs) = fills_of r + fills_in rs

-- sources that mean this answered a request, and mean that now
pub record IsAnswer (old new : View) (r : Request) (said : Said) : Type 0 where
  pub keeps : Keeps old new
  pub fills : new.fills ≤ old.fills + fills_of r
  pub answers : Answers old new r said
  pub reply : IsReply said

-- sources answered requests one after another
abbrev pub AreAnswers : View → View → List Request → List Said → Type 0
AreAnswers old new [] [] = new ≡ old
AreAnswers old new [] (said ∷ others) = ⊥
AreAnswers old new (r ∷ rs) [] = ⊥
AreAnswers old new (r ∷ rs) (said ∷ others) = (v : View) × IsAnswer old v r said × AreAnswers v new rs others

-- the answer to a request was written after what was written before
abbrev pub HasAnswered : View → View → Request → List ℕ → List ℕ → Type 0
HasAnswered old new r before after = (said : Said) × (after ≡ before ++ reply_bytes said) × IsAnswer old new r said
