-- Each valid plan has a finished document, with a place for each text that steps follow.
use Rattle.std.proofs.Common.{◌≡◌, ◌⊎◌, ◌∙◌, inl, inr, IsTrue, true, false, List, [], ◌∷◌, Some, refl, sym, subst}
use Rattle.std.proofs.lemmas.Option.{same_Some}
use Rattle.mix_tree.specs.Forest.{LabelledTree, alone}
use Rattle.mix_tree.specs.Nodes.{Documents}
use Rattle.mix_tree.specs.Place.{has_place}
use Rattle.node_text.specs.Grammar.{node_text}
use Rattle.node_text.specs.Node.{NodeValue}
use Rattle.plan_core.specs.Plans.{Operator, PlanValue, document}
use Rattle.plan_core.specs.Events.{visited}
use Rattle.plan_core.specs.Valid.{IsValid}
use Rattle.plan_evidence.specs.Held.{UsesHeld}
use Rattle.plan_evidence.specs.Named.{EachIsNamed, Names, NamesNodes}
use Rattle.text_senses.specs.Senses.{TextsHaveSenses}
use Rattle.lazy_plan.specs.Bench.{BenchState, ops_of}
use Rattle.mix_session.specs.Stepped.{Lets, LetsAll}
use Rattle.mix_session.specs.Walks.{plan_course}
use Rattle.mix_script.specs.Steps.{ArePlain, is_plain}
use Rattle.mix_script.specs.Transcript.{Finished, IsRight, IsRightFor, IsSense, Naming, unnamed}
use Rattle.mix_script.specs.declared.step.Forms.{Forms}
use Rattle.mix_script.specs.declared.step.Forms.TheVariants.{Plain, WithIds}
use Rattle.mix_script.specs.declared.step.Act.{Act}
use Rattle.mix_script.specs.declared.step.Act.TheVariants.{Root, Move, Select, Fetch, Print, Id, At}
use Rattle.mix_script.specs.declared.step.Step.{Step}
use Rattle.mix_script.proofs.Namings.{plain_right}
use Rattle.mix_run.specs.Finishing.{IsAnswerable, IsFinishedOf, PlansAreFinished}

-- where of each text the right place is said, it is of those that steps follow
all_right : (NamesAt : Naming) (f : Finished) → ((node : NodeValue) → IsSense NamesAt node (f.named node)) → (steps : List Step) → IsRight NamesAt f steps
all_right NamesAt f senses [] = tt
all_right NamesAt f senses (step ∷ steps) = (of step.act, all_right NamesAt f senses steps)
  where
    of : (act : Act) → IsRightFor NamesAt f act
    of (Root name) = tt
    of (Move way name from) = tt
    of (Select name from label) = tt
    of (Fetch from) = tt
    of (Print from) = tt
    of (Id from) = tt
    of (At name node) = senses node

-- a valid plan has a finished document over any source documents
pub plans_finished : ((p : PlanValue) → IsValid p → (docs : Documents) → (t : LabelledTree) × (document (visited docs) p.ops ≡ Some t)) → TextsHaveSenses → EachIsNamed → NamesNodes → PlansAreFinished
plans_finished has senses each nodes p valid docs = (
  record { finished = unnamed found.0; is = λ steps plain. of (unnamed found.0) refl steps (plain_right (Names docs p.ops) (unnamed found.0) steps plain) },
  λ uses.
      let named = senses p valid uses docs in
      let f : Finished = record { tree = found.0; named = named.0 } in
      record { finished = f; is = λ steps any. of f refl steps (all_right (Names docs p.ops) f named.1 steps) },
)
  where
    found : (t : LabelledTree) × (document (visited docs) p.ops ≡ Some t)
    found = has p valid docs

    of : (f : Finished) → f.tree ≡ found.0 → (steps : List Step) → IsRight (Names docs p.ops) f steps → IsFinishedOf docs p.ops steps f
    of f same steps right =
        let is : document (visited docs) p.ops ≡ Some f.tree = subst (λ (t : LabelledTree). document (visited docs) p.ops ≡ Some t) (sym same) found.1 in
        record {
          document = is;
          named = right;
          each = λ place there. (let x = each p valid docs place (f.tree, is, there) in (node_text x.0, (x.0, x.1, refl, x.2)));
          nodes = λ node place names.
              let there = nodes p valid docs node place names in
              let its : there.0 ≡ f.tree = same_Some there.0 f.tree (sym there.1 ∙ is) in
              subst (λ (t : LabelledTree). has_place (alone t) place ≡ true) its there.2;
        }

-- a valid plan has a finished document for steps that may be asked of it
pub finished_for : PlansAreFinished → (p : PlanValue) → IsValid p → (steps : List Step) → IsAnswerable p.ops steps → (docs : Documents) → (f : Finished) × IsFinishedOf docs p.ops steps f
finished_for law p valid steps (inl uses) docs = (let h = (law p valid docs).1 uses in (h.finished, h.is steps tt))
finished_for law p valid steps (inr plain) docs = (let h = (law p valid docs).0 in (h.finished, h.is steps plain))

-- steps that may be asked of a plan's document are let be answered on its course
pub lets_all : (st : BenchState) (ops : List Operator) → ops_of st ≡ ops → (steps : List Step) → IsAnswerable ops steps → LetsAll (plan_course st) steps
lets_all st ops same [] answerable = tt
lets_all st ops same (step ∷ steps) answerable = (of step.act (first answerable), lets_all st ops same steps (later answerable))
  where
    first : IsAnswerable ops (step ∷ steps) → UsesHeld ops ⊎ IsTrue (is_plain step.act)
    first (inl uses) = inl uses
    first (inr plain) = inr plain.0

    later : IsAnswerable ops (step ∷ steps) → IsAnswerable ops steps
    later (inl uses) = inl uses
    later (inr plain) = inr plain.1

    of : (act : Act) → UsesHeld ops ⊎ IsTrue (is_plain act) → Lets (plan_course st) act
    of (Root name) h = tt
    of (Move way name from) h = tt
    of (Select name from label) h = tt
    of (Fetch from) h = tt
    of (Print from) h = tt
    of (Id from) h = tt
    of (At name node) (inl uses) = subst (λ (o : List Operator). UsesHeld o) (sym same) uses
    of (At name node) (inr plain) = absurd (let z : false ≡ true = plain in cc)

-- where scripts may have forms of identifiers the plan uses what is held, and where they may not their steps are plain: the steps may be asked
pub answerable_by : (forms : Forms) (ops : List Operator) (steps : List Step) → (forms ≡ WithIds → UsesHeld ops) → (forms ≡ Plain → ArePlain steps) → IsAnswerable ops steps
answerable_by Plain ops steps uses plain = inr (plain refl)
answerable_by WithIds ops steps uses plain = inl (uses refl)
