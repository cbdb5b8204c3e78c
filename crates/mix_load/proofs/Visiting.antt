-- What a visitor's commands come to.
use Rattle.std.proofs.Common.{◌≡◌, ◌∙◌, ◌+◌, ℕ, IsTrue, true, false, cond, List, [], ◌∷◌, Option, Some, None, Ok, refl, ap, sym, subst, arith, codes}
use Rattle.std.specs.Prelude.{option_and_then}
use Rattle.std.proofs.lemmas.Bool.{eq-eqb}
use Rattle.mix_base.specs.Counts.{HasRisenBy}
use Rattle.mix_tree.specs.Forest.{LabelledTree}
use Rattle.mix_tree.specs.Place.{tree_at}
use Rattle.bracket_text.specs.Canonical.{canon}
use Rattle.mix_mount.specs.Mounts.{CameFrom, IsAlone, mounted_in, view_of}
use Rattle.mix_mount.proofs.Laws.{alone_kept, alone_unfailed}
use Rattle.table_keep.specs.Untold.{no_tables_view}
use Rattle.lazy_value.specs.declared.ids.NodeId.{NodeId}
use Rattle.mix_script.specs.Names.{NamesOf, held, no_names}
use Rattle.mix_script.specs.Allowed.{faults_of, mark_of, note_of}
use Rattle.mix_script.specs.Finished.{IsTold}
use Rattle.mix_script.specs.Steps.{is_plain}
use Rattle.mix_script.specs.Transcript.{Finished, IsRightFor, IsTextFor, Names, Naming, Note, answer_of, if_held, names_after, nothing, text_answer, unnamed}
use Rattle.mix_script.specs.declared.step.Act.{Act}
use Rattle.mix_script.specs.declared.step.Act.TheVariants.{Root, Move, Select, Fetch, Print, Id, At}
use Rattle.mix_script.specs.declared.step.Way.{Way}
use Rattle.mix_script.specs.declared.answer.Answer.{Answer}
use Rattle.mix_script.specs.declared.answer.Answer.TheVariants as answer
use Rattle.mix_session.specs.Held.{IsSession, HoldPlaces}
use Rattle.mix_session.specs.Meaning.{Course}
use Rattle.mix_session.specs.Stepped.{Lets, Stepped}
use Rattle.mix_load.specs.declared.visit.Visitor.{Visitor}
use Rattle.mix_load.specs.Visit.{meaning_of, IsOn, HoldsRoot}

-- an answer over sources that never fail is no fault
no_fault : (a : Answer) (before after : ℕ → ℕ) → ((s : ℕ) → HasRisenBy (faults_of s (a ∷ [])) (before s) (after s)) → ((s : ℕ) → after s ≡ 0) → mark_of a ≡ None
no_fault answer.Node before after h none = refl
no_fault answer.None before after h none = refl
no_fault (answer.Label l) before after h none = refl
no_fault (answer.Text x) before after h none = refl
no_fault answer.NoNode before after h none = refl
no_fault (answer.Id x) before after h none = refl
no_fault answer.Foreign before after h none = refl
no_fault (answer.Fault s) before after h none =
    let one : faults_of s (answer.Fault s ∷ []) ≡ 1 = ap (λ b. cond b 1 0 + 0) (eq-eqb s s refl) in
    let rose = h s in
    let still = none s in
    absurd (omega (arith, rose, one, still))

-- a visitor whose names hold nothing yet is on the tree that its session walks
pub begun : (t : LabelledTree) (visitor : Visitor) → IsSession (meaning_of visitor) (held visitor.session.names) → held visitor.session.names ≡ no_names → (meaning_of visitor).course.IsDocument t
    → (people : LabelledTree) × IsAlone (mounted_in no_tables_view visitor.sources) people → IsOn t no_names visitor
begun t visitor session none document alone = record {
  session = session;
  document = document;
  hold = subst (λ (values : NamesOf NodeId). HoldPlaces (meaning_of visitor) values no_names) (sym none) (λ client name. tt);
  alone = alone;
}

-- a plain act is let be answered on any course
pub lets_plain : {W : Type 0} (c : Course W) (act : Act) → IsTrue (is_plain act) → Lets c act
lets_plain c (Root name) plain = tt
lets_plain c (Move way name from) plain = tt
lets_plain c (Select name from label) plain = tt
lets_plain c (Fetch from) plain = tt
lets_plain c (Print from) plain = tt
lets_plain c (Id from) plain = absurd (let z : false ≡ true = plain in cc)
lets_plain c (At name node) plain = absurd (let z : false ≡ true = plain in cc)

-- a plain act follows no text
plain_right : (NamesAt : Naming) (f : Finished) (act : Act) → IsTrue (is_plain act) → IsRightFor NamesAt f act
plain_right NamesAt f (Root name) plain = tt
plain_right NamesAt f (Move way name from) plain = tt
plain_right NamesAt f (Select name from label) plain = tt
plain_right NamesAt f (Fetch from) plain = tt
plain_right NamesAt f (Print from) plain = tt
plain_right NamesAt f (Id from) plain = tt
plain_right NamesAt f (At name node) plain = absurd (let z : false ≡ true = plain in cc)

-- no plain act is told to be answered by the text of an identifier
no_text : (NamesAt : Naming) (names : Names) (client : List ℕ) (act : Act) → IsTrue (is_plain act) → (x : List ℕ) → IsTextFor NamesAt names client act x → ⊥
no_text NamesAt names client (Root name) plain x h = h
no_text NamesAt names client (Move way name from) plain x h = h
no_text NamesAt names client (Select name from label) plain x h = h
no_text NamesAt names client (Fetch from) plain x h = h
no_text NamesAt names client (Print from) plain x h = h
no_text NamesAt names client (Id from) plain x h = absurd (let z : false ≡ true = plain in cc)
no_text NamesAt names client (At name node) plain x h = h

-- an answer to a plain act that is no fault shows no note
quiet : (NamesAt : Naming) (names : Names) (client : List ℕ) (act : Act) → IsTrue (is_plain act) → (a : Answer) → mark_of a ≡ None → IsTold NamesAt names client act a → note_of a ≡ nothing
quiet NamesAt names client act plain answer.Node none told = refl
quiet NamesAt names client act plain answer.None none told = refl
quiet NamesAt names client act plain (answer.Label l) none told = refl
quiet NamesAt names client act plain (answer.Text x) none told = refl
quiet NamesAt names client act plain answer.NoNode none told = refl
quiet NamesAt names client act plain (answer.Fault s) none told = absurd (let z : Some s ≡ None = none in cc)
quiet NamesAt names client act plain (answer.Id x) none told = absurd (no_text NamesAt names client act plain x told)
quiet NamesAt names client act plain answer.Foreign none told = refl

-- a plain command of the client without a name was answered as on the tree
pub taken : (old new : Visitor) (client : List ℕ) (act : Act) (a : Answer) → IsTrue (is_plain act) → client ≡ [] → CameFrom (mounted_in no_tables_view old.sources) (mounted_in no_tables_view new.sources)
    → Stepped (meaning_of old) (meaning_of new) (view_of (mounted_in no_tables_view old.sources)) (view_of (mounted_in no_tables_view new.sources)) (held old.session.names) (held new.session.names) client act (Ok a)
    → (t : LabelledTree) (places : Names) → IsOn t places old → (a ≡ answer_of (unnamed t) places nothing [] act) × IsOn t (names_after (unnamed t) places [] act a) new
taken old new client act a plain none came step t places on =
    let people : LabelledTree = on.alone.0 in
    let kept = alone_kept (mounted_in no_tables_view old.sources) people on.alone.1 (mounted_in no_tables_view new.sources) came in
    let NamesAt : Naming = (meaning_of old).course.NamesAt in
    let told = step.answer.told (unnamed t) on.document (plain_right NamesAt (unnamed t) act plain) places on.hold in
    let mark : mark_of a ≡ None = no_fault a _ _ step.answer.counted (alone_unfailed (mounted_in no_tables_view new.sources) people kept) in
    let note : note_of a ≡ nothing = quiet NamesAt places client act plain a mark told.1 in
    subst (λ c. (a ≡ answer_of (unnamed t) places nothing c act) × IsOn t (names_after (unnamed t) places c act a) new) none (
      subst (λ (m : Note). a ≡ answer_of (unnamed t) places m client act) note told.0,
      record { session = step.session; document = step.stays.course.document t on.document; hold = told.2; alone = (people, kept) },
    )

module _ (t : LabelledTree) (places : Names) (new : Visitor) where
  -- where the root was asked for, a name holds it
  pub root_held : (a : Answer) → a ≡ answer_of (unnamed t) places nothing [] (Root (codes "r")) → IsOn t (names_after (unnamed t) places [] (Root (codes "r")) a) new → HoldsRoot t new
  root_held a e on = record {
    places = names_after (unnamed t) places [] (Root (codes "r")) a;
    on = on;
    root = ap (λ (b : Answer). names_after (unnamed t) places [] (Root (codes "r")) b [] (codes "r")) e;
  }

  -- the root stays held where the name x was given something
  pub root_stays : (way : Way) (from : List ℕ) (a : Answer) → places [] (codes "r") ≡ Some [] → IsOn t (names_after (unnamed t) places [] (Move way (codes "x") from) a) new → HoldsRoot t new
  root_stays way from a root on = record { places = names_after (unnamed t) places [] (Move way (codes "x") from) a; on = on; root = same a ∙ root }
    where
      same : (b : Answer) → names_after (unnamed t) places [] (Move way (codes "x") from) b [] (codes "r") ≡ places [] (codes "r")
      same answer.Node = refl
      same answer.None = refl
      same (answer.Label l) = refl
      same (answer.Text x) = refl
      same answer.NoNode = refl
      same (answer.Fault s) = refl
      same (answer.Id x) = refl
      same answer.Foreign = refl

-- the text of the root is that of the tree
pub root_text : (t : LabelledTree) (places : Names) (a : Answer) → places [] (codes "r") ≡ Some [] → a ≡ answer_of (unnamed t) places nothing [] (Print (codes "r")) → a ≡ answer.Text (canon t)
root_text t places a root e = e ∙ ap (λ (o : Option (List ℕ)). if_held o (text_answer (option_and_then (tree_at t) o))) root
