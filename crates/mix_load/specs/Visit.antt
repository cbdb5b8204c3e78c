-- A visit of many people: the view of their names, walked by a session.
use Rattle.std.specs.Prelude.{◌≡◌, ℕ, zero, suc, ◌+◌, List, [], Some, length, codes}
use Rattle.mix_tree.specs.Forest.{LabelledTree, none, alone}
use Rattle.mix_tree.specs.Nodes.{Documents}
use Rattle.mix_tree.specs.Weight.{tree_nodes}
use Rattle.bracket_text.specs.Canonical.{canon}
use Rattle.mix_mount.specs.Mounts.{IsAlone, mounted_in, view_of}
use Rattle.xmas_rule.specs.Meaning.{IsFinished}
use Rattle.lazy_value.specs.declared.ids.NodeId.{NodeId}
use Rattle.mix_script.specs.Names.{held}
use Rattle.mix_script.specs.Transcript.{Names, answer_of, names_after, nothing, unnamed}
use Rattle.mix_script.specs.declared.answer.Answer.{Answer}
use Rattle.mix_script.specs.declared.step.Act.{Act}
use Rattle.mix_session.specs.Held.{IsSession, HoldPlaces}
use Rattle.mix_session.specs.Meaning.{Meaning}
use Rattle.mix_session.specs.Walks.{plan_meaning}
use Rattle.table_keep.specs.Untold.{no_tables_view}
use Rattle.mix_load.specs.People.{people_tree}
use Rattle.mix_load.specs.View.{names_rule}
use Rattle.mix_load.specs.declared.visit.Visit.{Visit}
use Rattle.mix_load.specs.declared.visit.Visitor.{Visitor}

-- the documents of `load`: that of a number of people is the only one
abbrev pub people_documents : ℕ → Documents
people_documents count zero = alone (people_tree count)
people_documents count (suc s) = none

-- a tree is the finished document of the view of the names of a number of people
abbrev pub AreNames : ℕ → LabelledTree → Type 0
AreNames count t = IsFinished (people_documents count) names_rule t

-- the counts of a visit: a command for the root, one down, one to the right for each person, and one that prints the root; and the nodes of
-- what it prints, and the bytes
pub record IsVisit (count : ℕ) (visit : Visit) : Type 0 where
  pub tree : LabelledTree
  pub names : AreNames count tree
  pub commands : visit.commands ≡ count + 3
  pub nodes : visit.nodes ≡ tree_nodes tree
  pub bytes : visit.bytes ≡ length (canon tree)

-- the meaning of the walker of a visitor's session
abbrev pub meaning_of : Visitor → Meaning NodeId (List ℕ)
meaning_of visitor = plan_meaning (view_of (mounted_in no_tables_view visitor.sources)) visitor.session.walker

-- a visitor walks a given tree, its names hold given places, and a document in memory is the only source
pub record IsOn (t : LabelledTree) (places : Names) (visitor : Visitor) : Type 0 where
  pub session : IsSession (meaning_of visitor) (held visitor.session.names)
  pub document : (meaning_of visitor).course.IsDocument t
  pub hold : HoldPlaces (meaning_of visitor) (held visitor.session.names) places
  pub alone : (people : LabelledTree) × IsAlone (mounted_in no_tables_view visitor.sources) people

-- a visitor's answer to a command, and what its names hold after it, are those of the transcript on the tree that it walks
abbrev pub Answers : Visitor → Visitor → Act → Answer → Type 0
Answers old new act a =
    (t : LabelledTree) (places : Names) → IsOn t places old → (a ≡ answer_of (unnamed t) places nothing [] act) × IsOn t (names_after (unnamed t) places [] act a) new

-- a visitor walks a given tree, and the name r holds its root
pub record HoldsRoot (t : LabelledTree) (visitor : Visitor) : Type 0 where
  pub places : Names
  pub on : IsOn t places visitor
  pub root : places [] (codes "r") ≡ Some []
