-- What is told of the nodes that names hold: of the root, and of the nodes to which a way leads.
use Rattle.std.specs.Prelude.{ℕ, Bool, true, false, IsTrue, List, [], ◌∷◌, Option, Some, None, option_and_then}
use Rattle.mix_tree.specs.Place.{child_place, next_place}
use Rattle.mix_script.specs.Names.{NamesOf, with_name}
use Rattle.mix_script.specs.declared.step.Act.{Act}
use Rattle.mix_script.specs.declared.step.Act.TheVariants.{Root, Move, Select, Fetch, Print, Id, At}
use Rattle.mix_script.specs.declared.step.Step.{Step}
use Rattle.mix_script.specs.declared.step.Way.{Way}
use Rattle.mix_script.specs.declared.step.Way.TheVariants.{Down, Right}
use Rattle.mix_script.specs.declared.answer.Answer.{Answer}
use Rattle.mix_script.specs.declared.answer.Answer.TheVariants as answer

-- what is told of the root, and, by what is told of a node, of the one to which a way leads from it
pub record Trail (W : Type 0) : Type 0 where
  pub first : W
  pub to : Way → W → Option W

-- no more is told of a node than that it is one
abbrev pub node_trail : Trail (Unit {0})
node_trail = record { first = tt; to = λ way node. Some node }

-- the place to which a way leads from a place
abbrev pub place_to : Way → List ℕ → Option (List ℕ)
place_to Down place = Some (child_place place)
place_to Right place = next_place place

-- the places at which nodes stand are told
abbrev pub place_trail : Trail (List ℕ)
place_trail = record { first = []; to = place_to }

-- whether an act takes at most one way from a node: it searches no siblings, prints no subtree and follows no text
abbrev pub takes_one_way : Act → Bool
takes_one_way (Root name) = true
takes_one_way (Move way name from) = true
takes_one_way (Select name from label) = false
takes_one_way (Fetch from) = true
takes_one_way (Print from) = false
takes_one_way (Id from) = true
takes_one_way (At name node) = false

-- each step takes at most one way
abbrev pub TakeOneWay : List Step → Type 0
TakeOneWay [] = Unit {0}
TakeOneWay (step ∷ steps) = IsTrue (takes_one_way step.act) × TakeOneWay steps

-- what names hold where the one that an act names, if any, holds this
abbrev pub with_named : {V : Type 0} → NamesOf V → List ℕ → Act → Option V → NamesOf V
with_named names client (Root name) value = with_name names client name value
with_named names client (Move way name from) value = with_name names client name value
with_named names client (Select name from label) value = with_name names client name value
with_named names client (Fetch from) value = names
with_named names client (Print from) value = names
with_named names client (Id from) value = names
with_named names client (At name node) value = with_name names client name value

-- the names after an answer, where this is told of the node that was sought: the act's name holds that or none, or all hold
-- what they held
abbrev pub names_with : {V : Type 0} → Option V → NamesOf V → List ℕ → Act → Answer → NamesOf V
names_with goal names client act answer.Node = with_named names client act goal
names_with goal names client act answer.None = with_named names client act None
names_with goal names client act (answer.Label l) = names
names_with goal names client act (answer.Text x) = names
names_with goal names client act answer.NoNode = names
names_with goal names client act (answer.Fault source) = names
names_with goal names client act (answer.Id x) = names
names_with goal names client act answer.Foreign = names

-- what is told of the node that an act of at most one way asks for: the root, or the one to which a way leads from what its
-- operand holds
abbrev pub goal_on : {W : Type 0} → Trail W → NamesOf W → List ℕ → Act → Option W
goal_on trail names client (Root name) = Some trail.first
goal_on trail names client (Move way name from) = option_and_then (trail.to way) (names client from)
goal_on trail names client (Select name from label) = None
goal_on trail names client (Fetch from) = None
goal_on trail names client (Print from) = None
goal_on trail names client (Id from) = None
goal_on trail names client (At name node) = None

-- the names after an answer to an act of at most one way
abbrev pub names_on : {W : Type 0} → Trail W → NamesOf W → List ℕ → Act → Answer → NamesOf W
names_on trail names client act a = names_with (goal_on trail names client act) names client act a
