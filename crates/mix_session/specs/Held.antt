-- What names hold that hold nodes of a walker.
use Rattle.mix_script.specs.Names.{NamesOf}
use Rattle.mix_script.specs.Transcript.{Names}
use Rattle.mix_script.specs.Allowed.{Nodes}
use Rattle.mix_script.specs.Holding.{HoldBoth}
use Rattle.mix_session.specs.Meaning.{Meaning}

-- where names are to hold nodes they hold values that stand for nodes of the walker, and elsewhere nothing
abbrev pub HoldNodes : {V W : Type 0} → Meaning V W → NamesOf V → Nodes → Type 0
HoldNodes m values nodes = HoldBoth (λ n node. m.IsNode n) values nodes

-- names hold values that stand for the nodes at given places of the document
abbrev pub HoldPlaces : {V W : Type 0} → Meaning V W → NamesOf V → Names → Type 0
HoldPlaces m values places = HoldBoth m.IsAt values places

-- names hold values of nodes of which given data are told
abbrev pub HoldTold : {V W : Type 0} → Meaning V W → NamesOf V → NamesOf W → Type 0
HoldTold m values told = HoldBoth m.IsTold values told

-- each name holds a value that stands for a node of the walker, or nothing
abbrev pub AreNodes : {V W : Type 0} → Meaning V W → NamesOf V → Type 0
AreNodes m values = (nodes : Nodes) × HoldNodes m values nodes

-- a session: the sources are the walker's own, and each name holds a value that stands for a node of the walker, or nothing
pub record IsSession {V W : Type 0} (m : Meaning V W) (values : NamesOf V) : Type 0 where
  pub ready : m.IsReady
  pub nodes : AreNodes m values
