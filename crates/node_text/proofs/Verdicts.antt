-- What reading answers.
use Rattle.std.proofs.Common.{◌∙◌, ◌+◌, ℕ, List, Result, Ok, Err, sym, subst, drop}
use Rattle.std.specs.Str.{IsUtf8}
use Rattle.std.proofs.lemmas.List.{take-append-drop}
use Rattle.mix_base.proofs.Choices.{some_is}
use Rattle.node_text.specs.Node.{NodeValue}
use Rattle.node_text.specs.Grammar.{Spells}
use Rattle.node_text.specs.Results.{Answers, IsNode, SpellsAtMostOne}
use Rattle.node_text.specs.declared.fault.NodeFault.{NodeFault}
use Rattle.node_text.specs.declared.fault.NodeFault.TheVariants.{Unexpected, Ends, OutOfMemory}
use Rattle.node_text.proofs.Complete.{spells_read}
use Rattle.node_text.proofs.Prefixes.{spelled_utf8}

-- no text spells two identifiers
pub one_node : SpellsAtMostOne
one_node x m n h k = some_is m n (sym (spells_read x m h) ∙ spells_read x n k)

-- what is spelled is read
pub answers_node : (x : List ℕ) (r : Result NodeValue NodeFault) (n : NodeValue) → Answers x r → Spells x n → IsNode r n
answers_node x (Ok m) n a h = one_node x m n a h
answers_node x (Err (Unexpected at)) n a h =
    let parts = take-append-drop (at + 1) x in
    a.wrong (drop (at + 1) x, n, subst IsUtf8 (sym parts) (spelled_utf8 x n h), subst (λ y. Spells y n) (sym parts) h)
answers_node x (Err Ends) n a h = a.none n h
answers_node x (Err OutOfMemory) n a h = tt
