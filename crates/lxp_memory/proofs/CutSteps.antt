-- How the code makes the lists with which a document in memory answers.
use Rattle.std.proofs.Common.{◌≡◌, ℕ, ◌+◌, ◌<◌, List, length, ap, sym, ◌∙◌, add-one}
use Rattle.lxp_memory.specs.declared.document.DocNode.{DocNode}
use Rattle.lxp_memory.specs.declared.choice.Choice.{Choice}
use Rattle.lxp_core.specs.Open.{Open, node, without_holes}
use Rattle.lxp_memory.specs.Nodes.{first_of, count_of, label_of, run}
use Rattle.lxp_memory.specs.Cut.{kids_of, children}
use Rattle.lxp_memory.proofs.NodeLaws.{run-suc}

-- the trees of nodes side by side are that of the first, above its own children, and those of the others
pub run-node : (ns : List DocNode) (i m : ℕ) → i < length ns
    → node (label_of ns i) (without_holes (run ns (first_of ns i) (count_of ns i))) (without_holes (run ns (i + 1) m)) ≡ without_holes (run ns i (m + 1))
run-node ns i m h =
    ap (λ k. node (label_of ns i) (without_holes (run ns (first_of ns i) (count_of ns i))) (without_holes (run ns k m))) (add-one i)
    ∙ ap without_holes (sym (run-suc ns i m h))
    ∙ ap (λ k. without_holes (run ns i k)) (sym (add-one m))

-- the list of nodes side by side is the first, above its own list, and the list of the others
pub children-node : (ns : List DocNode) (choice : Choice) (i m : ℕ) (rest : Open) → node (label_of ns i) (kids_of ns choice i) (children ns choice (i + 1) m rest) ≡ children ns choice i (m + 1) rest
children-node ns choice i m rest =
    ap (λ k. node (label_of ns i) (kids_of ns choice i) (children ns choice k m rest)) (add-one i)
    ∙ ap (λ k. children ns choice i k rest) (sym (add-one m))
