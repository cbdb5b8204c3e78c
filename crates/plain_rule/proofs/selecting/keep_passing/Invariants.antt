use Rattle.std.proofs.Common.{◌≡◌, ◌++◌, drop}
use Rattle.std.specs.List.{filter}
use Rattle.mix_tree.specs.Comparisons.{passes}
use Rattle.xmas_rule.specs.Bindings.{node_of}
use Rattle.plain_rule.specs.Documents.{documents_of}
use Rattle.plain_rule.proofs.selecting.keep_passing.Given as goal

abbrev pub invariant-loop-binding : goal.invariant-loop-binding
invariant-loop-binding l = l.kept.items ++ filter (λ b. passes (documents_of l.docs) l.test (node_of b)) (drop l.binding-index l.bindings) ≡ filter (λ b. passes (documents_of l.docs) l.test (node_of b)) l.bindings
