use Rattle.std.proofs.Common.{◌≡◌, ℕ, List, IsTrue, drop}
use Rattle.std.specs.List.{AllByRecursion, list_all}
use Rattle.mix_tree.specs.Comparisons.{passes}
use Rattle.mix_tree.specs.Nodes.{Node}
use Rattle.lxp_core.specs.View.{View}
use Rattle.lazy_plan.specs.Bench.{state_of, documents, told, IsBenchOf}
use Rattle.lazy_seek.specs.Known.{IsTestKnown}
use Rattle.lazy_seek.proofs.evidence.Found.passes_each.Given as goal

abbrev pub invariant-loop-test : goal.invariant-loop-test
invariant-loop-test l = (view : View) (places : List (List ℕ)) (nodes : ℕ → Node) → IsBenchOf view l.bench → IsTrue (told (state_of view l.bench))
    → AllByRecursion (IsTestKnown (state_of view l.bench) places l.self.nodes nodes) l.fn.tests
    → list_all (λ t. passes (documents (state_of view l.bench)) t nodes) l.fn.tests ≡ list_all (λ t. passes (documents (state_of view l.bench)) t nodes) (drop l.test-index l.tests)
