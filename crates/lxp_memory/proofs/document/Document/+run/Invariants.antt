use Rattle.std.proofs.Common.{◌≡◌, ◌-◌, length}
use Rattle.lxp_core.specs.Open.{without_holes}
use Rattle.lxp_core.specs.Plain.{put_all}
use Rattle.lxp_memory.specs.Nodes.{run}
use Rattle.lxp_memory.proofs.document.Document.+run.Given as goal

abbrev pub decreases-run : goal.decreases-run
decreases-run l = length l.self.now.nodes.items - l.first

abbrev pub invariant-loop-i : goal.invariant-loop-i
invariant-loop-i l =
    put_all l.list.items (without_holes (run l.self.nodes.items l.i (l.i-end - l.i))) ≡ without_holes (run l.self.nodes.items l.first l.count)
