use Rattle.std.proofs.Common.{◌≡◌, ◌+◌, ◌-◌}
use Rattle.lxp_core.specs.Open.{Open}
use Rattle.lxp_core.specs.Plain.{put_all}
use Rattle.lxp_memory.specs.Cut.{children, hole_if}
use Rattle.lxp_memory.proofs.document.Document.cut.Given as goal

abbrev pub invariant-loop-i : goal.invariant-loop-i
invariant-loop-i l = (rest : Open) → put_all l.list.items (children l.self.nodes.items l.choice l.i (l.i-end - l.i) rest)
    ≡ hole_if l.choice.leads (record l.span { to = l.from }) (children l.self.nodes.items l.choice (l.first + l.from) (l.to - l.from) rest)
