use Rattle.std.proofs.Common.{◌≡◌, length}
use Rattle.lazy_binding.specs.Opening.{AreBuffers}
use Rattle.lazy_binding.proofs.opening.buffers.Given as goal

abbrev pub invariant-loop-number : goal.invariant-loop-number
invariant-loop-number g l = record { length : length l.opened.items ≡ l.number; buffers : AreBuffers (g.S.Sources.view l.s) l.opened.items }
