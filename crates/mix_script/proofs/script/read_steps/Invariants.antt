use Rattle.std.proofs.Common.{◌≡◌, ◌+◌, drop, map}
use Rattle.mix_script.specs.Steps.{steps_from, steps_of}
use Rattle.mix_script.proofs.Reading.{after_steps}
use Rattle.mix_script.proofs.script.read_steps.Given as goal

abbrev pub invariant-loop-before : goal.invariant-loop-before
invariant-loop-before l = after_steps l.steps.items (steps_from l.forms (l.before + 1) (drop l.before (map (λ line. line.now) l.line-items))) ≡ steps_of l.forms l.text
