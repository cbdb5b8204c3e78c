use Rattle.std.proofs.Common.{◌∙◌, ap}
use Rattle.lazy_binding.specs.Parts.{operators, world_of}
use Rattle.lazy_binding.specs.Reading.{count_of}
use Rattle.lazy_binding.specs.Unders.{part_at}
use Rattle.lazy_plan.proofs.GroupSteps.{group_begins}
use Rattle.lazy_plan.proofs.bench.Bench.group_at.Goals as goal

pub returns-clause-group : goal.returns-clause-group
returns-clause-group c = λ view bench k.
    group_begins (world_of view c.args.self.now.growing) c.args.self.now.fixed.plan c.args.op c.args.c.now c.in_ok-first.first c.seen_up_to.result c.requires.is k
    (c.in_ok-first.ensures.part ∙ ap (part_at (operators c.args.self.now.fixed) c.args.op c.args.c.now) c.input_of-input.ensures) (c.seen_up_to.ensures ∙ ap count_of (c.deref.ensures ∙ c.c.view_is))
