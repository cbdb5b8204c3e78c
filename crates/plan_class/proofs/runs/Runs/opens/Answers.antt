use Rattle.std.proofs.Common.{◌∙◌, ◌-◌, List, [], ◌∷◌, ◌++◌, ap, arith}
use Rattle.plan_class.specs.declared.runs.Run.{Run}
use Rattle.plan_class.proofs.RunSteps.{opened}
use Rattle.plan_class.proofs.runs.Runs.opens.Goals as goal

pub returns : goal.returns
returns c =
    let some = c.if-count-eq0.false in
    opened c.push.new.self.items c.unbounded-level.result c.args.count c.unbounded-level.ensures (omega (arith, some))
    (c.in_ok-push.ensures.items ∙ ap (λ (rs : List Run). rs ++ (record { level = c.unbounded-level.result; more = c.args.count - 1 }) ∷ []) c.new-runs.ensures.items)
