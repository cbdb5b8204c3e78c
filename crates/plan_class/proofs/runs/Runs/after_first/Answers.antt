use Rattle.std.proofs.Common.{◌≡◌, ◌∙◌, refl, ap, drop}
use Rattle.std.specs.Prelude.{slice_get, Some}
use Rattle.plan_class.proofs.RunSteps.{after_shorter}
use Rattle.plan_class.proofs.runs.Runs.after_first.Goals as goal

pub returns-in-Some : goal.returns-in-Some
returns-in-Some c =
    let runs = c.deref.ensures.value in
    let first = c.first.ensures.value in
    let copied = c.copied.ensures in
    let is = c.in-Some.is in
    let found : slice_get c.self.inside.runs.items 0 ≡ Some c.in-Some.run' = cc in
    after_shorter c.self.inside.runs.items _ c.in-Some.run' found c.if-run-gt0.true refl ∙ ap (drop 1) c.self.view_is
