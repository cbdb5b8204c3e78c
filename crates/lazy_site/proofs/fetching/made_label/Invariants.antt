use Rattle.std.proofs.Common.{◌≡◌, ◌<◌, Some, length}
use Rattle.plan_core.specs.PlanMade.{plan_value}
use Rattle.plan_core.specs.Valid.{kinds, an_element}
use Rattle.lazy_site.specs.Labels.{labels}
use Rattle.lazy_site.proofs.fetching.made_label.Given as goal

abbrev pub invariant-makers : goal.invariant-makers
invariant-makers l = record {
  within : l.at < length (plan_value l.plan).ops;
  kind : kinds (plan_value l.plan).ops l.at l.v ≡ Some an_element;
  labels : labels (plan_value l.plan).ops l.op l.v ≡ labels (plan_value l.plan).ops l.at l.v;
}

abbrev pub decreases-makers : goal.decreases-makers
decreases-makers l = l.at
