use Rattle.std.proofs.Common.{◌≡◌, ◌++◌, map, drop}
use Rattle.plan_core.specs.PlanMade.{op_of}
use Rattle.plan_core.specs.Valid.{kinds}
use Rattle.plan_forms.specs.Links.{all_links}
use Rattle.plan_forms.proofs.link.all_of.Given as goal

abbrev pub invariant-loop-test : goal.invariant-loop-test
invariant-loop-test l = l.links.items ++ all_links (kinds (map op_of l.ops) l.left) (drop l.test-index l.tests) ≡ all_links (kinds (map op_of l.ops) l.left) l.fn.tests
