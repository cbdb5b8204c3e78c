use Rattle.std.proofs.Common.{◌≡◌, ℕ, option_map}
use Rattle.std.specs.BTreeMap.{is_at}
use Rattle.std.specs.Map.{lookup}
use Rattle.std.specs.Ordering.{nat_cmp}
use Rattle.plan_core.specs.Valid.{either_kind}
use Rattle.plan_read.specs.Scopes.{kind_of, kinds_in}
use Rattle.plan_read.proofs.scope.Scope.add_others.Given as goal

abbrev pub invariant-others : goal.invariant-others
invariant-others l = (v : ℕ) → either_kind (kinds_in l.self v) (option_map kind_of (lookup (is_at (nat_cmp v)) l.var-iterator)) ≡ either_kind (kinds_in l.fn.self v) (kinds_in l.other v)
