use Rattle.std.proofs.Common.{◌≡◌, ◌++◌, IsUtf8, map}
use Rattle.std.specs.List.{AllByRecursion}
use Rattle.plan_read.proofs.names.Names.labels.Given as goal

abbrev pub invariant-loop-name : goal.invariant-loop-name
invariant-loop-name l = record {
  same : l.labels.items ++ map (λ k. k.items) l.name-iterator ≡ l.fn.self;
  utf8 : AllByRecursion IsUtf8 (map (λ k. k.items) l.name-iterator);
}
