use Rattle.std.proofs.Common.{◌≡◌, ◌++◌, drop, map}
use Rattle.std.specs.List.{filter}
use Rattle.xmas_rule.specs.Meaning.{same}
use Rattle.plain_rule.specs.Documents.{documents_of}
use Rattle.plain_rule.proofs.grouping.groups_of.Given as goal

abbrev pub invariant-loop-binding : goal.invariant-loop-binding
invariant-loop-binding l = l.found.items ++ map (λ x. filter (same (documents_of l.by.docs.now) l.by.keys.now x) l.bindings) (drop l.binding-index l.first) ≡ map (λ x. filter (same (documents_of l.by.docs.now) l.by.keys.now x) l.bindings) l.first
