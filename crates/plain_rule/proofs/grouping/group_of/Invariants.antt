use Rattle.std.proofs.Common.{◌≡◌, ◌++◌, drop}
use Rattle.std.specs.List.{filter}
use Rattle.xmas_rule.specs.Meaning.{same}
use Rattle.plain_rule.specs.Documents.{documents_of}
use Rattle.plain_rule.proofs.grouping.group_of.Given as goal

abbrev pub invariant-loop-binding : goal.invariant-loop-binding
invariant-loop-binding l = l.group.items ++ filter (same (documents_of l.by.docs.now) l.by.keys.now l.first) (drop l.binding-index l.bindings) ≡ filter (same (documents_of l.by.docs.now) l.by.keys.now l.first) l.bindings
