use Rattle.std.proofs.Common.{◌≡◌, drop}
use Rattle.std.specs.List.{list_any}
use Rattle.xmas_rule.specs.Meaning.{same}
use Rattle.plain_rule.specs.Documents.{documents_of}
use Rattle.plain_rule.proofs.grouping.was_seen.Given as goal

abbrev pub invariant-loop-other : goal.invariant-loop-other
invariant-loop-other l = list_any (λ s. same (documents_of l.by.docs.now) l.by.keys.now s l.binding) (drop l.other-index l.seen) ≡ list_any (λ s. same (documents_of l.by.docs.now) l.by.keys.now s l.binding) l.seen
