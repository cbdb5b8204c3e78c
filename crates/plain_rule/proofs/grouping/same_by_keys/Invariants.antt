use Rattle.std.proofs.Common.{◌≡◌, drop}
use Rattle.xmas_rule.specs.Meaning.{same}
use Rattle.plain_rule.specs.Documents.{documents_of}
use Rattle.plain_rule.proofs.grouping.same_by_keys.Given as goal

abbrev pub invariant-loop-key : goal.invariant-loop-key
invariant-loop-key l = same (documents_of l.by.docs.now) (drop l.key-index l.by.keys.now) l.a l.b ≡ same (documents_of l.by.docs.now) l.by.keys.now l.a l.b
