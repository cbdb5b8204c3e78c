use Rattle.std.proofs.Common.{◌≡◌, ◌++◌, [], drop}
use Rattle.mix_base.proofs.Seen.{distinct}
use Rattle.xmas_rule.specs.Meaning.{same}
use Rattle.plain_rule.specs.Documents.{documents_of}
use Rattle.plain_rule.proofs.grouping.firsts.Given as goal

abbrev pub invariant-loop-binding : goal.invariant-loop-binding
invariant-loop-binding l = l.seen.items ++ distinct (same (documents_of l.by.docs.now) l.by.keys.now) l.seen.items (drop l.binding-index l.bindings) ≡ distinct (same (documents_of l.by.docs.now) l.by.keys.now) [] l.bindings
