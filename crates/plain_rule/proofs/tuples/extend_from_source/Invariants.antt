use Rattle.std.proofs.Common.{◌≡◌, ◌++◌, drop}
use Rattle.xmas_rule.specs.Conditions.{from_source}
use Rattle.xmas_rule.specs.Tuples.{MatchLists, AreMatchLists, extend}
use Rattle.plain_rule.specs.Documents.{documents_of}
use Rattle.plain_rule.proofs.tuples.extend_from_source.Given as goal

abbrev pub invariant-loop-binding : goal.invariant-loop-binding
invariant-loop-binding l = (lists : MatchLists) → AreMatchLists (documents_of l.leads.docs.now) lists → l.longer.items ++ extend lists (from_source l.source l.leads.path.now l.leads.var) (drop l.binding-index l.bindings) ≡ extend lists (from_source l.source l.leads.path.now l.leads.var) l.bindings
