use Rattle.std.proofs.Common.{◌≡◌, drop}
use Rattle.xmas_rule.specs.Conditions.{comparisons}
use Rattle.xmas_rule.specs.Tuples.{passing}
use Rattle.plain_rule.specs.Documents.{documents_of}
use Rattle.plain_rule.proofs.selecting.select.Given as goal

abbrev pub invariant-loop-cond : goal.invariant-loop-cond
invariant-loop-cond l = passing (documents_of l.docs) (comparisons (drop l.cond-index l.conds)) l.kept.items ≡ passing (documents_of l.docs) (comparisons l.conds) l.fn.bindings.items
