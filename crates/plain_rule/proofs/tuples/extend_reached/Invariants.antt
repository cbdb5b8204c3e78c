use Rattle.std.proofs.Common.{◌≡◌, ◌∷◌, [], drop}
use Rattle.xmas_rule.specs.Conditions.{binders}
use Rattle.xmas_rule.specs.Reached.{reached}
use Rattle.xmas_rule.specs.Tuples.{MatchLists, AreMatchLists, tuples}
use Rattle.plain_rule.specs.Documents.{documents_of}
use Rattle.plain_rule.proofs.tuples.extend_reached.Given as goal

abbrev pub invariant-loop-cond : goal.invariant-loop-cond
invariant-loop-cond l = (lists : MatchLists) → AreMatchLists (documents_of l.docs) lists → tuples lists l.longer.items (reached l.vars.items (binders (drop l.cond-index l.conds))) ≡ tuples lists l.fn.bindings.items (reached (l.fn.first ∷ []) (binders l.conds))
