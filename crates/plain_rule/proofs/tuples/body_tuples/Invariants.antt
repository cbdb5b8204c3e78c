use Rattle.std.proofs.Common.{◌≡◌, ◌∷◌, [], length}
use Rattle.xmas_rule.specs.Conditions.{binders, flat}
use Rattle.xmas_rule.specs.Reached.{reaches}
use Rattle.xmas_rule.specs.Tuples.{MatchLists, AreMatchLists, tuples}
use Rattle.plain_rule.specs.Documents.{documents_of}
use Rattle.plain_rule.proofs.tuples.body_tuples.Given as goal

abbrev pub invariant-loop-cond : goal.invariant-loop-cond
invariant-loop-cond l = (lists : MatchLists) → AreMatchLists (documents_of l.docs) lists → tuples lists l.all.items (flat (reaches (binders l.rest))) ≡ tuples lists ([] ∷ []) (flat (reaches (binders l.fn.conds)))

abbrev pub decreases-loop-cond : goal.decreases-loop-cond
decreases-loop-cond l = length l.rest
