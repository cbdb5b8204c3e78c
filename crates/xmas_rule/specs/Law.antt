-- What is promised of the tuples of a body.
use Rattle.std.specs.Prelude.{ℕ, [], ◌∷◌}
use Rattle.mix_tree.specs.Nodes.{Documents}
use Rattle.xmas_rule.specs.Bindings.{AreBindings}
use Rattle.xmas_rule.specs.Conditions.{binders, comparisons, flat}
use Rattle.xmas_rule.specs.Rules.{RuleValue, IsAccepted}
use Rattle.xmas_rule.specs.Reached.{reaches}
use Rattle.xmas_rule.specs.Tuples.{MatchLists, AreMatchLists, tuples, passing, in_order_of}

-- the tuples of an accepted rule's binding conditions, component by component, that pass its comparisons, in its order, are the bindings of its body
abbrev pub TuplesAreBindings : Type 0
TuplesAreBindings =
    (docs : Documents) (lists : MatchLists) (sources : ℕ) (r : RuleValue) → AreMatchLists docs lists → IsAccepted sources r →
    AreBindings docs r.conds r.order (in_order_of docs r.order (passing docs (comparisons r.conds) (tuples lists ([] ∷ []) (flat (reaches (binders r.conds))))))
