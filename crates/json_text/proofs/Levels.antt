-- How many levels the trees of values have.
use Rattle.std.proofs.Common.{◌≡◌, ◌≤◌, ◌+◌, ℕ, List, [], ◌∷◌, Option, Some, None, Result, Ok, Err, IfOk, refl, arith, subst}
use Rattle.mix_base.proofs.Choices.{none_some, some_is}
use Rattle.document_store.specs.Laid.{LaidNode}
use Rattle.document_store.specs.Shallow.{IsShallow, levels, levels_of}
use Rattle.json.specs.Lex.{tokens}
use Rattle.json.specs.Token.{Token}
use Rattle.json.specs.Json.{Json, null, boolean, number, string, array, object, Items, no_items, item, Members, no_members, member, document, if_last, max_depth, value}
use Rattle.json.specs.Tree.{depth, items_depth, members_depth}
use Rattle.std.specs.Prelude.{option_and_then}
use Rattle.json.proofs.Nesting.{value-depth}
use Rattle.json_text.specs.Answers.{Answers}
use Rattle.json_text.specs.Trees.{items_trees, members_trees, value_tree, value_trees}
use Rattle.json_text.specs.declared.fault.JsonFault.{JsonFault}

mutual
  -- the trees below a value have a level more than its arrays and objects nest deep, at most
  value_levels : (v : Json) → levels_of (value_trees v) ≤ depth v + 1
  value_levels null = omega arith
  value_levels (boolean b) = omega arith
  value_levels (number text) = omega arith
  value_levels (string text) = omega arith
  value_levels (array js) = omega (arith, items_levels js)
  value_levels (object ms) = omega (arith, members_levels ms)

  -- so have those of an array's members
  items_levels : (js : Items) → levels_of (items_trees js) ≤ items_depth js + 2
  items_levels no_items = omega arith
  items_levels (item j js) = omega (arith, value_levels j, items_levels js)

  -- so have those of an object's members
  members_levels : (ms : Members) → levels_of (members_trees ms) ≤ members_depth ms + 2
  members_levels no_members = omega arith
  members_levels (member name j ms) = omega (arith, value_levels j, members_levels ms)

-- what is read as the last value of a text has what each value has that is read there
last_has : (P : Json → Type 0) (r : Option (Json × List Token)) (v : Json) → ((j : Json) (rest : List Token) → r ≡ Some (j, rest) → P j) → option_and_then (λ p. if_last p.0 p.1) r ≡ Some v → P v
last_has P None v h e = none_some v e
last_has P (Some (j, [])) v h e = subst P (some_is j v e) (h j [] refl)
last_has P (Some (j, t ∷ rest)) v h e = none_some v e

-- the arrays and objects of the value that a text is nest at most 128 deep
document_depth : (text : List ℕ) (v : Json) → document text ≡ Some v → depth v ≤ max_depth
document_depth text v e = last_has (λ j. depth j ≤ max_depth) (value max_depth (tokens text)) v (λ j rest. value-depth max_depth (tokens text) rest j) e

-- the document that is answered has at most 200 levels
pub shallow : (text name : List ℕ) (r : Result (List LaidNode) JsonFault) → Answers text name r → IfOk r IsShallow
shallow text name (Ok nodes) a =
    let few : levels (value_tree name a.0) ≤ 200 = omega (arith, value_levels a.0, document_depth text a.0 a.2) in
    (value_tree name a.0, a.3, few)
shallow text name (Err fault) a = tt
