use Rattle.std.proofs.Common.{rules, ◌≡◌, ◌∙◌, ap, length, List}
use Rattle.std.specs.List.{list_all}
use Rattle.node_text.specs.Node.{LevelValue, NodeValue}
use Rattle.lazy_site.specs.Levels.{is_below_top}
use Rattle.lazy_value.proofs.Forming.{levels_decide}
use Rattle.lazy_value.proofs.text.is_formed.Goals as goal

pub returns : goal.returns
returns c =
    let some : length c.args.node.now.levels ≡ 0 → ⊥ = search rules in
    levels_decide c.args.node.now some c.have_places.result
    (c.have_places.ensures ∙ ap (λ (ls : List LevelValue). list_all (λ l. list_all is_below_top l.tuple) ls) c.deref.ensures.value
    ∙ ap (λ (d : NodeValue). list_all (λ l. list_all is_below_top l.tuple) d.levels) c.node.view_is)
