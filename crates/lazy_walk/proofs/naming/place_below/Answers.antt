use Rattle.std.proofs.Common.{◌∙◌}
use Rattle.lazy_walk.proofs.Pushed.{way_below}
use Rattle.lazy_walk.proofs.naming.place_below.Goals as goal

pub returns : goal.returns
returns c = λ view h i j. way_below c.steps.result.now _ c.steps-steps.result.now _ c.new-way.result.items c.new.result c.min-passed.result (c.steps.ensures ∙ c.in_ok-start.ensures view i)
    (c.steps-steps.ensures ∙ c.in_ok-place.ensures view j) c.min-passed.ensures c.new-way.ensures.items (c.new.ensures ∙ c.in_ok-extend_from_slice.ensures.items)
