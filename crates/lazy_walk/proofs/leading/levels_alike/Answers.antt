use Rattle.std.proofs.Common.{◌∙◌, [], refl, sym}
use Rattle.plan_evidence.specs.Remains.{numbers_in}
use Rattle.plan_levels.specs.Entered.{numbers_of}
use Rattle.lazy_site.specs.Standing.{remains}
use Rattle.lazy_walk.proofs.Numbers.{own_none, own_zero, own_some}
use Rattle.lazy_walk.proofs.leading.levels_alike.Goals as goal

pub returns-in-None : goal.returns-in-None
returns-in-None c = λ st. own_none c.args.levels.now (numbers_in (remains st c.args.rest.now.value)) (c.in-None.ensures st)

pub returns-then-through-eq0 : goal.returns-then-through-eq0
returns-then-through-eq0 c = λ st.
    own_zero c.args.levels.now (numbers_in (remains st c.args.rest.now.value)) (sym c.if-through-eq0.true ∙ (c.in-Some.ensures st).0) c.levels_with.result
    (c.levels_with.ensures [] refl (numbers_of c.args.levels.now, refl))

pub returns-else-through-eq0 : goal.returns-else-through-eq0
returns-else-through-eq0 c = λ st. own_some c.args.levels.now (numbers_in (remains st c.args.rest.now.value)) c.in-Some.through c.if-through-eq0.false (c.in-Some.ensures st)
