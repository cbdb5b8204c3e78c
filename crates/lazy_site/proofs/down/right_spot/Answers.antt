use Rattle.std.proofs.Common.{refl}
use Rattle.mix_tree.specs.Forest.{after_first}
use Rattle.lazy_plan.specs.Bench.{state_of, trees_at_spot}
use Rattle.lazy_site.proofs.Turns.{walked_ran}
use Rattle.lazy_site.proofs.Reaching.{asks_charged, charged_none, spot_stands}
use Rattle.lazy_site.proofs.down.right_spot.Goals as goal

pub returns-in_err-spot_right-clause-walked : goal.returns-in_err-spot_right-clause-walked
returns-in_err-spot_right-clause-walked g c =
    walked_ran c.spot_right.ensures.ran _ (asks_charged (state_of (g.S.Sources.view c.args.s.now) c.args.bench.now) (state_of (g.S.Sources.view c.spot_right.new.s) c.spot_right.new.self) (after_first (trees_at_spot (state_of (g.S.Sources.view c.args.s.now) c.args.bench.now) c.args.source c.args.p.now)) c.spot_right.ensures.lazy)

pub returns-in-None-clause-walked : goal.returns-in-None-clause-walked
returns-in-None-clause-walked g c =
    walked_ran c.spot_right.ensures.ran _ (asks_charged (state_of (g.S.Sources.view c.args.s.now) c.args.bench.now) (state_of (g.S.Sources.view c.spot_right.new.s) c.spot_right.new.self) (after_first (trees_at_spot (state_of (g.S.Sources.view c.args.s.now) c.args.bench.now) c.args.source c.args.p.now)) c.spot_right.ensures.lazy)

pub returns-in-Some-clause-walked : goal.returns-in-Some-clause-walked
returns-in-Some-clause-walked g c =
    walked_ran c.spot_right.ensures.ran _ (asks_charged (state_of (g.S.Sources.view c.args.s.now) c.args.bench.now) (state_of (g.S.Sources.view c.spot_right.new.s) c.spot_right.new.self) (after_first (trees_at_spot (state_of (g.S.Sources.view c.args.s.now) c.args.bench.now) c.args.source c.args.p.now)) c.spot_right.ensures.lazy)

pub returns-in-None-clause-answer : goal.returns-in-None-clause-answer
returns-in-None-clause-answer g c = λ y. charged_none _ (rw c.in-None.is at c.in_ok-spot_right.ensures.answer y)

pub returns-in-Some-clause-answer : goal.returns-in-Some-clause-answer
returns-in-Some-clause-answer g c = spot_stands (state_of (g.S.Sources.view c.args.s.now) c.args.bench.now) (state_of (g.S.Sources.view c.spot_right.new.s) c.spot_right.new.self) c.args.source _ _ _ c.in-Some.q (rw c.in-Some.is at c.in_ok-spot_right.ensures.answer)

pub returns-in-Some-clause-list : goal.returns-in-Some-clause-list
returns-in-Some-clause-list g c = let h = rw c.in-Some.is at c.in_ok-spot_right.ensures.answer in (refl, h.place)
