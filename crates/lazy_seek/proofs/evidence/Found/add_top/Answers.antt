use Rattle.lazy_plan.specs.Bench.{state_of}
use Rattle.lazy_seek.proofs.Knowing.{put_top}
use Rattle.lazy_seek.proofs.evidence.Found.add_top.Goals as goal

pub returns-clause-known : goal.returns-clause-known
returns-clause-known c = λ view places bench.
    put_top (state_of view c.args.bench.now) places c.args.self.now.nodes c.put.new.self c.args.source c.args.out c.top-spot.result c.put.result c.put.ensures (c.top-spot.ensures.spot view bench)
    (c.top-spot.ensures.place view)
