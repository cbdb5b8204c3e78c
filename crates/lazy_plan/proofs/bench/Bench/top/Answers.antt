use Rattle.lazy_binding.specs.Parts.{operators, world_of}
use Rattle.lazy_steps.proofs.Singles.{read_within, top_known}
use Rattle.lazy_plan.proofs.bench.Bench.top.Goals as goal

pub returns-clause-spot : goal.returns-clause-spot
returns-clause-spot c = λ view bench.
    let w = world_of view c.args.self.now.growing in record {
      read = c.requires.read;
      known = top_known w c.args.source c.index.result.now c.top.result (read_within w (operators c.args.self.now.fixed) bench.bench c.args.source c.requires.read) c.index.ensures c.top.ensures.spot;
    }
