use Rattle.std.proofs.Common.{rules}
use Rattle.std.proofs.lemmas.Option.{slice_get_within}
use Rattle.lazy_plan.proofs.bench.Bench.automaton.Goals as goal

pub index-requires : goal.index-requires
index-requires c =
    let v = c.requires.visit.1 in
    let h = slice_get_within c.args.self.now.fixed.autos.items c.args.op _ (c.requires.bench.1.fixed.autos c.args.op v.input v.start c.requires.visit.0 v.out c.requires.op v.is) in search rules
