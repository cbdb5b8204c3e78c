use Rattle.std.proofs.Common.{refl, arith}
use Rattle.far_keep.proofs.Views.{fars_same}
use Rattle.mix_mount.specs.Mounts.{docs_of}
use Rattle.mix_mount.proofs.Rows.{most_at}
use Rattle.mix_reach.proofs.reached.Reached.give.Goals as goal

pub returns-in-None-clause-came : goal.returns-in-None-clause-came
returns-in-None-clause-came g c =
    let fill = c.fill-in-None.ensures in
    record {
      mounted = fill.came;
      sites = refl;
      fars = fars_same (g.R.Fars.view c.args.self.now.fars);
      fills = refl;
      pages = fill.paged.at_most_one;
      rows = omega (arith, fill.paged.at_most_rows, most_at (docs_of c.args.self.now.mounted) c.args.s);
    }
