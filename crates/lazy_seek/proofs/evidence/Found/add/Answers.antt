use Rattle.std.proofs.Common.{rules, ◌≡◌, ◌∙◌, ℕ, Some, ap, length}
use Rattle.std.specs.Prelude.{slice_get}
use Rattle.lazy_seek.proofs.Knowing.{put_here}
use Rattle.lazy_seek.proofs.evidence.Found.add.Goals as goal

pub returns-clause-known : goal.returns-clause-known
returns-clause-known c = λ st places n spot node at.
    let many : c.len.result ≡ length c.args.self.now.spots.items = search rules in record {
      entry = record { node = c.args.node; place = Some c.len.result };
      is = put_here c.args.self.now.nodes c.put.new.self c.args.out _ c.in_ok-put.ensures;
      spot = spot;
      node = node;
      at_place = ap (λ (i : ℕ). slice_get places i) many ∙ at;
    }
