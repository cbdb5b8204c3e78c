use Rattle.std.proofs.Common.{◌∙◌, ap}
use Rattle.std.specs.Prelude.{not}
use Rattle.lazy_binding.specs.Keys.{was_seen}
use Rattle.lazy_binding.proofs.SeenLists.{is_new}
use Rattle.lazy_binding.proofs.key.SeenKeys.push.Goals as goal
use Rattle.lazy_binding.proofs.key.SeenKeys.push.Goals.{in-Ok, in-Err}

pub returns-clause-new : goal.returns-clause-new
returns-clause-new c =
    elim c.match-insert_full.branch [
      | in-Ok w ↦ rw w.result-is ((rw w.in-Ok.is at c.insert_full.ensures.added) ∙ is_new c.args.key c.self.inside.keys.keys ∙ ap (λ z. not (was_seen c.args.key.items z)) c.self.view_is)
      | in-Err w ↦ rw w.result-is tt
    ]
