use Rattle.std.proofs.Common.{◌∙◌}
use Rattle.mix_place.proofs.load.mount_alone.Goals as goal

pub returns-clause-ok : goal.returns-clause-ok
returns-clause-ok g c = record { mount = c.in_ok-mount.mount; only = c.new-2.ensures.docs ∙ c.in_ok-vec.ensures.items; file = c.in_ok-mount.ensures.ok }
