use Rattle.std.proofs.Common.{None}
use Rattle.mix_script.proofs.Held.{named}
use Rattle.mix_script.proofs.names.clear_own.Goals as goal

pub returns : goal.returns
returns g c = named c.args.own.now c.remove.new.self c.args.name.now None c.remove.ensures.updates
