use Rattle.std.proofs.Common.{None, ◌<◌, length, arith}
use Rattle.mix_script.proofs.Held.{other_named}
use Rattle.mix_script.proofs.names.Names.clear.Goals as goal

pub returns-in-Some : goal.returns-in-Some
returns-in-Some g c =
    let some : 0 < length c.args.client.now = grind arith in
    other_named c.args.self.now.plain c.in-Some.own.now c.clear_own-in-Some.new.own c.args.self.now.clients (c.get_mut.follows.lender c.clear_own-in-Some.new.own) c.args.client.now c.args.name.now None some
    c.in-Some.ensures.value c.clear_own-in-Some.ensures (c.get_mut.follows.holds c.clear_own-in-Some.new.own)
