use Rattle.std.proofs.Common.{Some}
use Rattle.mix_script.proofs.Held.{named_new, named_through}
use Rattle.mix_script.proofs.names.put_own.Goals as goal

pub returns-in-Some-clause-ok : goal.returns-in-Some-clause-ok
returns-in-Some-clause-ok g c =
    named_through c.args.own.now (c.get_mut.follows.lender c.args.value) c.args.name.now c.in-Some.held.now c.args.value c.in-Some.ensures.value (c.get_mut.follows.holds c.args.value)

pub returns-clause-ok : goal.returns-clause-ok
returns-clause-ok g c =
    named_new c.args.own.now c.get_mut.follows.lender-at-none c.insert.new.self _ c.args.name.now (Some c.args.value) c.get_mut.follows.holds-at-none c.in_ok-copy.ensures c.in_ok-insert.ensures.updates
