use Rattle.std.proofs.Common.{Some, ◌<◌, length, arith}
use Rattle.std.proofs.lemmas.Result.{on_ok_weaker, on_err_weaker}
use Rattle.mix_script.proofs.Held.{other_named, other_kept, other_new}
use Rattle.mix_script.proofs.names.Names.put.Goals as goal

pub returns-in-Some-clause-ok : goal.returns-in-Some-clause-ok
returns-in-Some-clause-ok g c =
    let some : 0 < length c.args.client.now = grind arith in
    on_ok_weaker c.put_own-in-Some.result
    (λ h. other_named c.args.self.now.plain c.in-Some.own.now c.put_own-in-Some.new.own c.args.self.now.clients (c.get_mut.follows.lender c.put_own-in-Some.new.own) c.args.client.now c.args.name.now
    (Some c.args.value) some c.in-Some.ensures.value h (c.get_mut.follows.holds c.put_own-in-Some.new.own)) c.put_own-in-Some.ensures.ok

pub returns-in-Some-clause-err : goal.returns-in-Some-clause-err
returns-in-Some-clause-err g c =
    let some : 0 < length c.args.client.now = grind arith in
    on_err_weaker c.put_own-in-Some.result
    (λ e. other_kept c.args.self.now.plain c.in-Some.own.now c.put_own-in-Some.new.own c.args.self.now.clients (c.get_mut.follows.lender c.put_own-in-Some.new.own) c.args.client.now some c.in-Some.ensures.value
    e (c.get_mut.follows.holds c.put_own-in-Some.new.own)) c.put_own-in-Some.ensures.err

pub returns-clause-ok : goal.returns-clause-ok
returns-clause-ok g c =
    let some : 0 < length c.args.client.now = grind arith in
    other_new c.args.self.now.plain c.new-own.result c.put_own-2.new.own c.args.self.now.clients c.get_mut.follows.lender-at-none c.insert.new.self _ c.args.client.now c.args.name.now (Some c.args.value) some
    c.in_default.ensures.value c.get_mut.follows.holds-at-none c.new-own.ensures.empty c.in_ok-client.ensures c.in_ok-put_own.ensures.ok c.in_ok-insert.ensures.updates
