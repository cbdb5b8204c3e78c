use Rattle.std.proofs.Common.{◌≡◌, ◌∙◌, ap, arith, length}
use Rattle.bracket_text.specs.Canonical.{canon}
use Rattle.mix_load.proofs.visit.visit_people.Goals as goal

pub go-requires-clause-root : goal.go-requires-clause-root
go-requires-clause-root c = (c.in_ok-visitor.ensures.on.0, c.in_ok-start.ensures.root c.in_ok-visitor.ensures.on.0 _ c.in_ok-visitor.ensures.on.2)

pub people-init : goal.people-init
people-init c =
    let on = c.in_ok-visitor.ensures.on in
    record {
      on = (on.0, on.1, c.in_ok-go.ensures.root on.0 (c.in_ok-start.ensures.root on.0 _ on.2));
      taken = omega (arith, c.in_ok-go.ensures.commands, c.in_ok-start.ensures.commands, c.in_ok-visitor.ensures.commands);
    }

pub go-requires-in-people-clause-root : goal.go-requires-in-people-clause-root
go-requires-in-people-clause-root c = (c.people.invariant.on.0, c.people.invariant.on.2)

pub print-requires-clause-root : goal.print-requires-clause-root
print-requires-clause-root c = (c.people.invariant.on.0, c.people.invariant.on.2)

pub returns : goal.returns
returns c =
    let on = c.people.invariant.on in
    let text : c.in_ok-text.text ≡ canon on.0 = c.in_ok-text.ensures.text on.0 on.2 in
    record {
      tree = on.0;
      names = on.1;
      commands = omega (arith, c.in_ok-text.ensures.commands, c.people.invariant.taken, c.people.auto.counter-end, c.people-test.false);
      nodes = c.count_nodes.ensures on.0 (c.bytes.ensures ∙ text);
      bytes = ap length (c.bytes-2.ensures ∙ text);
    }
