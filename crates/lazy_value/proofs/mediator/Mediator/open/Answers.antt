use Rattle.lazy_value.proofs.Opened.{opened}
use Rattle.lazy_value.proofs.mediator.Mediator.open.Goals as goal

pub returns-clause-mediator : goal.returns-clause-mediator
returns-clause-mediator g c =
    let v = g.S.Sources.view c.args.s.now in
    let walk = c.in_ok-walk.ensures.walk in
    opened v c.in_ok-walk.walk walk c.root.result (c.root.ensures.place v walk) (c.root.ensures.height v) c.new-found.result c.insert.new.self c.new-found.ensures.empty c.in_ok-text.text c.in_ok-text.ensures
    c.in_ok-insert.ensures.updates
