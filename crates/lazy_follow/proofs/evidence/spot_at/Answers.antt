use Rattle.lazy_follow.proofs.Nodes.{get_there, get_past}
use Rattle.lazy_follow.proofs.evidence.spot_at.Goals as goal

pub returns-then-i-spots : goal.returns-then-i-spots
returns-then-i-spots c = get_there c.args.spots.now c.args.i _ c.if-i-spots.true

pub returns-else-i-spots : goal.returns-else-i-spots
returns-else-i-spots c = get_past c.args.spots.now c.args.i c.if-i-spots.false
