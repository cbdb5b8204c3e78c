use Rattle.lazy_follow.specs.Marks.{text_reach}
use Rattle.lazy_walk.proofs.Walks.{walk_goes_on}
use Rattle.lazy_walk.proofs.walk.Walk.follow.Goals as goal

pub returns-clause-walked : goal.returns-clause-walked
returns-clause-walked g c =
    let w = c.followed.ensures.sought in
    walk_goes_on g.met.S.Sources.keeps c.args.s.now c.followed.new.s c.args.self.now (record { bench = c.followed.new.bench }) (text_reach c.args.text) c.requires
    (record { came = w.ran.came; bench = w.ran.bench; kept = w.ran.kept; asks = w.asks })
