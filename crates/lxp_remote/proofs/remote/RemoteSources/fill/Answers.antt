use Rattle.std.proofs.Common.{inl, ap, sym, arith}
use Rattle.lxp_remote.proofs.Fills.{names_cause, agrees_filled, came_filled, answers_filled}
use Rattle.lxp_remote.proofs.Peers.{has_weight, none_there}
use Rattle.lxp_remote.proofs.remote.RemoteSources.fill.Goals as goal

pub returns-clause-came : goal.returns-clause-came
returns-clause-came g c =
    let r = c.args.self.now in
    let filled = c.fill_peer-answer in (
      filled.ensures.came,
      came_filled (g.L.Link.view r.link) (g.L.Link.view filled.new.link) r.peers.items filled.new.peers.items r.fills c.saturating_add-self.result c.args.s c.args.hole filled.result
          (g.met.L.Link.keeps _ _ filled.ensures.came) filled.ensures.filled c.requires r.agrees filled.ensures.others filled.ensures.count (omega (arith, c.saturating_add-self.ensures)) (omega (arith, c.saturating_add-self.ensures)),
    )

pub invariant_of-self : goal.invariant_of-self
invariant_of-self g c =
    let r = c.args.self.now in
    let filled = c.fill_peer-answer in record {
      few = omega (arith, filled.ensures.count, r.few);
      agrees = agrees_filled (g.L.Link.view r.link) (g.L.Link.view filled.new.link) r.peers.items filled.new.peers.items r.fills c.saturating_add-self.result c.args.s c.args.hole filled.result
          (g.met.L.Link.keeps _ _ filled.ensures.came) filled.ensures.filled c.requires r.agrees filled.ensures.others filled.ensures.count;
    }

pub returns-clause-named : goal.returns-clause-named
returns-clause-named g c =
    let r = c.args.self.now in
    let filled = c.fill_peer-answer in
    names_cause (g.L.Link.view r.link) (g.L.Link.view filled.new.link) r.peers.items filled.new.peers.items r.fills c.saturating_add-self.result c.args.s c.args.hole filled.result
    (g.met.L.Link.keeps _ _ filled.ensures.came) filled.ensures.filled c.requires r.agrees

pub returns-clause-answers : goal.returns-clause-answers
returns-clause-answers g c =
    let r = c.args.self.now in
    let filled = c.fill_peer-answer in
    let told = sym (g.met.L.Link.keeps _ _ filled.ensures.came).told in
    answers_filled (g.L.Link.view r.link) (g.L.Link.view filled.new.link) r.peers.items filled.new.peers.items r.fills c.saturating_add-self.result c.args.s c.args.hole filled.result
    told filled.ensures.filled.taken

pub returns-clause-refused : goal.returns-clause-refused
returns-clause-refused g c =
    let is = c.fill_peer-answer.ensures.filled in record {
      failed = λ e. is.counted e;
      unknown = λ e. ap has_weight (is.unknown e);
      only_unknown = λ e. inl (is.only_unknown (none_there _ e));
    }
