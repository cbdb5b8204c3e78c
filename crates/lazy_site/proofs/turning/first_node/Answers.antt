use Rattle.std.proofs.Common.{arith}
use Rattle.lazy_site.proofs.Turns.{walked_then, paid_on}
use Rattle.std.proofs.Common.{Some}
use Rattle.lazy_site.proofs.Heights.{gives_ranked}
use Rattle.lazy_site.proofs.StandingKept.{IsHolder-kept}
use Rattle.lazy_site.proofs.turning.first_node.Goals as goal

pub returns-in_err-turn-clause-walked : goal.returns-in_err-turn-clause-walked
returns-in_err-turn-clause-walked g c = walked_then g.met.S.Sources.after c.turns.invariant.came c.turns.invariant.paid c.turn.ensures.walked

pub returns-in-Over-clause-walked : goal.returns-in-Over-clause-walked
returns-in-Over-clause-walked g c = walked_then g.met.S.Sources.after c.turns.invariant.came c.turns.invariant.paid c.turn.ensures.walked

pub returns-in-At-clause-walked : goal.returns-in-At-clause-walked
returns-in-At-clause-walked g c = walked_then g.met.S.Sources.after c.turns.invariant.came c.turns.invariant.paid c.turn.ensures.walked

pub turns-preserved : goal.turns-preserved
turns-preserved g c =
    let h = rw c.in-On.is at c.in_ok-turn.ensures.answer in
    record {
      came = g.met.S.Sources.after c.args.s.now c.turns.s c.turn.new.s c.turns.invariant.came c.turn.ensures.walked.came;
      bench = c.turn.ensures.walked.bench;
      rest = h.rest;
      paid = paid_on c.turns.invariant.paid c.turn.ensures.walked.kept _ _ h;
      list = λ n d list holder l. (let p = c.turns.invariant.list n d list holder l in let f = rw c.in-On.is at c.in_ok-turn.ensures.list in
          (IsHolder-kept _ _ c.turn.ensures.walked.kept n d p.0, f n d list p.0 p.1));
      left = (let f = rw c.in-On.is at c.in_ok-turn.ensures.left in let l = c.turns.invariant.left in omega (arith, f, l));
      rank = (let f = rw c.in-On.is at c.in_ok-turn.ensures.rank in let l = c.turns.invariant.rank in omega (arith, f, l));
    }

pub returns-in-At-clause-rank : goal.returns-in-At-clause-rank
returns-in-At-clause-rank g c = gives_ranked _ _ c.turns.invariant.rank (Some c.in-At.n) (rw c.in-At.is at c.in_ok-turn.ensures.rank)

pub returns-in-At-clause-list : goal.returns-in-At-clause-list
returns-in-At-clause-list g c = λ n d list holder l. (let p = c.turns.invariant.list n d list holder l in let f = rw c.in-At.is at c.in_ok-turn.ensures.list in f n d list p.0 p.1)
