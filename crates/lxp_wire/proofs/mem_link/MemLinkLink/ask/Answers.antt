use Rattle.std.proofs.Common.{[], ◌∷◌, ◌++◌, arith, subst, sym}
use Rattle.lxp_wire.specs.Stream.{stream_of, Splits}
use Rattle.lxp_wire.proofs.Streams.{asked_once, one_request}
use Rattle.lxp_wire.proofs.mem_link.MemLinkLink.ask.Goals as goal

pub returns-in_default-clause-fills : goal.returns-in_default-clause-fills
returns-in_default-clause-fills g c = λ r is told.
    omega (arith, c.feed.ensures.fills (r ∷ []) [] (subst (λ b. Splits (b ++ c.args.request.now) (r ∷ []) []) (sym c.args.self.now.whole) (one_request c.args.request.now r is)))

pub returns-in_default-from_slice-clause-fills : goal.returns-in_default-from_slice-clause-fills
returns-in_default-from_slice-clause-fills g c = λ r is told.
    omega (arith, c.feed.ensures.fills (r ∷ []) [] (subst (λ b. Splits (b ++ c.args.request.now) (r ∷ []) []) (sym c.args.self.now.whole) (one_request c.args.request.now r is)))

pub returns-clause-fills : goal.returns-clause-fills
returns-clause-fills g c = λ r is told.
    omega (arith, c.feed.ensures.fills (r ∷ []) [] (subst (λ b. Splits (b ++ c.args.request.now) (r ∷ []) []) (sym c.args.self.now.whole) (one_request c.args.request.now r is)))

pub returns-clause-answers : goal.returns-clause-answers
returns-clause-answers g c = λ r is told.
    (asked_once _ _ (stream_of c.args.self.now.server) c.args.request.now (stream_of c.feed.new.self) c.in-Ok.fed.replies.items r c.args.self.now.whole c.args.self.now.good is c.in-Ok.ensures.fed).reply

pub invariant_of-self-2 : goal.invariant_of-self-2
invariant_of-self-2 g c =
    let once = asked_once _ _ (stream_of c.args.self.now.server) c.args.request.now (stream_of c.feed.new.self) c.in-Ok.fed.replies.items c.requires.0 c.args.self.now.whole c.args.self.now.good c.requires.1 c.in-Ok.ensures.fed in
    record { whole = once.begun; good = once.bad }

pub invariant_of-self-in_default-from_slice : goal.invariant_of-self-in_default-from_slice
invariant_of-self-in_default-from_slice g c =
    let once = asked_once _ _ (stream_of c.args.self.now.server) c.args.request.now (stream_of c.feed.new.self) c.in-Ok.fed.replies.items c.requires.0 c.args.self.now.whole c.args.self.now.good c.requires.1 c.in-Ok.ensures.fed in
    record { whole = once.begun; good = once.bad }
