use Rattle.std.proofs.Common.{◌≡◌, ◌++◌, ◌∙◌, [], ap, subst, sym, arith, length, drop, true, false}
use Rattle.std.specs.Prelude.{None, refl}
use Rattle.wire_text.specs.Request.{IsPrefixOfRequest}
use Rattle.lxp_wire.specs.Stream.{stream_of, IsServed}
use Rattle.lxp_wire.proofs.Streams.{short_prefix, fed_bad, fed_more, fed_nothing, no_bad}
use Rattle.lxp_wire.proofs.server.Server.feed.Goals as goal

pub returns-then-is_some-clause-fed : goal.returns-then-is_some-clause-fed
returns-then-is_some-clause-fed g c =
    let server = c.args.self.now in
    fed_nothing (g.S.Sources.view server.sources) (stream_of server) c.args.piece.now c.new.result.items (sym c.is_some.ensures ∙ c.if-is_some.true) c.new.ensures.items

pub of-self-requires : goal.of-self-requires
of-self-requires g c =
    let prefix : IsPrefixOfRequest (drop c.in_ok-served.served.at c.deref.result.now) = c.in_ok-served.ensures.served.goes_on c.if-served.false in
    let same : c.split_at.result.1.now ≡ drop c.in_ok-served.served.at c.deref.result.now =
    c.split_at.ensures.back ∙ ap (drop c.in_ok-served.served.at) (c.deref-2.ensures.value ∙ sym c.deref.ensures.value) in
    omega (arith, short_prefix (drop c.in_ok-served.served.at c.deref.result.now) prefix, ap length same)

pub returns-then-served-clause-fed : goal.returns-then-served-clause-fed
returns-then-served-clause-fed g c =
    let server = c.args.self.now in
    let old = g.S.Sources.view server.sources in
    let new = g.S.Sources.view c.serve.new.sources in
    let at = c.in_ok-served.served.at in
    let text = c.deref.result.now in
    let replies = c.serve.new.out.items in
    let read : IsServed old new text [] replies at true =
    subst (IsServed old new text [] replies at) c.if-served.true (subst (λ x. IsServed old new text x replies at c.in_ok-served.served.bad) c.new-replies.ensures.items c.in_ok-served.ensures.served) in
    let good : server.bad ≡ None = no_bad server.bad (sym c.is_some.ensures ∙ c.if-is_some.false) in
    fed_bad old new (stream_of server) _ c.args.piece.now text replies at good
    (c.deref.ensures.value ∙ c.in_ok-text.ensures ∙ ap (λ b. b ++ c.args.piece.now) c.bytes.ensures) (omega (arith, c.saturating_add-self.ensures)) read refl

pub returns-clause-fed : goal.returns-clause-fed
returns-clause-fed g c =
    let server = c.args.self.now in
    let old = g.S.Sources.view server.sources in
    let new = g.S.Sources.view c.serve.new.sources in
    let at = c.in_ok-served.served.at in
    let text = c.deref.result.now in
    let replies = c.serve.new.out.items in
    let read : IsServed old new text [] replies at false =
    subst (IsServed old new text [] replies at) c.if-served.false (subst (λ x. IsServed old new text x replies at c.in_ok-served.served.bad) c.new-replies.ensures.items c.in_ok-served.ensures.served) in
    let good : server.bad ≡ None = no_bad server.bad (sym c.is_some.ensures ∙ c.if-is_some.false) in
    fed_more old new (stream_of server) _ c.args.piece.now text replies at good
    (c.deref.ensures.value ∙ c.in_ok-text.ensures ∙ ap (λ b. b ++ c.args.piece.now) c.bytes.ensures) (omega (arith, c.saturating_add-self.ensures)) read
    (c.of-self.ensures ∙ c.split_at.ensures.back ∙ ap (drop at) (c.deref-2.ensures.value ∙ sym c.deref.ensures.value)) good
