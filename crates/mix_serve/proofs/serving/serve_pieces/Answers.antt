use Rattle.std.proofs.Common.{◌≡◌, ◌∙◌, Err, refl, ap, arith, false, true, subst, sym, length, drop}
use Rattle.std.proofs.lemmas.Result.{err_from_is_err_and}
use Rattle.lxp_wire.specs.Stream.{sources_of, stream_of}
use Rattle.mix_serve.proofs.Going.{IsServing, ends_bad, ends_cut, ends_inside, ends_long, ends_unbegun, ends_untaken, ends_whole, gives_none, gives_some, serving_more, serving_start}
use Rattle.mix_serve.proofs.serving.serve_pieces.Goals as goal

pub returns-in_err-room-clause-ends : goal.returns-in_err-room-clause-ends
returns-in_err-room-clause-ends g c =
    let p = err_from_is_err_and c.from_residual.result c.from_residual.ensures.1 in
    rw (p.1, p.2) (ends_unbegun (g.S.Sources.view (sources_of c.args.server.now)) (g.I.Input.view c.args.streams.now.input) (g.K.Sink.view c.args.streams.now.out))

pub pieces-init : goal.pieces-init
pieces-init g c =
    let v = g.S.Sources.view (sources_of c.args.server.now) in
    let input = g.I.Input.view c.args.streams.now.input in
    let sink = g.K.Sink.view c.args.streams.now.out in
    record {
      came = g.met.S.Sources.same (sources_of c.args.server.now);
      long = omega (arith, c.in_ok-room.ensures.len);
      serving = subst (λ stream. IsServing v v input input sink sink stream 0) (sym c.requires) (serving_start v input sink);
    }

pub returns-in_err-count-clause-ends : goal.returns-in_err-count-clause-ends
returns-in_err-count-clause-ends g c =
    let p = err_from_is_err_and c.from_residual-in_err-count.result c.from_residual-in_err-count.ensures.1 in
    rw (p.1, p.2)
    (ends_untaken c.pieces.invariant.serving (g.I.Input.view c.take.new.self) c.in_err-count.field-0.0 c.pieces-test.true c.in_err-count.ensures.err (λ failed. c.in_err-count.ensures.failed (ap Err failed)))

pub returns-then-whole-clause-ends : goal.returns-then-whole-clause-ends
returns-then-whole-clause-ends g c =
    let long : length c.take.new.room ≡ 4096 = omega (arith, c.take.auto.room, c.deref_mut.ensures.len, c.pieces.invariant.long) in
    let end = gives_none (g.I.Input.view c.pieces.streams.input) (g.I.Input.view c.take.new.self) c.in_ok-count.count c.take.new.room c.in_ok-count.ensures.gives long c.if-count-eq0.true in
    ends_whole c.pieces.invariant.serving (g.I.Input.view c.take.new.self) c.pieces-test.true end.0 end.1 (c.if-whole.ensures.0 refl)

pub returns-then-count-eq0-clause-ends : goal.returns-then-count-eq0-clause-ends
returns-then-count-eq0-clause-ends g c =
    let long : length c.take.new.room ≡ 4096 = omega (arith, c.take.auto.room, c.deref_mut.ensures.len, c.pieces.invariant.long) in
    let end = gives_none (g.I.Input.view c.pieces.streams.input) (g.I.Input.view c.take.new.self) c.in_ok-count.count c.take.new.room c.in_ok-count.ensures.gives long c.if-count-eq0.true in
    ends_inside c.pieces.invariant.serving (g.I.Input.view c.take.new.self) c.pieces-test.true end.0 end.1 (λ empty. let same : false ≡ true = c.if-whole.ensures.1 empty in cc)

pub returns-in_err-bad-clause-came : goal.returns-in_err-bad-clause-came
returns-in_err-bad-clause-came g c = g.met.S.Sources.after _ _ _ c.pieces.invariant.came c.serve_piece.ensures.came

pub returns-in_err-bad-clause-ends : goal.returns-in_err-bad-clause-ends
returns-in_err-bad-clause-ends g c =
    let p = err_from_is_err_and c.from_residual-in_err-bad.result c.from_residual-in_err-bad.ensures.1 in
    let long : length c.take.new.room ≡ c.pieces.room.len = omega (arith, c.take.auto.room, c.deref_mut.ensures.len) in
    let piece = gives_some (g.I.Input.view c.pieces.streams.input) (g.I.Input.view c.take.new.self) c.in_ok-count.count c.pieces.room.len c.take.new.room (drop (length c.take.new.room) c.pieces.room.items) c.deref.result.now
    c.in_ok-count.ensures.gives c.deref.ensures.value long (omega (arith, c.deref_mut.ensures.len, ap length c.deref_mut.ensures.value, c.pieces.invariant.long)) in
    rw (p.1, p.2)
    (ends_cut c.pieces.invariant.serving (g.S.Sources.view (sources_of c.serve_piece.new.server)) (stream_of c.serve_piece.new.server) (g.K.Sink.view c.serve_piece.new.out) piece c.pieces-test.true
    c.serve_piece.ensures.fills c.in_err-bad.field-0.0 c.in_err-bad.ensures.ends (g.met.S.Sources.keeps _ _ c.serve_piece.ensures.came))

pub returns-then-bad-clause-came : goal.returns-then-bad-clause-came
returns-then-bad-clause-came g c = g.met.S.Sources.after _ _ _ c.pieces.invariant.came c.serve_piece.ensures.came

pub returns-then-bad-clause-ends : goal.returns-then-bad-clause-ends
returns-then-bad-clause-ends g c =
    let long : length c.take.new.room ≡ c.pieces.room.len = omega (arith, c.take.auto.room, c.deref_mut.ensures.len) in
    let piece = gives_some (g.I.Input.view c.pieces.streams.input) (g.I.Input.view c.take.new.self) c.in_ok-count.count c.pieces.room.len c.take.new.room (drop (length c.take.new.room) c.pieces.room.items) c.deref.result.now
    c.in_ok-count.ensures.gives c.deref.ensures.value long (omega (arith, c.deref_mut.ensures.len, ap length c.deref_mut.ensures.value, c.pieces.invariant.long)) in
    let ends = c.in_ok-bad.ensures.ends in
    ends_bad c.pieces.invariant.serving (g.S.Sources.view (sources_of c.serve_piece.new.server)) (stream_of c.serve_piece.new.server) (g.K.Sink.view c.serve_piece.new.out) piece c.pieces-test.true
    c.serve_piece.ensures.fills (rw c.if-bad.true at ends)

pub pieces-preserved : goal.pieces-preserved
pieces-preserved g c =
    let long : length c.take.new.room ≡ c.pieces.room.len = omega (arith, c.take.auto.room, c.deref_mut.ensures.len) in
    let piece = gives_some (g.I.Input.view c.pieces.streams.input) (g.I.Input.view c.take.new.self) c.in_ok-count.count c.pieces.room.len c.take.new.room (drop (length c.take.new.room) c.pieces.room.items) c.deref.result.now
    c.in_ok-count.ensures.gives c.deref.ensures.value long (omega (arith, c.deref_mut.ensures.len, ap length c.deref_mut.ensures.value, c.pieces.invariant.long)) in
    let ends = c.in_ok-bad.ensures.ends in
    let serving = serving_more c.pieces.invariant.serving (g.S.Sources.view (sources_of c.serve_piece.new.server)) (stream_of c.serve_piece.new.server) (g.K.Sink.view c.serve_piece.new.out) piece c.pieces-test.true
    (rw c.if-bad.false at ends) c.take.ensures.count c.serve_piece.ensures.count in
    record {
      came = g.met.S.Sources.after _ _ _ c.pieces.invariant.came c.serve_piece.ensures.came;
      long = ap length (sym c.deref.ensures.value) ∙ omega (arith, c.deref.ensures.len, long, c.take.auto.room, c.deref_mut.ensures.len, ap length c.deref_mut.ensures.value, c.pieces.invariant.long);
      serving = serving;
    }

pub returns-clause-ends : goal.returns-clause-ends
returns-clause-ends g c = ends_long c.pieces.invariant.serving c.pieces-test.false
