use Rattle.std.proofs.Common.{take}
use Rattle.std.proofs.lemmas.Result.{err_from_is_err_and}
use Rattle.wire_frame.specs.Frames.{standing_of}
use Rattle.file_link.proofs.Received.{refused, consumed_more}
use Rattle.file_link.proofs.receiving.receive.Goals as goal

pub returns-in_err-take_piece-clause-answers : goal.returns-in_err-take_piece-clause-answers
returns-in_err-take_piece-clause-answers g c =
    let p = err_from_is_err_and c.from_residual.result c.from_residual.ensures.1 in
    let before = g.R.Read.remaining c.args.from.now in
    let now = g.R.Read.remaining c.read.new.self in
    let bytes = c.loop.bytes.items in
    let piece = take c.in-Ok.count c.read.new.buf in
    let consumed = consumed_more before (g.R.Read.remaining c.loop.from) now bytes piece c.loop.invariant.consumed c.in-Ok.ensures.bytes.0 in
    rw (p.1, p.2) (refused before now bytes piece c.take_piece.new.bytes.items (standing_of c.take_piece.new.frame) c.in_err-take_piece.field-0.0 consumed c.in_err-take_piece.ensures)
