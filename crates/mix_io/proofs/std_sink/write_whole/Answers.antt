use Rattle.std.proofs.Common.{rules, take, subst}
use Rattle.std.proofs.lemmas.List.{take_rest}
use Rattle.std.specs.Io.KnownBytes.{Appends}
use Rattle.mix_io.proofs.Writes.{grown_more}
use Rattle.mix_io.proofs.std_sink.write_whole.Goals as goal

pub loop-done-preserved : goal.loop-done-preserved
loop-done-preserved g c =
    let contents = g.W.Write.contents in
    let held = c.loop-done.invariant in
    let piece = c.args.piece.now in
    let count = c.in_ok-done.field-0 in
    let next = subst (λ rest. Appends (contents c.loop-done.out) (contents c.write_once.new.out) (take count rest)) (take_rest piece c.loop-done.done) c.in_ok-done.ensures.ok in
    record {
      within = search rules;
      grown = grown_more _ _ _ piece _ _ held.within held.grown next;
    }
