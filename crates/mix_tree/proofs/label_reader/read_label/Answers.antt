use Rattle.std.proofs.Common.{refl}
use Rattle.mix_tree.proofs.LabelAnswers.{call_reads, reads_inside}
use Rattle.mix_tree.proofs.label_reader.read_label.Goals as goal

pub returns-then-is_inside_char-clause-reads : goal.returns-then-is_inside_char-clause-reads
returns-then-is_inside_char-clause-reads c =
    reads_inside c.args.text.now c.args.from (c.if-is_inside_char.ensures.inside refl) (c.if-is_inside_char.ensures.within refl)

pub returns-clause-reads : goal.returns-clause-reads
returns-clause-reads c =
    call_reads c.args.text.now c.args.from c.read_at_char.result c.requires.utf8 c.requires.inside (c.if-is_inside_char.ensures.boundary refl) c.read_at_char.ensures
