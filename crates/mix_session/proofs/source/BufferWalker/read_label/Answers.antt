use Rattle.mix_session.proofs.Sources.{source_label}
use Rattle.mix_session.proofs.source.BufferWalker.read_label.Goals as goal

pub returns : goal.returns
returns c = λ v sources p at t one. source_label v c.args.self.now sources c.args.n.now c.label.result.now c.label.ensures p at t one
