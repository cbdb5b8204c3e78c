use Rattle.std.proofs.Common.{◌∙◌, sym}
use Rattle.mix_words.specs.Words.{words_of}
use Rattle.mix_script.proofs.FewWords.{few_words}
use Rattle.mix_script.proofs.line.read_act_in.Goals as goal

pub returns-in-Some : goal.returns-in-Some
returns-in-Some c = few_words c.args.forms c.args.line.now c.in-Some.act (sym (c.in_ok-act.ensures (words_of c.args.line.now) c.requires.words) ∙ c.in-Some.is)
