use Rattle.std.proofs.Common.{◌∙◌}
use Rattle.std.proofs.lemmas.Result.{IfOk-weaker}
use Rattle.mix_words.specs.Words.{words_of}
use Rattle.mix_script.proofs.FirstWords.{no_prefix}
use Rattle.mix_script.proofs.line.read_utf8.Goals as goal

pub returns : goal.returns
returns c =
    let first = c.may_be_prefixed.ensures c.if-may_be_prefixed.false (words_of c.args.line.now) c.line_words-words.ensures in
    IfOk-weaker c.read_step.result _ _ (λ step e. e ∙ no_prefix c.args.forms c.args.line.now first) c.read_step.ensures
