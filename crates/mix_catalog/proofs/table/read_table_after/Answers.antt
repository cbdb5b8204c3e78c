use Rattle.std.proofs.Common.{◌∙◌, sym, true, false}
use Rattle.std.proofs.lemmas.Result.{IfOk-weaker}
use Rattle.mix_catalog.proofs.Tables.{few_words, five_words}
use Rattle.mix_catalog.proofs.table.read_table_after.Goals as goal

pub returns-in_default : goal.returns-in_default
returns-in_default c = sym (few_words c.args.words.now c.in_default.len_below)

pub returns-then-not-are_key_and_columns : goal.returns-then-not-are_key_and_columns
returns-then-not-are_key_and_columns c =
    sym (five_words c.args.words.now _ false c.in-len5-up.len_at_least (sym c.are_key_and_columns.ensures ∙ c.if-not-are_key_and_columns.true))

pub returns : goal.returns
returns c =
    let said = sym c.are_key_and_columns.ensures ∙ c.if-not-are_key_and_columns.false in
    IfOk-weaker c.read_table_of.result _ _ (λ found e. e ∙ sym (five_words c.args.words.now _ true c.in-len5-up.len_at_least said)) c.read_table_of.ensures
