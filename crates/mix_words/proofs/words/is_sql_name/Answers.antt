use Rattle.std.proofs.Common.{◌∙◌, ap, sym, ◌&&◌, drop, take, length, ◌-◌}
use Rattle.std.specs.List.{list_all}
use Rattle.mix_words.specs.Words.{is_script_byte}
use Rattle.mix_words.proofs.NameBytes.{is_sql_name-parts}
use Rattle.mix_words.proofs.words.is_sql_name.Goals as goal

pub returns-then-begins_sql_name : goal.returns-then-begins_sql_name
returns-then-begins_sql_name c =
    c.are_in_name.ensures ∙ ap (λ b. b && list_all is_script_byte (take (length c.args.word.now - 1) (drop 1 c.args.word.now))) (sym c.if-begins_sql_name.true ∙ c.begins_sql_name.ensures)
    ∙ sym (is_sql_name-parts c.args.word.now c.in-len1-up.len_at_least)
