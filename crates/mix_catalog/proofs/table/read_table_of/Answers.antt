use Rattle.std.proofs.Common.{rules}
use Rattle.mix_words.proofs.NameBytes.{IsUtf8-sql_name}
use Rattle.mix_catalog.proofs.table.read_table_of.Goals as goal

pub of_text-requires : goal.of_text-requires
of_text-requires c = IsUtf8-sql_name c.args.table.now (search rules)

pub of_text-requires-2 : goal.of_text-requires-2
of_text-requires-2 c = IsUtf8-sql_name c.args.key.now (search rules)
