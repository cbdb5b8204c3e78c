use Rattle.std.proofs.Common.{rules}
use Rattle.mix_words.proofs.NameBytes.{IsUtf8-sql_name}
use Rattle.mix_catalog.proofs.table.read_named.Goals as goal

pub of_text-requires : goal.of_text-requires
of_text-requires c = IsUtf8-sql_name c.args.name.now (search rules)
