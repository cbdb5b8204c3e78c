use Rattle.std.proofs.Common.{rules}
use Rattle.mix_catalog.proofs.NameText.{IsUtf8-source_name}
use Rattle.mix_catalog.proofs.form.read_prefix_of.Goals as goal

pub of_text-requires : goal.of_text-requires
of_text-requires c = IsUtf8-source_name c.args.name.now (search rules)
