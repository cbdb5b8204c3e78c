use Rattle.std.proofs.Common.{arith}
use Rattle.std.proofs.lemmas.Map.Text.{text_keys}
use Rattle.mix_io.proofs.os_files.OsFiles.set_end.Goals as goal

pub returns-clause-others : goal.returns-clause-others
returns-clause-others c = λ other apart. grind (arith, text_keys, apart)
