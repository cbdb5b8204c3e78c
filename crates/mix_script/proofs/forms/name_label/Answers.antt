use Rattle.mix_words.proofs.NameBytes.{IsUtf8-name}
use Rattle.mix_script.proofs.forms.name_label.Goals as goal

pub of_text-requires : goal.of_text-requires
of_text-requires c = IsUtf8-name _ c.requires
