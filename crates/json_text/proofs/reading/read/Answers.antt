use Rattle.std.proofs.lemmas.Str.{IsUtf8-had}
use Rattle.json_text.proofs.reading.read.Goals as goal

pub read_root-requires-clause-utf8 : goal.read_root-requires-clause-utf8
read_root-requires-clause-utf8 c = IsUtf8-had c.bytes.result.now c.bytes.ensures.utf8
