use Rattle.std.proofs.Common.{subst}
use Rattle.std.specs.Str.{IsUtf8}
use Rattle.std.proofs.lemmas.Str.{IsUtf8-had}
use Rattle.path_auto.proofs.sets.copied.Goals as goal

pub of_text-requires : goal.of_text-requires
of_text-requires c = IsUtf8-had c.bytes.result.now c.bytes.ensures.utf8

pub returns-clause-utf8 : goal.returns-clause-utf8
returns-clause-utf8 c = subst IsUtf8 c.bytes.ensures.bytes (IsUtf8-had c.bytes.result.now c.bytes.ensures.utf8)
