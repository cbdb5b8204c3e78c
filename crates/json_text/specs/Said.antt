-- What is said of a JSON text that is refused.
use Rattle.std.specs.Prelude.{ℕ, List, ◌++◌, codes}
use Rattle.std.specs.Fmt.{decimal}
use Rattle.json_text.specs.declared.fault.JsonFault.{JsonFault}
use Rattle.json_text.specs.declared.fault.JsonFault.TheVariants.{NotUtf8, NotJson, OutOfMemory}

-- the text of a fault of a JSON text: what is wrong, and at which byte
abbrev pub text_of : JsonFault → List ℕ
text_of (NotUtf8 at) = codes "not UTF-8 at " ++ decimal at
text_of (NotJson at) = codes "not JSON at " ++ decimal at
text_of OutOfMemory = codes "memory ran out"
