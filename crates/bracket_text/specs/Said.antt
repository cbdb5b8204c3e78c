-- What is said of bracket text that is refused.
use Rattle.std.specs.Prelude.{ℕ, List, ◌++◌, codes}
use Rattle.std.specs.Fmt.{decimal}
use Rattle.bracket_text.specs.declared.fault.BracketFault.{BracketFault}
use Rattle.bracket_text.specs.declared.fault.BracketFault.TheVariants.{NotUtf8, Unexpected, TooDeep, Ends, OutOfMemory}

-- the text of a fault of bracket text: what is wrong, and at which byte
abbrev pub text_of : BracketFault → List ℕ
text_of (NotUtf8 at) = codes "not UTF-8 at " ++ decimal at
text_of (Unexpected at) = codes "unexpected at " ++ decimal at
text_of (TooDeep at) = codes "too deep at " ++ decimal at
text_of Ends = codes "ends too early"
text_of OutOfMemory = codes "memory ran out"
