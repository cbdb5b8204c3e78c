-- What writing and reading replies answer.
use Rattle.std.specs.Prelude.{◌≡◌, ℕ, List, Result, Ok, Err, Some, None}
use Rattle.lxp_core.specs.Small.{IsSmall}
use Rattle.wire_text.specs.declared.reply.Reply.{Reply}
use Rattle.wire_text.specs.declared.fault.ReplyFault.{ReplyFault}
use Rattle.wire_text.specs.declared.fault.ReplyFault.TheVariants.{Unexpected, Ends, TooDeep, OutOfMemory}
use Rattle.wire_text.specs.Wired.{Wired, without_weights}
use Rattle.wire_text.specs.Reading.{IsUnexpectedAt, IsCutOff}
use Rattle.wire_text.specs.Reply.{Said, count, root, list, failed, unknown_hole, no_memory, no_source, SpellsReply, IsReplyText, deep_place_in}
use Rattle.wire_text.specs.Plain.{said}

-- a list has at most 200 levels, and each label and each list in it is shorter than 2^32
abbrev pub IsWritable : Said → Type 0
IsWritable (count n) = Unit {0}
IsWritable (root id weight) = Unit {0}
IsWritable (list o) = IsSmall (without_weights o)
IsWritable failed = Unit {0}
IsWritable unknown_hole = Unit {0}
IsWritable no_memory = Unit {0}
IsWritable no_source = Unit {0}

-- the text is the reply, which has at most 200 levels
abbrev pub SpellsShallow : List ℕ → Said → Type 0
SpellsShallow x r = SpellsReply x r × (deep_place_in 200 r ≡ None)

-- the fault is that of the text
abbrev pub RefusesReply : List ℕ → ReplyFault → Type 0
RefusesReply x (Unexpected at) = IsUnexpectedAt IsReplyText x at
RefusesReply x Ends = IsCutOff IsReplyText x
RefusesReply x (TooDeep at) = (r : Said) × SpellsReply x r × (deep_place_in 200 r ≡ Some at)
RefusesReply x OutOfMemory = Unit {0}

-- the reply that the text is, or why it is none
abbrev pub ReadsReply : List ℕ → Result Reply ReplyFault → Type 0
ReadsReply x (Ok r) = SpellsShallow x (said r)
ReadsReply x (Err e) = RefusesReply x e

-- a list that is read is small enough for a wire
abbrev pub ReadListsAreSmall : Type 0
ReadListsAreSmall = (x : List ℕ) (o : Wired) → SpellsShallow x (list o) → IsSmall (without_weights o)

-- the result is this reply, unless memory ran out
abbrev pub IsThisReply : Result Reply ReplyFault → Said → Type 0
IsThisReply (Ok u) r = said u ≡ r
IsThisReply (Err e) r = e ≡ OutOfMemory
