-- What receiving a reply answers.
use Rattle.std.specs.Prelude.{◌≡◌, ◌⊎◌, ℕ, ◌<◌, ◌≤◌, Bool, true, false, List, ◌++◌, length, Option, Some, Result, Ok, Err}
use Rattle.std.specs.Global.{Vec}
use Rattle.std.specs.Io.KnownBytes.{Consumes, IsAtEnd}
use Rattle.mix_io.specs.declared.whole.TheConstants.{WHOLE_LIMIT}
use Rattle.wire_text.specs.Reply.{Said, SpellsReply}
use Rattle.wire_frame.specs.Standing.{Standing, at_tree, lost, standing_after}
use Rattle.wire_frame.specs.Frames.{GoesOn}
use Rattle.file_link.specs.declared.loss.Loss.{Loss}
use Rattle.file_link.specs.declared.loss.Loss.TheVariants.{Unsent, Ended, Lost, TooLong, Failed, OutOfMemory}

-- the bytes are whole, and nothing stands behind the reply
abbrev pub IsWhole : List ℕ → Type 0
IsWhole bytes = (standing_after bytes ≡ at_tree 0) × (length bytes ≤ WHOLE_LIMIT)

-- bytes that were kept are whole, or go on
abbrev pub IsKept : Bool → List ℕ → Type 0
IsKept true bytes = IsWhole bytes
IsKept false bytes = GoesOn (standing_after bytes) × (length bytes ≤ WHOLE_LIMIT)

-- a piece is kept behind the bytes before it, or refused for a cause
abbrev pub KeepsPiece : {T : Type 0} → List ℕ → List ℕ → List ℕ → Result T Loss → Type 0
KeepsPiece old piece new (Ok u) = (new ≡ old ++ piece) × (length new ≤ WHOLE_LIMIT)
KeepsPiece old piece new (Err Unsent) = ⊥
KeepsPiece old piece new (Err Ended) = ⊥
KeepsPiece old piece new (Err Lost) = ⊥
KeepsPiece old piece new (Err TooLong) = WHOLE_LIMIT < length (old ++ piece)
KeepsPiece old piece new (Err Failed) = ⊥
KeepsPiece old piece new (Err OutOfMemory) = Unit {0}

-- a further piece of a reply is kept, or refused for a cause
abbrev pub TakesPiece : List ℕ → List ℕ → Standing → List ℕ → Result Bool Loss → Type 0
TakesPiece old piece standing new (Ok whole) = (new ≡ old ++ piece) × (standing ≡ standing_after new) × IsKept whole new
TakesPiece old piece standing new (Err Unsent) = ⊥
TakesPiece old piece standing new (Err Ended) = ⊥
TakesPiece old piece standing new (Err Lost) = standing_after (old ++ piece) ≡ lost
TakesPiece old piece standing new (Err TooLong) = WHOLE_LIMIT < length (old ++ piece)
TakesPiece old piece standing new (Err Failed) = ⊥
TakesPiece old piece standing new (Err OutOfMemory) = Unit {0}

-- what is said of the bytes that were read
abbrev pub Tells : List ℕ → Result (Vec ℕ) Loss → Type 0
Tells bytes (Ok reply) = (bytes ≡ reply.items) × IsWhole bytes
Tells bytes (Err Unsent) = ⊥
Tells bytes (Err Ended) = GoesOn (standing_after bytes)
Tells bytes (Err Lost) = standing_after bytes ≡ lost
Tells bytes (Err TooLong) = WHOLE_LIMIT < length bytes
Tells bytes (Err Failed) = Unit {0}
Tells bytes (Err OutOfMemory) = Unit {0}

-- a reader has nothing left where its end is told
abbrev pub EndsSo : Option (List ℕ) → Result (Vec ℕ) Loss → Type 0
EndsSo left (Ok reply) = Unit {0}
EndsSo left (Err Unsent) = Unit {0}
EndsSo left (Err Ended) = IsAtEnd left
EndsSo left (Err Lost) = Unit {0}
EndsSo left (Err TooLong) = Unit {0}
EndsSo left (Err Failed) = Unit {0}
EndsSo left (Err OutOfMemory) = Unit {0}

-- so many bytes were read, and this is said of them
abbrev pub Receives : Option (List ℕ) → Option (List ℕ) → Result (Vec ℕ) Loss → Type 0
Receives old new result = (bytes : List ℕ) × Consumes old new bytes × Tells bytes result × EndsSo new result

-- the result is this text, unless a read failed or memory ran out
abbrev pub IsThisText : Result (Vec ℕ) Loss → List ℕ → Type 0
IsThisText (Ok reply) x = reply.items ≡ x
IsThisText (Err loss) x = (loss ≡ Failed) ⊎ (loss ≡ OutOfMemory)

-- a reader that gives a reply of at most so many bytes alone is read to that reply, unless a read fails or memory runs out
abbrev pub AreReceived : Type 0
AreReceived = (x : List ℕ) (r : Said) (new : Option (List ℕ)) (result : Result (Vec ℕ) Loss) → SpellsReply x r → length x ≤ WHOLE_LIMIT
    → Receives (Some x) new result → IsThisText result x
