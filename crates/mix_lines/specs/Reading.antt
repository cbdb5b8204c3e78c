-- What reading the lines of an input comes to.
use Rattle.std.specs.Prelude.{◌≡◌, ◌⊎◌, ◌+◌, ◌-◌, ◌^◌, ◌<◌, ◌≤◌, ◌==◌, ℕ, Bool, true, false, IsTrue, List, [], ◌∷◌, ◌++◌, Option, Some, None, Result, Ok, Err, is_some, length, take}
use Rattle.mix_base.specs.Counts.{HasRisen}
use Rattle.mix_io.specs.Input.{InputView, IsAtEnd, Took}
use Rattle.mix_io.specs.declared.input.TakeFault.{TakeFault}
use Rattle.mix_io.specs.declared.input.TakeFault.TheVariants.{Failed}
use Rattle.mix_words.specs.Lines.{lines_of}
use Rattle.mix_script.specs.declared.step.LineRead.{LineRead}
use Rattle.mix_lines.specs.Heard.{Heard, heard, next_asks}
use Rattle.mix_lines.specs.declared.input_lines.InputLines.{InputLines}
use Rattle.mix_lines.specs.declared.reader.LineReader.{LineReader}

-- no byte of a text is LF
abbrev pub HasNoLf : List ℕ → Type 0
HasNoLf [] = Unit {0}
HasNoLf (b ∷ bs) = (b == 10 ≡ false) × HasNoLf bs

-- a text ends with LF
abbrev pub EndsInLf : List ℕ → Type 0
EndsInLf text = (body : List ℕ) × (text ≡ body ++ 10 ∷ [])

-- a text is cut after its first LF; or it has no LF, and the first part is all of it
abbrev pub IsPart : List ℕ → List ℕ → Bool → Type 0
IsPart part rest true = (body : List ℕ) × HasNoLf body × (part ≡ body ++ 10 ∷ [])
IsPart part rest false = HasNoLf part × (rest ≡ [])

-- a page's bytes up to the first LF and with it were moved after those of a line, of which no more are kept than a line may have with its end
pub record Moved (page page' line line' : List ℕ) (whole : Bool) : Type 0 where
  pub part : List ℕ
  pub cut : page ≡ part ++ page'
  pub is : IsPart part page' whole
  pub kept : line' ≡ take 1048578 (line ++ part)

-- a text is empty, or has exactly one line
abbrev pub IsLine : List ℕ → Type 0
IsLine text = (text ≡ []) ⊎ (length (lines_of text) ≡ 1)

-- where a reader has met the end of its input, nothing is left
abbrev pub IsReaderOf : InputView → LineReader → Type 0
IsReaderOf input r = r.ended ≡ true → (r.page ≡ []) × IsAtEnd input

-- how much a reader can still come to read: what it has, and what can still be counted
abbrev pub to_read : InputView → LineReader → ℕ
to_read input r = 2 ^ 64 - input.taken + length r.page

-- bytes were taken for a line in pieces: none; or the last of them at once, at most 4,096, when no byte of what a reader had and of those before them was LF
abbrev pub ArePieces : (had bytes : List ℕ) → Type 0
ArePieces had bytes = (bytes ≡ []) ⊎ ((first : List ℕ) × (last : List ℕ) × (bytes ≡ first ++ last) × HasNoLf (had ++ first) × (length last ≤ 4096))

-- some bytes were taken, or none, and no line came to its end: none by a reader that has met the end of its input. Where the input
-- failed, the reader had not met it, and no byte of what it had and what was taken is LF
pub record TookSome (old new : InputView) (r : LineReader) (fault : TakeFault) : Type 0 where
  pub bytes : List ℕ
  pub took : Took old new bytes
  pub still : r.ended ≡ true → bytes ≡ []
  pub pieces : ArePieces r.page bytes
  pub going : fault ≡ Failed → r.ended ≡ false
  pub part : fault ≡ Failed → HasNoLf (r.page ++ bytes)

-- the next line was read of an input, or it has ended: what a reader had and what was taken is the line with its end and what the reader has
-- now. With any bytes after it the line asks for this, and those for their own; after the end of the input there are none, and
-- nothing is taken there
pub record Reads (old new : InputView) (r r' : LineReader) (read : Option LineRead) : Type 0 where
  pub bytes : List ℕ
  pub took : Took old new bytes
  pub reader : IsReaderOf new r'
  pub line : List ℕ
  pub cut : r.page ++ bytes ≡ line ++ r'.page
  pub end : r'.ended ≡ false → EndsInLf line
  pub ask : (more : List ℕ) → (r'.ended ≡ true → more ≡ []) → heard (line ++ more) ≡ next_asks read ++ heard more
  pub still : r.ended ≡ true → (bytes ≡ []) × (r'.ended ≡ true)
  pub pieces : ArePieces r.page bytes
  pub last : read ≡ None → r'.ended ≡ true
  pub less : IsTrue (is_some read) → to_read new r' < to_read old r

-- a text is empty, or made of lines of which each has its end
abbrev pub AreWhole : List ℕ → Type 0
AreWhole text = (text ≡ []) ⊎ EndsInLf text

-- bytes were asked for in time: but for the last of them, at most 4,096, all their whole lines ask for the first part of this
pub record AreAskedInTime (bytes : List ℕ) (asks : List Heard) : Type 0 where
  pub earlier : List ℕ
  pub last : List ℕ
  pub parts : bytes ≡ earlier ++ last
  pub short : length last ≤ 4096
  pub passed : List ℕ
  pub part : List ℕ
  pub cut : earlier ≡ passed ++ part
  pub whole : AreWhole passed
  pub free : HasNoLf part
  pub first : List Heard
  pub later : List Heard
  pub are : asks ≡ first ++ later
  pub same : heard passed ≡ first

-- lines were read of an input, or none: what a reader had and what was taken are the lines with their ends and what the reader has now. They
-- ask for this, and with any bytes after them for what those ask for too
pub record AreRead (old new : InputView) (r r' : LineReader) (asks : List Heard) : Type 0 where
  pub bytes : List ℕ
  pub took : Took old new bytes
  pub passed : List ℕ
  pub cut : r.page ++ bytes ≡ passed ++ r'.page
  pub end : r'.ended ≡ false → AreWhole passed
  pub ask : (more : List ℕ) → (r'.ended ≡ true → more ≡ []) → heard (passed ++ more) ≡ asks ++ heard more
  pub timely : r.page ≡ [] → AreAskedInTime bytes asks
  pub rises : old.faults ≤ new.faults

-- what a line asks for that came to this
abbrev pub read_asks : LineRead → List Heard
read_asks read = next_asks (Some read)

-- a call for the next line came to this: it was read, or the input has ended, or some bytes were taken of it
abbrev pub IsMoved : InputView → InputView → LineReader → InputLines → Result Bool TakeFault → Type 0
IsMoved old new r r' (Ok true) = Reads old new r r'.reader (Some r'.read) × (old.faults ≤ new.faults)
IsMoved old new r r' (Ok false) = Reads old new r r'.reader None × (old.faults ≤ new.faults)
IsMoved old new r r' (Err fault) = TookSome old new r fault × (fault ≡ Failed → HasRisen old.faults new.faults) × (old.faults ≤ new.faults)
