-- What a call that did not fail says of the contents.
use Rattle.std.proofs.Common.{◌≡◌, List, ℕ, Bool, true, false, Option, Some, None, if◌then◌else◌, sym}

-- bytes that a call gives, which gives what is told unless it fails, are what is told
pub told_unless : (fails : Bool) (told : Option (List ℕ)) (bytes : List ℕ) → Some bytes ≡ (if fails then None else told) → told ≡ Some bytes
told_unless true told bytes e = absurd (cc e)
told_unless false told bytes e = sym e
