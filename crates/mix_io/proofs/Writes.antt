-- Writes one after another, where the bytes that a writer holds are known.
use Rattle.std.proofs.Common.{◌+◌, ◌≤◌, ◌∙◌, ℕ, List, ◌++◌, Option, Some, None, ap, length, take, drop, append_assoc}
use Rattle.std.specs.Io.KnownBytes.{Appends}
use Rattle.mix_base.proofs.Lists.{take_then}

-- a prefix of a piece, and a prefix of what is left of it, are a longer prefix
pub grown_more : (before between after : Option (List ℕ)) (piece : List ℕ) (done count : ℕ)
    → done ≤ length piece → Appends before between (take done piece)
    → Appends between after (take count (drop done piece)) → Appends before after (take (done + count) piece)
grown_more None between after piece done count within first second = tt
grown_more (Some xs) None after piece done count within first second = absurd first
grown_more (Some xs) (Some ys) None piece done count within first second = absurd second
grown_more (Some xs) (Some ys) (Some zs) piece done count within first second =
    second
    ∙ ap (λ r. r ++ take count (drop done piece)) first
    ∙ append_assoc xs (take done piece) (take count (drop done piece))
    ∙ ap (λ r. xs ++ r) (take_then piece done count within)
