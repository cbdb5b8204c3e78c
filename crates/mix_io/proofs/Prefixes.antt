-- What was read so far, as a prefix of the contents.
use Rattle.std.proofs.Common.{◌≡◌, ◌+◌, ◌≤◌, ◌∙◌, ℕ, List, ◌++◌, Option, Some, None, IfSome, ap, arith, length, take}
use Rattle.mix_base.proofs.Lists.{take_then}
use Rattle.mix_io.specs.Contents.{GivesFrom}

-- the bytes are the first ones of the contents
abbrev pub IsPrefix : List ℕ → ℕ → List ℕ → Type 0
IsPrefix bytes len contents = (bytes ≡ take len contents) × (len ≤ length contents)

-- a prefix, and what a read gives after it, are a longer prefix
pub prefix_more : (told : Option (List ℕ)) (bytes more room : List ℕ) (len count : ℕ)
    → IfSome told (IsPrefix bytes len) → IfSome told (λ contents. GivesFrom contents len count room)
    → more ≡ bytes ++ take count room → IfSome told (IsPrefix more (len + count))
prefix_more None bytes more room len count prefix given e = prefix
prefix_more (Some contents) bytes more room len count prefix given e =
    let within = given.within in (
      e
          ∙ ap (λ b. b ++ take count room) prefix.0
          ∙ ap (λ r. take len contents ++ r) given.bytes
          ∙ take_then contents len count prefix.1,
      omega arith,
    )
