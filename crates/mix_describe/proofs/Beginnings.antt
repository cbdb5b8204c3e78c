-- What was read so far, as a prefix of the contents, and what it says of them.
use Rattle.std.proofs.Common.{◌≡◌, ◌+◌, ◌≤◌, ◌∙◌, ℕ, Bool, List, ◌++◌, Option, Some, None, IfSome, ap, arith, refl, length, take}
use Rattle.std.proofs.lemmas.List.{length-take-le, take-take}
use Rattle.mix_base.proofs.Lists.{take_then}
use Rattle.mix_io.specs.Contents.{GivesFrom}
use Rattle.mix_describe.specs.Kinds.{begins_as_database}

-- bytes are the first ones of contents
abbrev pub IsPrefix : List ℕ → ℕ → List ℕ → Type 0
IsPrefix bytes len contents = (bytes ≡ take len contents) × (len ≤ length contents)

-- a prefix, and what a read gives after it, are a longer prefix
pub prefix_more : (told : Option (List ℕ)) (bytes more room : List ℕ) (len count : ℕ)
    → IfSome told (IsPrefix bytes len) → IfSome told (λ contents. GivesFrom contents len count room)
    → more ≡ bytes ++ take count room → IfSome told (IsPrefix more (len + count))
prefix_more None bytes more room len count prefix given e = prefix
prefix_more (Some contents) bytes more room len count prefix given e =
    let within = given.within in (
      e
          ∙ ap (λ b. b ++ take count room) prefix.0
          ∙ ap (λ r. take len contents ++ r) given.bytes
          ∙ take_then contents len count prefix.1,
      omega arith,
    )

-- contents begin as a prefix of them does that is as long as the mark of a database
begins_alike : (bytes contents : List ℕ) (len : ℕ) → 16 ≤ length bytes → IsPrefix bytes len contents → begins_as_database contents ≡ begins_as_database bytes
begins_alike bytes contents len long prefix =
    let e : length bytes ≡ len = ap length prefix.0 ∙ length-take-le len contents prefix.1 in
    let far : 16 ≤ len = omega (arith, long, e) in
    rw (prefix.0, take-take 16 len contents far) refl

-- where a prefix that is as long as the mark begins as a database does or doesn't, the contents do or don't
pub begins : (told : Option (List ℕ)) (bytes : List ℕ) (len : ℕ) (is : Bool) → 16 ≤ length bytes → IfSome told (IsPrefix bytes len)
    → begins_as_database bytes ≡ is → IfSome told (λ contents. begins_as_database contents ≡ is)
begins None bytes len is long prefix h = prefix
begins (Some contents) bytes len is long prefix h = begins_alike bytes contents len long prefix ∙ h
