-- Requests, and which text is one.
use Rattle.std.specs.Prelude.{◌≡◌, ℕ, ◌<◌, ◌≤◌, ◌^◌, List, [], ◌∷◌, ◌++◌, length, take, slice_index}
use Rattle.wire_text.specs.declared.request.Request.{Request}
use Rattle.wire_text.specs.declared.request.Request.TheVariants.{Count, Root, Fill}
use Rattle.wire_text.specs.declared.request.RequestRead.{RequestRead}
use Rattle.wire_text.specs.declared.request.RequestRead.TheVariants.{Got, More, BadTag}
use Rattle.wire_text.specs.Bytes.{u32_bytes, words_bytes, IsHole}

-- the bytes of a request
abbrev pub request_bytes : Request → List ℕ
request_bytes Count = 0 ∷ []
request_bytes (Root s) = 1 ∷ u32_bytes s
request_bytes (Fill source id) = 2 ∷ (u32_bytes source ++ words_bytes id)

-- the numbers of a request have 32 bits, and a hole's words 64
abbrev pub IsRequest : Request → Type 0
IsRequest Count = Unit {0}
IsRequest (Root s) = s < 2 ^ 32
IsRequest (Fill source id) = (source < 2 ^ 32) × IsHole id

-- the text is a request
abbrev pub SpellsRequest : List ℕ → Request → Type 0
SpellsRequest x r = IsRequest r × (x ≡ request_bytes r)

-- the text is a proper prefix of a request
abbrev pub IsPrefixOfRequest : List ℕ → Type 0
IsPrefixOfRequest x = (y : List ℕ) × (r : Request) × (0 < length y) × SpellsRequest (x ++ y) r

-- the answer is that of the text: the request that it begins with, or that it ends inside one, or that none has its first byte
abbrev pub ReadsRequest : List ℕ → RequestRead → Type 0
ReadsRequest x (Got request len) = (len ≤ length x) × SpellsRequest (take len x) request
ReadsRequest x More = IsPrefixOfRequest x
ReadsRequest x BadTag = (0 < length x) × (2 < slice_index x 0)

-- no request begins another, and no text is two requests
abbrev pub RequestsAreApart : Type 0
RequestsAreApart = (a b : Request) (x y : List ℕ) → IsRequest a → IsRequest b → request_bytes a ++ x ≡ request_bytes b ++ y → (a ≡ b) × (x ≡ y)
