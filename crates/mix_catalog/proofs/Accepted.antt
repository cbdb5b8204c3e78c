-- The sources of lines, one line after another.
use Rattle.std.proofs.Common.{◌≡◌, ◌<◌, ◌+◌, ◌∙◌, ℕ, List, [], ◌∷◌, ◌++◌, refl, sym, ap, subst, length, take, get_or}
use Rattle.std.proofs.lemmas.List.{take_more}
use Rattle.mix_words.specs.Lines.{lines_of}
use Rattle.mix_catalog.specs.declared.source.SourceSpec.{SourceSpec}
use Rattle.mix_catalog.specs.declared.fault.CatalogFault.{CatalogFault}
use Rattle.mix_catalog.specs.declared.fault.CatalogFault.TheVariants.{Line, Chunk, Columns, ColumnTwice, NameTwice, TooMany, OutOfMemory}
use Rattle.mix_catalog.specs.Sources.{Adds, Accepts, IsFault, IsFirstFault, Refuses}

-- accepted lines with one more that adds to their sources are accepted
Accepts-push : (before : List SourceSpec) (lines : List (List ℕ)) (line : List ℕ) (middle after : List SourceSpec) → Accepts before lines middle → Adds middle line after → Accepts before (lines ++ line ∷ []) after
Accepts-push before [] line middle after e h = (after, subst (λ b. Adds b line after) e h, refl)
Accepts-push before (l ∷ lines) line middle after (next, adds, rest) h = (next, adds, Accepts-push next lines line middle after rest h)

-- where the lines before a place are accepted, and the line there adds to their sources, those with it are accepted
pub Accepts-more : (lines : List (List ℕ)) (i : ℕ) (line : List ℕ) (middle after : List SourceSpec) → i < length lines → line ≡ get_or lines i [] → Accepts [] (take i lines) middle → Adds middle line after
    → Accepts [] (take (i + 1) lines) after
Accepts-more lines i line middle after inside same accepted adds =
    subst (λ ls. Accepts [] ls after) (ap (λ l. take i lines ++ l ∷ []) same ∙ sym (take_more lines i [] inside)) (Accepts-push [] (take i lines) line middle after accepted adds)

-- the fault of a line after accepted ones is the first
first_fault : (text : List ℕ) (lines : List (List ℕ)) (i : ℕ) (line : List ℕ) (before : List SourceSpec) (e : CatalogFault) → lines ≡ lines_of text → i < length lines → line ≡ get_or lines i []
    → Accepts [] (take i lines) before → IsFault before line (i + 1) e → IsFirstFault (lines_of text) e
first_fault text lines i line before e cut inside same accepted fault =
    let here : IsFirstFault lines e = record { place = i; before = before; inside = inside; accepted = accepted; fault = subst (λ l. IsFault before l (i + 1) e) same fault } in
    subst (λ ls. IsFirstFault ls e) cut here

-- the text is refused for the fault of a line after accepted ones
pub fault_refuses : (text : List ℕ) (lines : List (List ℕ)) (i : ℕ) (line : List ℕ) (before : List SourceSpec) (e : CatalogFault) → lines ≡ lines_of text → i < length lines → line ≡ get_or lines i []
    → Accepts [] (take i lines) before → IsFault before line (i + 1) e → Refuses text e
fault_refuses text lines i line before (Line n) cut inside same accepted fault = first_fault text lines i line before (Line n) cut inside same accepted fault
fault_refuses text lines i line before (Chunk n) cut inside same accepted fault = first_fault text lines i line before (Chunk n) cut inside same accepted fault
fault_refuses text lines i line before (Columns n) cut inside same accepted fault = first_fault text lines i line before (Columns n) cut inside same accepted fault
fault_refuses text lines i line before (ColumnTwice n) cut inside same accepted fault = first_fault text lines i line before (ColumnTwice n) cut inside same accepted fault
fault_refuses text lines i line before (NameTwice n) cut inside same accepted fault = first_fault text lines i line before (NameTwice n) cut inside same accepted fault
fault_refuses text lines i line before (TooMany n) cut inside same accepted fault = first_fault text lines i line before (TooMany n) cut inside same accepted fault
fault_refuses text lines i line before OutOfMemory cut inside same accepted fault = tt
