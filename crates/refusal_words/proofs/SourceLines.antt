-- The lines of a catalog's sources, one after another.
use Rattle.std.proofs.Common.{◌≡◌, ◌∙◌, ◌+◌, ◌<◌, ℕ, List, [], ◌∷◌, ◌++◌, Some, ap, sym, take, length, get_or, slice_get}
use Rattle.std.specs.List.{flat_map}
use Rattle.std.proofs.lemmas.List.{take_more, map-append, flat_map_more}
use Rattle.std.proofs.lemmas.Option.{get_or_from_slice_get}
use Rattle.mix_catalog.specs.declared.source.SourceSpec.{SourceSpec}
use Rattle.xmas_read.specs.Results.{names_of_sources}
use Rattle.refusal_words.specs.Listing.{item_line}

-- the lines of one source more are those before it and its own
pub lines_more :
    (sources : List SourceSpec) (n : ℕ) (s : SourceSpec) → n < length sources → slice_get sources n ≡ Some s
    → flat_map item_line (names_of_sources (take (n + 1) sources)) ≡ flat_map item_line (names_of_sources (take n sources)) ++ item_line s.name
lines_more sources n s h e =
    let last : get_or sources n s ≡ s = get_or_from_slice_get sources n s s e in
    ap (λ (list : List SourceSpec). flat_map item_line (names_of_sources list)) (take_more sources n s h ∙ ap (λ (t : SourceSpec). take n sources ++ t ∷ []) last)
    ∙ ap (flat_map item_line) (map-append (λ (t : SourceSpec). t.name) (take n sources) (s ∷ []))
    ∙ sym (flat_map_more item_line [] (names_of_sources (take n sources)) s.name)
