-- What is said of a refused view.
use Rattle.std.specs.Prelude.{◌≡◌, ℕ, min, List, [], ◌++◌, length, Option, Some, None, codes}
use Rattle.std.specs.List.{flat_map}
use Rattle.text_places.specs.Shown.{ShowsPlace}
use Rattle.view_continuations.specs.declared.expected.Expected.{Expected}
use Rattle.view_continuations.specs.Expected.{AreExpected, IsAskedAt}
use Rattle.xmas_read.specs.declared.fault.XmasFault.{XmasFault}
use Rattle.xmas_read.specs.declared.fault.XmasFault.TheVariants.{NotUtf8, Unexpected, EndsEarly, TooLarge, TagDiffers, UnknownSource, BoundTwice, Unbound, OuterGroup, Loose, OutOfMemory}
use Rattle.refusal_words.specs.Listing.{candidate_line, item_line}

-- the place that a fault of a view names: where a view ends too early its end, and none where it is too large
abbrev pub place_of : List ℕ → XmasFault → Option ℕ
place_of text (NotUtf8 at) = Some (min at (length text))
place_of text (Unexpected at) = Some (min at (length text))
place_of text EndsEarly = Some (length text)
place_of text (TooLarge what) = None
place_of text (TagDiffers at) = Some (min at (length text))
place_of text (UnknownSource at) = Some (min at (length text))
place_of text (BoundTwice at) = Some (min at (length text))
place_of text (Unbound at) = Some (min at (length text))
place_of text (OuterGroup at) = Some (min at (length text))
place_of text (Loose at) = Some (min at (length text))
place_of text OutOfMemory = None

-- the line of a place and a mark below it are shown, where there is a place
abbrev pub IsShown : List ℕ → Option ℕ → List ℕ → Type 0
IsShown text None shown = shown ≡ []
IsShown text (Some at) shown = ShowsPlace text at shown

-- a hint lists what can stand at a place of a view's text, or, where nothing can, in place of the word before it
abbrev pub ListsExpected : List ℕ → ℕ → List ℕ → Type 0
ListsExpected text at hint =
    (e : Expected) × AreExpected text e × IsAskedAt text at e.at
    × (front : List ℕ) × (hint ≡ front ++ flat_map candidate_line e.candidates.items)

-- a hint lists the names of sources
abbrev pub ListsSources : List (List ℕ) → List ℕ → Type 0
ListsSources names hint = hint ≡ codes "the catalog has these sources:\n" ++ flat_map item_line names

-- what the hint of a fault lists: of an unexpected byte and of an early end what could stand there, of an unknown source the sources that there are
abbrev pub IsHint : List ℕ → List (List ℕ) → XmasFault → List ℕ → Type 0
IsHint text names (NotUtf8 at) hint = Unit {0}
IsHint text names (Unexpected at) hint = ListsExpected text (min at (length text)) hint
IsHint text names EndsEarly hint = ListsExpected text (length text) hint
IsHint text names (TooLarge what) hint = Unit {0}
IsHint text names (TagDiffers at) hint = Unit {0}
IsHint text names (UnknownSource at) hint = ListsSources names hint
IsHint text names (BoundTwice at) hint = Unit {0}
IsHint text names (Unbound at) hint = Unit {0}
IsHint text names (OuterGroup at) hint = Unit {0}
IsHint text names (Loose at) hint = Unit {0}
IsHint text names OutOfMemory hint = Unit {0}

-- words explain a fault of a view's text over sources of given names: its place is shown, and after it stands a hint
abbrev pub ExplainsView : List ℕ → List (List ℕ) → XmasFault → List ℕ → Type 0
ExplainsView text names fault words =
    (shown : List ℕ) × IsShown text (place_of text fault) shown × (hint : List ℕ) × IsHint text names fault hint × (words ≡ shown ++ hint)
