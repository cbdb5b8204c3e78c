-- What look-ups promise together.
use Rattle.std.specs.Prelude.{◌≡◌, ℕ, List}
use Rattle.join_memo.specs.Kept.{AreFound}
use Rattle.join_memo.specs.Places.{places}

-- look-ups from the first place on find the places of all pairs with the label, in order, each once
abbrev pub FindsAll : Type 0
FindsAll = (labels : List (List ℕ)) (key : List ℕ) (found : List ℕ) → AreFound labels key 0 found → found ≡ places key 0 labels
