-- What a frame says of the pieces of a reply.
use Rattle.std.specs.Prelude.{◌≡◌, ◌⊎◌, ℕ, ◌+◌, ◌<◌, ◌≤◌, ◌^◌, List, [], ◌++◌, length, take}
use Rattle.wire_text.specs.Reply.{Said, SpellsReply}
use Rattle.wire_frame.specs.declared.frame.Frame.{Frame}
use Rattle.wire_frame.specs.declared.frame.Next.{Next}
use Rattle.wire_frame.specs.declared.frame.Next.TheVariants.{Reply, Length, Label, Count, Rest, Tree, Nothing}
use Rattle.wire_frame.specs.declared.frame.End.{End}
use Rattle.wire_frame.specs.declared.frame.End.TheVariants.{Whole, Open, Lost}
use Rattle.wire_frame.specs.Digits.{digits_of}
use Rattle.wire_frame.specs.Standing.{Standing, at_reply, at_length, at_label, at_count, at_rest, at_tree, lost, after, standing_after}

-- where one stands before what comes next and so many trees
abbrev pub standing_before : Next → ℕ → Standing
standing_before Reply trees = at_reply
standing_before (Length digits) trees = at_length (digits_of digits) trees
standing_before (Label more) trees = at_label more trees
standing_before (Count digits) trees = at_count (digits_of digits) trees
standing_before (Rest more) trees = at_rest more trees
standing_before Tree trees = at_tree trees
standing_before Nothing trees = lost

-- where a frame stands
abbrev pub standing_of : Frame → Standing
standing_of f = standing_before f.next f.trees

-- the reply is neither whole nor lost
pub record GoesOn (s : Standing) : Type 0 where
  pub not_whole : s ≡ at_tree 0 → ⊥
  pub not_lost : s ≡ lost → ⊥

-- what the bytes before a standing are
abbrev pub Ends : Standing → End → Type 0
Ends s Whole = s ≡ at_tree 0
Ends s Open = GoesOn s
Ends s Lost = s ≡ lost

-- so many bytes of the piece belong to the reply, which ends so with them, and the new standing comes from the old one
abbrev pub Frames : Standing → List ℕ → Standing → ℕ → End → Type 0
Frames old piece new count Whole = (count ≤ length piece) × (new ≡ after old (take count piece)) × (new ≡ at_tree 0)
Frames old piece new count Open = (count ≡ length piece) × (new ≡ after old piece) × GoesOn new
Frames old piece new count Lost = (count ≤ length piece) × (new ≡ lost) × (after old (take (count + 1) piece) ≡ lost)
    × ((old ≡ lost) ⊎ GoesOn (after old (take count piece)))

-- the text has fewer than 2^64 bytes and is a reply
abbrev pub SpellsShort : List ℕ → Said → Type 0
SpellsShort x r = SpellsReply x r × (length x < 2 ^ 64)

-- a reply is whole after its last byte, and goes on before it
abbrev pub RepliesAreWhole : Type 0
RepliesAreWhole = (x : List ℕ) (r : Said) → SpellsShort x r → (standing_after x ≡ at_tree 0)
    × ((n : ℕ) → n < length x → GoesOn (standing_after (take n x)))

-- bytes that are whole and begin a reply are that reply
abbrev pub WholeIsTheReply : Type 0
WholeIsTheReply = (x y : List ℕ) (r : Said) → standing_after x ≡ at_tree 0 → SpellsShort (x ++ y) r → y ≡ []

-- lost bytes begin no reply
abbrev pub LostIsNoReply : Type 0
LostIsNoReply = (x y : List ℕ) (r : Said) → standing_after x ≡ lost → SpellsShort (x ++ y) r → ⊥

-- bytes that are taken after others are taken as if they came together
abbrev pub PiecesAreOneText : Type 0
PiecesAreOneText = (s : Standing) (x y : List ℕ) → after s (x ++ y) ≡ after (after s x) y
