-- What is made of the bytes of trees.
use Rattle.std.specs.Prelude.{◌≡◌, ℕ, ◌+◌, List, length, Some, None, Result, Ok, Err}
use Rattle.std.specs.Borrow.{Bor}
use Rattle.std.specs.Global.{Vec}
use Rattle.wire_text.specs.declared.building.Unbuilt.{Unbuilt}
use Rattle.wire_text.specs.declared.building.Unbuilt.TheVariants.{TooDeep, OutOfMemory}
use Rattle.wire_text.specs.declared.fault.ReplyFault as reading
use Rattle.wire_text.specs.declared.fault.ReplyFault.TheVariants as faults
use Rattle.wire_text.specs.declared.reply.WireTree.{WireTree}
use Rattle.wire_text.specs.declared.reply.Reply.{Reply}
use Rattle.wire_text.specs.Wired.{Wired, nil}
use Rattle.wire_text.specs.Reply.{Said, deep_place, deep_place_in}
use Rattle.wire_text.specs.Plain.{put, plain, said}

-- a tree lies below so many levels, and begins so many bytes before the end
abbrev pub StopsAt : ℕ → Wired → List ℕ → Unbuilt → Type 0
StopsAt levels o x (TooDeep left) = (at : ℕ) × (deep_place levels o ≡ Some at) × (at + left ≡ length x)
StopsAt levels o x OutOfMemory = Unit {0}

-- this tree was made of a text, and that was left; or one of its trees lies too deep
abbrev pub BuildsTree : ℕ → Wired → List ℕ → List ℕ → Result (WireTree × Bor (List ℕ)) Unbuilt → Type 0
BuildsTree levels o y x (Ok p) = (put p.0 nil ≡ o) × (p.1.now ≡ y) × (deep_place levels o ≡ None)
BuildsTree levels o y x (Err e) = StopsAt levels o x e

-- these trees were made of a text, and that was left; or one of them lies too deep
abbrev pub BuildsTrees : ℕ → Wired → List ℕ → List ℕ → Result (Vec WireTree × Bor (List ℕ)) Unbuilt → Type 0
BuildsTrees levels o y x (Ok p) = (plain p.0.items ≡ o) × (p.1.now ≡ y) × (deep_place levels o ≡ None)
BuildsTrees levels o y x (Err e) = StopsAt levels o x e

-- this list was made of all of a text; or one of its trees lies too deep
abbrev pub BuildsList : Wired → List ℕ → Result (Vec WireTree) Unbuilt → Type 0
BuildsList o x (Ok v) = (plain v.items ≡ o) × (deep_place 200 o ≡ None)
BuildsList o x (Err (TooDeep left)) = (at : ℕ) × (deep_place 200 o ≡ Some at) × (4 + at + left ≡ length x)
BuildsList o x (Err OutOfMemory) = Unit {0}

-- this reply was made, or one of its trees lies too deep
abbrev pub BuildsReply : Said → Result Reply reading.ReplyFault → Type 0
BuildsReply r (Ok u) = (said u ≡ r) × (deep_place_in 200 r ≡ None)
BuildsReply r (Err (faults.Unexpected at)) = ⊥
BuildsReply r (Err faults.Ends) = ⊥
BuildsReply r (Err (faults.TooDeep at)) = deep_place_in 200 r ≡ Some at
BuildsReply r (Err faults.OutOfMemory) = Unit {0}
