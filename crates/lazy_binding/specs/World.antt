-- What a bench stands on: what its sources mean, a buffer for each of them, and for each operator the keys that were seen, and the memo of its right side; and how far
-- groups were walked.
use Rattle.std.specs.Prelude.{◌≡◌, ◌+◌, ◌-◌, nat_lt, cond, ℕ, zero, suc, Bool, true, false, Option, Some, None, List, [], ◌∷◌, map, take, length, slice_get, slice_index_or}
use Rattle.std.specs.List.{list_all}
use Rattle.std.specs.declared.alloc.Global.{Global}
use Rattle.std.specs.declared.rc.Rc.{Rc}
use Rattle.join_memo.specs.Kept.{Kept}
use Rattle.mix_base.specs.Events.{Event}
use Rattle.mix_tree.specs.Forest.{none}
use Rattle.mix_tree.specs.Nodes.{Documents, Node}
use Rattle.path_auto.specs.Automaton.{Machine}
use Rattle.lxp_core.specs.View.{View, document}
use Rattle.tree_buffer.specs.declared.buffer.Buffer.{Buffer}
use Rattle.tree_buffer.specs.declared.spot.Spot.{Spot}
use Rattle.tree_buffer.specs.Buffer.{IsSpot, place_of}
use Rattle.plan_core.specs.Plans.{Operator}
use Rattle.plan_core.specs.Shapes.{Shape, one_source, shape_of}
use Rattle.plan_core.specs.TolledRows.{KeyValue, by_node, by_label}
use Rattle.lazy_descend.specs.declared.cursor.DescCursor.{DescCursor}
use Rattle.lazy_descend.specs.Cursors.{IsCursor, place_at, ahead, number}
use Rattle.lazy_binding.specs.declared.key.KeyPart.{KeyPart}
use Rattle.lazy_binding.specs.Gathered.{Gathered, no_groups}
use Rattle.lazy_binding.specs.declared.parts.Walked.{Walked}
use Rattle.lazy_binding.specs.declared.position.Reached.{Reached}
use Rattle.lazy_binding.specs.declared.key.KeyPart.TheVariants.{Node as node_part, Label as label_part, Free as free_part}
use Rattle.lazy_binding.specs.declared.position.Position.{Position, Start}

-- what a bench stands on: what its sources mean, their buffers, and of each operator the keys that it has seen, the memo of its right side and how far its groups were walked
pub record World : Type 0 where
  pub view : View
  pub buffers : List Buffer
  pub seen : List (List (List KeyPart))
  pub memos : List (Kept (Rc Position Global))
  pub walked : Walked

-- the world of these parts
abbrev pub world : View → List Buffer → List (List (List KeyPart)) → List (Kept (Rc Position Global)) → Walked → World
world view buffers seen memos walked = record { view = view; buffers = buffers; seen = seen; memos = memos; walked = walked }

-- the documents of the sources; a number that no source has stands for no trees
abbrev pub docs_of : World → Documents
docs_of w s = cond (nat_lt s w.view.count) (document w.view s) none

-- whether the source that a shape reads, where it reads one, passes a test
abbrev pub shape_reads : (ℕ → Bool) → Shape → Bool
shape_reads test (one_source s out) = test s
shape_reads test f = true

-- whether the source that an operator reads, where it reads one, passes a test
abbrev pub reads : (ℕ → Bool) → Operator → Bool
reads test o = shape_reads test (shape_of o)

-- whether each source that the operators read tells its document
abbrev pub is_told : World → List Operator → Bool
is_told w ops = list_all (reads w.view.told) ops

-- whether each source that the operators read is forward
abbrev pub is_forward : World → List Operator → Bool
is_forward w ops = list_all (reads w.view.forward) ops

-- what a function makes of a buffer, or the value given for none
abbrev pub of_buffer : {A : Type 0} → A → (Buffer → A) → Option Buffer → A
of_buffer a f None = a
of_buffer a f (Some b) = f b

-- the buffer of source s
abbrev pub buffer_at : World → ℕ → Option Buffer
buffer_at w s = slice_get w.buffers s

-- the place of the node at which a spot of source s stands
abbrev pub place_in : World → ℕ → Spot → List ℕ
place_in w s x = of_buffer [] (λ b. place_of b x) (buffer_at w s)

-- the node at which a spot of source s stands
abbrev pub spot_node : World → ℕ → Spot → Node
spot_node w s x = record { source = s; place = place_in w s x }

-- a spot is one of source s's buffer
pub record IsSpotIn (w : World) (s : ℕ) (x : Spot) : Type 0 where
  pub buffer : Buffer
  pub there : buffer_at w s ≡ Some buffer
  pub spot : IsSpot buffer x

-- a cursor of a visit is one of source s's buffer
pub record IsMatchIn (w : World) (s : ℕ) (d : DescCursor) : Type 0 where
  pub buffer : Buffer
  pub there : buffer_at w s ≡ Some buffer
  pub cursor : IsCursor buffer d

-- the place of the node at which a cursor of a visit in source s stands
abbrev pub match_place : World → ℕ → DescCursor → List ℕ
match_place w s d = of_buffer [] (λ b. place_at b d) (buffer_at w s)

-- the events after a cursor of a visit in source s by this automaton
abbrev pub match_ahead : World → ℕ → Machine → DescCursor → List (Event (List ℕ))
match_ahead w s m d = of_buffer [] (λ b. ahead w.view b m d) (buffer_at w s)

-- the number of a cursor of a visit in source s, which falls from event to event
abbrev pub match_number : World → ℕ → DescCursor → ℕ
match_number w s d = of_buffer 0 (λ b. number w.view b d) (buffer_at w s)

-- the weights of the root holes of the sources below n
abbrev pub roots_weight : View → ℕ → ℕ
roots_weight v zero = 0
roots_weight v (suc n) = v.weight n (v.root n) + roots_weight v n

-- a number that no cursor of a visit in any source exceeds
abbrev pub bound_of : World → ℕ
bound_of w = roots_weight w.view (length w.buffers)

-- the keys that operator n has seen
abbrev pub seen_at : World → ℕ → List (List KeyPart)
seen_at w n = slice_index_or w.seen n []

-- a member of a join's memo: the label by which it is looked up, and a position of the join's right side
abbrev pub Member : Type 0
Member = List ℕ × Rc Position Global

-- a memo without members
abbrev pub no_pairs : Kept (Rc Position Global)
no_pairs = record { pairs = []; ended = false }

-- the memo of the right side of operator n, where it is a join
abbrev pub memo_at : World → ℕ → Kept (Rc Position Global)
memo_at w n = slice_index_or w.memos n no_pairs

-- how far the group at hand of operator n was walked
abbrev pub reached_at : World → ℕ → Option Reached
reached_at w n = slice_index_or w.walked.reached.items n None

-- the members that were found of the groups of operator n
abbrev pub gathered_at : World → ℕ → Gathered
gathered_at w n = slice_index_or w.walked.gathered.items n no_groups

-- the member at a place of the group with this number of operator n, as far as members were found; numbers count from 1, places from 0
abbrev pub member_at : World → ℕ → ℕ → ℕ → Option (Rc Position Global)
member_at w n number place = slice_get (slice_index_or (gathered_at w n).groups (number - 1) []) place

-- the member at a place of the group with this number, which counts from 1, of operator n was found, and it is position c
abbrev pub IsFound : World → ℕ → ℕ → ℕ → Position → Type 0
IsFound w n number place c = (m : Rc Position Global) × (member_at w n number place ≡ Some m) × (m.value ≡ c)

-- the position of the last of these members, or the given one where there is none
abbrev pub last_of : Position → List Member → Position
last_of at [] = at
last_of at (m ∷ ms) = last_of m.1.value ms

-- the position of the last member once k members were passed; with none passed the one before all events
abbrev pub passed : List Member → ℕ → Position
passed ms k = last_of Start (take k ms)

-- what a part of a key compares: a node or a label
abbrev pub part_value : World → KeyPart → KeyValue
part_value w (node_part s x) = by_node (spot_node w s x)
part_value w (label_part label) = by_label label
part_value w free_part = by_label []

-- what keys compare, of keys that were seen
abbrev pub seen_values : World → List (List KeyPart) → List (List KeyValue)
seen_values w keys = map (map (part_value w)) keys

-- a part of a key is a label, or a node of its source's buffer
abbrev pub IsPart : World → KeyPart → Type 0
IsPart w (node_part s x) = IsSpotIn w s x
IsPart w (label_part label) = Unit {0}
IsPart w free_part = ⊥
