-- What documents in memory mean as sources.
use Rattle.std.specs.Prelude.{◌≡◌, ℕ, ◌+◌, ◌-◌, ◌^◌, ◌<◌, ◌≤◌, Bool, true, false, ◌==◌, ◌&&◌, nat_lt, List, length, slice_index}
use Rattle.std.specs.List.{list_any}
use Rattle.mix_tree.specs.Weight.{nodes_of}
use Rattle.lxp_core.specs.declared.open_tree.HoleId.{HoleId}
use Rattle.lxp_memory.specs.declared.memory.MemSources.{MemSources}
use Rattle.lxp_core.specs.View.{View}
use Rattle.lxp_core.specs.Open.{Open}
use Rattle.lxp_memory.specs.Span.{span_hole, hole_span, root_span, has_span, span_trees}
use Rattle.lxp_memory.specs.Choice.{choice_of}
use Rattle.lxp_memory.specs.Cut.{cut}
use Rattle.lxp_memory.specs.Documents.{nodes_at}

-- every document is told, and each list is small; a hole weighs the nodes that it stands for
abbrev pub memory_view : MemSources → View
memory_view m = record {
  count = length m.docs.items;
  root = λ s. span_hole root_span;
  told = λ s. true;
  knows = λ s h. has_span (nodes_at m.docs.items s) (hole_span h);
  forest = λ s h. span_trees (nodes_at m.docs.items s) (hole_span h);
  weight = λ s h. nodes_of (span_trees (nodes_at m.docs.items s) (hole_span h));
  forward = λ s. m.forward;
  small = λ s. true;
  fills = m.fills;
  faults = slice_index m.faults.items;
}

-- the numbers of the fills that fail
abbrev pub failing_of : MemSources → List ℕ
failing_of m = m.failing.items

-- whether the fill of a number is named as one that fails
abbrev pub fails_at : MemSources → ℕ → Bool
fails_at m n = list_any (λ k. k == n) (failing_of m)

-- whether the next fill of a known hole fails: where it has a number, and this is named
abbrev pub fails_next : MemSources → Bool
fails_next m = nat_lt m.fills (2 ^ 64 - 1) && fails_at m (m.fills + 1)

-- the bytes that choose how lists are cut
abbrev pub choices_of : MemSources → List ℕ
choices_of m = m.circle.bytes.items

-- the place whose turn it is, among the bytes that choose how lists are cut
abbrev pub turn_of : MemSources → ℕ
turn_of m = m.circle.turn

-- the list with which the next fill of a hole is answered
abbrev pub next_list : MemSources → ℕ → HoleId → Open
next_list m s h = cut (nodes_at m.docs.items s) (choice_of (slice_index (choices_of m) (turn_of m)) m.forward) (hole_span h)

-- a state came from another: it has the same documents and the same settings, its counts did not fall, and no count of
-- faults rose where no fill in between is named as one that fails
pub record CameFrom (old new : MemSources) : Type 0 where
  pub docs : new.docs.items ≡ old.docs.items
  pub forward : new.forward ≡ old.forward
  pub failing : failing_of new ≡ failing_of old
  pub choices : choices_of new ≡ choices_of old
  pub fills : old.fills ≤ new.fills
  pub faults : (s : ℕ) → slice_index old.faults.items s ≤ slice_index new.faults.items s
  pub steady : ((n : ℕ) → old.fills < n → n ≤ new.fills → fails_at old n ≡ false) → (s : ℕ) → slice_index new.faults.items s ≡ slice_index old.faults.items s
