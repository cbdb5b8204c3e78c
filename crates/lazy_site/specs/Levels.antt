-- The levels of an identifier's text, by what is left after each element on the way to it.
use Rattle.std.specs.Prelude.{◌≡◌, ℕ, suc, Bool, true, false, cond, IsTrue, Some, None, List, [], ◌∷◌, ◌++◌}
use Rattle.std.specs.List.{last_or, list_all}
use Rattle.mix_base.specs.Events.{found}
use Rattle.lxp_core.specs.View.{View}
use Rattle.node_text.specs.Node.{LevelValue}
use Rattle.plan_core.specs.declared.plan.Piece.TheVariants.{Var as var_piece}
use Rattle.plan_core.specs.Events.{first_row}
use Rattle.plan_core.specs.Tolled.{Tolled, ends, is_item, trees_after, trees_from}
use Rattle.plan_core.specs.TolledRows.{TolledRow, piece_items}
use Rattle.plan_core.specs.Valid.{a_list, kinds}
use Rattle.plan_evidence.specs.Evidence.{evidence_vars, places_of}
use Rattle.plan_evidence.specs.Named.{maker, Listing, element_list, list_of, outer_of, Reached}
use Rattle.plan_evidence.specs.Opened.{Opens}
use Rattle.plan_evidence.specs.Remains.{levels_of, IsIndex}
use Rattle.plan_forms.specs.Forms.{input_at}
use Rattle.lazy_binding.specs.declared.position.Position.{Position}
use Rattle.lazy_evidence.specs.Below.{nodes_at}
use Rattle.lazy_plan.specs.declared.bench.Bench.{Bench}
use Rattle.lazy_plan.specs.Bench.{BenchState, state_of, IsBenchOf, ops_of, documents, events_of, told, binding_at}
use Rattle.lazy_site.specs.Ids.{IsRest, rest_trees}
use Rattle.lazy_site.specs.Standing.{remains, IsHolder, hand_op, hand_at, IsStanding}
use Rattle.lazy_site.specs.declared.sites.Head.{Head}
use Rattle.lazy_site.specs.declared.sites.Rest.{Rest, End, Pieces', Members', Group'}

-- the binding of a cursor of operator n, and the nodes at the cursor's parts
abbrev pub reached_at : BenchState → ℕ → Position → Reached
reached_at st n c = record { row = binding_at st n c; nodes = nodes_at st.world (ops_of st) n c }

-- the places of the nodes at the parts of a cursor of operator n
abbrev pub tuple_of : BenchState → ℕ → Position → List (List ℕ)
tuple_of st n c = places_of (evidence_vars (ops_of st) n) (nodes_at st.world (ops_of st) n c)

-- the places by which the node before a rest is told from the others of its piece: those at the parts of a member's cursor, and none at a piece that is a single tree
abbrev pub tuple_at : BenchState → Rest → List (List ℕ)
tuple_at st End = []
tuple_at st (Pieces' op at next ways q up) = []
tuple_at st (Members' op None q up) = []
tuple_at st (Members' op (Some d) q up) = tuple_of st (input_at (ops_of st) op) d
tuple_at st (Group' op first number at place q up) = tuple_of st (input_at (ops_of st) op) at

-- the levels of a node, by what is left after it and after each element on the way to it, the innermost first
abbrev pub levels_at : BenchState → List Rest → List LevelValue
levels_at st [] = []
levels_at st (r ∷ rests) = levels_at st rests ++ levels_of (tuple_at st r) (remains st r)

-- whether a place is not that of the document node
abbrev pub is_below_top : List ℕ → Bool
is_below_top [] = false
is_below_top (k ∷ place) = true

-- the places of a tuple; none where one of them is that of a document node, at which no getDescendants finds a node
abbrev pub kept_places : List (List ℕ) → List (List ℕ)
kept_places places = cond (list_all is_below_top places) places []

-- the levels that a text says of a node, by what is left after it and after each element on the way to it, the innermost first
abbrev pub said_levels : BenchState → List Rest → List LevelValue
said_levels st [] = []
said_levels st (r ∷ rests) = said_levels st rests ++ levels_of (kept_places (tuple_at st r)) (remains st r)

-- how many lists are left, one around another
abbrev pub lists_in : Rest → ℕ
lists_in End = 0
lists_in (Pieces' op at next ways q up) = suc (lists_in up)
lists_in (Members' op at q up) = suc (lists_in up)
lists_in (Group' op first number at place q up) = suc (lists_in up)

-- variable v holds a list in the bindings of operator n, which is made so
abbrev pub HasList : BenchState → ℕ → ℕ → Listing → Type 0
HasList st n v list = (kinds (ops_of st) n v ≡ Some a_list) × (list_of (ops_of st) v ≡ Some list)

-- the list of the element at a place, to which lead the elements that have these rests after them, is that of variable v in the binding of operator n's cursor c
pub data IsOpen (st : BenchState) : List Rest → List ℕ → ℕ → Position → ℕ → Listing → Type 0 where
  of_root : {n outer v : ℕ} {c : Position} {list : Listing} → IsHolder st n c → outer_of (last_or None (ops_of st)) ≡ Some (n, outer)
      → binding_at st n c ≡ first_row (found (events_of st n)) → element_list (maker (ops_of st) outer) ≡ Some v → HasList st n v list
      → IsOpen st [] [] n c v list
  of_member : {rests : List Rest} {q : List ℕ} {n v e u : ℕ} {c : Position} {list inner : Listing} {head : Head} {r : Rest} → IsOpen st rests q n c v list
      → IsRest st r → (s : IsStanding st n c list head r) → (j : ℕ) → IsIndex (documents st) (binding_at st n c) v (remains st r) j → s.piece ≡ var_piece e
      → element_list (maker (ops_of st) e) ≡ Some u → HasList st (hand_op st n r) u inner → IsHolder st (hand_op st n r) (hand_at c r)
      → IsOpen st (r ∷ rests) (q ++ j ∷ []) (hand_op st n r) (hand_at c r) u inner

-- over told sources, where the list of the element at a place is open, and a node stands in it before a rest, the levels by that rest and by those after the elements
-- on the way open the document to the node, at its index below that place
abbrev pub LevelsOpen : Type 0
LevelsOpen =
    (view : View) (b : Bench) → IsBenchOf view b → let st = state_of view b in IsTrue (told st)
    → (rests : List Rest) (q : List ℕ) (n : ℕ) (c : Position) (v : ℕ) (list : Listing) → IsOpen st rests q n c v list
    → (head : Head) (r : Rest) → IsRest st r → (s : IsStanding st n c list head r) → (j : ℕ) → IsIndex (documents st) (binding_at st n c) v (remains st r) j
    → Opens (documents st) (ops_of st) (levels_at st (r ∷ rests)) (q ++ j ∷ []) (reached_at st (hand_op st n r) (hand_at c r)) s.piece

-- where a variable's list in a binding is these trees, and what is after a node is what is after the tree at an index of them, the node is at that index
abbrev pub RestsTellIndexes : Type 0
RestsTellIndexes =
    (st : BenchState) (row : TolledRow) (v : ℕ) (f : Tolled) (r : Rest) (j : ℕ) → piece_items (documents st) (var_piece v) row (ends 0) ≡ f
    → rest_trees st r ≡ trees_after (trees_from j f) → IsTrue (is_item (trees_from j f)) → IsIndex (documents st) row v (remains st r) j
