-- What a cursor of an operator stands for.
use Rattle.std.specs.Prelude.{◌≡◌, ◌<◌, ◌≤◌, ◌+◌, ◌-◌, ◌*◌, ℕ, zero, suc, Bool, true, false, not, IsTrue, Option, Some, None, List, [], ◌∷◌, ◌++◌, take, drop, length, map}
use Rattle.std.proofs.Common.{get_or}
use Rattle.std.specs.List.{last_or}
use Rattle.mix_base.specs.Events.{bind, Find, nothing, finds, found, cost}
use Rattle.mix_tree.specs.Comparisons.{passes}
use Rattle.mix_tree.specs.Nodes.{Documents}
use Rattle.mix_tree.specs.declared.var.Key.{Key}
use Rattle.mix_tree.specs.declared.comparing.Test.{Test}
use Rattle.path_expr.specs.Form.{Form}
use Rattle.path_auto.specs.Automaton.{machine_of, table_of}
use Rattle.plan_core.specs.Plans.{Operator}
use Rattle.plan_core.specs.ByNumber.{by_number}
use Rattle.plan_core.specs.Shapes.{Stage, Shape, one_source, visits_below, pairs_up, filters, extends, first_by_keys, one_group, in_order, no_events, shape_of, shape_at, passes_on}
use Rattle.plan_core.specs.Fronts.{stops_over, apart_over, shape_apart}
use Rattle.plan_core.specs.Events.{extended, kept_row, whole_row}
use Rattle.plan_core.specs.TolledRows.{of_source, TolledRow, row_node, tolled_restrict, KeyValue, key_values, is_seen}
use Rattle.plan_core.specs.Events.{RowEvents, events, expand, each_row, only, with_node, nodes_found, descendants, pairs, distinct, keys_seen, same_group}
use Rattle.lazy_descend.specs.declared.cursor.DescCursor.{DescCursor}
use Rattle.lazy_binding.specs.declared.position.Position.{Position, Start, Top, Whole, Found', Pass', First', Seen', Pair', Sorted', Row_of-Position-Sorted-0-1 as Row, end_of-Position-Sorted-0-1 as no_more, more_of-Position-Sorted-0-1 as one_more}
use Rattle.lazy_binding.specs.World.{World, docs_of, is_told, spot_node, IsSpotIn, IsMatchIn, match_place, match_ahead, match_number, bound_of, seen_at, seen_values, memo_at, passed, place_in, IsFound}

-- what a position stands for: a binding, and the events after it
pub record Standing : Type 0 where
  pub row : TolledRow
  pub ahead : RowEvents

-- the events after the binding that was found; none where none was found
abbrev pub after_found : Find TolledRow → RowEvents
after_found nothing = []
after_found (finds row es) = es

-- the events after the first k bindings among these events
abbrev pub past_first : ℕ → RowEvents → RowEvents
past_first zero es = es
past_first (suc k) es = after_found (found (past_first k es))

-- a row is one of the bindings among these events, and `later` are the events after it
abbrev pub IsBindingOf : RowEvents → TolledRow → RowEvents → Type 0
IsBindingOf es row later = (k : ℕ) × (found (past_first k es) ≡ finds row later)

-- the next binding in `later` is the next one in `es`, and `later` costs no more
pub record IsPast (es later : RowEvents) : Type 0 where
  pub found : found es ≡ found later
  pub costs : cost later ≤ cost es

-- whether the groups of a shape end with its input, so that their members are gathered in one walk
abbrev pub gathers_by : List Operator → Shape → Bool
gathers_by ops (passes_on i (first_by_keys keys (Some made))) = not (stops_over ops i keys)
gathers_by ops f = false

-- THE PARTS OF EACH SHAPE

-- the events of a visit from a variable of a binding that are still ahead of a match
abbrev pub visit_ahead : World → ℕ → Form → ℕ → TolledRow → ℕ → DescCursor → RowEvents
visit_ahead w start path out row s d = nodes_found out (row_node row start) row (match_ahead w s (machine_of (table_of path)) d)

-- the events of a join for the left side's bindings after the present one
abbrev pub left_ahead : World → List Operator → ℕ → List Test → RowEvents → RowEvents
left_ahead w ops right tests later = expand (pairs (docs_of w) tests (events (docs_of w) ops right)) later

-- the first k keys that operator n has seen
abbrev pub up_to : World → ℕ → ℕ → List (List KeyValue)
up_to w n k = seen_values w (take k (seen_at w n))

-- WHAT POSITIONS STAND AT

-- whether a position stands at a binding, and not at an event without one or before all events
abbrev pub has_row : Position → Bool
has_row Start = false
has_row (Top s x) = true
has_row Whole = true
has_row (Found' s q c d) = true
has_row (Pass' q c) = true
has_row (First' q c k) = true
has_row (Seen' q c k) = false
has_row (Pair' q l q' r k) = has_row r
has_row (Sorted' q m row k) = true

-- how many positions a sorted list has
abbrev pub count : {m : _} → Row m → ℕ
count no_more = 0
count (one_more q c rest) = suc (count rest)

abbrev mutual
  -- what a position of operator n in this shape stands for: its binding, and the events after it
  pub stands : World → List Operator → ℕ → Shape → Position → Standing
  stands w ops n f Start = record { row = []; ahead = events (docs_of w) ops n }
  stands w ops n (one_source s out) (Top t x) = record { row = (out, of_source (spot_node w t x)) ∷ []; ahead = [] }
  stands w ops n (passes_on i (one_group piece out)) Whole = record { row = whole_row (docs_of w) piece out (events (docs_of w) ops i); ahead = [] }
  stands w ops n (visits_below i start path out) (Found' s q c d) =
      let input = stands w ops i (shape_at ops i) c in record {
        row = with_node out (row_node input.row start) input.row (match_place w s d);
        ahead = visit_ahead w start path out input.row s d ++ expand (descendants (docs_of w) start path out) input.ahead;
      }
  stands w ops n (passes_on i (filters test)) (Pass' q c) =
      let input = stands w ops i (shape_at ops i) c in record { row = input.row; ahead = only (λ row. passes (docs_of w) test (row_node row)) input.ahead }
  stands w ops n (passes_on i (extends out made)) (Pass' q c) =
      let input = stands w ops i (shape_at ops i) c in record { row = extended (docs_of w) out made input.row; ahead = each_row (extended (docs_of w) out made) input.ahead }
  stands w ops n (passes_on i (first_by_keys keys None)) (Pass' q c) =
      let input = stands w ops i (shape_at ops i) c in record { row = tolled_restrict keys input.row; ahead = each_row (tolled_restrict keys) input.ahead }
  stands w ops n (passes_on i (first_by_keys keys group)) (First' q c k) =
      let input = stands w ops i (shape_at ops i) c in record {
        row = kept_row (docs_of w) keys (stops_over ops i keys) group input.row input.ahead;
        ahead = distinct (docs_of w) keys (kept_row (docs_of w) keys (stops_over ops i keys) group) (up_to w n k) input.ahead;
      }
  stands w ops n (passes_on i (first_by_keys keys group)) (Seen' q c k) = record {
    row = [];
    ahead = distinct (docs_of w) keys (kept_row (docs_of w) keys (stops_over ops i keys) group) (up_to w n k) (stands w ops i (shape_at ops i) c).ahead;
  }
  stands w ops n (pairs_up l r tests) (Pair' q x q' y k) =
      let left = stands w ops l (shape_at ops l) x in
      let right = stands w ops r (shape_at ops r) y in
      record { row = left.row ++ right.row; ahead = pairs (docs_of w) tests right.ahead left.row ++ left_ahead w ops r tests left.ahead }
  stands w ops n (passes_on i (in_order v desc)) (Sorted' q m row k) =
      let rows = rows_in w ops i row in record { row = get_or rows k []; ahead = map bind (drop (suc k) rows) }
  stands w ops n f c = record { row = []; ahead = [] }

  -- the bindings at which the positions of a sorted list stand
  pub rows_in : World → List Operator → ℕ → {m : _} → Row m → List TolledRow
  rows_in w ops i no_more = []
  rows_in w ops i (one_more q c rest) = (stands w ops i (shape_at ops i) c).row ∷ rows_in w ops i rest

-- what a cursor of operator n stands for: its binding, and the events after it
abbrev pub standing : World → List Operator → ℕ → Position → Standing
standing w ops n c = stands w ops n (shape_at ops n) c

-- the binding at which a cursor of operator n stands
abbrev pub binding : World → List Operator → ℕ → Position → TolledRow
binding w ops n c = (standing w ops n c).row

-- the events after the binding at which a cursor of operator n stands
abbrev pub ahead : World → List Operator → ℕ → Position → RowEvents
ahead w ops n c = (standing w ops n c).ahead

-- a number above those of all positions of a stage, from that of its input; first bindings by keys count the keys that are still to come before all else
abbrev pub stage_size : Stage → ℕ → ℕ
stage_size (one_group piece out) below = 1
stage_size (first_by_keys keys group) below = suc below * suc below
stage_size f below = below

-- a number above those of all positions of a shape, from those of its inputs and the greatest number of a visit
abbrev pub shape_size : ℕ → Shape → (ℕ → ℕ) → ℕ
shape_size bound (one_source s out) of = 1
shape_size bound (visits_below i start path out) of = of i * suc (suc bound)
shape_size bound (pairs_up l r tests) of = of l * suc (of r)
shape_size bound (passes_on i stage) of = stage_size stage (of i)
shape_size bound (no_events i v) of = 0

-- a number above those of all positions of operator n, which no call changes
unfoldable pub size : World → List Operator → ℕ → ℕ
size w ops n = by_number (λ o. shape_size (bound_of w) (shape_of o)) 0 ops n

-- the number of a position of operator n in this shape: no call raises it, and it falls from event to event
abbrev pub weighs : World → List Operator → ℕ → Shape → Position → ℕ
weighs w ops n f Start = size w ops n
weighs w ops n (visits_below i start path out) (Found' s q c d) = weighs w ops i (shape_at ops i) c * suc (suc (bound_of w)) + match_number w s d
weighs w ops n (passes_on i (filters test)) (Pass' q c) = weighs w ops i (shape_at ops i) c
weighs w ops n (passes_on i (extends out made)) (Pass' q c) = weighs w ops i (shape_at ops i) c
weighs w ops n (passes_on i (first_by_keys keys group)) (Pass' q c) = weighs w ops i (shape_at ops i) c
weighs w ops n (passes_on i (first_by_keys keys group)) (First' q c k) = (size w ops i - k) * suc (size w ops i) + size w ops i
weighs w ops n (passes_on i (first_by_keys keys group)) (Seen' q c k) = (size w ops i - k) * suc (size w ops i) + weighs w ops i (shape_at ops i) c
weighs w ops n (pairs_up l r tests) (Pair' q x q' y k) = weighs w ops l (shape_at ops l) x * suc (size w ops r) + (size w ops r - k)
weighs w ops n (passes_on i (in_order v desc)) (Sorted' q m row k) = count row - suc k
weighs w ops n f c = 0

-- the number of a cursor of operator n: no call raises it, and it falls from event to event
abbrev pub number : World → List Operator → ℕ → Position → ℕ
number w ops n c = weighs w ops n (shape_at ops n) c

-- the number of the source that a shape reads; none where it reads none
abbrev pub source_number : Shape → Option ℕ
source_number (one_source s out) = Some s
source_number f = None

-- one of the operators reads source s
pub record IsRead (ops : List Operator) (s : ℕ) : Type 0 where
  pub number : ℕ
  pub within : number < length ops
  pub is : source_number (shape_at ops number) ≡ Some s

-- no binding whose keys are outside `seen` stands among the events `es` before `later`
abbrev pub NoneBefore : Documents → List Key → RowEvents → List (List KeyValue) → RowEvents → Type 0
NoneBefore docs keys es seen later = (row : TolledRow) → is_seen (key_values docs keys row) seen ≡ false → found (same_group docs keys row es) ≡ found (same_group docs keys row later)

-- a row is the first of the bindings in `es` with its keys, and `later` are the events after it
abbrev pub IsFirstBy : Documents → List Key → RowEvents → TolledRow → RowEvents → Type 0
IsFirstBy docs keys es row later = found (same_group docs keys row es) ≡ finds row (same_group docs keys row later)

abbrev mutual
  -- a position of operator n in this shape is one that a step may have given: what it stands on are such positions at bindings, its spots are known, and a pair stands at the last of the
  -- members that were passed. A position of first bindings by keys comes after the first k keys that the operator has seen: the keys still ahead of it are the others of its input, and no event
  -- before it has one of these. At a binding it is the first with the last of the k keys, and of the operator's own bindings those after the first k are ahead of it. A project over bindings that
  -- are all different by its keys has only positions of bindings of its input, and a groupBy whose groups end with its input only those at first bindings
  pub IsIn : World → List Operator → ℕ → Shape → Position → Type 0
  IsIn w ops n f Start = Unit {0}
  IsIn w ops n (one_source s out) (Top t x) = (t ≡ s) × IsSpotIn w t x × (place_in w t x ≡ [])
  IsIn w ops n (passes_on i (one_group piece out)) Whole = Unit {0}
  IsIn w ops n (visits_below i start path out) (Found' s q c d) = IsIn w ops i (shape_at ops i) c × IsTrue (has_row c)
      × ((row_node (binding w ops i c) start).source ≡ s) × IsRead ops s × IsMatchIn w s d
  IsIn w ops n (passes_on i (filters test)) (Pass' q c) = IsIn w ops i (shape_at ops i) c × IsTrue (has_row c)
  IsIn w ops n (passes_on i (extends out made)) (Pass' q c) = IsIn w ops i (shape_at ops i) c × IsTrue (has_row c)
  IsIn w ops n (passes_on i (first_by_keys keys None)) (Pass' q c) = IsIn w ops i (shape_at ops i) c × IsTrue (has_row c) × (apart_over ops i keys ≡ true)
      × (IsTrue (is_told w ops) → IsBindingOf (events (docs_of w) ops i) (binding w ops i c) (ahead w ops i c))
  IsIn w ops n (passes_on i (first_by_keys keys group)) (First' q c k) = IsIn w ops i (shape_at ops i) c × IsTrue (has_row c) × (k ≤ length (seen_at w n))
      × (IsTrue (is_told w ops) → keys_seen (docs_of w) keys (up_to w n k) (ahead w ops i c) ≡ drop k (keys_seen (docs_of w) keys [] (events (docs_of w) ops i)))
      × (IsTrue (is_told w ops) → NoneBefore (docs_of w) keys (events (docs_of w) ops i) (up_to w n k) (ahead w ops i c))
      × (IsTrue (is_told w ops) → IsFirstBy (docs_of w) keys (events (docs_of w) ops i) (binding w ops i c) (ahead w ops i c))
      × (0 < k) × (number w ops i c + k ≤ size w ops i)
      × (IsTrue (is_told w ops) → last_or None (up_to w n k) ≡ Some (key_values (docs_of w) keys (binding w ops i c)))
      × (IsTrue (is_told w ops) → (stands w ops n (passes_on i (first_by_keys keys group)) (First' q c k)).ahead ≡ past_first k (events (docs_of w) ops n))
      × (shape_apart ops (passes_on i (first_by_keys keys group)) ≡ false)
      × (gathers_by ops (passes_on i (first_by_keys keys group)) ≡ true → IsFound w n k 0 c)
  IsIn w ops n (passes_on i (first_by_keys keys group)) (Seen' q c k) = IsIn w ops i (shape_at ops i) c × IsTrue (has_row c) × (k ≤ length (seen_at w n))
      × (IsTrue (is_told w ops) → keys_seen (docs_of w) keys (up_to w n k) (ahead w ops i c) ≡ drop k (keys_seen (docs_of w) keys [] (events (docs_of w) ops i)))
      × (IsTrue (is_told w ops) → NoneBefore (docs_of w) keys (events (docs_of w) ops i) (up_to w n k) (ahead w ops i c))
      × (number w ops i c + k ≤ size w ops i)
      × (IsTrue (is_told w ops) → IsPast (past_first k (events (docs_of w) ops n)) (stands w ops n (passes_on i (first_by_keys keys group)) (Seen' q c k)).ahead)
      × (shape_apart ops (passes_on i (first_by_keys keys group)) ≡ false) × (gathers_by ops (passes_on i (first_by_keys keys group)) ≡ false)
  IsIn w ops n (pairs_up l r tests) (Pair' q x q' y k) = IsIn w ops l (shape_at ops l) x × IsTrue (has_row x) × IsIn w ops r (shape_at ops r) y
      × (k ≤ length (memo_at w n).pairs) × (passed (memo_at w n).pairs k ≡ y)
  IsIn w ops n (passes_on i (in_order v desc)) (Sorted' q m row k) = AreIn w ops i row × (k < count row) × (count row ≤ size w ops n)
  IsIn w ops n f c = ⊥

  -- each position of a sorted list is one of operator i, and stands at a binding
  pub AreIn : World → List Operator → ℕ → {m : _} → Row m → Type 0
  AreIn w ops i no_more = Unit {0}
  AreIn w ops i (one_more q c rest) = IsIn w ops i (shape_at ops i) c × IsTrue (has_row c) × AreIn w ops i rest

-- a position is a cursor of operator n
abbrev pub IsOf : World → List Operator → ℕ → Position → Type 0
IsOf w ops n c = IsIn w ops n (shape_at ops n) c

-- a binding of the input of operator n whose keys are among the first k that the operator has seen, and so are those of all bindings after the one that had the last of them first
abbrev pub HasSeen : World → List Operator → ℕ → Position → ℕ → Type 0
HasSeen w ops n c k = (q : _) → IsOf w ops n (Seen' q c k)
