-- An earlier cursor stands for the same after every call.
use Rattle.std.proofs.Common.{◌≡◌, ◌≤◌, ◌+◌, ◌-◌, ◌*◌, ℕ, zero, suc, List, [], ◌∷◌, ◌++◌, Some, None, length, take, drop, map, get_or, refl, ◌∙◌, sym, ap, subst, arith}
use Rattle.std.specs.Prelude.{IsTrue}
use Rattle.std.specs.List.{AllByRecursion, last_or}
use Rattle.std.proofs.lemmas.Nat.{mul-le}
use Rattle.mix_base.specs.Events.{Event, bind, found, cost}
use Rattle.mix_tree.specs.Nodes.{Documents, Node}
use Rattle.path_auto.specs.Automaton.{Machine, machine_of, table_of}
use Rattle.tree_buffer.specs.declared.buffer.Buffer.{Buffer}
use Rattle.lazy_descend.specs.declared.cursor.DescCursor.{DescCursor}
use Rattle.lazy_descend.specs.Cursors.{place_at, ahead as ahead_of, number as number_of_match}
use Rattle.lazy_descend.specs.Law.{Stays as StaysMatch}
use Rattle.lazy_descend.proofs.Events.{cursors_stay}
use Rattle.mix_tree.specs.Comparisons.{passes}
use Rattle.path_expr.specs.Form.{Form}
use Rattle.plan_core.specs.Plans.{Operator}
use Rattle.plan_core.specs.Shapes.{Shape, one_source, visits_below, pairs_up, filters, extends, first_by_keys, one_group, in_order, shape_at, passes_on}
use Rattle.plan_core.specs.Fronts.{stops_over}
use Rattle.plan_core.specs.Events.{extended, kept_row, whole_row}
use Rattle.plan_core.specs.TolledRows.{of_source, TolledRow, row_node, tolled_restrict, KeyValue, by_node, key_values}
use Rattle.plan_core.specs.Events.{RowEvents, events, expand, each_row, only, descendants, pairs, keys_seen, nodes_found, distinct, with_node}
use Rattle.lazy_binding.specs.declared.key.KeyPart.{KeyPart}
use Rattle.lazy_binding.specs.declared.key.KeyPart.TheVariants.{Node as node_part, Label as label_part, Free as free_part}
use Rattle.lazy_binding.specs.declared.position.Position.{Position, Start, Top, Whole, Found', Pass', First', Seen', Pair', Sorted', Row_of-Position-Sorted-0-1 as Row, end_of-Position-Sorted-0-1 as no_more, more_of-Position-Sorted-0-1 as one_more}
use Rattle.lazy_binding.specs.Bench.{IsBench}
use Rattle.lazy_binding.specs.World.{World, docs_of, of_buffer, buffer_at, IsMatchIn, match_place, match_ahead, match_number, bound_of, seen_at, part_value, seen_values, last_of, IsPart}
use Rattle.lazy_binding.specs.Cursors.{Standing, standing, stands, binding, ahead, size, number, weighs, IsIn, AreIn, rows_in, visit_ahead, left_ahead, up_to, past_first, IsPast}
use Rattle.lazy_binding.specs.Keeping.{Keeps, StaysIn, KeepsCursors}
use Rattle.lazy_binding.proofs.Keep.{told-kept, docs_kept, bound_kept, spot_kept, place_kept, node_kept}
use Rattle.lazy_binding.proofs.FirstMembers.{none_before_kept, first_by_kept, binding_of_kept}

-- where events are past others, they are past them after a call that leaves both the same
past_kept : {es fs later left : RowEvents} → fs ≡ es → left ≡ later → IsPast es later → IsPast fs left
past_kept e f h = record { found = ap found e ∙ h.found ∙ ap found (sym f); costs = (let x = ap cost e in let y = ap cost f in omega (arith, x, y, h.costs)) }

module _ (a b : World) (k : Keeps a b) (ops : List Operator) (bench : IsBench a ops) where
  -- a cursor of a visit stays
  stays_in : (s : ℕ) (d : DescCursor) (h : IsMatchIn a s d) (m : Machine) → StaysMatch a.view h.buffer b.view (k.goes s h.buffer h.there).later m d
  stays_in s d h m = cursors_stay a.view h.buffer b.view (k.goes s h.buffer h.there).later (bench.sources s h.buffer h.there).1 k.view (k.goes s h.buffer h.there).goes m d h.cursor

  -- what a function makes of the buffer of a source, in which a cursor of a visit is, is what it makes of that buffer
  at_old : {A : Type 0} (x : A) (f : Buffer → A) (s : ℕ) (d : DescCursor) (h : IsMatchIn a s d) → of_buffer x f (buffer_at a s) ≡ f h.buffer
  at_old x f s d h = ap (of_buffer x f) h.there

  -- what a function makes of a source's buffer after a call is what it makes of the buffer that went on
  at_new : {A : Type 0} (x : A) (f : Buffer → A) (s : ℕ) (d : DescCursor) (h : IsMatchIn a s d) → of_buffer x f (buffer_at b s) ≡ f (k.goes s h.buffer h.there).later
  at_new x f s d h = ap (of_buffer x f) (k.goes s h.buffer h.there).there

  -- a cursor of a visit is one still
  match_kept : (s : ℕ) (d : DescCursor) → IsMatchIn a s d → IsMatchIn b s d
  match_kept s d h = record { buffer = (k.goes s h.buffer h.there).later; there = (k.goes s h.buffer h.there).there; cursor = (stays_in s d h (machine_of (record { labels = []; after = []; live = 0; first = 0 }))).cursor }

  -- a cursor of a visit stands at the same place after a call
  match_place-kept : (s : ℕ) (d : DescCursor) → IsMatchIn a s d → match_place b s d ≡ match_place a s d
  match_place-kept s d h =
      at_new [] (λ c. place_at c d) s d h ∙ (stays_in s d h (machine_of (record { labels = []; after = []; live = 0; first = 0 }))).place ∙ sym (at_old [] (λ c. place_at c d) s d h)

  -- a cursor of a visit has the same events after it once a call was made
  match_ahead-kept : (s : ℕ) (m : Machine) (d : DescCursor) → IsMatchIn a s d → match_ahead b s m d ≡ match_ahead a s m d
  match_ahead-kept s m d h =
      at_new [] (λ c. ahead_of b.view c m d) s d h ∙ (stays_in s d h m).ahead ∙ sym (at_old [] (λ c. ahead_of a.view c m d) s d h)

  -- a cursor of a visit has no greater number after a call
  match_number-kept : (s : ℕ) (d : DescCursor) → IsMatchIn a s d → match_number b s d ≤ match_number a s d
  match_number-kept s d h =
      let e = at_new 0 (λ c. number_of_match b.view c d) s d h in
      let f = at_old 0 (λ c. number_of_match a.view c d) s d h in
      let l = (stays_in s d h (machine_of (record { labels = []; after = []; live = 0; first = 0 }))).number in
      omega (arith, e, f, l)

  -- the events of a visit that are ahead of a match are the same after a call
  visit_ahead-kept : (start : ℕ) (path : Form) (out : ℕ) (row : TolledRow) (s : ℕ) (d : DescCursor) → IsMatchIn a s d → visit_ahead b start path out row s d ≡ visit_ahead a start path out row s d
  visit_ahead-kept start path out row s d h = ap (λ (es : List (Event (List ℕ))). nodes_found out (row_node row start) row es) (match_ahead-kept s (machine_of (table_of path)) d h)

  -- keys that were seen compare the same
  part_kept : (p : KeyPart) → IsPart a p → part_value b p ≡ part_value a p
  part_kept (node_part s x) h = ap by_node (node_kept k s x h)
  part_kept (label_part label) h = refl
  part_kept free_part h = absurd h

  -- the parts of a key compare the same after a call
  pub parts_kept : (key : List KeyPart) → AllByRecursion (IsPart a) key → map (part_value b) key ≡ map (part_value a) key
  parts_kept [] h = refl
  parts_kept (p ∷ key) h = ap (λ (x : KeyValue). x ∷ map (part_value b) key) (part_kept p h.0) ∙ ap (λ (xs : List KeyValue). part_value a p ∷ xs) (parts_kept key h.1)

  -- keys that were seen compare the same after a call
  pub values_kept : (keys : List (List KeyPart)) → AllByRecursion (AllByRecursion (IsPart a)) keys → seen_values b keys ≡ seen_values a keys
  values_kept [] h = refl
  values_kept (key ∷ keys) h =
      ap (λ (x : List KeyValue). x ∷ seen_values b keys) (parts_kept key h.0) ∙ ap (λ (xs : List (List KeyValue)). map (part_value a) key ∷ xs) (values_kept keys h.1)

  -- the first ones of keys that all have a property have it
  first_parts : (keys : List (List KeyPart)) (m : ℕ) → AllByRecursion (AllByRecursion (IsPart a)) keys → AllByRecursion (AllByRecursion (IsPart a)) (take m keys)
  first_parts keys zero h = tt
  first_parts [] (suc m) h = tt
  first_parts (key ∷ keys) (suc m) h = (h.0, first_parts keys m h.1)

  -- the keys that an operator had seen up to a cursor compare the same
  pub seen_kept : (n m : ℕ) → m ≤ length (seen_at a n) → seen_values b (take m (seen_at b n)) ≡ seen_values a (take m (seen_at a n))
  seen_kept n m l = ap (seen_values b) (k.seen n m l) ∙ values_kept (take m (seen_at a n)) (first_parts (seen_at a n) m (bench.parts n))

  -- the size of an operator is the same after a call
  pub size_kept : (n : ℕ) → size b ops n ≡ size a ops n
  unfolding size
  size_kept n = rw (bound_kept k ops bench) refl

  mutual
    -- what a position stands for stays
    standing_kept : (n : ℕ) (f : Shape) (c : Position) → IsIn a ops n f c → stands b ops n f c ≡ stands a ops n f c
    standing_kept n f Start h = ap (λ (z : Documents). record { row = []; ahead = events z ops n }) (docs_kept k ops bench)
    standing_kept n (one_source s out) (Top t x) h = ap (λ (z : Node). record { row = (out, of_source z) ∷ []; ahead = [] }) (node_kept k t x h.1)
    standing_kept n (passes_on i (one_group p out)) Whole h = ap (λ (z : Documents). record { row = whole_row z p out (events z ops i); ahead = [] }) (docs_kept k ops bench)
    standing_kept n (visits_below i start path out) (Found' s q c d) h =
        let old : Standing = standing a ops i c in
        let row : List ℕ → TolledRow = with_node out (row_node old.row start) old.row in
        ap (λ (z : Standing). record {
          row = with_node out (row_node z.row start) z.row (match_place b s d);
          ahead = visit_ahead b start path out z.row s d ++ expand (descendants (docs_of b) start path out) z.ahead;
        }) (standing_kept i (shape_at ops i) c h.0)
        ∙ ap (λ (z : Documents). record { row = row (match_place b s d); ahead = visit_ahead b start path out old.row s d ++ expand (descendants z start path out) old.ahead }) (docs_kept k ops bench)
        ∙ ap (λ (z : List ℕ). record { row = row z; ahead = visit_ahead b start path out old.row s d ++ expand (descendants (docs_of a) start path out) old.ahead }) (match_place-kept s d h.4)
        ∙ ap (λ (z : RowEvents). record { row = row (match_place a s d); ahead = z ++ expand (descendants (docs_of a) start path out) old.ahead }) (visit_ahead-kept start path out old.row s d h.4)
    standing_kept n (passes_on i (filters test)) (Pass' q c) h =
        let old : Standing = standing a ops i c in
        ap (λ (z : Standing). record { row = z.row; ahead = only (λ row. passes (docs_of b) test (row_node row)) z.ahead }) (standing_kept i (shape_at ops i) c h.0)
        ∙ ap (λ (z : Documents). record { row = old.row; ahead = only (λ row. passes z test (row_node row)) old.ahead }) (docs_kept k ops bench)
    standing_kept n (passes_on i (extends out made)) (Pass' q c) h =
        let old : Standing = standing a ops i c in
        ap (λ (z : Standing). record { row = extended (docs_of b) out made z.row; ahead = each_row (extended (docs_of b) out made) z.ahead }) (standing_kept i (shape_at ops i) c h.0)
        ∙ ap (λ (z : Documents). record { row = extended z out made old.row; ahead = each_row (extended z out made) old.ahead }) (docs_kept k ops bench)
    standing_kept n (passes_on i (first_by_keys keys None)) (Pass' q c) h =
        ap (λ (z : Standing). record { row = tolled_restrict keys z.row; ahead = each_row (tolled_restrict keys) z.ahead }) (standing_kept i (shape_at ops i) c h.0)
    standing_kept n (passes_on i (first_by_keys keys group)) (First' q c m) h =
        let old : Standing = standing a ops i c in
        ap (λ (z : Standing). record { row = kept_row (docs_of b) keys (stops_over ops i keys) group z.row z.ahead; ahead = distinct (docs_of b) keys (kept_row (docs_of b) keys (stops_over ops i keys) group) (up_to b n m) z.ahead })
        (standing_kept i (shape_at ops i) c h.0)
        ∙ ap (λ (z : Documents). record { row = kept_row z keys (stops_over ops i keys) group old.row old.ahead; ahead = distinct z keys (kept_row z keys (stops_over ops i keys) group) (up_to b n m) old.ahead }) (docs_kept k ops bench)
        ∙ ap (λ (z : List (List KeyValue)). record { row = kept_row (docs_of a) keys (stops_over ops i keys) group old.row old.ahead; ahead = distinct (docs_of a) keys (kept_row (docs_of a) keys (stops_over ops i keys) group) z old.ahead }) (seen_kept n m h.2)
    standing_kept n (passes_on i (first_by_keys keys group)) (Seen' q c m) h =
        let old : Standing = standing a ops i c in
        ap (λ (z : Standing). record { row = []; ahead = distinct (docs_of b) keys (kept_row (docs_of b) keys (stops_over ops i keys) group) (up_to b n m) z.ahead })
        (standing_kept i (shape_at ops i) c h.0)
        ∙ ap (λ (z : Documents). record { row = []; ahead = distinct z keys (kept_row z keys (stops_over ops i keys) group) (up_to b n m) old.ahead }) (docs_kept k ops bench)
        ∙ ap (λ (z : List (List KeyValue)). record { row = []; ahead = distinct (docs_of a) keys (kept_row (docs_of a) keys (stops_over ops i keys) group) z old.ahead }) (seen_kept n m h.2)
    standing_kept n (pairs_up l r tests) (Pair' q x q' y m) h =
        let left : Standing = standing a ops l x in
        let right : Standing = standing a ops r y in
        ap (λ (z : Standing). pair_standing b z (standing b ops r y)) (standing_kept l (shape_at ops l) x h.0)
        ∙ ap (λ (z : Standing). pair_standing b left z) (standing_kept r (shape_at ops r) y h.2)
        ∙ ap (λ (z : Documents). record { row = left.row ++ right.row; ahead = pairs z tests right.ahead left.row ++ expand (pairs z tests (events z ops r)) left.ahead }) (docs_kept k ops bench)
      where
        pair_standing : World → Standing → Standing → Standing
        pair_standing w u v = record { row = u.row ++ v.row; ahead = pairs (docs_of w) tests v.ahead u.row ++ left_ahead w ops r tests u.ahead }
    standing_kept n (passes_on i (in_order v desc)) (Sorted' q z row m) h =
        ap (λ (rows : List TolledRow). record { row = get_or rows m []; ahead = map bind (drop (suc m) rows) }) (rows_kept i row h.0)
    standing_kept n f c h = absurd h

    -- the bindings of a sorted list are the same after a call
    rows_kept : (i : ℕ) → {m : _} (row : Row m) → AreIn a ops i row → rows_in b ops i row ≡ rows_in a ops i row
    rows_kept i no_more h = refl
    rows_kept i (one_more q c rest) h =
        ap (λ (z : Standing). z.row ∷ rows_in b ops i rest) (standing_kept i (shape_at ops i) c h.0)
        ∙ ap (λ (rows : List TolledRow). binding a ops i c ∷ rows) (rows_kept i rest h.2)

  -- an earlier position's number does not rise
  number_kept : (n : ℕ) (f : Shape) (c : Position) → IsIn a ops n f c → weighs b ops n f c ≤ weighs a ops n f c
  number_kept n f Start h = let e = size_kept n in omega (arith, e)
  number_kept n (one_source s out) (Top t x) h = omega arith
  number_kept n (passes_on i (one_group p out)) Whole h = omega arith
  number_kept n (visits_below i start path out) (Found' s q c d) h =
      let e : bound_of b ≡ bound_of a = bound_kept k ops bench in
      let l = mul-le (number b ops i c) (suc (suc (bound_of a))) (number a ops i c) (suc (suc (bound_of a))) (number_kept i (shape_at ops i) c h.0) (omega arith) in
      let f = match_number-kept s d h.4 in
      subst (λ (z : ℕ). number b ops i c * suc (suc z) + match_number b s d ≤ number a ops i c * suc (suc (bound_of a)) + match_number a s d) (sym e) (omega (arith, l, f))
  number_kept n (passes_on i (filters test)) (Pass' q c) h = number_kept i (shape_at ops i) c h.0
  number_kept n (passes_on i (extends out made)) (Pass' q c) h = number_kept i (shape_at ops i) c h.0
  number_kept n (passes_on i (first_by_keys keys None)) (Pass' q c) h = number_kept i (shape_at ops i) c h.0
  number_kept n (passes_on i (first_by_keys keys group)) (First' q c m) h = (let e = ap (λ (z : ℕ). (z - m) * suc z + z) (size_kept i) in omega (arith, e))
  number_kept n (passes_on i (first_by_keys keys group)) (Seen' q c m) h =
      let e = ap (λ (z : ℕ). (z - m) * suc z) (size_kept i) in
      let l = number_kept i (shape_at ops i) c h.0 in
      omega (arith, e, l)
  number_kept n (pairs_up l r tests) (Pair' q x q' y m) h =
      let e = size_kept r in
      let i = mul-le (number b ops l x) (suc (size a ops r)) (number a ops l x) (suc (size a ops r)) (number_kept l (shape_at ops l) x h.0) (omega arith) in
      subst (λ (z : ℕ). number b ops l x * suc z + (z - m) ≤ number a ops l x * suc (size a ops r) + (size a ops r - m)) (sym e) (omega (arith, i))
  number_kept n (passes_on i (in_order v desc)) (Sorted' q z row m) h = omega arith
  number_kept n f c h = absurd h

  mutual
    -- an earlier position of an operator is one still after a call
    cursor_kept : (n : ℕ) (f : Shape) (c : Position) → IsIn a ops n f c → IsIn b ops n f c
    cursor_kept n f Start h = tt
    cursor_kept n (one_source s out) (Top t x) h = (h.0, spot_kept k t x h.1, place_kept k t x h.1 ∙ h.2)
    cursor_kept n (passes_on i (one_group p out)) Whole h = tt
    cursor_kept n (visits_below i start path out) (Found' s q c d) h = (
      cursor_kept i (shape_at ops i) c h.0,
      h.1,
      ap (λ (z : Standing). (row_node z.row start).source) (standing_kept i (shape_at ops i) c h.0) ∙ h.2,
      h.3,
      match_kept s d h.4,
    )
    cursor_kept n (passes_on i (filters test)) (Pass' q c) h = (cursor_kept i (shape_at ops i) c h.0, h.1)
    cursor_kept n (passes_on i (extends out made)) (Pass' q c) h = (cursor_kept i (shape_at ops i) c h.0, h.1)
    cursor_kept n (passes_on i (first_by_keys keys None)) (Pass' q c) h = (
      cursor_kept i (shape_at ops i) c h.0,
      h.1,
      h.2,
      λ t. binding_of_kept ops i keys (docs_kept k ops bench) (ap (λ (z : Standing). z.row) (standing_kept i (shape_at ops i) c h.0)) (ap (λ (z : Standing). z.ahead) (standing_kept i (shape_at ops i) c h.0))
          (h.3 (subst IsTrue (told-kept k ops) t)),
    )
    cursor_kept n (passes_on i (first_by_keys keys group)) (First' q c m) h = (
      cursor_kept i (shape_at ops i) c h.0,
      h.1,
      omega (arith, k.longer n, h.2),
      λ t.
          ap (λ (z : Documents). keys_seen z keys (up_to b n m) (ahead b ops i c)) (docs_kept k ops bench)
          ∙ ap (λ (z : List (List KeyValue)). keys_seen (docs_of a) keys z (ahead b ops i c)) (seen_kept n m h.2)
          ∙ ap (λ (z : Standing). keys_seen (docs_of a) keys (up_to a n m) z.ahead) (standing_kept i (shape_at ops i) c h.0)
          ∙ h.3 (subst IsTrue (told-kept k ops) t)
          ∙ ap (λ (z : Documents). drop m (keys_seen z keys [] (events z ops i))) (sym (docs_kept k ops bench)),
      λ t. none_before_kept ops i keys (docs_kept k ops bench) (seen_kept n m h.2) (ap (λ (z : Standing). z.ahead) (standing_kept i (shape_at ops i) c h.0)) (h.4 (subst IsTrue (told-kept k ops) t)),
      λ t. first_by_kept ops i keys (docs_kept k ops bench) (ap (λ (z : Standing). z.row) (standing_kept i (shape_at ops i) c h.0)) (ap (λ (z : Standing). z.ahead) (standing_kept i (shape_at ops i) c h.0))
          (h.5 (subst IsTrue (told-kept k ops) t)),
      h.6,
      (let e = size_kept i in let l = number_kept i (shape_at ops i) c h.0 in omega (arith, e, l, h.7)),
      λ t.
          ap (last_or None) (seen_kept n m h.2)
          ∙ h.8 (subst IsTrue (told-kept k ops) t)
          ∙ ap (λ (z : Documents). Some (key_values z keys (binding a ops i c))) (sym (docs_kept k ops bench))
          ∙ ap (λ (z : Standing). Some (key_values (docs_of b) keys z.row)) (sym (standing_kept i (shape_at ops i) c h.0)),
      λ t.
          ap (λ (z : Standing). z.ahead) (standing_kept n (passes_on i (first_by_keys keys group)) (First' q c m) h)
          ∙ h.9 (subst IsTrue (told-kept k ops) t)
          ∙ ap (λ (z : Documents). past_first m (events z ops n)) (sym (docs_kept k ops bench)),
      h.10,
      λ e. k.found n m 0 c (h.11 e),
    )
    cursor_kept n (passes_on i (first_by_keys keys group)) (Seen' q c m) h = (
      cursor_kept i (shape_at ops i) c h.0,
      h.1,
      omega (arith, k.longer n, h.2),
      λ t.
          ap (λ (z : Documents). keys_seen z keys (up_to b n m) (ahead b ops i c)) (docs_kept k ops bench)
          ∙ ap (λ (z : List (List KeyValue)). keys_seen (docs_of a) keys z (ahead b ops i c)) (seen_kept n m h.2)
          ∙ ap (λ (z : Standing). keys_seen (docs_of a) keys (up_to a n m) z.ahead) (standing_kept i (shape_at ops i) c h.0)
          ∙ h.3 (subst IsTrue (told-kept k ops) t)
          ∙ ap (λ (z : Documents). drop m (keys_seen z keys [] (events z ops i))) (sym (docs_kept k ops bench)),
      λ t. none_before_kept ops i keys (docs_kept k ops bench) (seen_kept n m h.2) (ap (λ (z : Standing). z.ahead) (standing_kept i (shape_at ops i) c h.0)) (h.4 (subst IsTrue (told-kept k ops) t)),
      (let e = size_kept i in let l = number_kept i (shape_at ops i) c h.0 in omega (arith, e, l, h.5)),
      λ t. past_kept (ap (λ (z : Documents). past_first m (events z ops n)) (docs_kept k ops bench))
          (ap (λ (z : Standing). z.ahead) (standing_kept n (passes_on i (first_by_keys keys group)) (Seen' q c m) h)) (h.6 (subst IsTrue (told-kept k ops) t)),
      h.7,
      h.8,
    )
    cursor_kept n (pairs_up l r tests) (Pair' q x q' y m) h =
        (cursor_kept l (shape_at ops l) x h.0, h.1, cursor_kept r (shape_at ops r) y h.2, omega (arith, h.3, k.more n), ap (last_of Start) (k.members n m h.3) ∙ h.4)
    cursor_kept n (passes_on i (in_order v desc)) (Sorted' q z row m) h = (let e = size_kept n in (all_kept i row h.0, h.1, omega (arith, e, h.2)))
    cursor_kept n f c h = absurd h

    -- the positions of a sorted list are positions of their operator still after a call
    all_kept : (i : ℕ) → {m : _} (row : Row m) → AreIn a ops i row → AreIn b ops i row
    all_kept i no_more h = tt
    all_kept i (one_more q c rest) h = (cursor_kept i (shape_at ops i) c h.0, h.1, all_kept i rest h.2)

  -- each earlier position stays, in its shape
  pub stays_in_shape : (n : ℕ) (f : Shape) (c : Position) → IsIn a ops n f c → StaysIn a b ops n f c
  stays_in_shape n f c h = record {
    cursor = cursor_kept n f c h;
    binding_is = ap (λ (z : Standing). z.row) (standing_kept n f c h);
    ahead_is = ap (λ (z : Standing). z.ahead) (standing_kept n f c h);
    number_is = number_kept n f c h;
  }

  -- each earlier cursor stays a cursor, with the same binding and the same events ahead
  pub cursors_kept : KeepsCursors a b ops
  cursors_kept n c h = stays_in_shape n (shape_at ops n) c h
