-- The bindings of a getDescendants: the next match of the visit at hand, or the visit of the next binding of the input.
use Rattle.std.proofs.Common.{◌≡◌, ◌<◌, ◌≤◌, ◌+◌, ◌*◌, ℕ, suc, true, false, List, [], ◌++◌, Option, Some, None, length, refl, ◌∙◌, sym, ap, subst, arith}
use Rattle.std.specs.Prelude.{IsTrue, Result}
use Rattle.std.specs.declared.alloc.Global.{Global}
use Rattle.std.specs.declared.rc.Rc.{Rc}
use Rattle.std.proofs.lemmas.Nat.{mul-le}
use Rattle.mix_base.specs.Events.{Event, finds, found, cost}
use Rattle.lazy_descend.specs.Searches as Searches
use Rattle.mix_base.proofs.EventLaws.{found-append_none, found-append_some, cost-append_none, cost-append_le}
use Rattle.lazy_descend.specs.Searches.{FindsNone, AsksAtMost}
use Rattle.mix_tree.specs.Forest.{tree, none}
use Rattle.mix_tree.specs.Nodes.{Documents, Node}
use Rattle.path_expr.specs.Form.{Form}
use Rattle.path_auto.specs.Automaton.{Machine, machine_of, table_of}
use Rattle.path_auto.specs.Visit.{visit_below, visits}
use Rattle.lxp_core.specs.declared.fault.WalkFault.{WalkFault}
use Rattle.lxp_core.specs.View.{View}
use Rattle.tree_buffer.specs.declared.spot.Spot.{Spot}
use Rattle.lazy_descend.specs.declared.cursor.DescCursor.{DescCursor}
use Rattle.plan_core.specs.Plans.{Operator}
use Rattle.plan_core.specs.Shapes.{Shape, visits_below, shape_at}
use Rattle.plan_core.specs.Typed.{IsTyped}
use Rattle.plan_core.specs.TolledRows.{TolledRow, row_node}
use Rattle.plan_core.specs.Events.{RowEvents, expand, descendants, nodes_found, with_node}
use Rattle.plan_core.proofs.Found.{found-expand_none, found-expand_some, cost-expand_le, cost-expand_some, found-nodes_none, found-nodes_some, cost-nodes}
use Rattle.lazy_binding.specs.declared.parts.Growing.{Growing}
use Rattle.lazy_binding.specs.declared.position.Position.{Position, Start, Found'}
use Rattle.lazy_binding.specs.Bench.{IsBench}
use Rattle.lazy_binding.specs.World.{World, docs_of, bound_of, spot_node, place_in, match_place, match_ahead, match_number}
use Rattle.lazy_binding.specs.Cursors.{visit_ahead, binding, ahead, number, stands, weighs, IsRead, IsIn, IsOf, has_row}
use Rattle.lazy_binding.specs.Keeping.{Keeps, Stays}
use Rattle.plan_core.specs.Valid.{kinds, a_node}
use Rattle.lazy_binding.specs.declared.parts.Fixed.{Fixed}
use Rattle.lazy_binding.specs.Parts.{operators, world_of}
use Rattle.lazy_binding.proofs.Bound.{inputs_at, fit_at}
use Rattle.lazy_steps.specs.Steps.{single, CanStep, IsUntouched, Asks, Finds, Ran, Asked, telling, matches, visit_events, visit_number}
use Rattle.lazy_steps.specs.Visits.{SoughtBeside}
use Rattle.lazy_binding.proofs.Keep.{keeps_same, docs_kept, bound_kept}
use Rattle.lazy_binding.proofs.Stay.{cursors_kept}
use Rattle.lazy_steps.proofs.Shapes.{events_at, size_at, single_at}
use Rattle.lazy_steps.proofs.Goes.{Goes, goes_same, goes_then, ran_over, tells_on, less_times, le_same, in_place}

-- what is not some is nothing
pub none_of : {A : Type 0} (r : Option A) → ((x : A) → r ≡ Some x → ⊥) → r ≡ None
none_of None h = refl
none_of (Some x) h = absurd (h x refl)

-- the places of a visit below a spot are those of the visit from its node
pub first_places : (w : World) (path : Form) (m : Machine) → m ≡ machine_of (table_of path) → (node : Node) (s : ℕ) (x : Spot) → node ≡ spot_node w s x
    → visit_below m (tree [] (docs_of w s) none) (place_in w s x) ≡ visits (docs_of w) path node
first_places w path m e node s x h = ap (λ (z : Machine). visit_below z (tree [] (docs_of w s) none) (place_in w s x)) e ∙ ap (visits (docs_of w) path) (sym h)

-- what the first call leaves and answers, over the places of the visit from its node
pub first_sought : {S : Type 0} {view : S → View} {came_from : S → S → Type 0} {ops : List Operator} {s t : S} {g h : Growing} (path : Form) (m : Machine) → m ≡ machine_of (table_of path)
    → (node : Node) (src : ℕ) (x : Spot) → node ≡ spot_node (world_of (view s) g) src x → (c : Position) (r : Result (Option (Rc Position Global)) WalkFault)
    → SoughtBeside view came_from ops m src (visit_below m (tree [] (docs_of (world_of (view s) g) src) none) (place_in (world_of (view s) g) src x)) (suc (bound_of (world_of (view s) g))) c s g t h r
    → SoughtBeside view came_from ops (machine_of (table_of path)) src (visits (docs_of (world_of (view s) g)) path node) (suc (bound_of (world_of (view s) g))) c s g t h r
first_sought {S} {view} {came_from} {ops} {s} {t} {g} {h} path m e node src x here c r sought =
    let w = world_of (view s) g in
    subst (λ (z : Machine). SoughtBeside view came_from ops z src (visits (docs_of w) path node) (suc (bound_of w)) c s g t h r) e
    (subst (λ (es : List (Event (List ℕ))). SoughtBeside view came_from ops m src es (suc (bound_of w)) c s g t h r) (first_places w path m e node src x here) sought)

-- what a later call leaves and answers, by the machine of the path
pub next_sought : {S : Type 0} {view : S → View} {came_from : S → S → Type 0} {ops : List Operator} {s t : S} {g h : Growing} (m k : Machine) → m ≡ k → (src : ℕ) (d : DescCursor) (top : ℕ)
    (c : Position) (r : Result (Option (Rc Position Global)) WalkFault) → SoughtBeside view came_from ops m src (match_ahead (world_of (view s) g) src m d) top c s g t h r
    → SoughtBeside view came_from ops k src (match_ahead (world_of (view s) g) src k d) top c s g t h r
next_sought {S} {view} {came_from} {ops} {s} {t} {g} {h} m k e src d top c r sought =
    subst (λ (z : Machine). SoughtBeside view came_from ops z src (match_ahead (world_of (view s) g) src z d) top c s g t h r) e sought

module _ (ops : List Operator) (n i start : ℕ) (path : Form) (out : ℕ) where
  -- the shape of a getDescendants
  abbrev F : Shape
  F = visits_below i start path out

  -- a position in no visit is the one before all events
  pub found_or_start : (w : World) (c : Position) → IsIn w ops n F c → ((q : _) (x : Position) (s : ℕ) (d : DescCursor) → c ≡ Found' s q x d → ⊥) → c ≡ Start
  found_or_start w Start h others = refl
  found_or_start w (Found' s q x d) h others = absurd (others q x s d refl)
  found_or_start w c h others = absurd h

  module _ (typed : IsTyped ops) (within : n < length ops) (is : shape_at ops n ≡ F) where
    -- an operator over visits is not single
    pub visits_single : IsTrue (single ops n) → ⊥
    visits_single s = let z : true ≡ false = sym s ∙ single_at ops typed n within F is in cc

    -- a walk over the matches of a getDescendants begins with the events of its input
    pub visits_begin : (w : World) → IsBench w ops → (c : Position) → c ≡ Start
        → Goes w w ops n (stands w ops n F c).ahead (visit_events w ops i start path out c) (weighs w ops n F c) (visit_number w ops i c)
    visits_begin w bench c e =
        subst (λ (z : Position). Goes w w ops n (stands w ops n F z).ahead (visit_events w ops i start path out z) (weighs w ops n F z) (visit_number w ops i z)) (sym e)
        (goes_same (keeps_same w ops bench) (events_at ops typed n within F is (docs_of w)) (size_at ops typed n within F is w))

    module _ (a b : World) (bench : IsBench a ops) (c : Position) where
      -- what a call of the input may cost, a call of the getDescendants may cost
      pub visits_costs : cost (ahead a ops i c) ≤ cost (visit_events a ops i start path out c)
      visits_costs = cost-expand_le (descendants (docs_of a) start path out) (ahead a ops i c)

      -- where no more bindings of the input come, no more matches of a getDescendants come
      pub visits_done : (FindsNone (telling a ops) (ahead a ops i c)) → FindsNone (telling a ops) (visit_events a ops i start path out c)
      visits_done f t = found-expand_none (descendants (docs_of a) start path out) (ahead a ops i c) (f t)

      -- after a binding of the input the events of its visit are ahead, and then those of the input's later bindings
      pub visits_on : Asks a b ops i (ahead a ops i c) → (d : Position) → Finds a b ops i (shape_at ops i) (ahead a ops i c) (number a ops i c) d
          → Goes a b ops n (visit_events a ops i start path out c) (descendants (docs_of b) start path out (binding b ops i d) ++ visit_events b ops i start path out d)
          (visit_number a ops i c) (visit_number b ops i d + suc (bound_of b))
      visits_on k d f = record {
        kept = k.kept;
        above = λ j l. k.above j (let z = (inputs_at ops typed n within F is).0 in omega (arith, z, l));
        comes = record {
          tells = tells_on k.kept ops;
          falls = (let z = fewer in omega (arith, z));
          found = λ t. found-expand_some (descendants (docs_of a) start path out) (ahead a ops i c) (binding b ops i d) (ahead b ops i d) (f.found t) ∙ ap found later;
          lazy = λ t w.
              let asked = k.lazy t w in
              let whole = cost-expand_some (descendants (docs_of a) start path out) (ahead a ops i c) (binding b ops i d) (ahead b ops i d) (f.found t) in
              let same = ap cost later in
              omega (arith, asked, whole, same);
        };
        none = λ u. absurd (visits_single u);
      }
        where
          fewer : visit_number b ops i d + suc (bound_of b) < visit_number a ops i c
          fewer =
              subst (λ (z : ℕ). number b ops i d * suc (suc z) + suc z < visit_number a ops i c) (sym (bound_kept k.kept ops bench))
              (less_times (number b ops i d) (number a ops i c) (suc (bound_of a)) (suc (bound_of a)) f.falls (le_same (suc (bound_of a))))

          later : descendants (docs_of a) start path out (binding b ops i d) ++ expand (descendants (docs_of a) start path out) (ahead b ops i d)
              ≡ descendants (docs_of b) start path out (binding b ops i d) ++ expand (descendants (docs_of b) start path out) (ahead b ops i d)
          later = ap (λ (z : Documents). descendants z start path out (binding b ops i d) ++ expand (descendants z start path out) (ahead b ops i d)) (sym (docs_kept k.kept ops bench))

    -- a call of the visit from a binding of the input, over these places of it
    module _ (a b : World) (k : Keeps a b) (bench : IsBench a ops) (c : Position) (of : IsOf a ops i c) (row : IsTrue (has_row c)) (s : ℕ) (source : (row_node (binding a ops i c) start).source ≡ s)
        (read : IsRead ops s) (places : List (Event (List ℕ))) (lazy : AsksAtMost (telling a ops) (telling b ops) (cost places)) (untouched : (j : ℕ) → IsUntouched a b j) where
      -- the events of a visit that are ahead, and after them those of the visits from later bindings of the input
      abbrev visit : RowEvents
      visit = nodes_found out (row_node (binding a ops i c) start) (binding a ops i c) places

      abbrev rest : RowEvents
      rest = visit_events a ops i start path out c

      visit_cost : cost visit ≡ cost places
      visit_cost = cost-nodes out (row_node (binding a ops i c) start) (binding a ops i c) places

      -- what a call of a visit asked, the events of the getDescendants allow
      pub visit_asks : Asks a b ops n (visit ++ rest)
      visit_asks = record {
        kept = k;
        above = λ j l. untouched j;
        lazy = λ t w. (let asked = lazy t w in let l = cost-append_le visit rest in let e = visit_cost in omega (arith, asked, l, e));
        none = λ u. absurd (visits_single u);
      }

      stays : Stays a b ops i c
      stays = cursors_kept a b k ops bench i c of

      input_falls : visit_number b ops i c ≤ visit_number a ops i c
      input_falls =
          let l = mul-le (number b ops i c) (suc (suc (bound_of a))) (number a ops i c) (suc (suc (bound_of a))) stays.number_is (le_same (suc (suc (bound_of a)))) in
          subst (λ (z : ℕ). number b ops i c * suc (suc z) ≤ visit_number a ops i c) (sym (bound_kept k ops bench)) l

      -- a visit that has no more matches is passed
      pub visit_over : (top : ℕ) → (FindsNone (telling a ops) places)
          → Goes a b ops n (visit ++ rest) (visit_events b ops i start path out c) (visit_number a ops i c + top) (visit_number b ops i c)
      visit_over top f = record {
        kept = k;
        above = λ j l. untouched j;
        comes = record {
          tells = tells_on k ops;
          falls = omega (arith, input_falls);
          found = λ t. found-append_none visit rest (none_there t) ∙ ap found later;
          lazy = λ t w.
              let asked = lazy t w in
              let whole = cost-append_none visit rest (none_there t) in
              let e = visit_cost in
              let same = ap cost later in
              omega (arith, asked, whole, e, same);
        };
        none = λ u. absurd (visits_single u);
      }
        where
          none_there : FindsNone (telling a ops) visit
          none_there t = found-nodes_none out (row_node (binding a ops i c) start) (binding a ops i c) places (f t)

          later : rest ≡ visit_events b ops i start path out c
          later =
              ap (λ (z : Documents). expand (descendants z start path out) (ahead a ops i c)) (sym (docs_kept k ops bench))
              ∙ ap (expand (descendants (docs_of b) start path out)) (sym stays.ahead_is)

      -- the next match of a visit is the getDescendants' next binding
      pub visit_at : (top : ℕ) (m : DescCursor) → Searches.Finds (telling a ops) (matches b (machine_of (table_of path)) s) places top m → (u : _)
          → Finds a b ops n F (visit ++ rest) (visit_number a ops i c + top) (Found' s u c m)
      visit_at top m f u = record {
        cursor = (stays.cursor, row, ap (λ (z : TolledRow). (row_node z start).source) stays.binding_is ∙ source, read, f.cursor);
        row = refl;
        falls = (let less = f.falls in omega (arith, input_falls, less));
        found = λ t.
            found-append_some visit rest _ _ (found-nodes_some out (row_node (binding a ops i c) start) (binding a ops i c) places (match_place b s m) (match_ahead b s (machine_of (table_of path)) m) (f.found t))
            ∙ ap (λ (z : Documents). finds (with_node out (row_node (binding a ops i c) start) (binding a ops i c) (match_place b s m))
            (visit_ahead b start path out (binding a ops i c) s m ++ expand (descendants z start path out) (ahead a ops i c))) (sym (docs_kept k ops bench))
            ∙ ap (λ (z : TolledRow). finds (with_node out (row_node z start) z (match_place b s m))
            (visit_ahead b start path out z s m ++ expand (descendants (docs_of b) start path out) (ahead a ops i c))) (sym stays.binding_is)
            ∙ ap (λ (z : RowEvents). finds (with_node out (row_node (binding b ops i c) start) (binding b ops i c) (match_place b s m))
            (visit_ahead b start path out (binding b ops i c) s m ++ expand (descendants (docs_of b) start path out) z)) (sym stays.ahead_is);
      }

-- the input of a getDescendants has a smaller number
pub input_before : (ops : List Operator) → IsTyped ops → (n : ℕ) → n < length ops → (i start : ℕ) (path : Form) (out : ℕ) → shape_at ops n ≡ visits_below i start path out → i < n
input_before ops typed n within i start path out is = (inputs_at ops typed n within (visits_below i start path out) is).0

module _ {v : View} {g : Growing} {p : Fixed} {n : ℕ} {c : Position} (can : CanStep v g p n c) (i start : ℕ) (path : Form) (out : ℕ) (is : shape_at (operators p) n ≡ visits_below i start path out) where
  -- the input of a getDescendants has a smaller number
  pub input_below : i < n
  input_below = input_before (operators p) can.fixed.typed n can.op i start path out is

  -- the visits start from nodes
  pub starts_node : kinds (operators p) i start ≡ Some a_node
  starts_node = (fit_at (operators p) can.fixed.typed n can.op (visits_below i start path out) is).0

  -- the input of a getDescendants can step from the position before all events
  pub start_can : c ≡ Start → CanStep v g p i c
  start_can e = record {
    fixed = can.fixed;
    op = (let h = input_below in let m = can.op in omega (arith, h, m));
    bench = can.bench;
    cursor = subst (λ (z : Position). IsOf (world_of v g) (operators p) i z) (sym e) tt;
  }

  module _ (q : _) (x : Position) (s : ℕ) (d : DescCursor) (e : c ≡ Found' s q x d) where
    -- a position that is a match is one in the shape of the getDescendants
    pub in_visit : IsIn (world_of v g) (operators p) n (visits_below i start path out) (Found' s q x d)
    in_visit = in_place can (visits_below i start path out) is (Found' s q x d) e

    -- the input of a getDescendants can step from the binding below a match
    pub input_can : CanStep v g p i x
    input_can = record { fixed = can.fixed; op = (let h = input_below in let m = can.op in omega (arith, h, m)); bench = can.bench; cursor = in_visit.0 }

-- a call of the visit from a binding of the input, over these places of it
module _ {S : Type 0} {view : S → View} {came_from : S → S → Type 0} {s t : S} {g h : Growing} {p : Fixed} {n : ℕ} (i start : ℕ) (path : Form) (out : ℕ) (op : n < length (operators p))
    (is : shape_at (operators p) n ≡ visits_below i start path out) (x : Position) (can : CanStep (view s) g p i x) (row : IsTrue (has_row x)) (src : ℕ)
    (source : (row_node (binding (world_of (view s) g) (operators p) i x) start).source ≡ src) (read : IsRead (operators p) src) (places : List (Event (List ℕ)))
    (asked : Asked view came_from (operators p) places s g t h) where
  -- the events of a getDescendants from these places of a visit on
  abbrev visit_whole : RowEvents
  visit_whole =
      let w = world_of (view s) g in
      nodes_found out (row_node (binding w (operators p) i x) start) (binding w (operators p) i x) places ++ visit_events w (operators p) i start path out x

  -- what a call of a visit leaves, as a call of the getDescendants
  pub visit_ran : Ran view came_from (operators p) n visit_whole s g t h
  visit_ran = record {
    came = asked.came;
    bench = asked.bench;
    asks = visit_asks (operators p) n i start path out can.fixed.typed op is (world_of (view s) g) (world_of (view t) h) asked.kept can.bench x can.cursor row src source read places asked.lazy asked.untouched;
  }

  -- after a visit without a match the events from the input's later bindings on are ahead
  pub visit_then : (top : ℕ) → (FindsNone (telling (world_of (view s) g) (operators p)) places)
      → Goes (world_of (view s) g) (world_of (view t) h) (operators p) n visit_whole (visit_events (world_of (view t) h) (operators p) i start path out x)
      (visit_number (world_of (view s) g) (operators p) i x + top) (visit_number (world_of (view t) h) (operators p) i x)
  visit_then top done =
      visit_over (operators p) n i start path out can.fixed.typed op is (world_of (view s) g) (world_of (view t) h) asked.kept can.bench x can.cursor row src source read places asked.lazy asked.untouched top done

  -- the first match of a visit is the getDescendants' next binding
  pub visit_found : (top : ℕ) (m : DescCursor) → Searches.Finds (telling (world_of (view s) g) (operators p)) (matches (world_of (view t) h) (machine_of (table_of path)) src) places top m
      → (z : Position) {u : _} → z ≡ Found' src u x m
      → Finds (world_of (view s) g) (world_of (view t) h) (operators p) n (visits_below i start path out) visit_whole (visit_number (world_of (view s) g) (operators p) i x + top) z
  visit_found top m f z {u} made =
      subst (Finds (world_of (view s) g) (world_of (view t) h) (operators p) n (visits_below i start path out) visit_whole (visit_number (world_of (view s) g) (operators p) i x + top)) (sym made)
      (visit_at (operators p) n i start path out can.fixed.typed op is (world_of (view s) g) (world_of (view t) h) asked.kept can.bench x can.cursor row src source read places asked.lazy asked.untouched top m f u)

-- a call of the visit after a match
module _ {S : Type 0} {view : S → View} {came_from : S → S → Type 0} {s t : S} {g h : Growing} {p : Fixed} {n : ℕ} {c : Position} (can : CanStep (view s) g p n c)
    (i start : ℕ) (path : Form) (out : ℕ) (is : shape_at (operators p) n ≡ visits_below i start path out) (q : _) (x : Position) (src : ℕ) (d : DescCursor) (e : c ≡ Found' src q x d)
    (asked : Asked view came_from (operators p) (match_ahead (world_of (view s) g) src (machine_of (table_of path)) d) s g t h) where
  here : IsIn (world_of (view s) g) (operators p) n (visits_below i start path out) (Found' src q x d)
  here = in_visit can i start path out is q x src d e

  -- what a call of a visit after a match leaves, as a call of the getDescendants
  pub match_ran : Ran view came_from (operators p) n (stands (world_of (view s) g) (operators p) n (visits_below i start path out) (Found' src q x d)).ahead s g t h
  match_ran =
      visit_ran i start path out can.op is x (input_can can i start path out is q x src d e) here.1 src here.2 here.3 (match_ahead (world_of (view s) g) src (machine_of (table_of path)) d) asked

  -- after the last match of a visit the events from the input's later bindings on are ahead
  pub match_then : (FindsNone (telling (world_of (view s) g) (operators p)) (match_ahead (world_of (view s) g) src (machine_of (table_of path)) d))
      → Goes (world_of (view s) g) (world_of (view t) h) (operators p) n (stands (world_of (view s) g) (operators p) n (visits_below i start path out) (Found' src q x d)).ahead
      (visit_events (world_of (view t) h) (operators p) i start path out x) (weighs (world_of (view s) g) (operators p) n (visits_below i start path out) (Found' src q x d))
      (visit_number (world_of (view t) h) (operators p) i x)
  match_then =
      visit_then i start path out can.op is x (input_can can i start path out is q x src d e) here.1 src here.2 here.3 (match_ahead (world_of (view s) g) src (machine_of (table_of path)) d) asked
      (match_number (world_of (view s) g) src d)

  -- a later match of a visit is the getDescendants' next binding
  pub match_found : (m : DescCursor)
      → Searches.Finds (telling (world_of (view s) g) (operators p)) (matches (world_of (view t) h) (machine_of (table_of path)) src)
      (match_ahead (world_of (view s) g) src (machine_of (table_of path)) d) (match_number (world_of (view s) g) src d) m
      → (z : Position) {u : _} → z ≡ Found' src u x m
      → Finds (world_of (view s) g) (world_of (view t) h) (operators p) n (visits_below i start path out)
      (stands (world_of (view s) g) (operators p) n (visits_below i start path out) (Found' src q x d)).ahead
      (weighs (world_of (view s) g) (operators p) n (visits_below i start path out) (Found' src q x d)) z
  match_found =
      visit_found i start path out can.op is x (input_can can i start path out is q x src d e) here.1 src here.2 here.3 (match_ahead (world_of (view s) g) src (machine_of (table_of path)) d) asked
      (match_number (world_of (view s) g) src d)

-- of a getDescendants: a call of its input from one binding to the next
module _ {S : Type 0} {view : S → View} {came_from : S → S → Type 0} {s t : S} {g h : Growing} {p : Fixed} {n : ℕ} (i start : ℕ) (path : Form) (out : ℕ) (op : n < length (operators p))
    (is : shape_at (operators p) n ≡ visits_below i start path out) (x : Position) (can : CanStep (view s) g p i x)
    (ran : Ran view came_from (operators p) i (ahead (world_of (view s) g) (operators p) i x) s g t h) where
  -- what a call of the input leaves, as a call of the getDescendants
  pub start_ran : Ran view came_from (operators p) n (visit_events (world_of (view s) g) (operators p) i start path out x) s g t h
  start_ran =
      ran_over ran (visits_costs (operators p) n i start path out can.fixed.typed op is (world_of (view s) g) (world_of (view s) g) can.bench x)
      (input_before (operators p) can.fixed.typed n op i start path out is) (λ z. absurd (visits_single (operators p) n i start path out can.fixed.typed op is z))

  module _ (d : Position)
      (f : Finds (world_of (view s) g) (world_of (view t) h) (operators p) i (shape_at (operators p) i) (ahead (world_of (view s) g) (operators p) i x) (number (world_of (view s) g) (operators p) i x) d) where
    -- the input of a getDescendants can step from the binding to which it came
    pub start_at : CanStep (view t) h p i d
    start_at = record { fixed = can.fixed; op = can.op; bench = ran.bench; cursor = f.cursor }

    -- a walk of a getDescendants from binding to binding of its input has come to the events from the present one on
    pub start_goes : {a : World} {whole : RowEvents} {top : ℕ}
        → Goes a (world_of (view s) g) (operators p) n whole (visit_events (world_of (view s) g) (operators p) i start path out x) top (visit_number (world_of (view s) g) (operators p) i x)
        → Goes a (world_of (view t) h) (operators p) n whole
        (descendants (docs_of (world_of (view t) h)) start path out (binding (world_of (view t) h) (operators p) i d) ++ visit_events (world_of (view t) h) (operators p) i start path out d) top
        (visit_number (world_of (view t) h) (operators p) i d + suc (bound_of (world_of (view t) h)))
    start_goes goes = goes_then goes (visits_on (operators p) n i start path out can.fixed.typed op is (world_of (view s) g) (world_of (view t) h) can.bench x ran.asks d f)
