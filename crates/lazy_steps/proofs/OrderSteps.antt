-- The bindings of an orderBy.
use Rattle.std.proofs.Common.{◌≡◌, ◌<◌, ◌≤◌, ◌+◌, ℕ, suc, Bool, true, false, cond, List, [], ◌∷◌, ◌++◌, append_assoc, map, length, length-append, drop, refl, Option, Some, None, ◌∙◌, sym, ap, subst, arith}
use Rattle.std.specs.Prelude.{IsTrue}
use Rattle.std.specs.List.{AllByRecursion}
use Rattle.std.specs.Cmp.{IsStrictWeakOrder}
use Rattle.std.specs.declared.alloc.Global.{Global}
use Rattle.std.specs.declared.rc.Rc.{Rc}
use Rattle.std.specs.declared.vec.Vec.{Vec}
use Rattle.mix_base.proofs.Lists.{append_nil}
use Rattle.lazy_descend.proofs.Searches.{still_told, still_forward}
use Rattle.lazy_descend.specs.Searches.{FindsNone, AsksAtMost}
use Rattle.std.proofs.lemmas.List.{map-append, length-map}
use Rattle.mix_base.specs.Events.{Event, skip, bind, nothing, finds, found, cost, without_skips}
use Rattle.mix_base.proofs.EventLaws.{cost-length, found-none, found-some}
use Rattle.mix_tree.specs.Nodes.{Documents, label_at}
use Rattle.plan_core.specs.Plans.{Operator}
use Rattle.plan_core.specs.Shapes.{shape_at}
use Rattle.plan_core.specs.Unary.{comes_before}
use Rattle.plan_core.specs.Sorted.{insert_by, sorted_by}
use Rattle.plan_core.proofs.SortLaws.{sorted_by-map}
use Rattle.plan_core.specs.Typed.{IsTyped}
use Rattle.plan_core.specs.Valid.{kinds, a_node}
use Rattle.plan_core.specs.TolledRows.{TolledRow, row_node}
use Rattle.plan_core.specs.Events.{RowEvents, events, skips, sorted_rows}
use Rattle.lxp_core.specs.View.{View}
use Rattle.lazy_binding.specs.declared.labelled.Labelled.{Labelled}
use Rattle.lazy_binding.specs.declared.parts.Growing.{Growing}
use Rattle.lazy_binding.specs.declared.position.Position.{Position, Start, Sorted'}
use Rattle.lazy_binding.specs.declared.position.Position.TheVariants.{Sorted}
use Rattle.lazy_binding.specs.Bench.{IsBench}
use Rattle.lazy_binding.specs.World.{World, docs_of, is_told, is_forward}
use Rattle.lazy_binding.specs.Cursors.{stands, weighs, binding, ahead, number, size, has_row, IsIn, IsOf}
use Rattle.lazy_binding.specs.Keeping.{Keeps}
use Rattle.lazy_steps.specs.Orders.{IsGiven, AreGiven, rows_of, IsSortedAt, AreAll, RanThrough}
use Rattle.lazy_binding.specs.SortedLists.{sorts, ArePositions, bindings_at, by_label}
use Rattle.lazy_binding.specs.Parts.{world_of}
use Rattle.lazy_steps.specs.Steps.{single, Asks, Finds, Gives, Ran, telling, KeepsAbove}
use Rattle.lazy_steps.proofs.Goes.{tells_on, untouched_then}
use Rattle.lazy_binding.proofs.Keep.{told-kept, docs_kept, keeps_same, keeps_then}
use Rattle.lazy_steps.proofs.Shapes.{events_at, size_at, single_at}
use Rattle.lazy_binding.proofs.Bound.{inputs_at, fit_at}
use Rattle.lazy_binding.proofs.SortedRows.{all_both, found_at, found_past, as_made, list_count, list_rows, list_in, in_list}
use Rattle.lazy_binding.proofs.StableSorts.{label_weak, all_sorted, length_sorted}
use Rattle.lazy_binding.proofs.Stay.{cursors_kept, size_kept}

-- LABELS

module _ {X K : Type 0} (cmp : K → K → Bool) (g h : X → K) where
  -- keys that agree put alike
  insert_alike : (x : X) (xs : List X) → g x ≡ h x → AllByRecursion (λ y. g y ≡ h y) xs → insert_by (λ a b. cmp (g a) (g b)) x xs ≡ insert_by (λ a b. cmp (h a) (h b)) x xs
  insert_alike x [] e a = refl
  insert_alike x (y ∷ xs) e a =
      ap (λ (k : K). cond (cmp k (g x)) (y ∷ insert_by (λ a b. cmp (g a) (g b)) x xs) (x ∷ y ∷ xs)) a.0
      ∙ ap (λ (k : K). cond (cmp (h y) k) (y ∷ insert_by (λ a b. cmp (g a) (g b)) x xs) (x ∷ y ∷ xs)) e
      ∙ ap (λ (zs : List X). cond (cmp (h y) (h x)) (y ∷ zs) (x ∷ y ∷ xs)) (insert_alike x xs e a.1)

  -- lists whose elements have the same keys sort alike
  sorted_alike : IsStrictWeakOrder (λ a b. cmp (h a) (h b)) → (xs : List X) → AllByRecursion (λ y. g y ≡ h y) xs → sorted_by (λ a b. cmp (g a) (g b)) xs ≡ sorted_by (λ a b. cmp (h a) (h b)) xs
  sorted_alike o [] a = refl
  sorted_alike o (x ∷ xs) a =
      ap (insert_by (λ a b. cmp (g a) (g b)) x) (sorted_alike o xs a.1)
      ∙ insert_alike x (sorted_by (λ a b. cmp (h a) (h b)) xs) a.0 (all_sorted (λ a b. cmp (h a) (h b)) o (λ y. g y ≡ h y) xs a.1)

-- EVENTS

-- all events are those up to the first binding and those after it
length-found : {B : Type 0} (es : List (Event B)) (b : B) (rest : List (Event B)) → found es ≡ finds b rest → length es ≡ cost es + length rest
length-found [] b rest h = cc
length-found (skip ∷ es) b rest h = let l = length-found es b rest h in omega (arith, l)
length-found (bind a ∷ es) b rest h = let e : es ≡ rest = cc in let l = ap length e in omega (arith, l)

-- what stands after a skip for each event is found first
found-skips : (es : RowEvents) (xs : RowEvents) → found (skips es ++ xs) ≡ found xs
found-skips [] xs = refl
found-skips (e ∷ es) xs = found-skips es xs

-- as many skips as there are events, before other events, cost no less than there are
cost-skips : (es : RowEvents) (xs : RowEvents) → length es ≤ cost (skips es ++ xs)
cost-skips [] xs = omega arith
cost-skips (e ∷ es) xs = let l = cost-skips es xs in omega (arith, l)

-- ALL BINDINGS OF THE INPUT

module _ (a b : World) (k : Keeps a b) (ops : List Operator) (bench : IsBench a ops) (i v : ℕ) where
  -- a position with its label is one still
  one_kept : (x : Labelled) → IsGiven a ops i v x → IsGiven b ops i v x
  one_kept x g =
      let stays = cursors_kept a b k ops bench i x.place.value g.of in record {
        of = stays.cursor;
        row = g.row;
        label = λ t.
            g.label (subst IsTrue (told-kept k ops) t)
            ∙ ap (λ (d : Documents). label_at d (row_node (binding a ops i x.place.value) v)) (sym (docs_kept k ops bench))
            ∙ ap (λ (row : TolledRow). label_at (docs_of b) (row_node row v)) (sym stays.binding_is);
      }

  -- positions with the labels of their bindings stay so after a call
  all_kept : (rows : List Labelled) → AreGiven a ops i v rows → AreGiven b ops i v rows
  all_kept [] g = tt
  all_kept (x ∷ rows) g = (one_kept x g.0, all_kept rows g.1)

  -- positions with labels stand at the same bindings after a call
  rows_kept : (rows : List Labelled) → AreGiven a ops i v rows → rows_of b ops i rows ≡ rows_of a ops i rows
  rows_kept [] g = refl
  rows_kept (x ∷ rows) g =
      ap (λ (r : TolledRow). r ∷ rows_of b ops i rows) (cursors_kept a b k ops bench i x.place.value g.0.of).binding_is
      ∙ ap (λ (rs : List TolledRow). binding a ops i x.place.value ∷ rs) (rows_kept rows g.1)

-- of all bindings of an operator `rows` were passed, and a cursor stands after them
pub record Gathered (a b : World) (ops : List Operator) (i v : ℕ) (rows : List Labelled) (c : Position) : Type 0 where
  pub kept : Keeps a b
  pub above : KeepsAbove a b i
  pub given : AreGiven b ops i v rows
  pub cursor : IsOf b ops i c
  pub few : length rows + number b ops i c ≤ size a ops i
  pub passed : IsTrue (is_told a ops) → rows_of b ops i rows ++ without_skips (ahead b ops i c) ≡ without_skips (events (docs_of a) ops i)
  pub lazy : IsTrue (is_told a ops) → IsTrue (is_forward a ops) → b.view.fills + length (ahead b ops i c) ≤ a.view.fills + length (events (docs_of a) ops i)

-- before any call no bindings were passed
pub gathered_start : (a : World) (ops : List Operator) (i v : ℕ) → Keeps a a → (c : Position) → c ≡ Start → Gathered a a ops i v [] c
gathered_start a ops i v k c e = rw e record { kept = k; above = λ j l. (refl, refl, refl); given = tt; cursor = tt; few = omega arith; passed = λ t. refl; lazy = λ t f. omega arith }

module _ {a b : World} (d : World) {ops : List Operator} {i v : ℕ} {rows : List Labelled} {c : Position} (g : Gathered a b ops i v rows c) (bench : IsBench b ops)
    (k : Asks b d ops i (ahead b ops i c)) where
  -- a walk over all bindings and a last call ask for no more than all events of the operator allow
  pub gathered_lazy : AsksAtMost (telling a ops) (telling d ops) (length (events (docs_of a) ops i))
  gathered_lazy t f =
      let x = g.lazy t f in
      let y = k.lazy (still_told (tells_on g.kept ops) t) (still_forward (tells_on g.kept ops) f) in
      let z = cost-length (ahead b ops i c) in
      omega (arith, x, y, z)

  -- the next binding of an operator is one more that was passed
  pub gathered_more : (x : Position) → Finds b d ops i (shape_at ops i) (ahead b ops i c) (number b ops i c) x → (y : Labelled) → y.place.value ≡ x
      → (IsTrue (is_told d ops) → y.label ≡ label_at (docs_of d) (row_node (binding d ops i x) v)) → Gathered a d ops i v (rows ++ y ∷ []) x
  gathered_more x f y e label = record {
    kept = keeps_then g.kept k.kept;
    above = λ j l. untouched_then a b d j (g.above j l) (k.above j l);
    given = all_both (IsGiven d ops i v) rows (y ∷ []) (all_kept b d k.kept ops bench i v rows g.given) (
      record {
        of = subst (IsOf d ops i) (sym e) f.cursor;
        row = subst (λ (p : Position). IsTrue (has_row p)) (sym e) f.row;
        label = λ t. label t ∙ ap (λ (p : Position). label_at (docs_of d) (row_node (binding d ops i p) v)) (sym e);
      },
      tt,
    );
    cursor = f.cursor;
    few = (let l = length-append rows (y ∷ []) in let m = g.few in let n = f.falls in omega (arith, l, m, n));
    passed = λ t.
        ap (λ (rs : List TolledRow). rs ++ without_skips (ahead d ops i x)) (map-append (λ (z : Labelled). binding d ops i z.place.value) rows (y ∷ []))
        ∙ append_assoc (rows_of d ops i rows) (binding d ops i y.place.value ∷ []) (without_skips (ahead d ops i x))
        ∙ ap (λ (rs : List TolledRow). rs ++ binding d ops i y.place.value ∷ without_skips (ahead d ops i x)) (rows_kept b d k.kept ops bench i v rows g.given)
        ∙ ap (λ (p : Position). rows_of b ops i rows ++ binding d ops i p ∷ without_skips (ahead d ops i x)) e
        ∙ ap (λ (rs : List TolledRow). rows_of b ops i rows ++ rs) (sym (found-some (ahead b ops i c) (binding d ops i x) (ahead d ops i x) (f.found (still_told (tells_on g.kept ops) t))))
        ∙ g.passed t;
    lazy = λ t w.
        let p = g.lazy t w in
        let q = k.lazy (still_told (tells_on g.kept ops) t) (still_forward (tells_on g.kept ops) w) in
        let l = length-found (ahead b ops i c) (binding d ops i x) (ahead d ops i x) (f.found (still_told (tells_on g.kept ops) t)) in
        omega (arith, p, q, l);
  }

  -- where no more bindings come, those that were passed are all
  pub gathered_all : IsBench a ops → (FindsNone (telling b ops) (ahead b ops i c)) → AreAll a d ops i v rows
  gathered_all first f = record {
    given = all_kept b d k.kept ops bench i v rows g.given;
    few = (let m = g.few in let e = size_kept a d (keeps_then g.kept k.kept) ops first i in omega (arith, m, e));
    bindings = λ t.
        rows_kept b d k.kept ops bench i v rows g.given
        ∙ sym (append_nil (rows_of b ops i rows))
        ∙ ap (λ (rs : List TolledRow). rows_of b ops i rows ++ rs) (sym (found-none (ahead b ops i c) (f (still_told (tells_on g.kept ops) t))))
        ∙ g.passed t;
  }

-- where nothing is called, a walk through an operator leaves the bench as it was
pub through_nothing : {S : Type 0} {view : S → View} {came_from : S → S → Type 0} {ops : List Operator} → ((x : S) → came_from x x) → (i : ℕ) (s : S) (g : Growing)
    → IsBench (world_of (view s) g) ops → RanThrough view came_from ops i s g s g
through_nothing {S} {view} {came_from} {ops} same i s g bench = record {
  came = same s;
  bench = bench;
  kept = keeps_same (world_of (view s) g) ops bench;
  above = λ j l. (refl, refl, refl);
  lazy = λ t f. omega arith;
}

-- what a walk leaves as far as it came
pub through : {S : Type 0} {view : S → View} {came_from : S → S → Type 0} {ops : List Operator} → ((x y z : S) → came_from x y → came_from y z → came_from x z)
    → {i v : ℕ} {rows : List Labelled} {c : Position} {s t u : S} {g h j : Growing} → came_from s t → Gathered (world_of (view s) g) (world_of (view t) h) ops i v rows c
    → IsBench (world_of (view t) h) ops → Ran view came_from ops i (ahead (world_of (view t) h) ops i c) t h u j → RanThrough view came_from ops i s g u j
through {S} {view} after {i} {v} {rows} {c} {s} {t} {u} {g} {h} {j} came gathered bench ran = record {
  came = after s t u came ran.came;
  bench = ran.bench;
  kept = keeps_then gathered.kept ran.asks.kept;
  above = λ x l. untouched_then (world_of (view s) g) (world_of (view t) h) (world_of (view u) j) x (gathered.above x l) (ran.asks.above x l);
  lazy = gathered_lazy (world_of (view u) j) gathered bench ran.asks;
}

-- THE SORTED BINDINGS

module _ (w : World) (ops : List Operator) (i v : ℕ) where
  -- positions with their labels are positions
  places_given : (rows : List Labelled) → AreGiven w ops i v rows → ArePositions w ops i (map (λ x. x.place) rows)
  places_given [] g = tt
  places_given (x ∷ rows) g = ((g.0.of, g.0.row), places_given rows g.1)

-- positions without their labels stand at the same bindings
places_rows : (w : World) (ops : List Operator) (i : ℕ) (rows : List Labelled) → bindings_at w ops i (map (λ x. x.place) rows) ≡ rows_of w ops i rows
places_rows w ops i [] = refl
places_rows w ops i (x ∷ rows) = ap (λ (rs : List TolledRow). binding w ops i x.place.value ∷ rs) (places_rows w ops i rows)

module _ (a b : World) (ops : List Operator) (n i v : ℕ) (desc : Bool) where
  -- the position at an index of a sorted list stands at the binding there
  sorted_finds : (list : Rc (Vec (Rc Position Global) Global) Global) (k : ℕ) → k < length list.value.items → ArePositions b ops i list.value.items → length list.value.items ≤ size b ops n
      → (es : RowEvents) (top : ℕ) → (IsTrue (is_told a ops) → found es ≡ found (map bind (drop k (bindings_at b ops i list.value.items)))) → length list.value.items ≤ top + k
      → Finds a b ops n (sorts i v desc) es top (Sorted list k)
  sorted_finds list k h given few es top same l =
      let e = list_rows list k b ops i in
      let c = list_count list k in
      let m = ap length e ∙ length-map list.value.items (λ (x : Rc Position Global). binding b ops i x.value) in record {
        cursor = (list_in list k b ops i given, omega (arith, c, h), omega (arith, c, few));
        row = refl;
        falls = omega (arith, c, h, l);
        found = λ t. same t ∙ ap (λ (rs : List TolledRow). found (map bind (drop k rs))) (sym e) ∙ found_at _ k (omega (arith, m, h));
      }

  module _ (list : Vec (Rc Position Global) Global) (given : ArePositions b ops i list.items) (few : length list.items ≤ size b ops n) where
    -- what stands at an index of a sorted list is the first binding from there on
    pub sorted_steps : (es : RowEvents) (top k : ℕ) (r : Option (Rc Position Global)) → IsSortedAt list k r → (IsTrue (is_told a ops) → found es ≡ found (map bind (drop k (bindings_at b ops i list.items))))
        → length list.items ≤ top + k → Gives a b ops n (sorts i v desc) es top r
    sorted_steps es top k None h same l = λ t. same t ∙ found_past (bindings_at b ops i list.items) k (let m = length-map list.items (λ (x : Rc Position Global). binding b ops i x.value) in omega (arith, m, h))
    sorted_steps es top k (Some d) h same l =
        let e : h.1.0.value ≡ list = h.1.1 in
        subst (λ (p : Position). Finds a b ops n (sorts i v desc) es top p) (sym h.1.2) (
        sorted_finds h.1.0 k (subst (λ (z : Vec (Rc Position Global) Global). k < length z.items) (sym e) h.0) (subst (λ (z : Vec (Rc Position Global) Global). ArePositions b ops i z.items) (sym e) given)
        (subst (λ (z : Vec (Rc Position Global) Global). length z.items ≤ size b ops n) (sym e) few) es top
        (λ t. same t ∙ ap (λ (z : Vec (Rc Position Global) Global). found (map bind (drop k (bindings_at b ops i z.items)))) (sym e))
        (subst (λ (z : Vec (Rc Position Global) Global). length z.items ≤ top + k) (sym e) l)
        )

-- the position after one of a sorted list stands at the next binding
pub order_next : (w : World) (ops : List Operator) (n i v : ℕ) (desc : Bool) (list : Rc (Vec (Rc Position Global) Global) Global) (k : ℕ) → IsIn w ops n (sorts i v desc) (Sorted list k) → (r : Option (Rc Position Global))
    → IsSortedAt list.value (k + 1) r → Gives w w ops n (sorts i v desc) (stands w ops n (sorts i v desc) (Sorted list k)).ahead (weighs w ops n (sorts i v desc) (Sorted list k)) r
order_next w ops n i v desc list k of r h =
    let c = list_count list k in
    let one : k + 1 ≡ suc k = omega arith in
    sorted_steps w w ops n i v desc list.value (in_list list k w ops i of.0) (omega (arith, c, of.2)) (stands w ops n (sorts i v desc) (Sorted list k)).ahead (weighs w ops n (sorts i v desc) (Sorted list k)) (k + 1) r h
    (λ t. ap (λ (rs : List TolledRow). found (map bind (drop (suc k) rs))) (list_rows list k w ops i) ∙ ap (λ (z : ℕ). found (map bind (drop z (bindings_at w ops i list.value.items)))) (sym one))
    (omega (arith, c, of.1))

module _ (ops : List Operator) (typed : IsTyped ops) (n : ℕ) (within : n < length ops) (i v : ℕ) (desc : Bool) (e : shape_at ops n ≡ sorts i v desc) where
  -- an orderBy reads a variable that holds a node
  pub order_node : kinds ops i v ≡ Some a_node
  order_node = fit_at ops typed n within (sorts i v desc) e

  -- the input of an orderBy has a smaller number
  pub order_below : i < n
  order_below = (inputs_at ops typed n within (sorts i v desc) e).0

  -- the size of an orderBy is that of its input
  order_size : (w : World) → size w ops n ≡ size w ops i
  order_size w = size_at ops typed n within (sorts i v desc) e w

  -- the events of an orderBy are a skip for each event of its input, and then its bindings, sorted
  order_events : (docs : Documents) → events docs ops n ≡ skips (events docs ops i) ++ map bind (sorted_rows docs v desc (events docs ops i))
  order_events docs = events_at ops typed n within (sorts i v desc) e docs

  -- an orderBy is never an operator that is known to have a single binding
  order_single : IsTrue (single ops n) → ⊥
  order_single s = let z : true ≡ false = sym s ∙ single_at ops typed n within (sorts i v desc) e in cc

  -- what a walk over all events of the input leaves
  pub order_ran : {S : Type 0} {view : S → View} {came_from : S → S → Type 0} {s t : S} {g h : Growing} → RanThrough view came_from ops i s g t h
      → Ran view came_from ops n (events (docs_of (world_of (view s) g)) ops n) s g t h
  order_ran {S} {view} {came_from} {s} {t} {g} {h} ran = record {
    came = ran.came;
    bench = ran.bench;
    asks = record {
      kept = ran.kept;
      above = λ j m. ran.above j (omega (arith, order_below, m));
      lazy = λ u w.
          let docs : Documents = docs_of (world_of (view s) g) in
          let l = ran.lazy u w in
          let m = cost-skips (events docs ops i) (map bind (sorted_rows docs v desc (events docs ops i))) in
          let x = ap cost (order_events docs) in
          omega (arith, l, m, x);
      none = λ u. absurd (order_single u);
    };
  }

  module _ (a b : World) (k : Keeps a b) (bench : IsBench a ops) (rows sorted : List Labelled) (all : AreAll a b ops i v rows) (is : sorted ≡ by_label desc rows) where
    -- the positions that were sorted stand at bindings of the input with their labels
    pub sorted_given : AreGiven b ops i v sorted
    sorted_given = subst (AreGiven b ops i v) (sym is) (all_sorted (λ x y. comes_before desc x.label y.label) (label_weak desc (λ (x : Labelled). x.label)) (IsGiven b ops i v) rows all.given)

    sorted_length : length sorted ≡ length rows
    sorted_length = ap length is ∙ length_sorted (λ x y. comes_before desc x.label y.label) (label_weak desc (λ (x : Labelled). x.label)) rows

    -- the positions that were sorted are no more than the size of the orderBy
    pub sorted_few : length sorted ≤ size b ops n
    sorted_few = let l = sorted_length in let m = all.few in let s = order_size b in omega (arith, l, m, s)

    -- the labels by which positions were sorted are those of their bindings
    labels : IsTrue (is_told b ops) → (xs : List Labelled) → AreGiven b ops i v xs
        → AllByRecursion (λ x. x.label ≡ label_at (docs_of b) (row_node (binding b ops i x.place.value) v)) xs
    labels t [] g = tt
    labels t (x ∷ xs) g = (g.0.label t, labels t xs g.1)

    -- the bindings at the sorted positions are the sorted bindings of the operator
    sorted_is : IsTrue (is_told a ops) → rows_of b ops i sorted ≡ sorted_rows (docs_of a) v desc (events (docs_of a) ops i)
    sorted_is t =
        ap (rows_of b ops i) is
        ∙ ap (rows_of b ops i) (sorted_alike (comes_before desc) (λ (x : Labelled). x.label) (λ (x : Labelled). label_at (docs_of b) (row_node (binding b ops i x.place.value) v))
        (label_weak desc (λ (x : Labelled). label_at (docs_of b) (row_node (binding b ops i x.place.value) v))) rows (labels (still_told (tells_on k ops) t) rows all.given))
        ∙ sym (sorted_by-map (λ (x y : TolledRow). comes_before desc (label_at (docs_of b) (row_node x v)) (label_at (docs_of b) (row_node y v))) (λ (x : Labelled). binding b ops i x.place.value) rows)
        ∙ ap (λ (d : Documents). sorted_by (λ (x y : TolledRow). comes_before desc (label_at d (row_node x v)) (label_at d (row_node y v))) (rows_of b ops i rows)) (docs_kept k ops bench)
        ∙ ap (sorted_by (λ (x y : TolledRow). comes_before desc (label_at (docs_of a) (row_node x v)) (label_at (docs_of a) (row_node y v)))) (all.bindings t)

    -- the sorted list, as a position holds it
    module _ (list : Vec (Rc Position Global) Global) (places : list.items ≡ map (λ x. x.place) sorted) where
      -- the sorted list stands at the bindings of the sorted positions
      list_rows_are : bindings_at b ops i list.items ≡ rows_of b ops i sorted
      list_rows_are = ap (bindings_at b ops i) places ∙ places_rows b ops i sorted

      -- the first binding of an orderBy is that of the first position of the sorted list
      pub order_first : (r : Option (Rc Position Global)) → IsSortedAt list 0 r → Gives a b ops n (sorts i v desc) (events (docs_of a) ops n) (size a ops n) r
      order_first r h =
          let given = subst (ArePositions b ops i) (sym places) (places_given b ops i v sorted sorted_given) in
          let m = ap length places ∙ length-map sorted (λ (x : Labelled). x.place) in
          let f = sorted_few in
          let s = size_kept a b k ops bench n in
          sorted_steps a b ops n i v desc list given (omega (arith, m, f)) (events (docs_of a) ops n) (size a ops n) 0 r h (
          λ t.
          ap found (order_events (docs_of a)) ∙ found-skips (events (docs_of a) ops i) (map bind (sorted_rows (docs_of a) v desc (events (docs_of a) ops i)))
          ∙ ap (λ (rs : List TolledRow). found (map bind rs)) (sym (list_rows_are ∙ sorted_is t))
          ) (omega (arith, m, f, s))

  -- a cursor of the operator is before all its bindings or at one
  pub order_over : (w : World) (c : Position) → IsIn w ops n (sorts i v desc) c → (c ≡ Start → ⊥) → ((list : Rc (Vec (Rc Position Global) Global) Global) (k : ℕ) → c ≡ Sorted list k → ⊥)
      → found (stands w ops n (sorts i v desc) c).ahead ≡ nothing
  order_over w Start h ns nt = absurd (ns refl)
  order_over w (Sorted' q m row k) h ns nt = (let x = as_made q m row k in absurd (nt x.0 k (sym x.1)))
  order_over w c h ns nt = absurd h
