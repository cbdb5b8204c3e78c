-- Where the binding of a position is among its operator's events, so are those of its parts at the inputs on the way, and the operator holds of it.
use Rattle.std.proofs.Common.{◌≡◌, ◌<◌, ℕ, true, List, ◌++◌, refl, sym, subst, arith, length}
use Rattle.std.specs.Prelude.{IsTrue, Bool, Option, None}
use Rattle.mix_base.specs.Ascents.{Among}
use Rattle.mix_base.specs.Events.{without_skips}
use Rattle.mix_tree.specs.Comparisons.{passes}
use Rattle.mix_tree.specs.declared.comparing.Test.{Test}
use Rattle.mix_tree.specs.declared.var.Key.{Key}
use Rattle.path_expr.specs.Form.{Form}
use Rattle.path_auto.specs.Visit.{visits}
use Rattle.plan_core.specs.declared.plan.Piece.{Piece}
use Rattle.plan_core.specs.ByNumber.{op_at}
use Rattle.plan_core.specs.Events.{shape_events, events, passes_all}
use Rattle.plan_core.specs.Fronts.{front}
use Rattle.plan_core.specs.Plans.{PlanValue}
use Rattle.plan_core.specs.Shapes.{Made, Shape, visits_below, pairs_up, filters, extends, first_by_keys, in_order, passes_on, shape_at}
use Rattle.plan_core.specs.TolledRows.{TolledRow, row_node}
use Rattle.plan_core.specs.Typed.{IsTyped}
use Rattle.plan_core.specs.Valid.{IsValid}
use Rattle.plan_core.proofs.Numbers.{events-of}
use Rattle.lazy_binding.specs.declared.position.Position.{Position, Found', Pass', First', Pair'}
use Rattle.lazy_descend.specs.declared.cursor.DescCursor.{DescCursor}
use Rattle.lazy_binding.specs.Bench.{IsBench}
use Rattle.lazy_binding.specs.Cursors.{binding, ahead, stands, IsIn, has_row}
use Rattle.lazy_binding.specs.World.{World, docs_of, is_told, match_place, memo_at}
use Rattle.plan_forms.specs.Links.{links_at}
use Rattle.lazy_binding.proofs.Bound.{inputs_at}
use Rattle.lazy_evidence.specs.Laws.{IsAmong}
use Rattle.lazy_evidence.proofs.Among.{visit_made, only_made, extended_made, sorted_made, pair_made, binding_among, first_among}
use Rattle.lazy_evidence.proofs.Lengths.{one_length}
use Rattle.lazy_evidence.proofs.Members.{passed_among}

module _ (p : PlanValue) (valid : IsValid p) (typed : IsTyped p.ops) (w : World) (bench : IsBench w p.ops) (told : IsTrue (is_told w p.ops)) where
  -- the binding of a position is among the events of its operator, which has this shape
  abbrev pub IsOne : ℕ → Shape → Position → Type 0
  IsOne n f c = IsAmong (events (docs_of w) p.ops n) (stands w p.ops n f c).row

  -- the binding of a cursor is among the events of its operator
  abbrev pub IsOneOf : ℕ → Position → Type 0
  IsOneOf n c = IsOne n (shape_at p.ops n) c

  -- the events of an operator of this shape are made of those of its inputs
  made_of : (n : ℕ) → n < length p.ops → (f : Shape) → shape_at p.ops n ≡ f → (row : TolledRow) → IsAmong (events (docs_of w) p.ops n) row
      → IsAmong (shape_events (docs_of w) (front p.ops) f (events (docs_of w) p.ops)) row
  made_of n h f e row a =
      subst (λ (g : Shape). IsAmong (shape_events (docs_of w) (front p.ops) g (events (docs_of w) p.ops)) row) e
      (subst (λ es. IsAmong es row) (events-of (docs_of w) p.ops n (op_at p.ops n) refl (typed.inputs n h)) a)

  -- a match's input is among the events of the input, and its place is one that the visit finds
  pub visit_parts : (n i start : ℕ) (path : Form) (out : ℕ) → n < length p.ops → shape_at p.ops n ≡ visits_below i start path out → (s : ℕ) (q : _) (c : Position) (d : DescCursor)
      → IsOne n (visits_below i start path out) (Found' s q c d)
      → IsOneOf i c × Among (match_place w s d) (without_skips (visits (docs_of w) path (row_node (binding w p.ops i c) start)))
  visit_parts n i start path out h e s q c d a =
      visit_made (docs_of w) (events (docs_of w) p.ops i) start path out (binding w p.ops i c) (match_place w s d) (made_of n h (visits_below i start path out) e _ a)

  -- what passes a comparison is among the events of the input, and passes
  pub filter_parts : (n i : ℕ) (test : Test) → n < length p.ops → shape_at p.ops n ≡ passes_on i (filters test) → (q : _) (c : Position) → IsOne n (passes_on i (filters test)) (Pass' q c)
      → IsOneOf i c × (passes (docs_of w) test (row_node (binding w p.ops i c)) ≡ true)
  filter_parts n i test h e q c a = only_made (docs_of w) (events (docs_of w) p.ops i) (λ row. passes (docs_of w) test (row_node row)) (binding w p.ops i c) (made_of n h (passes_on i (filters test)) e _ a)

  -- what is given one variable more is among the events of the input
  pub extended_parts : (n i out : ℕ) (made : Made) → n < length p.ops → shape_at p.ops n ≡ passes_on i (extends out made) → (q : _) (c : Position) → IsOne n (passes_on i (extends out made)) (Pass' q c) → IsOneOf i c
  extended_parts n i out made h e q c a = extended_made (docs_of w) (events (docs_of w) p.ops i) out made (binding w p.ops i c) (made_of n h (passes_on i (extends out made)) e _ a)

  -- what is passed on by a project is among the events of the input
  pub passed_parts : (n i : ℕ) (keys : List Key) (q : _) (c : Position) → IsIn w p.ops n (passes_on i (first_by_keys keys None)) (Pass' q c) → IsOneOf i c
  passed_parts n i keys q c of = binding_among (events (docs_of w) p.ops i) (ahead w p.ops i c) (binding w p.ops i c) (of.3 told)

  -- a first binding by keys is among the events of the input
  pub first_parts : (n i : ℕ) (keys : List Key) (group : Option (Piece × ℕ)) (q : _) (c : Position) (k : ℕ) → IsIn w p.ops n (passes_on i (first_by_keys keys group)) (First' q c k) → IsOneOf i c
  first_parts n i keys group q c k of = first_among (docs_of w) keys (events (docs_of w) p.ops i) (ahead w p.ops i c) (binding w p.ops i c) (of.5 told)

  -- a binding in order is among the events of the input
  pub sorted_parts : (n i u : ℕ) (desc : Bool) → n < length p.ops → shape_at p.ops n ≡ passes_on i (in_order u desc) → (row : TolledRow) → IsAmong (events (docs_of w) p.ops n) row
      → IsAmong (events (docs_of w) p.ops i) row
  sorted_parts n i u desc h e row a = sorted_made (docs_of w) (events (docs_of w) p.ops i) _ row (made_of n h (passes_on i (in_order u desc)) e row a)

  -- both sides of a pair are among the events of theirs, and all comparisons hold of it
  pub pair_parts : (n l r : ℕ) (tests : List Test) → n < length p.ops → shape_at p.ops n ≡ pairs_up l r tests → (q : _) (x : Position) (q' : _) (y : Position) (k : ℕ)
      → IsIn w p.ops n (pairs_up l r tests) (Pair' q x q' y k) → IsTrue (has_row y) → IsOne n (pairs_up l r tests) (Pair' q x q' y k)
      → IsOneOf l x × IsOneOf r y × (passes_all (docs_of w) tests (binding w p.ops l x ++ binding w p.ops r y) ≡ true)
  pair_parts n l r tests h e q x q' y k of row a =
      let g = inputs_at p.ops typed n h (pairs_up l r tests) e in
      let right : IsOneOf r y =
      subst (IsOneOf r) of.4 (passed_among w p.ops told r (links_at p.ops n) (memo_at w n).pairs k (bench.members n l r tests e).next (subst (λ c. IsTrue (has_row c)) (sym of.4) row)) in
      let len = one_length p valid typed (docs_of w) r (omega (arith, h, g.1.0)) in
      let both = pair_made (docs_of w) tests (events (docs_of w) p.ops l) (events (docs_of w) p.ops r) len.0 len.1 (binding w p.ops l x) (binding w p.ops r y) right (made_of n h (pairs_up l r tests) e _ a) in
      (both.0, right, both.1)
