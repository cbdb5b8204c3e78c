-- Bindings that are among events, and what they were made of.
use Rattle.std.proofs.Common.{◌≡◌, ℕ, zero, suc, true, false, cond, List, [], ◌∷◌, ◌++◌, inl, inr, refl, sym, ap, subst, ◌∙◌, length, take, map, arith, length-append}
use Rattle.std.proofs.Math.Seq.{take-append_seam}
use Rattle.std.specs.Prelude.{Bool}
use Rattle.mix_base.specs.Ascents.{Among}
use Rattle.mix_base.specs.Events.{skip, bind, without_skips, finds, found}
use Rattle.mix_tree.specs.Nodes.{Documents}
use Rattle.mix_tree.specs.declared.comparing.Test.{Test}
use Rattle.mix_tree.specs.declared.var.Key.{Key}
use Rattle.path_expr.specs.Form.{Form}
use Rattle.path_auto.specs.Visit.{visits}
use Rattle.plan_core.specs.Beside.{EachBinding}
use Rattle.plan_core.specs.Events.{RowEvents, expand, each_row, only, with_node, descendants, pairs, passes_all, extended, skips, first_row, same_group, run_of, group_after}
use Rattle.plan_core.specs.Shapes.{Made}
use Rattle.plan_core.specs.Sorted.{sorted_by}
use Rattle.plan_core.specs.TolledRows.{TolledRow, row_node, source_node}
use Rattle.plan_core.proofs.Bindings.{binding_weaker, binding_expand, binding_each_row, binding_only, binding_sorted}
use Rattle.plan_evidence.proofs.Evident.{each_nodes, each_only}
use Rattle.lazy_binding.specs.Cursors.{after_found, past_first, IsBindingOf, IsFirstBy}
use Rattle.lazy_evidence.specs.Laws.{IsAmong, AllAreAmong, NextAreAmong, GroupsAreAmong}

-- WHAT IS SO OF BINDINGS AMONG EVENTS

-- what is so of each binding of events is so of one that is among them
pub among_each : (P : TolledRow → Type 0) (es : RowEvents) (row : TolledRow) → EachBinding P es → IsAmong es row → P row
among_each P [] row h a = absurd a
among_each P (skip ∷ es) row h a = among_each P es row h a
among_each P (bind b ∷ es) row h (inl e) = subst P e h.0
among_each P (bind b ∷ es) row h (inr a) = among_each P es row h.1 a

-- each binding of events is among them
pub all_among : AllAreAmong
all_among [] = tt
all_among (skip ∷ es) = all_among es
all_among (bind b ∷ es) = (inl refl, binding_weaker (IsAmong es) (IsAmong (bind b ∷ es)) (λ r a. inr a) es (all_among es))

-- what is so of each binding of events is so of the one that is found, and of each after it
pub found_each : (P : TolledRow → Type 0) (es later : RowEvents) (row : TolledRow) → EachBinding P es → found es ≡ finds row later → P row × EachBinding P later
found_each P [] later row h e = cc
found_each P (skip ∷ es) later row h e = found_each P es later row h e
found_each P (bind b ∷ es) later row h e = (subst P (ap first_row e) h.0, subst (EachBinding P) (ap after_found e) h.1)

-- where all bindings of some events are among others, so are the next one that is found and all after it
pub next_among : NextAreAmong
next_among all es later row h e = found_each (IsAmong all) es later row h e

-- what is so of each binding of events is so of each after the first that is found
after_each : (P : TolledRow → Type 0) (es : RowEvents) → EachBinding P es → EachBinding P (after_found (found es))
after_each P [] h = tt
after_each P (skip ∷ es) h = after_each P es h
after_each P (bind b ∷ es) h = h.1

-- what is so of each binding of events is so of each after the first few
past_each : (P : TolledRow → Type 0) (es : RowEvents) (k : ℕ) → EachBinding P es → EachBinding P (past_first k es)
past_each P es zero h = h
past_each P es (suc k) h = after_each P (past_first k es) (past_each P es k h)

-- a binding that is found after the first few of events is among them
pub binding_among : (es later : RowEvents) (row : TolledRow) → IsBindingOf es row later → IsAmong es row
binding_among es later row h = (found_each (IsAmong es) (past_first h.0 es) later row (past_each (IsAmong es) es h.0 (all_among es)) h.1).0

-- what is so of each binding that passes a test is so of each up to the first that fails
run_each : (P : TolledRow → Type 0) (test : TolledRow → Bool) (es : RowEvents) → EachBinding P (only test es) → EachBinding P (run_of test es)
run_each P test [] h = tt
run_each P test (skip ∷ es) h = run_each P test es h
run_each P test (bind row ∷ es) h =
    elim (test row) as (λ t. EachBinding P (cond t (bind row) skip ∷ only test es) → EachBinding P (cond t (bind row ∷ run_of test es) (skip ∷ []))) [
      | true ↦ λ k. (k.0, run_each P test es k.1)
      | false ↦ λ k. tt
    ] h

-- what is so of each binding with the same keys is so of each of a group after its first binding
group_each : (P : TolledRow → Type 0) (docs : Documents) (keys : List Key) (stops : Bool) (row : TolledRow) (es : RowEvents) → EachBinding P (same_group docs keys row es)
    → EachBinding P (group_after docs keys stops row es)
group_each P docs keys true row es h = run_each P _ es h
group_each P docs keys false row es h = h

-- the first binding with its keys among events, and all of its group after it, are among them
pub groups_among : GroupsAreAmong
groups_among docs keys stops es later row h =
    let f = found_each (IsAmong es) (same_group docs keys row es) (same_group docs keys row later) row (binding_only (IsAmong es) _ es (all_among es)) h in
    (f.0, group_each (IsAmong es) docs keys stops row later f.1)

-- the first binding with its keys among events is among them
pub first_among : (docs : Documents) (keys : List Key) (es later : RowEvents) (row : TolledRow) → IsFirstBy docs keys es row later → IsAmong es row
first_among docs keys es later row h = (groups_among docs keys false es later row h).0

-- WHAT BINDINGS WERE MADE OF

-- a binding without its first variable
abbrev rest_of : TolledRow → TolledRow
rest_of [] = []
rest_of (x ∷ row) = row

-- the place of the first variable's node of a binding
abbrev first_place : TolledRow → List ℕ
first_place [] = []
first_place (x ∷ row) = (source_node x.1).place

module _ (docs : Documents) (es : RowEvents) where
  -- a binding of a visit is one of its input with a place that the visit finds below the start's node
  pub visit_made : (start : ℕ) (path : Form) (out : ℕ) (row : TolledRow) (place : List ℕ) → IsAmong (expand (descendants docs start path out) es) (with_node out (row_node row start) row place)
      → IsAmong es row × Among place (without_skips (visits docs path (row_node row start)))
  visit_made start path out row place a =
      among_each Q (expand (descendants docs start path out) es) (with_node out (row_node row start) row place)
      (binding_expand (IsAmong es) Q (descendants docs start path out)
      (λ r x. each_nodes Q out (row_node r start) r (visits docs path (row_node r start)) (λ y m. (x, m))) es (all_among es)) a
    where
      Q : TolledRow → Type 0
      Q b = IsAmong es (rest_of b) × Among (first_place b) (without_skips (visits docs path (row_node (rest_of b) start)))

  -- a binding that passes a test among events is among these, and passes
  pub only_made : (test : TolledRow → Bool) (row : TolledRow) → IsAmong (only test es) row → IsAmong es row × (test row ≡ true)
  only_made test row a =
      among_each (λ b. IsAmong es b × (test b ≡ true)) (only test es) row (each_only (IsAmong es) (λ b. IsAmong es b × (test b ≡ true)) test (λ b x t. (x, t)) es (all_among es)) a

  -- a binding with one variable more is one of the input
  pub extended_made : (out : ℕ) (made : Made) (row : TolledRow) → IsAmong (each_row (extended docs out made) es) (extended docs out made row) → IsAmong es row
  extended_made out made row a =
      among_each (λ b. IsAmong es (rest_of b)) (each_row (extended docs out made) es) (extended docs out made row)
      (binding_each_row (IsAmong es) (λ b. IsAmong es (rest_of b)) (extended docs out made) (λ r x. x) es (all_among es)) a

  -- a binding of events in order is one of the events
  pub sorted_made : (less : TolledRow → TolledRow → Bool) (row : TolledRow) → IsAmong (skips es ++ map bind (sorted_by less (without_skips es))) row → IsAmong es row
  sorted_made less row a = among_each (IsAmong es) (skips es ++ map bind (sorted_by less (without_skips es))) row (binding_sorted (IsAmong es) less es (all_among es)) a

-- where the second parts of two lists that are the same have one length, the first parts are the same
firsts_same : (a b x y : TolledRow) → length x ≡ length y → a ++ x ≡ b ++ y → a ≡ b
firsts_same a b x y l e =
    let p = length-append a x in
    let q = length-append b y in
    let r = ap (λ (z : TolledRow). length z) e in
    let same : length a ≡ length b = omega (arith, p, q, r, l) in
    sym (take-append_seam a x) ∙ ap (take (length a)) e ∙ ap (λ n. take n (b ++ y)) same ∙ take-append_seam b y

module _ (docs : Documents) (tests : List Test) (ls rs : RowEvents) where
  -- a binding is one of the left side's and one of the right side's, of which all comparisons hold
  record IsPaired (b : TolledRow) : Type 0 where
    left : TolledRow
    right : TolledRow
    on_left : IsAmong ls left
    on_right : IsAmong rs right
    passed : passes_all docs tests (left ++ right) ≡ true
    is : left ++ right ≡ b

  -- each binding of a join is one of the left side's and one of the right side's
  each_paired : EachBinding IsPaired (expand (pairs docs tests rs) ls)
  each_paired = binding_expand (IsAmong ls) IsPaired (pairs docs tests rs) (λ l x. beside l x) ls (all_among ls)
    where
      beside : (l : TolledRow) → IsAmong ls l → EachBinding IsPaired (pairs docs tests rs l)
      beside l x =
          each_only (λ b. (r : TolledRow) × (l ++ r ≡ b) × IsAmong rs r) IsPaired (passes_all docs tests)
          (λ b y t. record { left = l; right = y.0; on_left = x; on_right = y.2; passed = ap (passes_all docs tests) y.1 ∙ t; is = y.1 })
          (each_row (λ r. l ++ r) rs)
          (binding_each_row (IsAmong rs) (λ b. (r : TolledRow) × (l ++ r ≡ b) × IsAmong rs r) (λ r. l ++ r) (λ r y. (r, refl, y)) rs (all_among rs))

  -- where all bindings of the right side have one length, a binding of a join that has one of them at its end begins with one of the left side's, and all comparisons hold of it
  pub pair_made : (k : ℕ) → EachBinding (λ r. length r ≡ k) rs → (left right : TolledRow) → IsAmong rs right → IsAmong (expand (pairs docs tests rs) ls) (left ++ right)
      → IsAmong ls left × (passes_all docs tests (left ++ right) ≡ true)
  pair_made k h left right x a =
      let r : IsPaired (left ++ right) = among_each IsPaired (expand (pairs docs tests rs) ls) (left ++ right) each_paired a in
      let l : length r.right ≡ length right = among_each (λ r. length r ≡ k) rs r.right h r.on_right ∙ sym (among_each (λ r. length r ≡ k) rs right h x) in
      (subst (IsAmong ls) (firsts_same r.left left r.right right l r.is) r.on_left, sym (ap (passes_all docs tests) r.is) ∙ r.passed)
