-- The members of a join's right side come one by one, and each stands at the next binding.
use Rattle.std.proofs.Common.{◌≡◌, ◌⊎◌, inl, inr, ◌<◌, ◌≤◌, ◌+◌, ℕ, zero, suc, true, false, List, [], ◌∷◌, ◌++◌, length, take, get_or, refl, ◌∙◌, sym, ap, subst, arith}
use Rattle.std.specs.Prelude.{IsTrue, slice_index_or}
use Rattle.std.specs.declared.alloc.Global.{Global}
use Rattle.std.specs.declared.rc.Rc.{Rc}
use Rattle.std.specs.declared.vec.Vec.{Vec}
use Rattle.std.proofs.lemmas.Bool.{cases_eq}
use Rattle.std.proofs.lemmas.List.{get_or_default}
use Rattle.join_memo.specs.Kept.{Kept, labels_of}
use Rattle.mix_base.specs.Events.{nothing, finds, found}
use Rattle.mix_tree.specs.declared.comparing.Test.{Test}
use Rattle.lxp_core.specs.View.{View}
use Rattle.lxp_core.proofs.Views.{keeps_same as keeps_view_same}
use Rattle.plan_core.specs.Plans.{Operator}
use Rattle.plan_core.specs.Shapes.{pairs_up, shape_at}
use Rattle.plan_core.specs.TolledRows.{TolledRow}
use Rattle.plan_core.specs.Events.{RowEvents}
use Rattle.plan_forms.specs.declared.link.Link.{Link}
use Rattle.lazy_binding.specs.declared.parts.Growing.{Growing}
use Rattle.lazy_binding.specs.declared.position.Position.{Position, Start}
use Rattle.lazy_binding.specs.Bench.{IsBench}
use Rattle.lazy_binding.specs.World.{World, world, is_told, Member, no_pairs, memo_at, last_of, passed}
use Rattle.lazy_binding.specs.Cursors.{binding, ahead, number, size, IsOf}
use Rattle.lazy_binding.specs.Keeping.{Keeps, Stays}
use Rattle.plan_forms.specs.Links.{links_at}
use Rattle.lazy_binding.specs.Members.{member_label, IsMember, AreNext, AreMembers}
use Rattle.lazy_binding.specs.Parts.{world_of}
use Rattle.lazy_binding.proofs.Buffers.{bench_stays}
use Rattle.lazy_binding.proofs.Keep.{told-kept, goes_idle, keeps_then}
use Rattle.lazy_binding.proofs.MemberItems.{none_passed}
use Rattle.lazy_binding.proofs.Members.{last_is, members_kept}
use Rattle.lazy_binding.proofs.Stay.{cursors_kept, size_kept}
use Rattle.lazy_binding.specs.Growth.{OthersStay}
use Rattle.lazy_steps.specs.Beside.{memo_in}
use Rattle.lazy_steps.specs.Steps.{Finds, Ran}

-- THE MEMBERS OF A MEMO

module _ (w : World) (ops : List Operator) (i : ℕ) (by : List Link) where
  -- the number of these members and that of the last one are together no more than the size of the operator whose bindings they are
  last_few : (at : Position) (n : ℕ) (ms : List Member) → n + number w ops i at ≤ size w ops i → AreNext w ops i by at n ms → (n + length ms) + number w ops i (last_of at ms) ≤ size w ops i
  last_few at n [] l h = omega (arith, l)
  last_few at n (m ∷ ms) l h = (let r = last_few m.1.value (suc n) ms h.0.few h.1 in omega (arith, r))

  -- members one after another with a next one at their end are members one after another
  next_push : (at : Position) (n : ℕ) (ms : List Member) (m : Member) → AreNext w ops i by at n ms → IsMember w ops i by (last_of at ms) (n + length ms) m.0 m.1.value → AreNext w ops i by at n (ms ++ m ∷ [])
  next_push at n [] m h new = (subst (λ (z : ℕ). IsMember w ops i by at z m.0 m.1.value) (omega arith) new, tt)
  next_push at n (x ∷ ms) m h new =
      let e : n + length (x ∷ ms) ≡ suc n + length ms = omega arith in
      (h.0, next_push x.1.value (suc n) ms m h.1 (subst (λ (z : ℕ). IsMember w ops i by (last_of x.1.value ms) z m.0 m.1.value) e new))

  -- of members one after another each stands at the next binding after the one before it
  member_in : (at : Position) (n : ℕ) (ms : List Member) (p : ℕ) → AreNext w ops i by at n ms → p < length ms
      → IsMember w ops i by (last_of at (take p ms)) (n + p) (get_or (labels_of ms) p []) (last_of at (take (suc p) ms))
  member_in at n [] p h l = absurd (omega (arith, l))
  member_in at n (m ∷ ms) zero h l =
      subst (IsMember w ops i by at (n + zero) m.0) (sym (none_passed m.1.value ms)) (subst (λ (z : ℕ). IsMember w ops i by at z m.0 m.1.value) (omega arith) h.0)
  member_in at n (m ∷ ms) (suc p) h l =
      let e : suc n + p ≡ n + suc p = omega arith in
      subst (λ (z : ℕ). IsMember w ops i by (last_of m.1.value (take p ms)) z (get_or (labels_of ms) p []) (last_of m.1.value (take (suc p) ms))) e
      (member_in m.1.value (suc n) ms p h.1 (omega (arith, l)))

-- where no members were passed, the last position is the one before all events
pub take_none : (ms : List Member) → passed ms 0 ≡ Start
take_none [] = refl
take_none (m ∷ ms) = refl

-- after all members of a list with one more at its end, the last position is that of the new one
pub take_more : (at : Position) (ms : List Member) (m : Member) (n : ℕ) → n ≡ length ms → last_of at (take (suc n) (ms ++ m ∷ [])) ≡ m.1.value
take_more at [] m zero e = refl
take_more at [] m (suc n) e = absurd (omega (arith, e))
take_more at (x ∷ ms) m zero e = absurd (omega (arith, e))
take_more at (x ∷ ms) m (suc n) e = take_more x.1.value ms m n (omega (arith, e))

module _ {w : World} {ops : List Operator} {i : ℕ} {by : List Link} {m : Kept (Rc Position Global)} (h : AreMembers w ops i by m) where
  -- the member at a place stands at the next binding after those before it
  pub member_at : (p : ℕ) → p < length m.pairs → IsMember w ops i by (passed m.pairs p) p (get_or (labels_of m.pairs) p []) (passed m.pairs (suc p))
  member_at p l =
      subst (λ (z : ℕ). IsMember w ops i by (passed m.pairs p) z (get_or (labels_of m.pairs) p []) (passed m.pairs (suc p))) (omega arith) (member_in w ops i by Start 0 m.pairs p h.next l)

  -- the last member of a memo is a position of its operator
  pub last_in : IsOf w ops i (last_of Start m.pairs)
  last_in = last_is w ops i by Start 0 m.pairs tt h.next

  -- the number of members of a memo and that of the last one are together no more than the size of the operator
  pub members_few : length m.pairs + number w ops i (last_of Start m.pairs) ≤ size w ops i
  members_few = (let l = last_few w ops i by Start 0 m.pairs (omega arith) h.next in omega (arith, l))

module _ {a b : World} (k : Keeps a b) (ops : List Operator) (bench : IsBench a ops) (i : ℕ) (by : List Link) (m : Kept (Rc Position Global)) (h : AreMembers a ops i by m) where
  last : Stays a b ops i (last_of Start m.pairs)
  last = cursors_kept a b k ops bench i (last_of Start m.pairs) (last_in h)

  -- a memo with the next binding after its last member is a memo still
  pub members_push : (label : List ℕ) (r : Rc Position Global) → Finds a b ops i (shape_at ops i) (ahead a ops i (last_of Start m.pairs)) (number a ops i (last_of Start m.pairs)) r.value
      → (IsTrue (is_told b ops) → label ≡ member_label b ops i by r.value) → AreMembers b ops i by (record { pairs = m.pairs ++ (label, r) ∷ []; ended = false })
  members_push label r f is = record {
    next = next_push b ops i by Start 0 m.pairs (label, r) (members_kept k ops bench i by m h).next new;
    all = λ e t. cc;
  }
    where
      new : IsMember b ops i by (last_of Start m.pairs) (0 + length m.pairs) label r.value
      new = record {
        cursor = f.cursor;
        row = f.row;
        few = (let l = members_few h in let s = size_kept a b k ops bench i in let g = f.falls in omega (arith, l, s, g));
        found = λ t. ap found last.ahead_is ∙ f.found (sym (told-kept k ops) ∙ t);
        label_is = is;
      }

  -- where no binding is left after its last member, a memo that is marked as ended is a memo still
  pub members_end : (IsTrue (is_told a ops) → found (ahead a ops i (last_of Start m.pairs)) ≡ nothing) → AreMembers b ops i by (record { pairs = m.pairs; ended = true })
  members_end f = record {
    next = (members_kept k ops bench i by m h).next;
    all = λ e t. ap found last.ahead_is ∙ f (sym (told-kept k ops) ∙ t);
  }

-- a memo without members holds the first bindings of any operator
pub no_members : (w : World) (ops : List Operator) (i : ℕ) (by : List Link) → AreMembers w ops i by no_pairs
no_members w ops i by = record { next = tt; all = λ e t. cc }

-- THE MEMOS OF A BENCH

-- the memo that is read for an operator
pub memo_read : (v : View) (g : Growing) (ops : List Operator) → IsBench (world_of v g) ops → (n : ℕ) → n < length ops → (m : Kept (Rc Position Global)) → m ≡ get_or g.memos.items n m → m ≡ memo_in g n
memo_read v g ops bench n within m e = e ∙ get_or_default g.memos.items n m no_pairs (let l = bench.memos in omega (arith, l, within))

module _ (b : World) (memos : List (Kept (Rc Position Global))) (n : ℕ) (stay : OthersStay b.memos memos n)
    (more : length (memo_at b n).pairs ≤ length (slice_index_or memos n no_pairs).pairs)
    (prefix : (k : ℕ) → k ≤ length (memo_at b n).pairs → take k (slice_index_or memos n no_pairs).pairs ≡ take k (memo_at b n).pairs) where
  -- one more member of one memo leaves what every call keeps
  pub memo_keeps : Keeps b (world b.view b.buffers b.seen memos b.walked)
  memo_keeps = record {
    view = keeps_view_same b.view;
    buffers = refl;
    goes = λ s x there. record { later = x; there = there; goes = goes_idle b.view x };
    lists = refl;
    longer = λ j. omega arith;
    seen = λ j k h. refl;
    memos = stay.lists;
    more = λ j. more_at j (cases_eq j n);
    members = λ j k h. prefix_at j k h (cases_eq j n);
    found = λ m number place c f. f;
  }
    where
      more_at : (j : ℕ) → (j ≡ n) ⊎ (j ≡ n → ⊥) → length (memo_at b j).pairs ≤ length (slice_index_or memos j no_pairs).pairs
      more_at j (inl z) = subst (λ (m : ℕ). length (memo_at b m).pairs ≤ length (slice_index_or memos m no_pairs).pairs) (sym z) more
      more_at j (inr ne) = omega (arith, ap (λ (m : Kept (Rc Position Global)). length m.pairs) (stay.others j ne))

      prefix_at : (j k : ℕ) → k ≤ length (memo_at b j).pairs → (j ≡ n) ⊎ (j ≡ n → ⊥) → take k (slice_index_or memos j no_pairs).pairs ≡ take k (memo_at b j).pairs
      prefix_at j k h (inl z) =
          subst (λ (m : ℕ). k ≤ length (memo_at b m).pairs → take k (slice_index_or memos m no_pairs).pairs ≡ take k (memo_at b m).pairs) (sym z) (prefix k) h
      prefix_at j k h (inr ne) = ap (λ (m : Kept (Rc Position Global)). take k m.pairs) (stay.others j ne)

  module _ (ops : List Operator) (l r : ℕ) (tests : List Test) (is : shape_at ops n ≡ pairs_up l r tests) (bench : IsBench b ops) (m : Kept (Rc Position Global))
      (here : slice_index_or memos n no_pairs ≡ m) (good : AreMembers b ops r (links_at ops n) m) where
    -- a bench in which one memo holds one more member is a sound bench
    pub memo_bench : IsBench (world b.view b.buffers b.seen memos b.walked) ops
    memo_bench = bench_stays memo_keeps ops bench refl (λ j x y ts e. at j x y ts e (cases_eq j n)) refl bench.sources
      where
        right : (x y : ℕ) (ts : List Test) → pairs_up l r tests ≡ pairs_up x y ts → r ≡ y
        right x y ts e = cc

        at : (j x y : ℕ) (ts : List Test) → shape_at ops j ≡ pairs_up x y ts → (j ≡ n) ⊎ (j ≡ n → ⊥)
            → AreMembers (world b.view b.buffers b.seen memos b.walked) ops y (links_at ops j) (slice_index_or memos j no_pairs)
        at j x y ts e (inl z) =
            let same : r ≡ y = right x y ts (sym is ∙ ap (shape_at ops) (sym z) ∙ e) in
            subst (λ (u : ℕ). AreMembers (world b.view b.buffers b.seen memos b.walked) ops y (links_at ops u) (slice_index_or memos u no_pairs)) (sym z)
            (subst (λ (u : ℕ). AreMembers (world b.view b.buffers b.seen memos b.walked) ops u (links_at ops n) (slice_index_or memos n no_pairs)) same
            (subst (AreMembers (world b.view b.buffers b.seen memos b.walked) ops r (links_at ops n)) (sym here) (members_kept memo_keeps ops bench r (links_at ops n) m good)))
        at j x y ts e (inr ne) =
            subst (AreMembers (world b.view b.buffers b.seen memos b.walked) ops y (links_at ops j)) (sym (stay.others j ne))
            (members_kept memo_keeps ops bench y (links_at ops j) (memo_at b j) (bench.members j x y ts e))

-- a search that found a position has found it afterwards
pub finds_then : (a b c : World) {ops : List Operator} {i : ℕ} {es : RowEvents} {top : ℕ} {d : Position} → Keeps b c → IsBench b ops → Finds a b ops i (shape_at ops i) es top d
    → Finds a c ops i (shape_at ops i) es top d
finds_then a b c {ops} {i} {es} {top} {d} k bench f =
    let stay : Stays b c ops i d = cursors_kept b c k ops bench i d f.cursor in record {
      cursor = stay.cursor;
      row = f.row;
      falls = (let x = f.falls in let y = stay.number_is in omega (arith, x, y));
      found = λ t. f.found t ∙ ap (λ (z : TolledRow). finds z (ahead b ops i d)) (sym stay.binding_is) ∙ ap (finds (binding c ops i d)) (sym stay.ahead_is);
    }

-- a call, and then one memo that grows
pub ran_memo : {S : Type 0} {view : S → View} {came_from : S → S → Type 0} {ops : List Operator} {n : ℕ} {es : RowEvents} {s t : S} {g h : Growing} (memos : Vec (Kept (Rc Position Global)) Global)
    → OthersStay h.memos.items memos.items n → Keeps (world_of (view t) h) (world (view t) h.buffers.items h.seen.items memos.items h.walked) → IsBench (world (view t) h.buffers.items h.seen.items memos.items h.walked) ops
    → Ran view came_from ops n es s g t h → Ran view came_from ops n es s g t (record { buffers = h.buffers; seen = h.seen; memos = memos; walked = h.walked })
ran_memo {S} {view} {came_from} {ops} {n} {es} {s} {t} {g} {h} memos stay keeps bench ran = record {
  came = ran.came;
  bench = bench;
  asks = record {
    kept = keeps_then ran.asks.kept keeps;
    above = λ j l. (let x = ran.asks.above j l in (stay.others j (λ e. omega (arith, e, l)) ∙ x.0, x.1, x.2));
    lazy = ran.asks.lazy;
    none = ran.asks.none;
  };
}
