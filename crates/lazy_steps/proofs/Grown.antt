-- A call for one more member of a join's right side.
use Rattle.std.proofs.Common.{◌≡◌, ◌<◌, ◌≤◌, ℕ, true, false, List, [], ◌∷◌, ◌++◌, length, take, refl, ◌∙◌, sym, ap, subst, arith, length-append}
use Rattle.std.specs.Prelude.{IsTrue, slice_index_or}
use Rattle.std.specs.declared.alloc.Global.{Global}
use Rattle.std.specs.declared.rc.Rc.{Rc}
use Rattle.std.specs.declared.vec.Vec.{Vec}
use Rattle.join_memo.specs.Kept.{Kept}
use Rattle.lazy_descend.specs.Searches.{FindsNone}
use Rattle.lxp_core.specs.View.{View}
use Rattle.mix_tree.specs.declared.comparing.Test.{Test}
use Rattle.plan_core.specs.Shapes.{pairs_up, shape_at}
use Rattle.lazy_binding.specs.declared.parts.Fixed.{Fixed}
use Rattle.lazy_binding.specs.declared.parts.Growing.{Growing}
use Rattle.lazy_binding.specs.declared.position.Position.{Position}
use Rattle.lazy_binding.specs.Bench.{IsBench}
use Rattle.lazy_binding.specs.World.{World, world, is_told, no_pairs, memo_at}
use Rattle.lazy_binding.specs.Cursors.{ahead, number, IsOf}
use Rattle.lazy_binding.specs.Keeping.{Keeps}
use Rattle.plan_forms.specs.Links.{links_at}
use Rattle.lazy_binding.specs.Members.{member_label, AreMembers}
use Rattle.lazy_binding.specs.Parts.{operators, world_of, IsFixed}
use Rattle.lazy_binding.proofs.Bound.{inputs_at}
use Rattle.lazy_binding.proofs.FirstLists.{take_prefix}
use Rattle.lazy_binding.specs.Growth.{OthersStay}
use Rattle.lazy_steps.specs.Beside.{last_at, IsGrown}
use Rattle.lazy_steps.specs.Steps.{telling, Finds, Ran, CanStep}
use Rattle.lazy_steps.proofs.Goes.{ran_over, le_same}
use Rattle.lazy_steps.proofs.Growing.{last_in, members_push, members_end, memo_keeps, memo_bench, finds_then, ran_memo}
use Rattle.lazy_steps.proofs.PairSteps.{pairs_single}

-- the right side can step from its last member
pub last_can : {v : View} {g : Growing} {p : Fixed} (l r n : ℕ) (tests : List Test) → IsFixed p → (within : n < length (operators p)) → shape_at (operators p) n ≡ pairs_up l r tests
    → IsBench (world_of v g) (operators p) → (c : Position) → c ≡ last_at (world_of v g) n → CanStep v g p r c
last_can {v} {g} {p} l r n tests fixed within is bench c e = record {
  fixed = fixed;
  op = (let z = inputs_at (operators p) fixed.typed n within (pairs_up l r tests) is in omega (arith, z.1.0, within));
  bench = bench;
  cursor = subst (IsOf (world_of v g) (operators p) r) (sym e) (last_in (bench.members n l r tests is));
}

module _ {S : Type 0} {view : S → View} {came_from : S → S → Type 0} {s t : S} {g h : Growing} {p : Fixed} (l r n : ℕ) (tests : List Test) (fixed : IsFixed p)
    (within : n < length (operators p)) (is : shape_at (operators p) n ≡ pairs_up l r tests) (bench : IsBench (world_of (view s) g) (operators p))
    (ran : Ran view came_from (operators p) r (ahead (world_of (view s) g) (operators p) r (last_at (world_of (view s) g) n)) s g t h) where
  abbrev a : World
  a = world_of (view s) g

  abbrev b : World
  b = world_of (view t) h

  right_below : r < n
  right_below = (inputs_at (operators p) fixed.typed n within (pairs_up l r tests) is).1.0

  -- what a call of a join's right side leaves
  pub grow_ran : Ran view came_from (operators p) n (ahead a (operators p) r (last_at a n)) s g t h
  grow_ran = ran_over ran (le_same _) right_below (λ z. (pairs_single (operators p) n l r tests fixed.typed within is z).1)

  -- a call of a join's right side leaves the memo of the join as it was
  same_memo : memo_at b n ≡ memo_at a n
  same_memo = (ran.asks.above n right_below).0

  -- the members of a memo before a call are bindings of the right side after it
  old_good : AreMembers a (operators p) r (links_at (operators p) n) (memo_at a n)
  old_good = bench.members n l r tests is

  -- the memos of a bench, where the memo of a join is another one
  module _ (memos : Vec (Kept (Rc Position Global)) Global) (stay : OthersStay h.memos.items memos.items n) (m : Kept (Rc Position Global)) (here : slice_index_or memos.items n no_pairs ≡ m)
      (more : length (memo_at b n).pairs ≤ length m.pairs) (prefix : (k : ℕ) → k ≤ length (memo_at b n).pairs → take k m.pairs ≡ take k (memo_at b n).pairs)
      (good : AreMembers b (operators p) r (links_at (operators p) n) m) where
    keeps : Keeps b (world (view t) h.buffers.items h.seen.items memos.items h.walked)
    keeps =
        memo_keeps b memos.items n stay (subst (λ (z : Kept (Rc Position Global)). length (memo_at b n).pairs ≤ length z.pairs) (sym here) more)
        (λ k l. ap (λ (z : Kept (Rc Position Global)). take k z.pairs) here ∙ prefix k l)

    -- a memo that is changed and still holds members leaves a sound bench
    memos_ran : Ran view came_from (operators p) n (ahead a (operators p) r (last_at a n)) s g t (record { buffers = h.buffers; seen = h.seen; memos = memos; walked = h.walked })
    memos_ran =
        ran_memo memos stay keeps
        (memo_bench b memos.items n stay (subst (λ (z : Kept (Rc Position Global)). length (memo_at b n).pairs ≤ length z.pairs) (sym here) more)
        (λ k l. ap (λ (z : Kept (Rc Position Global)). take k z.pairs) here ∙ prefix k l) (operators p) l r tests is ran.bench m here good) grow_ran

  -- where memory was wanting, the memo is as it was
  pub refused_ran : (memos : Vec (Kept (Rc Position Global)) Global) → OthersStay h.memos.items memos.items n → slice_index_or memos.items n no_pairs ≡ memo_at b n
      → Ran view came_from (operators p) n (ahead a (operators p) r (last_at a n)) s g t (record { buffers = h.buffers; seen = h.seen; memos = memos; walked = h.walked })
  refused_ran memos stay here = memos_ran memos stay (memo_at b n) here (omega arith) (λ k l. refl) (ran.bench.members n l r tests is)

  -- where the right side has no further binding, its memo has ended
  module _ (memos : Vec (Kept (Rc Position Global)) Global) (stay : OthersStay h.memos.items memos.items n)
      (here : slice_index_or memos.items n no_pairs ≡ record { pairs = (memo_at b n).pairs; ended = true }) (none : FindsNone (telling a (operators p)) (ahead a (operators p) r (last_at a n))) where
    pub ended_ran : Ran view came_from (operators p) n (ahead a (operators p) r (last_at a n)) s g t (record { buffers = h.buffers; seen = h.seen; memos = memos; walked = h.walked })
    ended_ran =
        memos_ran memos stay (record { pairs = (memo_at b n).pairs; ended = true }) here (omega arith) (λ k l. refl)
        (subst (λ (z : Kept (Rc Position Global)). AreMembers b (operators p) r (links_at (operators p) n) (record { pairs = z.pairs; ended = true })) (sym same_memo)
        (members_end ran.asks.kept (operators p) bench r (links_at (operators p) n) (memo_at a n) old_good none))

    pub ended_grown : IsGrown a (world (view t) h.buffers.items h.seen.items memos.items h.walked) (operators p) n r false
    ended_grown = (here ∙ ap (λ (z : Kept (Rc Position Global)). record { pairs = z.pairs; ended = true }) same_memo, none)

  -- the right side's next binding is one more member of its memo
  module _ (memos : Vec (Kept (Rc Position Global)) Global) (stay : OthersStay h.memos.items memos.items n) (label : List ℕ) (d : Rc Position Global)
      (here : slice_index_or memos.items n no_pairs ≡ record { pairs = (memo_at b n).pairs ++ (label, d) ∷ []; ended = false })
      (f : Finds a b (operators p) r (shape_at (operators p) r) (ahead a (operators p) r (last_at a n)) (number a (operators p) r (last_at a n)) d.value)
      (label_is : IsTrue (is_told b (operators p)) → label ≡ member_label b (operators p) r (links_at (operators p) n) d.value) where
    longer : length (memo_at b n).pairs ≤ length ((memo_at b n).pairs ++ (label, d) ∷ [])
    longer = omega (arith, length-append (memo_at b n).pairs ((label, d) ∷ []))

    prefixes : (k : ℕ) → k ≤ length (memo_at b n).pairs → take k ((memo_at b n).pairs ++ (label, d) ∷ []) ≡ take k (memo_at b n).pairs
    prefixes k l = take_prefix (memo_at b n).pairs ((label, d) ∷ []) k l

    good : AreMembers b (operators p) r (links_at (operators p) n) (record { pairs = (memo_at b n).pairs ++ (label, d) ∷ []; ended = false })
    good =
        subst (λ (z : Kept (Rc Position Global)). AreMembers b (operators p) r (links_at (operators p) n) (record { pairs = z.pairs ++ (label, d) ∷ []; ended = false })) (sym same_memo)
        (members_push ran.asks.kept (operators p) bench r (links_at (operators p) n) (memo_at a n) old_good label d f label_is)

    pub pushed_ran : Ran view came_from (operators p) n (ahead a (operators p) r (last_at a n)) s g t (record { buffers = h.buffers; seen = h.seen; memos = memos; walked = h.walked })
    pushed_ran = memos_ran memos stay (record { pairs = (memo_at b n).pairs ++ (label, d) ∷ []; ended = false }) here longer prefixes good

    pub pushed_grown : IsGrown a (world (view t) h.buffers.items h.seen.items memos.items h.walked) (operators p) n r true
    pushed_grown = (
      (label, d),
      here ∙ ap (λ (z : Kept (Rc Position Global)). record { pairs = z.pairs ++ (label, d) ∷ []; ended = false }) same_memo,
      finds_then a b (world (view t) h.buffers.items h.seen.items memos.items h.walked)
          (keeps memos stay (record { pairs = (memo_at b n).pairs ++ (label, d) ∷ []; ended = false }) here longer prefixes good) ran.bench f,
    )
