-- What a call on one buffer leaves of a bench.
use Rattle.std.proofs.Common.{◌≡◌, ◌<◌, ◌≤◌, ◌⊎◌, inl, inr, ℕ, zero, suc, true, List, [], ◌∷◌, Option, Some, None, length, take, set, refl, ◌∙◌, sym, ap, subst, arith}
use Rattle.std.specs.Prelude.{IsTrue, slice_get, slice_index_or}
use Rattle.std.specs.List.{AllByRecursion}
use Rattle.std.specs.declared.alloc.Global.{Global}
use Rattle.std.specs.declared.rc.Rc.{Rc}
use Rattle.std.specs.declared.vec.Vec.{Vec}
use Rattle.join_memo.specs.Kept.{Kept}
use Rattle.std.proofs.lemmas.Option.{slice_get_within}
use Rattle.std.proofs.lemmas.Bool.{cases_eq}
use Rattle.std.proofs.lemmas.List.{length-set}
use Rattle.mix_tree.specs.Nodes.{Documents}
use Rattle.lxp_core.specs.View.{View, Keeps as KeepsView}
use Rattle.tree_buffer.specs.declared.buffer.Buffer.{Buffer}
use Rattle.tree_buffer.specs.Buffer.{IsSourcesOf, IsKept, Goes, number_of}
use Rattle.mix_tree.specs.declared.var.Key.{Key}
use Rattle.plan_core.specs.declared.plan.Piece.{Piece}
use Rattle.plan_core.specs.Plans.{Operator}
use Rattle.plan_core.specs.Shapes.{first_by_keys, shape_at, passes_on}
use Rattle.plan_core.specs.Valid.{HasSource}
use Rattle.plan_core.specs.Events.{events, keys_seen}
use Rattle.lazy_binding.specs.declared.key.KeyPart.{KeyPart}
use Rattle.lazy_binding.specs.declared.key.KeyPart.TheVariants.{Node as node_part, Label as label_part, Free as free_part}
use Rattle.lazy_binding.specs.declared.position.Position.{Position, Seen'}
use Rattle.lazy_binding.specs.declared.parts.Walked.{Walked}
use Rattle.lazy_binding.specs.declared.position.Reached.{Reached}
use Rattle.lazy_binding.specs.Bench.{IsBench, HasMembers, HasReached}
use Rattle.lazy_binding.specs.Cursors.{gathers_by}
use Rattle.lazy_binding.specs.Gathered.{no_groups}
use Rattle.lazy_binding.specs.Gathering.{AreGathered}
use Rattle.lazy_binding.specs.World.{World, world, docs_of, buffer_at, seen_at, seen_values, gathered_at, IsPart}
use Rattle.lazy_binding.specs.Keeping.{GoesOn, Keeps}
use Rattle.lazy_binding.proofs.Gathering.{gathered_kept}
use Rattle.lazy_binding.proofs.Keep.{told-kept, docs_kept, spot_kept}
use Rattle.lazy_binding.proofs.Stay.{values_kept, cursors_kept}
use Rattle.lazy_binding.proofs.Members.{same_members}

-- at an index that was written stands what was written there
pub get_set : {X : Type 0} (xs : List X) (i : ℕ) (x : X) → i < length xs → slice_get (set xs i x) i ≡ Some x
get_set [] i x h = absurd (omega (arith, h))
get_set (y ∷ xs) zero x h = refl
get_set (y ∷ xs) (suc i) x h = get_set xs i x (omega (arith, h))

-- at an index other than the one that was written stands what stood there
get_other : {X : Type 0} (xs : List X) (i j : ℕ) (x : X) → (j ≡ i → ⊥) → slice_get (set xs i x) j ≡ slice_get xs j
get_other [] i j x ne = refl
get_other (y ∷ xs) zero zero x ne = absurd (ne refl)
get_other (y ∷ xs) zero (suc j) x ne = refl
get_other (y ∷ xs) (suc i) zero x ne = refl
get_other (y ∷ xs) (suc i) (suc j) x ne = get_other xs i j x (λ e. ne (ap suc e))

module _ {a b : World} (k : Keeps a b) where
  -- parts of keys are parts still
  part_stays : (p : KeyPart) → IsPart a p → IsPart b p
  part_stays (node_part s x) h = spot_kept k s x h
  part_stays (label_part label) h = tt
  part_stays free_part h = absurd h

  -- each part of a key is a part still after a call
  pub key_stays : (key : List KeyPart) → AllByRecursion (IsPart a) key → AllByRecursion (IsPart b) key
  key_stays [] h = tt
  key_stays (p ∷ key) h = (part_stays p h.0, key_stays key h.1)

  -- each part of each of these keys is a part still after a call
  pub keys_stay : (keys : List (List KeyPart)) → AllByRecursion (AllByRecursion (IsPart a)) keys → AllByRecursion (AllByRecursion (IsPart b)) keys
  keys_stay [] h = tt
  keys_stay (key ∷ keys) h = (key_stays key h.0, keys_stay keys h.1)

  -- where no group was walked on, each group at hand was walked to a binding as before
  pub reached_kept : (ops : List Operator) → IsBench a ops → b.walked.reached ≡ a.walked.reached → HasReached b ops
  reached_kept ops h same n r e q =
      (cursors_kept a b k ops h n (Seen' q r.below.value r.seen) (h.reached n r (ap (λ (z : Vec (Option Reached) Global). slice_index_or z.items n None) (sym same) ∙ e) q)).cursor

  -- the members that were found of the groups of an operator stay, where it saw no key anew
  pub gathered_there : (ops : List Operator) → IsBench a ops → (n i : ℕ) (keys : List Key) (group : Option (Piece × ℕ)) → shape_at ops n ≡ passes_on i (first_by_keys keys group)
      → gathers_by ops (passes_on i (first_by_keys keys group)) ≡ true → length (seen_at b n) ≡ length (seen_at a n) → gathered_at b n ≡ gathered_at a n
      → AreGathered b ops n i keys group (gathered_at b n)
  gathered_there ops h n i keys group is by seen same =
      subst (AreGathered b ops n i keys group) (sym same) (gathered_kept a b ops h k n i keys group seen (gathered_at a n) (h.gathered n i keys group is by))

  -- where no key was seen anew, no group was walked on, and the memos have members of their sides, what is left is the bench of the later sources
  pub bench_stays : (ops : List Operator) → IsBench a ops → b.seen ≡ a.seen → HasMembers b ops → b.walked ≡ a.walked → ((s : ℕ) (x : Buffer) → buffer_at b s ≡ Some x → (number_of x ≡ s) × IsSourcesOf b.view x) → IsBench b ops
  bench_stays ops h same members walked sources = record {
    roots = λ s l. k.view.knows s (b.view.root s) (subst (λ (r : _). a.view.knows s r ≡ true) (sym (k.view.root s)) (h.roots s (subst (λ (n : ℕ). s < n) k.view.count l)));
    few = subst (λ (n : ℕ). n ≤ b.view.count) (sym k.buffers) (subst (λ (n : ℕ). length a.buffers ≤ n) (sym k.view.count) h.few);
    sources = sources;
    enough = subst (λ (n : ℕ). AllByRecursion (HasSource n) ops) (sym k.buffers) h.enough;
    lists = k.lists ∙ h.lists;
    memos = k.memos ∙ h.memos;
    parts = λ n. subst (λ (z : List (List KeyPart)). AllByRecursion (AllByRecursion (IsPart b)) z) (sym (at n)) (keys_stay (seen_at a n) (h.parts n));
    seen = λ n i keys e t.
        ap (seen_values b) (at n)
        ∙ values_kept a b k ops h (seen_at a n) (h.parts n)
        ∙ h.seen n i keys e (subst IsTrue (told-kept k ops) t)
        ∙ ap (λ (z : Documents). take (length (seen_at a n)) (keys_seen z keys [] (events z ops i))) (sym (docs_kept k ops h))
        ∙ ap (λ (z : List (List KeyPart)). take (length z) (keys_seen (docs_of b) keys [] (events (docs_of b) ops i))) (sym (at n));
    members = members;
    marks = ap (λ (z : Walked). length z.reached.items) walked ∙ h.marks;
    reached = reached_kept ops h (ap (λ (z : Walked). z.reached) walked);
    walks = ap (λ (z : Walked). length z.gathered.items) walked ∙ h.walks;
    gathered = λ n i keys group is by.
        gathered_there ops h n i keys group is by (ap length (at n)) (ap (λ (z : Walked). slice_index_or z.gathered.items n no_groups) walked);
  }
    where
      at : (n : ℕ) → seen_at b n ≡ seen_at a n
      at n = ap (λ (z : List (List (List KeyPart))). seen_at (record { view = a.view; buffers = a.buffers; seen = z; memos = a.memos; walked = a.walked }) n) same

-- sources and their buffers, before and after a call on the buffer of one source
module _ (v v' : View) (bs : List Buffer) (seen : List (List (List KeyPart))) (memos : List (Kept (Rc Position Global))) (walked : Walked) (ops : List Operator) (bench : IsBench (world v bs seen memos walked) ops) (keeps : KeepsView v v')
    (s : ℕ) (x y : Buffer) (there : slice_get bs s ≡ Some x) (goes : Goes v x v' y) (sources : IsSourcesOf v' y) (others : (c : Buffer) → IsSourcesOf v c → IsKept v v' c) where
  -- a call on the buffer of one source keeps what every call keeps
  pub buffer_keeps : Keeps (world v bs seen memos walked) (world v' (set bs s y) seen memos walked)
  buffer_keeps = record {
    view = keeps;
    buffers = length-set bs s y;
    goes = λ t z h. at t z h (cases_eq t s);
    lists = refl;
    longer = λ n. omega arith;
    seen = λ n k l. refl;
    memos = refl;
    more = λ n. omega arith;
    members = λ n k l. refl;
    found = λ n number place c f. f;
  }
    where
      at : (t : ℕ) (z : Buffer) → slice_get bs t ≡ Some z → (t ≡ s) ⊎ (t ≡ s → ⊥) → GoesOn (world v bs seen memos walked) (world v' (set bs s y) seen memos walked) t z
      at t z h (inl e) =
          let same : x ≡ z = (let f : Some x ≡ Some z = sym there ∙ ap (slice_get bs) (sym e) ∙ h in cc) in
          record {
            later = y;
            there = ap (slice_get (set bs s y)) e ∙ get_set bs s y (slice_get_within bs s x there);
            goes = subst (λ (w : Buffer). Goes v w v' y) same goes;
          }
      at t z h (inr ne) = record { later = z; there = get_other bs s t y ne ∙ h; goes = (others z (bench.sources t z h).1).goes }

  -- a call on the buffer of one source leaves a bench of the later sources
  pub buffer_bench : IsBench (world v' (set bs s y) seen memos walked) ops
  buffer_bench = bench_stays buffer_keeps ops bench refl (same_members buffer_keeps ops bench refl) refl (λ t z h. at t z h (cases_eq t s))
    where
      at : (t : ℕ) (z : Buffer) → slice_get (set bs s y) t ≡ Some z → (t ≡ s) ⊎ (t ≡ s → ⊥) → (number_of z ≡ t) × IsSourcesOf v' z
      at t z h (inl e) =
          let same : y ≡ z = (let f : Some y ≡ Some z = sym (get_set bs s y (slice_get_within bs s x there)) ∙ ap (slice_get (set bs s y)) (sym e) ∙ h in cc) in
          subst (λ (w : Buffer). (number_of w ≡ t) × IsSourcesOf v' w) same (goes.number ∙ (bench.sources s x there).0 ∙ sym e, sources)
      at t z h (inr ne) =
          let old = bench.sources t z (sym (get_other bs s t y ne) ∙ h) in
          (old.0, (others z old.1).sources)
