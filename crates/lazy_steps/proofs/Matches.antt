-- What a call of a visit leaves and answers.
use Rattle.std.proofs.Common.{◌≡◌, ◌<◌, ◌≤◌, ◌⊎◌, inl, inr, ℕ, zero, suc, List, [], Option, Some, None, length, set, ◌∙◌, sym, ap, subst, arith}
use Rattle.std.specs.Prelude.{slice_get, slice_index_or, IfSome, Result, Ok, Err, IfOk}
use Rattle.std.proofs.lemmas.Option.{slice_get_within}
use Rattle.std.proofs.lemmas.Bool.{cases_eq}
use Rattle.std.specs.declared.alloc.Global.{Global}
use Rattle.std.specs.declared.rc.Rc.{Rc}
use Rattle.join_memo.specs.Kept.{Kept}
use Rattle.mix_base.specs.Events.{Event, finds, found, cost}
use Rattle.lazy_descend.specs.Searches.{AsksAtMost}
use Rattle.mix_tree.specs.Forest.{Forest, none, tree}
use Rattle.path_auto.specs.Automaton.{Machine}
use Rattle.path_auto.specs.Visit.{visit_below}
use Rattle.lxp_core.specs.View.{View, Keeps as KeepsView}
use Rattle.tree_buffer.specs.declared.buffer.Buffer.{Buffer}
use Rattle.tree_buffer.specs.declared.spot.Spot.{Spot}
use Rattle.tree_buffer.specs.Document.{document_node}
use Rattle.tree_buffer.specs.Buffer.{IsSpot, IsSourceOf, Ran, number_of, place_of, below}
use Rattle.lazy_descend.specs.declared.cursor.DescCursor.{DescCursor}
use Rattle.lazy_descend.specs.Cursors.{IsCursor, place_at, ahead as ahead_of, number as number_of_match, Answers, AsksWithin}
use Rattle.plan_core.specs.Plans.{Operator}
use Rattle.lazy_binding.specs.declared.key.KeyPart.{KeyPart}
use Rattle.lazy_binding.specs.declared.parts.Walked.{Walked}
use Rattle.lazy_binding.specs.declared.position.Position.{Position}
use Rattle.lazy_binding.specs.Bench.{IsBench}
use Rattle.lazy_binding.specs.Gathered.{no_groups}
use Rattle.lazy_binding.specs.World.{World, world, no_pairs, docs_of, of_buffer, place_in, IsSpotIn, IsMatchIn, match_place, match_ahead, match_number, roots_weight, bound_of}
use Rattle.lazy_binding.specs.Cursors.{IsRead}
use Rattle.lazy_binding.specs.Keeping.{Keeps}
use Rattle.lazy_binding.specs.declared.parts.Growing.{Growing}
use Rattle.lazy_binding.specs.Parts.{world_of}
use Rattle.lxp_core.specs.Causes as Causes
use Rattle.lxp_core.specs.declared.fault.WalkFault.{WalkFault}
use Rattle.lxp_core.proofs.Causes.{cause_since}
use Rattle.lazy_steps.specs.Steps.{Asked, GivesMatch, HasCause, telling}
use Rattle.lazy_binding.proofs.Labels.{told_read, forward_read, source_within}
use Rattle.lazy_binding.proofs.Buffers.{get_set, buffer_keeps, buffer_bench}

-- the root of each source weighs at most as much as all
pub root_light : (v : View) (s n : ℕ) → s < n → v.weight s (v.root s) ≤ roots_weight v n
root_light v s zero h = absurd (omega (arith, h))
root_light v s (suc n) h = cases (cases_eq s n) (λ l. root_light v s n l)
  where
    cases : (s ≡ n) ⊎ (s ≡ n → ⊥) → (s < n → v.weight s (v.root s) ≤ roots_weight v n) → v.weight s (v.root s) ≤ roots_weight v (suc n)
    cases (inl e) below = let w = ap (λ (m : ℕ). v.weight m (v.root m)) e in omega (arith, w)
    cases (inr ne) below = let l = below (omega (arith, h, ne)) in omega (arith, l)

-- what lies below a spot weighs no more than all roots
pub spot_light : (w : World) (ops : List Operator) → IsBench w ops → (s : ℕ) (x : Spot) (k : IsSpotIn w s x) → below w.view k.buffer x ≤ bound_of w
spot_light w ops bench s x k =
    let z = bench.sources s k.buffer k.there in
    let l = z.1.light x k.spot in
    let e = ap (λ (m : ℕ). w.view.weight m (w.view.root m)) z.0 in
    let r = root_light w.view s (length w.buffers) (slice_get_within w.buffers s k.buffer k.there) in
    omega (arith, l, e, r)

-- the events of a visit below a spot, by the documents of the bench
pub visit_same : (w : World) (ops : List Operator) → IsBench w ops → (s : ℕ) (x : Spot) (k : IsSpotIn w s x) (m n : Machine) → n ≡ m
    → visit_below m (document_node w.view (number_of k.buffer)) (place_of k.buffer x) ≡ visit_below n (tree [] (docs_of w s) none) (place_in w s x)
visit_same w ops bench s x k m n e =
    ap (λ (z : ℕ). visit_below m (document_node w.view z) (place_of k.buffer x)) (bench.sources s k.buffer k.there).0
    ∙ ap (λ (f : Forest). visit_below m (tree [] f none) (place_of k.buffer x)) (sym (source_within w ops bench s k.buffer k.there))
    ∙ ap (visit_below m (tree [] (docs_of w s) none)) (sym (ap (of_buffer [] (λ (b : Buffer). place_of b x)) k.there))
    ∙ ap (λ (z : Machine). visit_below z (tree [] (docs_of w s) none) (place_in w s x)) (sym e)

-- the events of a visit after a match in a source's buffer are those after that match in the world
pub ahead_same : (w : World) (s : ℕ) (d : DescCursor) (k : IsMatchIn w s d) (m n : Machine) → n ≡ m → ahead_of w.view k.buffer m d ≡ match_ahead w s n d
ahead_same w s d k m n e =
    ap (λ (z : Machine). ahead_of w.view k.buffer z d) (sym e) ∙ sym (ap (of_buffer [] (λ (b : Buffer). ahead_of w.view b n d)) k.there)

-- a call on the buffer of one source
module _ (v v' : View) (bs : List Buffer) (seen : List (List (List KeyPart))) (memos : List (Kept (Rc Position Global))) (walked : Walked) (ops : List Operator) (bench : IsBench (world v bs seen memos walked) ops)
    (s : ℕ) (x y : Buffer) (there : slice_get bs s ≡ Some x) (read : IsRead ops s) where
  -- what a call may cost in the buffer, it may cost here
  pub call_lazy : (es fs : List (Event (List ℕ))) → es ≡ fs → AsksWithin v x v' es
      → AsksAtMost (telling (world v bs seen memos walked) ops) (telling (world v' (set bs s y) seen memos walked) ops) (cost fs)
  call_lazy es fs e asks t f =
      let n = (bench.sources s x there).0 in
      let a = asks (ap v.told n ∙ told_read (world v bs seen memos walked) ops s read t) (ap v.forward n ∙ forward_read (world v bs seen memos walked) ops s read f) in
      let c = ap cost e in
      omega (arith, a, c)

  -- what a call on the buffer of one source answers is the next match in the documents
  pub call_answer : (m : Machine) (es fs : List (Event (List ℕ))) → es ≡ fs → (top : ℕ) (r : Option DescCursor) → IfSome r (IsCursor y)
      → IfSome r (λ d. number_of_match v' y d < top) → Answers v x v' y m es r
      → GivesMatch (world v bs seen memos walked) (world v' (set bs s y) seen memos walked) ops m s fs top r
  call_answer m es fs e top None cursor less answer = λ t.
      ap found (sym e) ∙ answer (ap v.told (bench.sources s x there).0 ∙ told_read (world v bs seen memos walked) ops s read t)
  call_answer m es fs e top (Some d) cursor less answer =
      let here : slice_get (set bs s y) s ≡ Some y = get_set bs s y (slice_get_within bs s x there) in
      record {
        cursor = record { buffer = y; there = here; cursor = cursor };
        row = tt;
        falls = (let z = ap (of_buffer 0 (λ (b : Buffer). number_of_match v' b d)) here in omega (arith, z, less));
        found = λ t.
            ap found (sym e) ∙ answer (ap v.told (bench.sources s x there).0 ∙ told_read (world v bs seen memos walked) ops s read t)
            ∙ ap (λ (p : List ℕ). finds p (ahead_of v' y m d)) (sym (ap (of_buffer [] (λ (b : Buffer). place_at b d)) here))
            ∙ ap (finds (match_place (world v' (set bs s y) seen memos walked) s d))
            (sym (ap (of_buffer [] (λ (b : Buffer). ahead_of v' b m d)) here));
      }

-- a spot of a source is one of the buffer that was read
abbrev pub spot_read : {w : World} {s : ℕ} {x : Spot} (k : IsSpotIn w s x) (z : Buffer) → z ≡ k.buffer → IsSpotIn w s x
spot_read {w} {s} {x} k z e = record { buffer = z; there = k.there ∙ ap Some (sym e); spot = subst (λ (b : Buffer). IsSpot b x) (sym e) k.spot }

-- a cursor of a visit in a source is one of the buffer that was read
abbrev pub match_read : {w : World} {s : ℕ} {d : DescCursor} (k : IsMatchIn w s d) (z : Buffer) → z ≡ k.buffer → IsMatchIn w s d
match_read {w} {s} {d} k z e = record { buffer = z; there = k.there ∙ ap Some (sym e); cursor = subst (λ (b : Buffer). IsCursor b d) (sym e) k.cursor }

-- what a call on the buffer of one source leaves
pub call_asked : {S : Type 0} {view : S → View} {came_from : S → S → Type 0} {ops : List Operator} {es : List (Event (List ℕ))} {s t : S} {g h : Growing} (src : ℕ) (x y : Buffer)
    → IsBench (world_of (view s) g) ops → slice_get g.buffers.items src ≡ Some x → KeepsView (view s) (view t) → Ran view came_from s x t y
    → h.buffers.items ≡ set g.buffers.items src y → h.seen.items ≡ g.seen.items → h.memos.items ≡ g.memos.items → h.walked ≡ g.walked
    → AsksAtMost (telling (world_of (view s) g) ops) (telling (world_of (view t) h) ops) (cost es)
    → Asked view came_from ops es s g t h
call_asked {S} {view} {came_from} {ops} {es} {s} {t} {g} {h} src x y bench there keeps ran bs seen memos walked lazy = record {
  came = ran.came;
  bench = subst (λ (w : World). IsBench w ops) (sym same) (buffer_bench (view s) (view t) g.buffers.items g.seen.items g.memos.items g.walked ops bench keeps src x y there ran.goes ran.sources ran.others);
  kept = subst (λ (w : World). Keeps (world_of (view s) g) w) (sym same) (buffer_keeps (view s) (view t) g.buffers.items g.seen.items g.memos.items g.walked ops bench keeps src x y there ran.goes ran.sources ran.others);
  untouched = λ j. (
    ap (λ (z : List (Kept (Rc Position Global))). slice_index_or z j no_pairs) memos,
    ap (λ (z : List (List (List KeyPart))). slice_index_or z j []) seen,
    ap (λ (z : Walked). slice_index_or z.gathered.items j no_groups) walked,
  );
  lazy = lazy;
}
  where
    same : world_of (view t) h ≡ world (view t) (set g.buffers.items src y) g.seen.items g.memos.items g.walked
    same =
        ap (λ (z : List Buffer). world (view t) z h.seen.items h.memos.items h.walked) bs ∙ ap (λ (z : List (List (List KeyPart))). world (view t) (set g.buffers.items src y) z h.memos.items h.walked) seen
        ∙ ap (λ (z : List (Kept (Rc Position Global))). world (view t) (set g.buffers.items src y) g.seen.items z h.walked) memos
        ∙ ap (world (view t) (set g.buffers.items src y) g.seen.items g.memos.items) walked

-- the first cursor of a visit has a number of at most what may lie below its start
pub less_first : (w : World) (ops : List Operator) → IsBench w ops → (s : ℕ) (x : Spot) (k : IsSpotIn w s x) (v' : View) (y : Buffer) (r : Option DescCursor)
    → IfSome r (λ d. number_of_match v' y d < below w.view k.buffer x) → IfSome r (λ d. number_of_match v' y d < suc (bound_of w))
less_first w ops bench s x k v' y None h = tt
less_first w ops bench s x k v' y (Some d) h = let l = spot_light w ops bench s x k in omega (arith, l, h)

-- the next one has a smaller number
pub less_next : (w : World) (s : ℕ) (d : DescCursor) (k : IsMatchIn w s d) (v' : View) (y : Buffer) (r : Option DescCursor)
    → IfSome r (λ e. number_of_match v' y e < number_of_match w.view k.buffer d) → IfSome r (λ e. number_of_match v' y e < match_number w s d)
less_next w s d k v' y None h = tt
less_next w s d k v' y (Some e) h = let l = ap (of_buffer 0 (λ (b : Buffer). number_of_match w.view b d)) k.there in omega (arith, l, h)

-- a call of a source's buffer is refused for a cause, in a source that is read
pub call_cause : {T : Type 0} (v v' : View) (bs : List Buffer) (seen : List (List (List KeyPart))) (memos : List (Kept (Rc Position Global))) (walked : Walked) (ops : List Operator) → IsBench (world v bs seen memos walked) ops → (s : ℕ) (x : Buffer) → slice_get bs s ≡ Some x
    → IsRead ops s → (r : Result T WalkFault) → Causes.HasCause (IsSourceOf x) v v' r → HasCause ops v v' r
call_cause v v' bs seen memos walked ops bench s x there read r h =
    cause_since (IsSourceOf x) (IsRead ops) v v v' (λ n e. subst (IsRead ops) (sym (e ∙ (bench.sources s x there).0)) read) (λ n. omega arith) r h

-- what follows from three facts about an answer holds of it
pub three_ok : {T E : Type 0} (r : Result T E) (A B C Q : T → Type 0) → ((x : T) → A x → B x → C x → Q x) → IfOk r A → IfOk r B → IfOk r C → IfOk r Q
three_ok (Ok x) A B C Q f a b c = f x a b c
three_ok (Err e) A B C Q f a b c = tt

-- where four facts hold of what a call answers, so does what follows from them
pub four_ok : {T E : Type 0} (r : Result T E) (A B C D Q : T → Type 0) → ((x : T) → A x → B x → C x → D x → Q x) → IfOk r A → IfOk r B → IfOk r C → IfOk r D → IfOk r Q
four_ok (Ok x) A B C D Q f a b c d = f x a b c d
four_ok (Err e) A B C D Q f a b c d = tt
