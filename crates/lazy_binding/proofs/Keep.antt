-- What is kept over calls: documents, told sources, places, bounds and keys that were seen.
use Rattle.std.proofs.Common.{◌≡◌, ◌<◌, ◌+◌, ℕ, zero, suc, Bool, true, false, List, [], length, refl, ◌∙◌, sym, ap, arith}
use Rattle.std.specs.Prelude.{nat_lt, cond}
use Rattle.std.proofs.lemmas.Bool.Decides.{nat_tests}
use Rattle.mix_tree.specs.Forest.{none}
use Rattle.std.specs.List.{list_all}
use Rattle.lxp_core.specs.View.{View, document, Keeps as KeepsView}
use Rattle.tree_buffer.specs.declared.buffer.Buffer.{Buffer}
use Rattle.tree_buffer.specs.declared.spot.Spot.{Spot}
use Rattle.tree_buffer.specs.Buffer.{Goes, place_of}
use Rattle.lxp_core.proofs.Views.{keeps_same as keeps_view_same, keeps_twice}
use Rattle.plan_core.specs.Plans.{Operator}
use Rattle.lazy_binding.specs.Bench.{IsBench}
use Rattle.lazy_binding.specs.World.{World, world, docs_of, reads, is_told, is_forward, of_buffer, place_in, spot_node, IsSpotIn, roots_weight, bound_of}
use Rattle.lazy_binding.specs.Keeping.{Keeps, FoundStay}
use Rattle.lazy_binding.specs.declared.parts.Walked.{Walked}

-- a list of tests that agree has one answer
reads-same : (f g : ℕ → Bool) → ((s : ℕ) → f s ≡ g s) → (ops : List Operator) → list_all (reads f) ops ≡ list_all (reads g) ops
reads-same f g h ops = ap (λ (t : ℕ → Bool). list_all (reads t) ops) (λ i s. h s i)

module _ {a b : World} (k : Keeps a b) (ops : List Operator) where
  -- the sources of the operators are told after a call exactly where they were before
  pub told-kept : is_told b ops ≡ is_told a ops
  told-kept = reads-same b.view.told a.view.told k.view.told ops

  -- the sources of the operators are forward after a call exactly where they were before
  pub forward-kept : is_forward b ops ≡ is_forward a ops
  forward-kept = reads-same b.view.forward a.view.forward k.view.forward ops

-- the weights of the roots of the sources below n are the same after a call
roots_kept : (a b : View) → KeepsView a b → (n : ℕ) → ((s : ℕ) → s < n → a.knows s (a.root s) ≡ true) → roots_weight b n ≡ roots_weight a n
roots_kept a b k zero h = refl
roots_kept a b k (suc n) h =
    let w : b.weight n (b.root n) ≡ a.weight n (a.root n) = ap (b.weight n) (k.root n) ∙ k.weight n (a.root n) (h n (omega arith)) in
    let rest : roots_weight b n ≡ roots_weight a n = roots_kept a b k n (λ s l. h s (omega (arith, l))) in
    ap (λ (x : ℕ). x + roots_weight b n) w ∙ ap (λ (x : ℕ). a.weight n (a.root n) + x) rest

module _ {a b : World} (k : Keeps a b) where
  -- the sources tell the same documents
  pub docs_kept : (ops : List Operator) → IsBench a ops → docs_of b ≡ docs_of a
  docs_kept ops h = λ i s. at s i
    where
      within : (s : ℕ) (t : Bool) → nat_lt s a.view.count ≡ t → cond t (document b.view s) none ≡ cond t (document a.view s) none
      within s true e = ap (b.view.forest s) (k.view.root s) ∙ k.view.forest s (a.view.root s) (h.roots s (grind (arith, nat_tests, e)))
      within s false e = refl

      at : (s : ℕ) → docs_of b s ≡ docs_of a s
      at s = ap (λ (n : ℕ). cond (nat_lt s n) (document b.view s) none) k.view.count ∙ within s (nat_lt s a.view.count) refl

  -- the number that no cursor of a visit exceeds is the same after a call
  pub bound_kept : (ops : List Operator) → IsBench a ops → bound_of b ≡ bound_of a
  bound_kept ops h =
      ap (roots_weight b.view) k.buffers
      ∙ roots_kept a.view b.view k.view (length a.buffers) (λ s l. h.roots s (omega (arith, l, h.few)))

  -- a spot of a source's buffer is one still
  pub spot_kept : (s : ℕ) (x : Spot) → IsSpotIn a s x → IsSpotIn b s x
  spot_kept s x h = let g = k.goes s h.buffer h.there in record { buffer = g.later; there = g.there; spot = g.goes.spot x h.spot }

  -- a spot of a source's buffer stands at the same place after a call
  pub place_kept : (s : ℕ) (x : Spot) → IsSpotIn a s x → place_in b s x ≡ place_in a s x
  place_kept s x h =
      let g = k.goes s h.buffer h.there in
      ap (of_buffer [] (λ c. place_of c x)) g.there ∙ g.goes.place x h.spot ∙ sym (ap (of_buffer [] (λ c. place_of c x)) h.there)

  -- a spot of a source's buffer stands at the same node after a call
  pub node_kept : (s : ℕ) (x : Spot) → IsSpotIn a s x → spot_node b s x ≡ spot_node a s x
  node_kept s x h = ap (λ (p : List ℕ). record { source = s; place = p }) (place_kept s x h)

-- a buffer that nothing was asked of goes on
pub goes_idle : (v : View) (b : Buffer) → Goes v b v b
goes_idle v b = record {
  number = refl;
  told = refl;
  forward = refl;
  document = refl;
  more = omega arith;
  spot = λ x i. i;
  place = λ x i. refl;
  label = λ x i. refl;
  below = λ x i. omega arith;
  after = λ x i. omega arith;
  children = λ x i c. c;
  siblings = λ x i c. c;
}

-- a buffer that goes on, and then goes on again, goes on from the first to the last
goes_twice : {u v w : View} {x y z : Buffer} → Goes u x v y → Goes v y w z → Goes u x w z
goes_twice g h = record {
  number = h.number ∙ g.number;
  told = h.told ∙ g.told;
  forward = h.forward ∙ g.forward;
  document = h.document ∙ g.document;
  more = omega (arith, g.more, h.more);
  spot = λ x i. h.spot x (g.spot x i);
  place = λ x i. h.place x (g.spot x i) ∙ g.place x i;
  label = λ x i. h.label x (g.spot x i) ∙ g.label x i;
  below = λ x i. omega (arith, h.below x (g.spot x i), g.below x i);
  after = λ x i. omega (arith, h.after x (g.spot x i), g.after x i);
  children = λ x i c. h.children x (g.spot x i) (g.children x i c);
  siblings = λ x i c. h.siblings x (g.spot x i) (g.siblings x i c);
}

-- where groups were walked on, all else is as it was
pub keeps_walked : (w : World) (walked : Walked) → FoundStay w (world w.view w.buffers w.seen w.memos walked) → Keeps w (world w.view w.buffers w.seen w.memos walked)
keeps_walked w walked stay = record {
  view = keeps_view_same w.view;
  buffers = refl;
  goes = λ s b there. record { later = b; there = there; goes = goes_idle w.view b };
  lists = refl;
  longer = λ n. omega arith;
  seen = λ n k l. refl;
  memos = refl;
  more = λ n. omega arith;
  members = λ n k l. refl;
  found = stay;
}

-- where nothing is called, what every call keeps is kept
pub keeps_same : (w : World) (ops : List Operator) → IsBench w ops → Keeps w w
keeps_same w ops h = keeps_walked w w.walked (λ n number place c f. f)

-- where two calls each keep what every call keeps, both together do
pub keeps_then : {a b c : World} → Keeps a b → Keeps b c → Keeps a c
keeps_then {a} {b} {c} k l = record {
  view = keeps_twice a.view b.view c.view k.view l.view;
  buffers = l.buffers ∙ k.buffers;
  goes = λ s x there.
      let g = k.goes s x there in
      let h = l.goes s g.later g.there in
      record { later = h.later; there = h.there; goes = goes_twice g.goes h.goes };
  lists = l.lists ∙ k.lists;
  longer = λ n. omega (arith, k.longer n, l.longer n);
  seen = λ n j h. l.seen n j (omega (arith, h, k.longer n)) ∙ k.seen n j h;
  memos = l.memos ∙ k.memos;
  more = λ n. omega (arith, k.more n, l.more n);
  members = λ n j h. l.members n j (omega (arith, h, k.more n)) ∙ k.members n j h;
  found = λ n number place c f. l.found n number place c (k.found n number place c f);
}
