-- A list of keys that grows keeps what every call keeps.
use Rattle.std.proofs.Common.{◌≡◌, ◌≤◌, ◌⊎◌, inl, inr, ℕ, List, [], ◌∷◌, length, take, refl, ◌∙◌, sym, ap, subst, arith, length-append}
use Rattle.std.specs.Prelude.{slice_index_or}
use Rattle.std.proofs.lemmas.Bool.{cases_eq}
use Rattle.lxp_core.proofs.Views.{keeps_same as keeps_view_same}
use Rattle.lazy_binding.specs.declared.key.KeyPart.{KeyPart}
use Rattle.lazy_binding.specs.declared.parts.Walked.{Walked}
use Rattle.lazy_binding.specs.World.{World, world, seen_at}
use Rattle.lazy_binding.specs.Keeping.{Keeps, FoundStay}
use Rattle.lazy_steps.specs.Steps.{GrowsAt}
use Rattle.lazy_binding.proofs.FirstLists.{take_prefix}
use Rattle.lazy_binding.proofs.Keep.{goes_idle}

-- the keys of one operator as they were, or with one more, where groups were walked on
pub grows_keeps : (b : World) (seen : List (List (List KeyPart))) (walked : Walked) (n : ℕ) (key : List KeyPart) → GrowsAt b.seen seen n key → FoundStay b (world b.view b.buffers seen b.memos walked)
    → Keeps b (world b.view b.buffers seen b.memos walked)
grows_keeps b seen walked n key g stay = record {
  view = keeps_view_same b.view;
  buffers = refl;
  goes = λ s x there. record { later = x; there = there; goes = goes_idle b.view x };
  lists = g.lists;
  longer = λ j. longer_at j (cases_eq j n);
  seen = λ j k h. seen_there j k h (cases_eq j n);
  memos = refl;
  more = λ j. omega arith;
  members = λ j k h. refl;
  found = stay;
}
  where
    longer_at : (j : ℕ) → (j ≡ n) ⊎ (j ≡ n → ⊥) → length (seen_at b j) ≤ length (slice_index_or seen j [])
    longer_at j (inl z) =
        subst (λ (m : ℕ). length (seen_at b m) ≤ length (slice_index_or seen m [])) (sym z)
        (elim g.here [ inl y ↦ omega (arith, ap length y) | inr y ↦ omega (arith, ap length y, length-append (seen_at b n) (key ∷ [])) ])
    longer_at j (inr ne) = omega (arith, ap length (g.others j ne))

    seen_there : (j k : ℕ) → k ≤ length (seen_at b j) → (j ≡ n) ⊎ (j ≡ n → ⊥) → take k (slice_index_or seen j []) ≡ take k (seen_at b j)
    seen_there j k h (inl z) =
        let l : k ≤ length (seen_at b n) = subst (λ (m : ℕ). k ≤ length (seen_at b m)) z h in
        subst (λ (m : ℕ). take k (slice_index_or seen m []) ≡ take k (seen_at b m)) (sym z)
        (elim g.here [ inl y ↦ ap (take k) y | inr y ↦ ap (take k) y ∙ take_prefix (seen_at b n) (key ∷ []) k l ])
    seen_there j k h (inr ne) = ap (take k) (g.others j ne)
