-- The members that a memo gives at its places.
use Rattle.std.proofs.Common.{◌≡◌, ◌<◌, ◌-◌, ℕ, zero, suc, List, [], ◌∷◌, Some, None, length, take, slice_get, option_map, refl, ◌∙◌, sym, ap, arith}
use Rattle.std.specs.declared.alloc.Global.{Global}
use Rattle.std.specs.declared.rc.Rc.{Rc}
use Rattle.mix_base.proofs.Choices.{some_is}
use Rattle.lazy_binding.specs.declared.position.Position.{Position, Start}
use Rattle.lazy_binding.specs.World.{Member, last_of, passed}
use Rattle.lazy_binding.proofs.FirstLists.{take_all}

-- where no members were passed, the last position is the one before them
pub none_passed : (at : Position) (ms : List Member) → last_of at (take zero ms) ≡ at
none_passed at [] = refl
none_passed at (m ∷ ms) = refl

-- the item that a memo gives at a place is the last member once those up to it were passed
pub item_is : (ms : List Member) (p : ℕ) (q : Rc Position Global) → Some q ≡ option_map (λ (m : Member). m.1) (slice_get ms p) → passed ms (suc p) ≡ q.value
item_is ms p q h = at Start ms p h
  where
    at : (at : Position) (ms : List Member) (p : ℕ) → Some q ≡ option_map (λ (m : Member). m.1) (slice_get ms p) → last_of at (take (suc p) ms) ≡ q.value
    at x [] p h = cc
    at x (m ∷ ms) zero h = none_passed m.1.value ms ∙ ap (λ (z : Rc Position Global). z.value) (sym (some_is q m.1 h))
    at x (m ∷ ms) (suc p) h = at m.1.value ms p h

-- a memo gives an item at each place of a member
pub item_there : (ms : List Member) (p : ℕ) → p < length ms → None ≡ option_map (λ (m : Member). m.1) (slice_get ms p) → ⊥
item_there [] p l h = omega (arith, l)
item_there (m ∷ ms) zero l h = cc
item_there (m ∷ ms) (suc p) l h = item_there ms p (omega (arith, l)) h

-- the item that a memo gives at its last place is its last member
pub item_last : (ms : List Member) (p : ℕ) (q : Rc Position Global) → p ≡ length ms - 1 → Some q ≡ option_map (λ (m : Member). m.1) (slice_get ms p) → q.value ≡ last_of Start ms
item_last [] p q e h = cc
item_last (m ∷ ms) p q e h = sym (item_is (m ∷ ms) p q h) ∙ ap (last_of Start) (take_all (m ∷ ms) (suc p) (omega (arith, e)))

-- a memo that gives no item at its last place has no members
pub item_none : (ms : List Member) (p : ℕ) → p ≡ length ms - 1 → None ≡ option_map (λ (m : Member). m.1) (slice_get ms p) → last_of Start ms ≡ Start
item_none [] p e h = refl
item_none (m ∷ ms) p e h = absurd (item_there (m ∷ ms) p (omega (arith, e)) h)
