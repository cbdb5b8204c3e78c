use Rattle.std.proofs.Common.{◌≡◌, ◌<◌, ◌∙◌, sym, ap, subst, ℕ, true, List, [], Option, Some, None, length, map, position, take}
use Rattle.std.specs.Prelude.{IfSome, is_none, nat_lt, slice_index_or, false}
use Rattle.smallvec.specs.SmallVec.{SmallVec}
use Rattle.lazy_binding.specs.declared.key.KeyPart.{KeyPart}
use Rattle.lazy_binding.specs.Keys.{same_parts, was_seen}
use Rattle.lazy_binding.proofs.SeenLists.{seen_at_place, seen_nowhere, seen_alone}
use Rattle.lazy_binding.proofs.key.SeenKeys.number_of.Goals as goal

module _ (key : List KeyPart) (ks : List (SmallVec KeyPart)) (self : List (List KeyPart)) (view : map (λ k. k.items) ks ≡ self) where
  -- a key that is at no place was not seen
  none_at : (r : Option ℕ) → position (λ k. same_parts key k.items) ks ≡ r → is_none r ≡ true → (few : ℕ) → was_seen key (take few self) ≡ false
  none_at None e h = λ few. ap (λ (z : List (List KeyPart)). was_seen key (take few z)) (sym view) ∙ sym (seen_nowhere key ks few e)
  none_at (Some m) e h = cc

  -- a key at its place was seen exactly by those that count further
  some_at : (r : Option ℕ) → position (λ k. same_parts key k.items) ks ≡ r → IfSome r (λ m. (few : ℕ) → nat_lt m few ≡ was_seen key (take few self))
  some_at None e = tt
  some_at (Some m) e = λ few. seen_at_place key ks few m e ∙ ap (λ (z : List (List KeyPart)). was_seen key (take few z)) view

pub returns-clause-none : goal.returns-clause-none
returns-clause-none c = none_at c.args.key.now.items c.self.inside.keys.keys c.args.self.now c.self.view_is c.get_index_of.result (sym c.get_index_of.ensures.index)

pub returns-clause-some : goal.returns-clause-some
returns-clause-some c = some_at c.args.key.now.items c.self.inside.keys.keys c.args.self.now c.self.view_is c.get_index_of.result (sym c.get_index_of.ensures.index)

pub returns-clause-alone : goal.returns-clause-alone
returns-clause-alone c = subst (λ (z : List (List KeyPart)). (j : ℕ) → j < length z → same_parts (slice_index_or z j []) c.args.key.now.items ≡ true → was_seen c.args.key.now.items (take j z) ≡ false) c.self.view_is (seen_alone c.args.key.now.items c.self.inside.keys.keys c.len.ensures.unique)
