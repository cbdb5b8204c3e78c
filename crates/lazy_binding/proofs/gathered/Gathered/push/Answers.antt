use Rattle.std.proofs.Common.{◌≡◌, ◌<◌, inl, inr, ◌∙◌, ◌∷◌, [], ◌++◌, ap, sym, subst, refl, ℕ, true, List, length, take, arith}
use Rattle.std.specs.Prelude.{is_none, nat_lt, slice_index_or, false}
use Rattle.std.specs.declared.alloc.Global.{Global}
use Rattle.std.specs.declared.rc.Rc.{Rc}
use Rattle.std.proofs.Math.Seq.{take-length}
use Rattle.lazy_binding.specs.declared.key.KeyPart.{KeyPart}
use Rattle.lazy_binding.specs.declared.position.Position.{Position}
use Rattle.lazy_binding.specs.Gathered.{Gathered, GoesTo, IsJoined, IsBegun}
use Rattle.lazy_binding.specs.Keys.{same_parts, was_seen}
use Rattle.lazy_binding.proofs.gathered.Gathered.push.Goals as goal

module _ (old view now : Gathered) (is : view ≡ old) (seen : List (List KeyPart)) (key : List KeyPart) (r : Rc Position Global) (last : now.last ≡ r.value) (ended : now.ended ≡ view.ended) where
  -- where the key has a number, the binding joins the group of that number
  joined : (k : ℕ) → k < length seen → length old.groups ≡ length seen → ((few : ℕ) → nat_lt k few ≡ was_seen key (take few seen))
      → ((j : ℕ) → j < length seen → same_parts (slice_index_or seen j []) key ≡ true → was_seen key (take j seen) ≡ false) → IsJoined view.groups now.groups k r → GoesTo old now seen seen key r
  joined k within count known alone one_more = record {
    member = inl (k, refl, record { within = omega (arith, within, count); known = known; alone = alone; joined = subst (λ (z : Gathered). IsJoined z.groups now.groups k r) is one_more });
    last = last;
    goes_on = ended ∙ ap (λ (z : Gathered). z.ended) is;
  }

  -- a key that is new begins a group
  begun : (later : List (List KeyPart)) → was_seen key (take (length seen) seen) ≡ false → later ≡ seen ++ key ∷ [] → IsBegun view.groups now.groups r → GoesTo old now seen later key r
  begun later fresh pushed first = record {
    member = inr (record { fresh = sym (ap (was_seen key) (take-length seen)) ∙ fresh; pushed = pushed; begun = subst (λ (z : Gathered). IsBegun z.groups now.groups r) is first });
    last = last;
    goes_on = ended ∙ ap (λ (z : Gathered). z.ended) is;
  }

pub returns-in_default-clause-ok : goal.returns-in_default-clause-ok
returns-in_default-clause-ok c = (
  c.in_ok-member.member,
  c.in_ok-member.ensures.ok,
  begun c.args.self.now _ _ c.self.view_is c.args.seen.now c.args.key.items c.in_ok-member.member (sym c.in_ok-member.ensures.ok) refl c.begin_group.new.seen
      (c.number_of.ensures.none (ap is_none c.in_default.is) (length c.args.seen.now)) c.in_ok-begin_group.ensures.pushed c.in_ok-begin_group.ensures.ok,
)

pub returns-clause-ok : goal.returns-clause-ok
returns-clause-ok c = (
  c.in_ok-member.member,
  c.in_ok-member.ensures.ok,
  joined c.args.self.now _ _ c.self.view_is c.args.seen.now c.args.key.items c.in_ok-member.member (sym c.in_ok-member.ensures.ok) refl c.in-Some.number
      c.in-Some.ensures.within c.requires c.in-Some.ensures.some c.in-Some.ensures.alone c.in_ok-join_group.ensures.ok,
)
