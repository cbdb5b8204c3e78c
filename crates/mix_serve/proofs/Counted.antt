-- Replies that a source failed are counted by the source.
use Rattle.std.proofs.Common.{◌≡◌, ◌≤◌, ◌+◌, ◌==◌, ◌&&◌, ℕ, Bool, true, false, cond, List, [], ◌∷◌, refl, ap, subst, arith}
use Rattle.std.proofs.lemmas.Bool.Decides.{nat_tests}
use Rattle.mix_base.specs.Counts.{HasRisen, HasRisenBy}
use Rattle.lxp_core.specs.View.{View}
use Rattle.lxp_wire.specs.Answer.{AreAnswers, IsAnswer}
use Rattle.wire_text.specs.declared.request.Request.{Request}
use Rattle.wire_text.specs.declared.request.Request.TheVariants.{Count, Root, Fill}
use Rattle.wire_text.specs.Reply.{Said, count, root, list, failed, unknown_hole, no_memory, no_source}
use Rattle.mix_serve.specs.Failures.{asks, failures, is_failed}

-- a count that rose where a test holds has risen by one where it holds, and else by nothing
risen_where : (b : Bool) (before now : ℕ) → before ≤ now → (b ≡ true → HasRisen before now) → HasRisenBy (cond b 1 0) before now
risen_where true before now h rose = rose refl
risen_where false before now h rose = omega (arith, h)

-- numbers that test as equal are equal
same : (n s : ℕ) → (n == s) ≡ true → n ≡ s
same n s e = grind (arith, nat_tests)

-- a reply to a request for a list says that the source failed only where its count rose
failed_once : (old new : View) (r : Request) (a : Said) → IsAnswer old new r a → (s : ℕ) → HasRisenBy (cond (is_failed a && asks s r) 1 0) (old.faults s) (new.faults s)
failed_once old new r a is s = risen_where (is_failed a && asks s r) (old.faults s) (new.faults s) (is.keeps.faults s) (rose r a is)
  where
    rose : (r : Request) (a : Said) → IsAnswer old new r a → is_failed a && asks s r ≡ true → HasRisen (old.faults s) (new.faults s)
    rose Count failed is e = absurd cc
    rose (Root source) failed is e = absurd cc
    rose (Fill source hole) failed is e = subst (λ n. HasRisen (old.faults n) (new.faults n)) (same source s e) is.answers.2
    rose r (count n) is e = absurd cc
    rose r (root id weight) is e = absurd cc
    rose r (list o) is e = absurd cc
    rose r unknown_hole is e = absurd cc
    rose r no_memory is e = absurd cc
    rose r no_source is e = absurd cc

-- a count that rose so many times and then so many more rose by both
risen_twice : (m n a b c : ℕ) → HasRisenBy m a b → HasRisenBy n b c → HasRisenBy (m + n) a c
risen_twice m n a b c h k = omega (arith, h, k)

-- of each source at most as many replies say that it failed as its count of faults rose
pub failures_counted : (old new : View) (requests : List Request) (said : List Said) → AreAnswers old new requests said → (s : ℕ) → HasRisenBy (failures s requests said) (old.faults s) (new.faults s)
failures_counted old new [] [] h s = omega (arith, ap (λ (v : View). v.faults s) h)
failures_counted old new [] (a ∷ said) h s = absurd h
failures_counted old new (r ∷ rs) [] h s = absurd h
failures_counted old new (r ∷ rs) (a ∷ said) h s =
    risen_twice (cond (is_failed a && asks s r) 1 0) (failures s rs said) (old.faults s) (h.0.faults s) (new.faults s) (failed_once old h.0 r a h.1 s) (failures_counted h.0 new rs said h.2 s)
