-- No stream of requests has two ends.
use Rattle.std.proofs.Common.{◌≡◌, inl, inr, ℕ, List, [], ◌∷◌, ◌++◌, length, refl, sym, ap, subst, ◌∙◌, arith}
use Rattle.mix_base.proofs.Lists.{append_nil}
use Rattle.mix_io.specs.Input.{InputView}
use Rattle.lxp_wire.specs.Stream.{IsBadTag}
use Rattle.lxp_wire.proofs.Streams.{splits_one}
use Rattle.wire_text.specs.Request.{IsPrefixOfRequest, request_bytes}
use Rattle.mix_serve.specs.Ends.{EndsAreApart, IsEnd}
use Rattle.mix_serve.specs.declared.serving.Served.{Served}
use Rattle.mix_serve.specs.declared.serving.Served.TheVariants.{Whole, Broken, TooLong}
use Rattle.mix_serve.proofs.Joined.{not_bad}

-- a bad tag is one with more after it
bad_more : (x y : List ℕ) → IsBadTag x → IsBadTag (x ++ y)
bad_more [] y b = absurd (omega (arith, b.0))
bad_more (n ∷ x) y b = (omega arith, b.1)

-- a part of a request is no bad tag
prefix_not_bad : (x : List ℕ) → IsPrefixOfRequest x → IsBadTag x → ⊥
prefix_not_bad x f b = not_bad f.1 [] (subst IsBadTag (f.3.1 ∙ sym (append_nil (request_bytes f.1))) (bad_more x f.0 b))

-- what is whole isn't broken
whole_not_broken : (input : InputView) (bytes rest : List ℕ) → IsEnd input bytes rest Whole → IsEnd input bytes rest Broken → ⊥
whole_not_broken input bytes rest w (inl b) = omega (arith, b.0, ap length w.0)
whole_not_broken input bytes rest w (inr p) = omega (arith, p.0, ap length w.0)

-- what is broken isn't too long
broken_not_long : (input : InputView) (bytes rest : List ℕ) → IsEnd input bytes rest Broken → IsEnd input bytes rest TooLong → ⊥
broken_not_long input bytes rest (inl b) l = prefix_not_bad rest l.0 b
broken_not_long input bytes rest (inr p) l = omega (arith, p.2.0, l.1)

-- with the same rest there is one end
ends_one : (input : InputView) (bytes rest : List ℕ) (end other : Served) → IsEnd input bytes rest end → IsEnd input bytes rest other → end ≡ other
ends_one input bytes rest Whole Whole h k = refl
ends_one input bytes rest Whole Broken h k = absurd (whole_not_broken input bytes rest h k)
ends_one input bytes rest Whole TooLong h k = absurd (omega (arith, h.1.0, k.1))
ends_one input bytes rest Broken Whole h k = absurd (whole_not_broken input bytes rest k h)
ends_one input bytes rest Broken Broken h k = refl
ends_one input bytes rest Broken TooLong h k = absurd (broken_not_long input bytes rest h k)
ends_one input bytes rest TooLong Whole h k = absurd (omega (arith, k.1.0, h.1))
ends_one input bytes rest TooLong Broken h k = absurd (broken_not_long input bytes rest k h)
ends_one input bytes rest TooLong TooLong h k = refl

-- a stream has one rest, and so one end
pub ends_apart : EndsAreApart
ends_apart input bytes requests others rest left end other cut cut' h k =
    ends_one input bytes rest end other h (subst (λ r. IsEnd input bytes r other) (sym (splits_one bytes requests others rest left cut cut').1) k)
