-- Bytes that are taken of an input, one piece after another.
use Rattle.std.proofs.Common.{◌∙◌, ℕ, List, [], ◌++◌, Option, Some, None, refl, ap, sym, subst, arith, append_assoc, length-append}
use Rattle.mix_io.specs.Input.{InputView, Gone, Took}

-- where nothing was taken of an input, no bytes are gone
gone_none : (left : Option (List ℕ)) → Gone left left []
gone_none None = refl
gone_none (Some left) = (left, refl, refl)

-- where nothing was taken of an input, no bytes are counted
pub took_none : (input : InputView) → Took input input []
took_none input = record { gone = gone_none input.left; counted = omega arith }

-- bytes that are gone and then more of them are gone together
gone_more : (old between new : Option (List ℕ)) (bytes more : List ℕ) → Gone old between bytes → Gone between new more → Gone old new (bytes ++ more)
gone_more None between new bytes more first second = subst (λ (o : Option (List ℕ)). Gone o new more) first second
gone_more (Some left) between new bytes more first second =
    let then : Gone (Some first.0) new more = subst (λ (o : Option (List ℕ)). Gone o new more) first.2 second in
    (then.0, first.1 ∙ ap (λ r. bytes ++ r) then.1 ∙ sym (append_assoc bytes more then.0), then.2)

-- bytes that were taken and then more of them were taken together
pub took_more : (old between new : InputView) (bytes more : List ℕ) → Took old between bytes → Took between new more → Took old new (bytes ++ more)
took_more old between new bytes more first second = record {
  gone = gone_more old.left between.left new.left bytes more first.gone second.gone;
  counted = omega (arith, first.counted, second.counted, length-append bytes more);
}
