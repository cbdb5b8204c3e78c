-- What pieces that are written one after another come to.
use Rattle.std.proofs.Common.{◌≡◌, ◌∙◌, ℕ, List, ◌++◌, Option, Some, None, ap, subst, append_assoc}
use Rattle.mix_io.specs.Contents.{Appends}

-- a piece that is appended, and a line after it, are appended together
pub one_more : (before now after : Option (List ℕ)) (done line : List ℕ) → Appends before now done → Appends now after line → Appends before after (done ++ line)
one_more None now after done line h k = subst (λ (o : Option (List ℕ)). Appends o after line) h k
one_more (Some b) now after done line h k =
    let after_is : after ≡ Some ((b ++ done) ++ line) = subst (λ (o : Option (List ℕ)). Appends o after line) h k in
    after_is ∙ ap Some (append_assoc b done line)
