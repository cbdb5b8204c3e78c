-- Bytes that are passed over.
use Rattle.std.proofs.Common.{◌≡◌, ℕ, zero, suc, ◌+◌, List, [], ◌∷◌, length, ap, arith}
use Rattle.wire_frame.specs.Standing.{after, before_label, before_rest}

-- bytes of a label are passed over
pub label_passed : (left more trees : ℕ) (x : List ℕ) → length x + more ≡ left → after (before_label left trees) x ≡ before_label more trees
label_passed left more trees [] e = let f : left ≡ more = omega (arith, e) in ap (λ n. before_label n trees) f
label_passed zero more trees (b ∷ x) e = absurd (omega (arith, e))
label_passed (suc left) more trees (b ∷ x) e = label_passed left more trees x (omega (arith, e))

-- bytes of a hole or of the number of sources are passed over
pub rest_passed : (left more trees : ℕ) (x : List ℕ) → length x + more ≡ left → after (before_rest left trees) x ≡ before_rest more trees
rest_passed left more trees [] e = let f : left ≡ more = omega (arith, e) in ap (λ n. before_rest n trees) f
rest_passed zero more trees (b ∷ x) e = absurd (omega (arith, e))
rest_passed (suc left) more trees (b ∷ x) e = rest_passed left more trees x (omega (arith, e))
