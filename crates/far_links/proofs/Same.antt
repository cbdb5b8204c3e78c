-- What has the name of a far source has it.
use Rattle.std.proofs.Common.{◌≡◌, ◌∙◌, Bool, true, false, ℕ, List, refl, ap}
use Rattle.std.specs.Prelude.{◌&&◌, ◌==◌}
use Rattle.std.specs.Str.{bytes_eq}
use Rattle.std.proofs.lemmas.Bool.{eq-eqb, eqb-true}
use Rattle.std.proofs.lemmas.Slice.Eq.{bytes_eq-Decides}
use Rattle.mix_tree.proofs.SameKeys.{bytes_eq-refl}
use Rattle.far_keep.specs.declared.far_source.FarSource.{FarSource}
use Rattle.far_keep.specs.Names.{is_same}

-- a far source has its own name
pub same_self : (far : FarSource) → is_same far far ≡ true
same_self far =
    ap (λ b. b && (bytes_eq far.replies far.replies && bytes_eq far.requests far.requests)) (eq-eqb far.number far.number refl)
    ∙ ap (λ b. b && bytes_eq far.requests far.requests) (bytes_eq-refl far.replies) ∙ bytes_eq-refl far.requests

-- texts that are those of two others are the same as these
pub both_same : (a b x y : List ℕ) → a ≡ x → b ≡ y → (bytes_eq a x && bytes_eq b y) ≡ true
both_same a b x y e f =
    ap (λ t. bytes_eq t x && bytes_eq b y) e ∙ ap (λ c. c && bytes_eq b y) (bytes_eq-refl x) ∙ ap (λ t. bytes_eq t y) f ∙ bytes_eq-refl y

-- of two tests that hold together each holds
both_hold : (a b : Bool) → (a && b) ≡ true → (a ≡ true) × (b ≡ true)
both_hold true b e = (refl, e)
both_hold false b e = absurd cc

-- the far source of two files and a number
abbrev named : List ℕ → List ℕ → ℕ → FarSource
named replies requests number = record { replies = replies; requests = requests; number = number }

-- what has the name of a far source is that far source
pub same_is : (a b : FarSource) → is_same a b ≡ true → a ≡ b
same_is a b e =
    let parts = both_hold (a.number == b.number) (bytes_eq a.replies b.replies && bytes_eq a.requests b.requests) e in
    let files = both_hold (bytes_eq a.replies b.replies) (bytes_eq a.requests b.requests) parts.1 in
    ap (named a.replies a.requests) (eqb-true a.number b.number parts.0)
    ∙ ap (λ t. named t a.requests b.number) ((bytes_eq-Decides a.replies b.replies).0 files.0)
    ∙ ap (λ t. named b.replies t b.number) ((bytes_eq-Decides a.requests b.requests).0 files.1)
