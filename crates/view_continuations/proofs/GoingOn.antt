-- Which texts go on, by what reading them answers.
use Rattle.std.proofs.Common.{ℕ, ◌+◌, List, [], ◌++◌, sym, subst, take, drop, append_assoc, refl, IsUtf8}
use Rattle.mix_base.specs.Reading.{IsCut, IsUnexpected}
use Rattle.std.proofs.lemmas.List.{take-append-drop}
use Rattle.mix_base.proofs.Lists.{append_nil}
use Rattle.xmas_text.specs.Parsed.{RuleForm, parsed}
use Rattle.xmas_text.specs.Results.{IsTooDeep, Spells, SpellsWithin}
use Rattle.view_continuations.specs.Fits.{GoesOn, IsWhole}

-- a front of a front is a front
pub front_of_front : (x z : List ℕ) → GoesOn (x ++ z) → GoesOn x
front_of_front x z (y, v, u, s) = let e = append_assoc x z y in (z ++ y, v, subst IsUtf8 e u, subst (λ t. Spells t v) e s)

-- a whole text is a front
pub whole_goes_on : (x : List ℕ) → IsUtf8 x → IsWhole x → GoesOn x
whole_goes_on x u (v, s) = let e = sym (append_nil x) in ([], v, subst IsUtf8 e u, subst (λ t. Spells t v) e s)

-- what is spelled within the limits of levels is whole
pub within_is_whole : (x : List ℕ) (v : RuleForm) → SpellsWithin x v → IsWhole x
within_is_whole x v w = (v, (w.written, w.writes, w.tree))

-- what is nested too deep is whole
pub deep_is_whole : (x : List ℕ) → IsTooDeep x → IsWhole x
deep_is_whole x (r, w, l) = (parsed r, (r, w, refl))

-- a text with an unexpected byte is no front
pub unexpected_stops : (x : List ℕ) (at : ℕ) → IsUnexpected Spells x at → ¬ GoesOn x
unexpected_stops x at u g = u.wrong (front_of_front (take (at + 1) x) (drop (at + 1) x) (subst GoesOn (sym (take-append-drop (at + 1) x)) g))

-- a text from whose end a view goes on is none itself
pub cut_is_not_whole : (x : List ℕ) → IsCut Spells x → ¬ IsWhole x
cut_is_not_whole x h (v, s) = h.none v s

-- a text with an unexpected byte is no whole one
pub unexpected_is_not_whole : (x : List ℕ) (at : ℕ) → IsUtf8 x → IsUnexpected Spells x at → ¬ IsWhole x
unexpected_is_not_whole x at u h w = unexpected_stops x at h (whole_goes_on x u w)
