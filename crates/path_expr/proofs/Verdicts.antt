-- What the passes over a text say together.
use Rattle.std.proofs.Common.{◌≡◌, ◌<◌, ◌≤◌, ◌+◌, ◌∙◌, ℕ, List, Option, Some, None, Result, Ok, Err, sym, ap, subst, arith, drop}
use Rattle.std.specs.Str.{IsUtf8}
use Rattle.std.proofs.lemmas.List.{take-append-drop}
use Rattle.mix_base.proofs.Choices.{none_some, some_is}
use Rattle.path_expr.specs.Grammar.{Spelled, Writes}
use Rattle.path_expr.specs.Form.{Form, positions_in}
use Rattle.path_expr.specs.Values.{value_of}
use Rattle.path_expr.specs.Depth.{nesting, deep_at}
use Rattle.path_expr.specs.Results.{Spells, SpellsWithin, IsTooDeep, HasTooMany, Answers, IsPath}
use Rattle.path_expr.specs.declared.fault.PathFault.{PathFault}
use Rattle.path_expr.specs.declared.fault.PathFault.TheVariants.{NotUtf8, Unexpected, Ends, TooDeep, TooMany, OutOfMemory}
use Rattle.path_expr.proofs.Complete.{writes_read}
use Rattle.path_expr.proofs.Deep.{none_nests, nests_none}

-- no text is written in two ways
pub one_spelled : (x : List ℕ) (p q : Spelled) → Writes x p → Writes x q → p ≡ q
one_spelled x p q h k = some_is p q (sym (writes_read x p h) ∙ writes_read x q k)

-- no text spells two paths
pub one_value : (x : List ℕ) (v w : Form) → Spells x v → Spells x w → v ≡ w
one_value x v w (p, h, e) (q, k, d) = sym e ∙ ap value_of (one_spelled x p q h k) ∙ d

-- a parenthesis that a scan finds is too deep
pub too_deep : (x : List ℕ) (at : ℕ) (deep : Option ℕ) → (p : Spelled) × Writes x p × (deep_at p ≡ deep) → deep ≡ Some at → IsTooDeep x at
too_deep x at deep (p, h, d) e = (p, h, d ∙ e)

-- where a scan finds none, the path goes no deeper than 100
nested : (x : List ℕ) (p q : Spelled) → Writes x p → Writes x q → deep_at q ≡ None → nesting p ≤ 100
nested x p q h k e = let n = none_nests p 0 0 (omega arith) (ap deep_at (one_spelled x p q h k) ∙ e) in omega (arith, n)

-- a text has too many positions where its path has more than 120 and no parenthesis is too deep
pub too_many : (x : List ℕ) (v : Form) (n : ℕ) (deep : Option ℕ) → Spells x v → (q : Spelled) × Writes x q × (deep_at q ≡ deep) → deep ≡ None → n ≡ positions_in v → 120 < n → HasTooMany x n
too_many x v n deep (p, h, e) (q, w, d) none k m = (p, h, nested x p q h w (d ∙ none), ap positions_in e ∙ sym k, m)

-- a text whose path has at most 120 label positions, and goes no deeper than 100, spells it within the limits
pub within : (x : List ℕ) (v : Form) (deep : Option ℕ) → Spells x v → (q : Spelled) × Writes x q × (deep_at q ≡ deep) → deep ≡ None → positions_in v ≤ 120 → SpellsWithin x v
within x v deep (p, h, e) (q, w, d) none m = record { spelled = p; writes = h; value = e; nesting = nested x p q h w (d ∙ none); positions = m }

-- a path that is spelled within the limits is spelled
within_spells : (x : List ℕ) (v : Form) → SpellsWithin x v → Spells x v
within_spells x v h = (h.spelled, h.writes, h.value)

-- what is spelled within the limits is read
pub answers_path : (x : List ℕ) (r : Result Form PathFault) (v : Form) → Answers x r → IsUtf8 x → SpellsWithin x v → IsPath r v
answers_path x (Ok w) v a u h = one_value x w v (within_spells x w a.1) (within_spells x v h)
answers_path x (Err (NotUtf8 at)) v a u h = a.0 u
answers_path x (Err (Unexpected at)) v a u h =
    let parts = take-append-drop (at + 1) x in
    a.1.wrong (drop (at + 1) x, v, subst IsUtf8 (sym parts) u, subst (λ y. Spells y v) (sym parts) (within_spells x v h))
answers_path x (Err Ends) v a u h = a.1.none v (within_spells x v h)
answers_path x (Err (TooDeep at)) v (k, (p, w, e)) u h =
    none_some at (sym (nests_none p 0 0 (subst (λ q. 0 + nesting q ≤ 100) (one_spelled x h.spelled p h.writes w) (omega (arith, h.nesting)))) ∙ e)
answers_path x (Err (TooMany n)) v (k, (p, w, d, e, m)) u h =
    let same : value_of p ≡ v = ap value_of (one_spelled x p h.spelled w h.writes) ∙ h.value in
    absurd (omega (arith, m, h.positions, ap positions_in same, e))
answers_path x (Err OutOfMemory) v a u h = tt
