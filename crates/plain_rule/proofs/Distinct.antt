-- The first members of groups, found one after another.
use Rattle.std.proofs.Common.{◌≡◌, ◌∙◌, ◌<◌, ◌≤◌, ◌+◌, ℕ, Bool, true, false, cond, List, [], ◌∷◌, ◌++◌, length, drop, get_or, sym, ap, append_assoc}
use Rattle.mix_base.proofs.Lists.{append_nil}
use Rattle.mix_base.proofs.Seen.{was_seen, distinct}
use Rattle.plain_rule.proofs.Tupling.{drop_next, drop_past}

-- members seen and different ones yet to come are the same list before and after one more is seen
pub distinct_next : {X : Type 0} (same : X → X → Bool) (xs : List X) (i : ℕ) (x : X) (seen more : List X) → i < length xs → x ≡ get_or xs i x → more ≡ seen ++ cond (was_seen same seen x) [] (x ∷ [])
    → more ++ distinct same more (drop (i + 1) xs) ≡ seen ++ distinct same seen (drop i xs)
distinct_next {X} same xs i x seen more h e m =
    by (was_seen same seen x) m ∙ ap (λ z. seen ++ distinct same seen z) (sym (drop_next xs i x h e))
  where
    rest : List X
    rest = drop (i + 1) xs

    by : (v : Bool) → more ≡ seen ++ cond v [] (x ∷ []) → more ++ distinct same more rest ≡ seen ++ cond v (distinct same seen rest) (x ∷ distinct same (seen ++ x ∷ []) rest)
    by true n = ap (λ z. z ++ distinct same z rest) (n ∙ append_nil seen)
    by false n = ap (λ z. z ++ distinct same z rest) n ∙ append_assoc seen (x ∷ []) (distinct same (seen ++ x ∷ []) rest)

-- after the last member no different one is to come
pub distinct_end : {X : Type 0} (same : X → X → Bool) (xs : List X) (i : ℕ) (seen : List X) → length xs ≤ i → seen ++ distinct same seen (drop i xs) ≡ seen
distinct_end same xs i seen h = ap (λ z. seen ++ distinct same seen z) (drop_past xs i h) ∙ append_nil seen
