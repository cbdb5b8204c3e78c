-- A table has at each place what the function gives.
use Rattle.mix_tree.specs.Tables.{tabulate}
use Rattle.std.proofs.Common.{◌≡◌, ◌<◌, ◌+◌, ◌∙◌, ℕ, zero, suc, ap, arith, get_or}

-- the entry of a table at a place is what the function gives at the number of that place
pub tabulate-at : {X : Type 0} → (f : ℕ → X) (k n i : ℕ) (d : X) → i < n → get_or (tabulate f k n) i d ≡ f (k + i)
tabulate-at f k zero i d h = absurd (omega arith)
tabulate-at f k (suc n) zero d h = let e : k ≡ k + 0 = omega arith in ap f e
tabulate-at f k (suc n) (suc i) d h =
    let below : i < n = omega arith in
    let e : suc k + i ≡ k + suc i = omega arith in
    tabulate-at f (suc k) n i d below ∙ ap f e
