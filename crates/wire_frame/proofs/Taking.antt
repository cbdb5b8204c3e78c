-- What a frame says of a piece, as far as it came.
use Rattle.std.proofs.Common.{◌≡◌, ◌⊎◌, inl, inr, ℕ, ◌+◌, ◌-◌, ◌≤◌, List, length, take, drop, refl, sym, ap, ◌∙◌, arith}
use Rattle.std.proofs.lemmas.List.{take_all, length-drop}
use Rattle.mix_base.proofs.Lists.{take_then}
use Rattle.wire_frame.specs.Standing.{Standing, at_reply, at_length, at_label, at_count, at_rest, at_tree, lost, after}
use Rattle.wire_frame.specs.Frames.{GoesOn}
use Rattle.wire_frame.proofs.Standings.{after-append}

-- further bytes of a piece are taken after those before them
pub more_taken : (old mid new : Standing) (piece : List ℕ) (count more : ℕ) → count ≤ length piece → mid ≡ after old (take count piece)
    → new ≡ after mid (take more (take (length piece - count) (drop count piece))) → new ≡ after old (take (count + more) piece)
more_taken old mid new piece count more within e f =
    f ∙ ap (λ r. after mid (take more r)) (take_all (length piece - count) (drop count piece) (omega (arith, length-drop count piece)))
    ∙ ap (λ s. after s (take more (drop count piece))) e ∙ sym (after-append old (take count piece) (take more (drop count piece))) ∙ ap (after old) (take_then piece count more within)

-- one is lost, or not
pub lost_or_not : (s : Standing) → (s ≡ lost) ⊎ (s ≡ lost → ⊥)
lost_or_not at_reply = inr (λ e. cc)
lost_or_not (at_length b n) = inr (λ e. cc)
lost_or_not (at_label m n) = inr (λ e. cc)
lost_or_not (at_count b n) = inr (λ e. cc)
lost_or_not (at_rest m n) = inr (λ e. cc)
lost_or_not (at_tree n) = inr (λ e. cc)
lost_or_not lost = inl refl

-- a standing that is not whole, and is lost only where nothing was taken, goes on, or was lost before
pub lost_before : (old mid : Standing) (piece : List ℕ) (count : ℕ) → mid ≡ after old (take count piece) → (mid ≡ at_tree 0 → ⊥) → (mid ≡ lost → count ≡ 0)
    → (old ≡ lost) ⊎ GoesOn (after old (take count piece))
lost_before old mid piece count e unwhole kept = by_cases (lost_or_not mid)
  where
    by_cases : (mid ≡ lost) ⊎ (mid ≡ lost → ⊥) → (old ≡ lost) ⊎ GoesOn (after old (take count piece))
    by_cases (inl l) = let none : after old (take count piece) ≡ old = ap (λ n. after old (take n piece)) (kept l) in inl (sym none ∙ sym e ∙ l)
    by_cases (inr n) = inr (record { not_whole = λ w. unwhole (e ∙ w); not_lost = λ w. n (e ∙ w) })
