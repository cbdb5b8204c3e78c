-- What a take gives of bytes in memory.
use Rattle.std.proofs.Common.{◌≡◌, ◌≤◌, ◌<◌, ◌+◌, ◌-◌, ◌^◌, ◌∙◌, ◌⊎◌, inl, inr, ℕ, zero, suc, min, List, [], ◌++◌, Some, refl, sym, ap, arith, length, take, drop, length-drop, length-append}
use Rattle.std.proofs.lemmas.List.{drop-drop, length-take-le, take-append-drop}
use Rattle.mix_base.proofs.Lists.{take_whole}
use Rattle.mix_base.proofs.Slices.{drop_end}
use Rattle.mix_io.specs.Input.{InputView, Gives, IsAtEnd}

-- the bytes from a place on, which were not taken yet
abbrev pub told : List ℕ → ℕ → ℕ → InputView
told bytes from faults = record { left = Some (drop from bytes); taken = from; faults = faults }

-- bytes from a place on that were copied into the beginning of room are given by the input
pub given : (bytes piece rest : List ℕ) (from count faults : ℕ) → piece ≡ take count (drop from bytes) → from + count ≤ length bytes → length bytes < 2 ^ 64
    → (count ≡ 0 → (length (piece ++ rest) ≡ 0) ⊎ IsAtEnd (told bytes (from + count) faults)) → Gives (told bytes from faults) (told bytes (from + count) faults) count (piece ++ rest)
given bytes piece rest from count faults is inside few end = record {
  within = omega (arith, length-append piece rest, long);
  took = record {
    gone = (
      drop (from + count) bytes,
      sym (take-append-drop count (drop from bytes)) ∙ ap (λ r. r ++ drop count (drop from bytes)) (sym (prefix ∙ is)) ∙ ap (λ r. take count (piece ++ rest) ++ r) (drop-drop count from bytes),
      refl,
    );
    counted = ap (λ n. from + n) (sym (ap (λ r. length r) prefix ∙ long));
  };
  few = omega (arith, inside, few);
  end = end;
}
  where
    long : length piece ≡ count
    long = ap (λ r. length r) is ∙ length-take-le count (drop from bytes) (omega (arith, inside, length-drop from bytes))

    prefix : take count (piece ++ rest) ≡ piece
    prefix = take_whole piece rest count long

-- where a take copies nothing, there is no room, or all bytes were taken
pub none_left : (bytes : List ℕ) (room from most count : ℕ) → count ≡ min (min (length bytes - from) room) most → 0 < most → count ≡ 0 → (room ≡ 0) ⊎ (drop (from + count) bytes ≡ [])
none_left bytes zero from most count is some none = inl refl
none_left bytes (suc room) from most count is some none = inr (drop_end bytes (from + count) (omega (arith, is, some, none)))
