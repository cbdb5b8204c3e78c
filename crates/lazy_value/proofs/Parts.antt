-- Parts of texts: each lies within the larger ones, and two that are as large are the same.
use Rattle.std.proofs.Common.{◌≡◌, ◌≤◌, ◌<◌, ◌⊎◌, inl, inr, ℕ, zero, suc, List, [], ◌∷◌, sym, ap, ◌∙◌, arith, length, take}
use Rattle.std.specs.List.{AllByRecursion}
use Rattle.std.proofs.lemmas.Bool.{cases_lt}
use Rattle.std.proofs.lemmas.List.{length-take-le, take-take, take_all}
use Rattle.node_text.specs.Node.{LevelValue, NodeValue, ArePlaces, IsFormed, node}
use Rattle.lazy_walk.specs.declared.stage.Stage.{Stage}
use Rattle.lazy_walk.specs.Stages.{IsStage, part_of, size_of, whole_size}
use Rattle.lazy_value.specs.Finding.{IsBefore}
use Rattle.lazy_value.proofs.Forming.{no_members}

-- a part has no steps, or all of the levels
all_levels : (d : NodeValue) (a : Stage) → IsStage d a → (a.steps ≡ 0) ⊎ (a.levels ≡ length d.levels)
all_levels d a x = by_steps (cases_lt 0 a.steps)
  where
    by_steps : (0 < a.steps) ⊎ (a.steps ≤ 0) → (a.steps ≡ 0) ⊎ (a.levels ≡ length d.levels)
    by_steps (inl l) = inr (x.below l)
    by_steps (inr l) = inl (omega (arith, l))

-- of two parts the one that is no larger has no more levels
pub smaller_levels : (d : NodeValue) (a b : Stage) → IsStage d a → IsStage d b → size_of a ≤ size_of b → a.levels ≤ b.levels
smaller_levels d a b x y l = by_steps (all_levels d b y)
  where
    by_steps : (b.steps ≡ 0) ⊎ (b.levels ≡ length d.levels) → a.levels ≤ b.levels
    by_steps (inl e) = omega (arith, e, l)
    by_steps (inr e) = (let h = x.levels in omega (arith, e, h))

-- and it has no more steps
pub smaller_steps : (d : NodeValue) (a b : Stage) → IsStage d a → IsStage d b → size_of a ≤ size_of b → a.steps ≤ b.steps
smaller_steps d a b x y l = by_steps (all_levels d a x)
  where
    by_steps : (a.steps ≡ 0) ⊎ (a.levels ≡ length d.levels) → a.steps ≤ b.steps
    by_steps (inl e) = omega (arith, e)
    by_steps (inr e) = (let h = y.levels in omega (arith, e, h, l))

-- no part is larger than the whole text
pub within_whole : (d : NodeValue) (a : Stage) → IsStage d a → size_of a ≤ whole_size d
within_whole d a x = (let h = x.levels in let k = x.steps in omega (arith, h, k))

-- a part of a part is a part of the text
pub part_within : (d : NodeValue) (a b : Stage) → IsStage d b → IsStage (part_of d b) a → IsStage d a
part_within d a b y x =
    let ls = length-take-le b.levels d.levels y.levels in
    let ss = length-take-le b.steps d.inside y.steps in
    let h = x.levels in
    let k = x.steps in
    let f = x.below in
    let g = y.below in
    let m = y.levels in
    let n = y.steps in
    record { levels = omega (arith, ls, h, m); steps = omega (arith, ss, k, n); below = λ z. omega (arith, z, f, g, ls, ss, k) }

-- a part has no more levels and steps than the part that it is one of
pub part_smaller : (d : NodeValue) (a b : Stage) → IsStage d b → IsStage (part_of d b) a → size_of a ≤ size_of b
part_smaller d a b y x =
    let ls = length-take-le b.levels d.levels y.levels in
    let ss = length-take-le b.steps d.inside y.steps in
    let h = x.levels in
    let k = x.steps in
    omega (arith, ls, ss, h, k)

-- a part is a part of each that is no smaller
pub part_among : (d : NodeValue) (a b : Stage) → IsStage d a → IsStage d b → size_of a ≤ size_of b → IsStage (part_of d b) a
part_among d a b x y l =
    let ls = length-take-le b.levels d.levels y.levels in
    let ss = length-take-le b.steps d.inside y.steps in
    let h = smaller_levels d a b x y l in
    let k = smaller_steps d a b x y l in
    let f = x.below in
    let m = y.levels in
    record { levels = omega (arith, ls, h); steps = omega (arith, ss, k); below = λ z. omega (arith, z, f, ls, h, m) }

-- what a part of a part says, the text's part of this size says
pub part_again : (d : NodeValue) (a b : Stage) → IsStage d a → IsStage d b → size_of a ≤ size_of b → part_of (part_of d b) a ≡ part_of d a
part_again d a b x y l =
    ap (λ (ls : List LevelValue). node ls (take a.steps (take b.steps d.inside))) (take-take a.levels b.levels d.levels (smaller_levels d a b x y l))
    ∙ ap (node (take a.levels d.levels)) (take-take a.steps b.steps d.inside (smaller_steps d a b x y l))

-- parts that are as large say the same
pub same_part : (d : NodeValue) (a b : Stage) → IsStage d a → IsStage d b → size_of a ≡ size_of b → part_of d a ≡ part_of d b
same_part d a b x y e =
    let l = smaller_levels d a b x y (omega (arith, e)) in
    let m = smaller_levels d b a y x (omega (arith, e)) in
    let levels : a.levels ≡ b.levels = omega (arith, l, m) in
    let steps : a.steps ≡ b.steps = omega (arith, e, levels) in
    ap (λ (k : ℕ). node (take k d.levels) (take a.steps d.inside)) levels ∙ ap (λ (k : ℕ). node (take b.levels d.levels) (take k d.inside)) steps

-- a part that is as large as the text says what the text says
pub whole_part : (d : NodeValue) (a : Stage) → IsStage d a → size_of a ≡ whole_size d → part_of d a ≡ d
whole_part d a x e =
    let h = x.levels in
    let k = x.steps in
    ap (λ (ls : List LevelValue). node ls (take a.steps d.inside)) (take_all a.levels d.levels (omega (arith, e, h, k)))
    ∙ ap (node d.levels) (take_all a.steps d.inside (omega (arith, e, h, k)))

-- a part without levels and steps is the root's
pub root_part : (d : NodeValue) (a : Stage) → size_of a ≡ 0 → part_of d a ≡ node [] []
root_part d a e =
    let levels : a.levels ≡ 0 = omega (arith, e) in
    let steps : a.steps ≡ 0 = omega (arith, e) in
    ap (λ (k : ℕ). node (take k d.levels) (take a.steps d.inside)) levels ∙ ap (λ (k : ℕ). node [] (take k d.inside)) steps

-- the whole text is a part of it
pub whole_stage : (d : NodeValue) (a : Stage) → a.levels ≡ length d.levels → a.steps ≡ length d.inside → IsStage d a
whole_stage d a e f = record { levels = omega (arith, e); steps = omega (arith, f); below = λ z. e }

-- what comes before a part of a text is one
pub before_stage : (d : NodeValue) (a b : Stage) → IsStage d b → IsBefore a b → IsStage d a
before_stage d a b y x =
    let h = x.levels in
    let k = x.steps in
    let f = x.below in
    let g = y.below in
    let m = y.levels in
    let n = y.steps in
    record { levels = omega (arith, h, m); steps = omega (arith, k, n); below = λ z. omega (arith, z, k, f, g) }

-- what holds of all members of a list holds of its first ones
first_all : {X : Type 0} (P : X → Type 0) (n : ℕ) (xs : List X) → AllByRecursion P xs → AllByRecursion P (take n xs)
first_all P zero xs h = tt
first_all P (suc n) [] h = tt
first_all P (suc n) (x ∷ xs) h = (h.0, first_all P n xs h.1)

-- a text can say a part of what a text can say
pub part_formed : (d : NodeValue) (a : Stage) → IsStage d a → IsFormed d → IsFormed (part_of d a)
part_formed d a x formed = record {
  root = λ none.
      (let ls = length-take-le a.levels d.levels x.levels in
      let ss = length-take-le a.steps d.inside x.steps in
      let no : length (take a.levels d.levels) ≡ 0 = ap length none in
      no_members (take a.steps d.inside) (ss ∙ none_below (all_levels d a x) (omega (arith, ls, no))));
  places = first_all (λ (l : LevelValue). ArePlaces l.tuple) a.levels d.levels formed.places;
}
  where
    none_below : (a.steps ≡ 0) ⊎ (a.levels ≡ length d.levels) → a.levels ≡ 0 → a.steps ≡ 0
    none_below (inl e) z = e
    none_below (inr e) z =
        (let none : length d.inside ≡ 0 = ap length (formed.root (no_members d.levels (sym e ∙ z))) in
        let k = x.steps in
        omega (arith, none, k))
