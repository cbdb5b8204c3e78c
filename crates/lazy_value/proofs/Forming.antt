-- Whether a text can say what levels and a place below are, by tests of their places.
use Rattle.std.proofs.Common.{◌≡◌, ℕ, true, false, List, [], ◌∷◌, refl, sym, ap, subst, ◌∙◌, arith, length}
use Rattle.std.specs.Prelude.{Bool}
use Rattle.std.specs.List.{AllByRecursion, list_all}
use Rattle.std.proofs.lemmas.Bool.{and_parts, and_from}
use Rattle.node_text.specs.Node.{LevelValue, NodeValue, ArePlaces, IsFormed}
use Rattle.lazy_site.specs.Levels.{is_below_top}
use Rattle.lazy_value.specs.Forms.{Decides}

-- where all places pass, none is empty
places_pass : (ps : List (List ℕ)) → list_all is_below_top ps ≡ true → ArePlaces ps
places_pass [] e = tt
places_pass ([] ∷ ps) e = cc
places_pass ((k ∷ p) ∷ ps) e = (omega arith, places_pass ps e)

-- where no place is empty, all pass
pass_places : (ps : List (List ℕ)) → ArePlaces ps → list_all is_below_top ps ≡ true
pass_places [] h = refl
pass_places ([] ∷ ps) h = (let z = h.0 in absurd (omega (arith, z)))
pass_places ((k ∷ p) ∷ ps) h = pass_places ps h.1

-- whether no place of a level is empty
abbrev passes : LevelValue → Bool
passes l = list_all is_below_top l.tuple

-- where the places of all levels pass, none is empty
levels_pass : (ls : List LevelValue) → list_all passes ls ≡ true → AllByRecursion (λ l. ArePlaces l.tuple) ls
levels_pass [] e = tt
levels_pass (l ∷ ls) e = (let s = and_parts (passes l) (list_all passes ls) e in (places_pass l.tuple s.0, levels_pass ls s.1))

-- where no place of any level is empty, all pass
pass_levels : (ls : List LevelValue) → AllByRecursion (λ l. ArePlaces l.tuple) ls → list_all passes ls ≡ true
pass_levels [] h = refl
pass_levels (l ∷ ls) h = and_from (passes l) (list_all passes ls) (pass_places l.tuple h.0) (pass_levels ls h.1)

-- a list without members is empty
pub no_members : {X : Type 0} (xs : List X) → length xs ≡ 0 → xs ≡ []
no_members [] e = refl
no_members (x ∷ xs) e = absurd (omega (arith, e))

-- without levels a text can say this exactly where there is no place below
pub root_decides : (d : NodeValue) → length d.levels ≡ 0 → (b : Bool) → ((b ≡ true → length d.inside ≡ 0) × (length d.inside ≡ 0 → b ≡ true)) → Decides (IsFormed d) b
root_decides d e true h =
    let none = no_members d.levels e in
    record { root = λ z. no_members d.inside (h.0 refl); places = subst (λ (ls : List LevelValue). AllByRecursion (λ l. ArePlaces l.tuple) ls) (sym none) tt }
root_decides d e false h = λ f. (let z : false ≡ true = h.1 (ap length (f.root (no_members d.levels e))) in let w : ⊥ = cc in w)

-- with levels a text can say this exactly where no place of theirs is empty
pub levels_decide : (d : NodeValue) → (length d.levels ≡ 0 → ⊥) → (b : Bool) → b ≡ list_all (λ l. list_all is_below_top l.tuple) d.levels → Decides (IsFormed d) b
levels_decide d some true e = record { root = λ z. absurd (some (ap length z)); places = levels_pass d.levels (sym e) }
levels_decide d some false e = λ f. (let z : false ≡ true = e ∙ pass_levels d.levels f.places in let w : ⊥ = cc in w)

-- what a test denies doesn't hold
pub denied : {P : Type 0} (b : Bool) → Decides P b → b ≡ false → P → ⊥
denied true h e = λ p. (let z : ⊥ = cc in z)
denied false h e = h

-- what a test affirms holds
pub affirmed : {P : Type 0} (b : Bool) → Decides P b → b ≡ true → P
affirmed true h e = h
affirmed false h e = (let z : ⊥ = cc in absurd z)
