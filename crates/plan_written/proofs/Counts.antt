-- The variables that are bound anew: how many they are, and that they lie below the next new one.
use Rattle.std.proofs.Common.{◌≡◌, ◌<◌, ◌≤◌, ◌+◌, ℕ, true, false, cond, List, [], ◌∷◌, ◌++◌, map, length, length-append, refl, sym, subst, arith}
use Rattle.std.specs.List.{AllByRecursion}
use Rattle.std.proofs.lemmas.Grind.{flat_map-append}
use Rattle.mix_base.proofs.Firsts.{each_weaker}
use Rattle.mix_tree.specs.Keys.{collects, in_force}
use Rattle.mix_tree.specs.declared.var.Key.{Key}
use Rattle.xmas_rule.proofs.Members.{each_append}
use Rattle.xmas_rule.specs.Items.{Items, done, literal, variable, element}
use Rattle.plan_core.specs.Unary.{Unary, concatenate, create_element}
use Rattle.plan_core.specs.Valid.{unary_outs}
use Rattle.plan_make.specs.Translation.{shown_piece, Built, add_piece, element_ops, add_element, first_list, add_list, other_lists, build}
use Rattle.plan_make.proofs.Rising.{outs}

-- the numbers lie below m, and are at least as many as there are from n on below m
pub record IsCounted (n : ℕ) (vs : List ℕ) (m : ℕ) : Type 0 where
  pub below : AllByRecursion (λ v. v < m) vs
  pub count : m ≤ n + length vs
  pub up : n ≤ m

-- no numbers are counted from n on below n
pub counted_none : (n : ℕ) → IsCounted n [] n
counted_none n = record { below = tt; count = omega arith; up = omega arith }

-- the number n alone is counted from n on below n + 1
pub counted_one : (n : ℕ) → IsCounted n (n ∷ []) (n + 1)
counted_one n = record { below = (omega arith, tt); count = omega arith; up = omega arith }

-- numbers that are counted up to m, and others from m on after them, are counted together
pub counted_append : (n m k : ℕ) (a b : List ℕ) → IsCounted n a m → IsCounted m b k → IsCounted n (a ++ b) k
counted_append n m k a b h g =
    let x = h.count in let y = g.count in let u = h.up in let w = g.up in let l = length-append a b in
    record {
      below = each_append (λ v. v < k) a b (each_weaker (λ v. v < m) (λ v. v < k) (λ v z. omega (arith, z, w)) a h.below) g.below;
      count = omega (arith, x, y, l);
      up = omega (arith, u, w);
    }

-- numbers below m lie below r + m when r is added to each
raised_below : (r m : ℕ) (vs : List ℕ) → AllByRecursion (λ v. v < m) vs → AllByRecursion (λ v. v < r + m) (map (λ w. r + w) vs)
raised_below r m [] h = tt
raised_below r m (v ∷ vs) h = (let x = h.0 in omega (arith, x), raised_below r m vs h.1)

-- a list is as long when r is added to each of its numbers
raised_many : (r : ℕ) (vs : List ℕ) → length (map (λ w. r + w) vs) ≡ length vs
raised_many r [] = refl
raised_many r (v ∷ vs) = let e = raised_many r vs in omega (arith, e)

-- numbers that are counted from 0 are counted from r on when r is added to each
pub counted_raised : (r m : ℕ) (vs : List ℕ) → IsCounted 0 vs m → IsCounted r (map (λ w. r + w) vs) (r + m)
counted_raised r m vs h = let x = h.count in let e = raised_many r vs in record { below = raised_below r m vs h.below; count = omega (arith, x, e); up = omega arith }

-- the variables that the operators of an element and those after them bind anew are counted
pub element_counted : (n k : ℕ) (label : List ℕ) (b : Built) (more : List Unary) → IsCounted n (outs b.ops) b.next → IsCounted (b.next + 2) (outs more) k → IsCounted n (outs (element_ops label b more)) k
element_counted n k label b more h g =
    let e : b.next + 1 + 1 ≡ b.next + 2 = omega arith in
    subst (λ (vs : List ℕ). IsCounted n vs k) (sym (flat_map-append unary_outs b.ops (concatenate b.pieces b.next ∷ create_element label b.next (b.next + 1) ∷ more)))
    (counted_append n b.next k (outs b.ops) (b.next ∷ (b.next + 1) ∷ outs more) h
    (counted_append b.next (b.next + 1) k (b.next ∷ []) ((b.next + 1) ∷ outs more) (counted_one b.next)
    (counted_append (b.next + 1) (b.next + 2) k ((b.next + 1) ∷ []) (outs more) (subst (λ (m : ℕ). IsCounted (b.next + 1) ((b.next + 1) ∷ []) m) e (counted_one (b.next + 1))) g)))

-- the variables that the operators of a level's items bind anew are counted
pub build_counted : (items : Items) (force : List Key) (lists : List ℕ) (n : ℕ) → IsCounted n (outs (build force lists items n).ops) (build force lists items n).next
build_counted done force lists n = counted_none n
build_counted (literal label rest) force lists n = build_counted rest force lists n
build_counted (variable s v own rest) force lists n =
    let e = build force (other_lists lists) rest n in
    let f = build force lists rest n in
    elim (collects force own) as (λ w. IsCounted n (outs (cond w (add_list (first_list lists) e) (add_piece (shown_piece s v) f)).ops) (cond w (add_list (first_list lists) e) (add_piece (shown_piece s v) f)).next)
    [ true ↦ build_counted rest force (other_lists lists) n | false ↦ build_counted rest force lists n ]
build_counted (element label inside own rest) force lists n =
    let i = build (in_force force own) lists inside n in
    let e = build force (other_lists lists) rest n in
    let f = build force i.left rest (i.next + 2) in
    elim (collects force own) as (λ w. IsCounted n (outs (cond w (add_list (first_list lists) e) (add_element label i f)).ops) (cond w (add_list (first_list lists) e) (add_element label i f)).next) [
      | true ↦ build_counted rest force (other_lists lists) n
      | false ↦ element_counted n f.next label i f.ops (build_counted inside (in_force force own) lists n) (build_counted rest force i.left (i.next + 2))
    ]
