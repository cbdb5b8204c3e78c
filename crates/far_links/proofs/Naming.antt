-- Which lists have holes with the words of a whole document.
use Rattle.std.proofs.Common.{◌≡◌, ◌∙◌, ◌+◌, ◌<◌, ℕ, suc, Bool, true, false, List, ◌∷◌, length, get_or, drop, drop-cons, refl, ap, sym, arith}
use Rattle.std.specs.Prelude.{◌||◌, not}
use Rattle.lxp_core.specs.declared.open_tree.OpenTree.{OpenTree}
use Rattle.lxp_core.specs.Open.{Open, nil, node, hole, AllHoles, open_followed}
use Rattle.lxp_core.specs.Plain.{plain, put}
use Rattle.lxp_core.proofs.Plains.{put-open_followed}
use Rattle.far_keep.specs.Names.{is_far_root}
use Rattle.far_links.specs.Holes.{is_below, names_root}

-- one of two holds or a third exactly where one does or one of the others
or_twice : (a b c : Bool) → (a || (b || c)) ≡ ((a || b) || c)
or_twice true b c = refl
or_twice false b c = refl

-- of two lists one after the other one has such a hole exactly where one of them does
pub names_root-followed : (a b : Open) → names_root (open_followed a b) ≡ names_root a || names_root b
names_root-followed nil b = refl
names_root-followed (node label kids rest) b = ap (λ c. names_root kids || c) (names_root-followed rest b) ∙ or_twice (names_root kids) (names_root rest) (names_root b)
names_root-followed (hole id rest) b = ap (λ c. is_far_root id || c) (names_root-followed rest b) ∙ or_twice (is_far_root id) (names_root rest) (names_root b)

-- the trees from a place on have such a hole exactly where the one at the place does or those after it do
pub names_root-step : (ts : List OpenTree) (i : ℕ) (t : OpenTree) → i < length ts → t ≡ get_or ts i t
    → names_root (plain (drop i ts)) ≡ names_root (put t nil) || names_root (plain (drop (i + 1) ts))
names_root-step ts i t h e =
    ap (λ us. names_root (plain us)) (drop-cons ts i t h ∙ ap (λ n. get_or ts i t ∷ drop n ts) (let k : suc i ≡ i + 1 = omega arith in k))
    ∙ ap (λ u. names_root (put u (plain (drop (i + 1) ts)))) (sym e) ∙ ap names_root (put-open_followed t (plain (drop (i + 1) ts)))
    ∙ names_root-followed (put t nil) (plain (drop (i + 1) ts))

-- where neither of two holds, none does
neither : (a b : Bool) → (a || b) ≡ false → (a ≡ false) × (b ≡ false)
neither true b e = absurd cc
neither false b e = (refl, e)

-- a list without such a hole has holes alone that stand for anything else
pub all_below : (o : Open) → names_root o ≡ false → AllHoles is_below o
all_below nil e = tt
all_below (node label kids rest) e = let parts = neither (names_root kids) (names_root rest) e in (all_below kids parts.0, all_below rest parts.1)
all_below (hole id rest) e = let parts = neither (is_far_root id) (names_root rest) e in (ap not parts.0, all_below rest parts.1)

-- a list of one node has such a hole exactly where the list below it does
pub one_node : (b : Bool) → b ≡ (b || false)
one_node true = refl
one_node false = refl
