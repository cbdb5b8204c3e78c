-- The index of a node in its list, by how many trees come after it.
use Rattle.std.proofs.Common.{◌≡◌, ◌+◌, ℕ, zero, suc, true, false, refl, ◌∙◌, sym, ap, arith}
use Rattle.plan_core.specs.Tolled.{Tolled, ends, item, is_item, trees_below, trees_after, paid, trees_from}
use Rattle.plan_evidence.specs.Named.{count_trees}
use Rattle.plan_evidence.specs.Remains.{trees_left}
use Rattle.lazy_plan.specs.Bench.{BenchState, documents}
use Rattle.lazy_site.specs.Ids.{rest_trees, pieces_trees, members_trees, group_trees}
use Rattle.lazy_site.specs.Levels.{RestsTellIndexes}
use Rattle.lazy_site.specs.Standing.{remains}
use Rattle.lazy_site.specs.declared.sites.Rest.{Rest, End, Pieces', Members', Group'}

-- the trees below the first are the same when that is reached
pub below_paid : (f : Tolled) → trees_below (paid f) ≡ trees_below f
below_paid (ends t) = refl
below_paid (item t x d r) = refl

-- the trees after the first are the same when that is reached
pub after_paid : (f : Tolled) → trees_after (paid f) ≡ trees_after f
after_paid (ends t) = refl
after_paid (item t x d r) = refl

-- the trees of a rest are those that are left of its list
pub rest_left : (st : BenchState) (r : Rest) → rest_trees st r ≡ trees_left (documents st) (remains st r)
rest_left st End = refl
rest_left st (Pieces' op at next ways q up) = ap (pieces_trees st op at next) (rest_left st up)
rest_left st (Members' op at q up) = ap (members_trees st op at) (rest_left st up)
rest_left st (Group' op first number at place q up) = ap (group_trees st op first at) (rest_left st up)

-- after no trees there is none
none_after : (j t : ℕ) → is_item (trees_from j (ends t)) ≡ false
none_after zero t = refl
none_after (suc j) t = none_after j 0

-- a list has the trees before one, that one, and those after it
pub count_from : (f : Tolled) (j : ℕ) → is_item (trees_from j f) ≡ true → count_trees f ≡ j + suc (count_trees (trees_after (trees_from j f)))
count_from (ends t) j e = (let z : true ≡ false = sym e ∙ none_after j t in cc)
count_from (item t label kids rest) zero e = omega arith
count_from (item t label kids rest) (suc j) e = let h = count_from rest j e in omega (arith, h)

-- the trees after a node tell its index in its list
pub rests_tell_indexes : RestsTellIndexes
rests_tell_indexes st row v f r j e after there =
    let a = ap count_trees e in
    let b = count_from f j there in
    let c = ap count_trees (sym (rest_left st r) ∙ after) in
    omega (arith, a, b, c)
