-- What is said of groups, with keys and without.
use Rattle.std.proofs.Common.{◌≡◌, ℕ, true, false, List, [], ◌∷◌, refl, sym, ◌∙◌, length, eq-eqb}
use Rattle.std.specs.Prelude.{◌==◌, Some}
use Rattle.mix_tree.specs.declared.var.Key.{Key}
use Rattle.plan_core.specs.declared.plan.Piece.{Piece}
use Rattle.plan_core.specs.Plans.{over}
use Rattle.plan_core.specs.Shapes.{shape_of}
use Rattle.plan_core.specs.Unary.{group_by}
use Rattle.browse_class.specs.Classes.{op_bound, op_sorts}
use Rattle.browse_class.specs.Facts.{Facts}
use Rattle.plan_class.specs.declared.domain.Domain.{Domain}
use Rattle.plan_class.specs.Known.{Known, grouped_known, over_known}

-- groupBys sort nothing, with keys or without
pub groups_sort_nothing : (i out : ℕ) (keys : List Key) (piece : Piece) → op_sorts (over i (group_by keys piece out)) ≡ false
groups_sort_nothing i out [] piece = refl
groups_sort_nothing i out (k ∷ keys) piece = refl

-- groupBys make no element, with keys or without
pub groups_bound_nothing : (i out : ℕ) (keys : List Key) (piece : Piece) (of : ℕ → Facts) → op_bound (over i (group_by keys piece out)) of ≡ Some 0
groups_bound_nothing i out [] piece of = refl
groups_bound_nothing i out (k ∷ keys) piece of = refl

-- what is known of a groupBy with keys is what is known of the groups by them
pub groups_are : (domains : ℕ → Domain) (vars : List ℕ) (input : Known) (i out : ℕ) (keys : List Key) (piece : Piece) (len : ℕ) → (len == 0) ≡ false → length keys ≡ len
    → over_known domains vars input (shape_of (over i (group_by keys piece out))) ≡ grouped_known keys vars out input
groups_are domains vars input i out [] piece len e l = absurd (let z : len ≡ 0 = sym l in let t : (len == 0) ≡ true = eq-eqb len 0 z in let f : true ≡ false = sym t ∙ e in cc)
groups_are domains vars input i out (k ∷ keys) piece len e l = refl
