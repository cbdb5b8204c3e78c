-- The shapes of the sources of many people.
use Rattle.std.proofs.Common.{◌≡◌, ◌∙◌, ℕ, zero, suc, List, [], ◌∷◌, refl, ap}
use Rattle.std.proofs.Math.Path.{fun_ext}
use Rattle.browse_class.specs.Classes.{class_in}
use Rattle.browse_visit.specs.declared.shape.Shape.{Shape}
use Rattle.browse_visit.specs.Layouts.{Layout}
use Rattle.browse_visit.specs.Shapes.{shape_layout, shapes_of}
use Rattle.plan_core.specs.Plans.{PlanValue}
use Rattle.plan_rewrite.specs.Rewritten.{operators_for, plan_for}
use Rattle.xmas_rule.specs.Rules.{RuleValue}
use Rattle.mix_load.specs.Classing.{names_class, people_layout, people_rows}
use Rattle.mix_load.specs.View.{names_rule}

-- a shape alone is that of the only source
pub only_shape : (shape : Shape) → shape_layout shape ≡ people_rows → shapes_of (shape ∷ []) ≡ people_layout
only_shape shape e = fun_ext at
  where
    at : (s : ℕ) → shapes_of (shape ∷ []) s ≡ people_layout s
    at zero = e
    at (suc s) = refl

-- the class of a plan of the view over such shapes is that of the view
pub names_class_is : (shapes : ℕ → Layout) (p : PlanValue) (v : RuleValue) (names : List (List ℕ)) → shapes ≡ people_layout → p ≡ plan_for names v → v ≡ names_rule → class_in shapes p.ops ≡ names_class
names_class_is shapes p v names s made is =
    ap (λ (x : ℕ → Layout). class_in x p.ops) s
    ∙ ap (λ (x : PlanValue). class_in people_layout x.ops) made
    ∙ ap (λ (x : RuleValue). class_in people_layout (operators_for x)) is
