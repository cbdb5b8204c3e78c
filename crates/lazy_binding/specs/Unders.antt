-- What a position is made of: those of the inputs, and the sources of its variables.
use Rattle.std.specs.Prelude.{ℕ, List, Option, None, Some, cond, ◌==◌}
use Rattle.mix_tree.specs.Keys.{has_var}
use Rattle.plan_core.specs.Plans.{Operator}
use Rattle.plan_core.specs.Shapes.{Stage, filters, extends, first_by_keys, one_group, in_order, Shape, one_source, visits_below, pairs_up, passes_on, no_events, shape_of, shape_at}
use Rattle.plan_core.specs.ByNumber.{by_number}
use Rattle.lazy_binding.specs.declared.position.Position.{Position, Pair'}
use Rattle.lazy_binding.specs.Reading.{below}

-- the position of input i in a position in this shape; that of a pair's left input first
abbrev pub part_in : Shape → Position → ℕ → Position
part_in (pairs_up l r tests) (Pair' q x q' y k) i = cond (l == i) x y
part_in f c i = below c

-- the position of input i in a position of operator n
abbrev pub part_at : List Operator → ℕ → Position → ℕ → Position
part_at ops n c i = part_in (shape_at ops n) c i

-- the first of two optional numbers that is there
abbrev pub or_other : Option ℕ → Option ℕ → Option ℕ
or_other None p = p
or_other (Some s) p = Some s

-- the source of the nodes that a variable holds after a stage, by the sources of its input's variables
abbrev pub stage_source : Stage → (ℕ → Option ℕ) → ℕ → Option ℕ
stage_source (filters test) of v = of v
stage_source (extends out made) of v = of v
stage_source (first_by_keys keys group) of v = cond (has_var keys v) (of v) None
stage_source (one_group piece out) of v = None
stage_source (in_order w desc) of v = of v

-- the source of the nodes that a variable of a shape holds, by the sources of its inputs' variables
abbrev pub shape_source : Shape → (ℕ → ℕ → Option ℕ) → ℕ → Option ℕ
shape_source (one_source s out) of v = cond (out == v) (Some s) None
shape_source (visits_below input start path out) of v = cond (out == v) (of input start) (of input v)
shape_source (pairs_up left right tests) of v = or_other (of left v) (of right v)
shape_source (passes_on input stage) of v = stage_source stage (of input) v
shape_source (no_events input made) of v = None

-- the source of the nodes that a variable of operator n holds
unfoldable pub source_var : List Operator → ℕ → ℕ → Option ℕ
source_var ops n = by_number (λ o. shape_source (shape_of o)) (λ v. None) ops n
