-- Sets of sorts and their layouts.
use Rattle.std.specs.Prelude.{◌≡◌, true, List}
use Rattle.mix_base.specs.Ascents.{Among}
use Rattle.browse_visit.specs.declared.shape.Shape.{Shape}
use Rattle.browse_visit.specs.declared.shape.Sort.{Sort}
use Rattle.browse_visit.specs.declared.shape.Sorts.{Sorts}
use Rattle.browse_visit.specs.Layouts.{Layout}
use Rattle.browse_visit.specs.Shapes.{sort_layout, has_sort}

-- a layout is that of a sort of the set
abbrev pub In : Shape → Sorts → Layout → Type 0
In shape k g = (s : Sort) × (has_sort k s ≡ true) × (sort_layout shape s ≡ g)

-- the layouts of a set's sorts are exactly these
pub record IsSet (shape : Shape) (k : Sorts) (gs : List Layout) : Type 0 where
  pub into : (g : Layout) → Among g gs → In shape k g
  pub out : (g : Layout) → In shape k g → Among g gs
