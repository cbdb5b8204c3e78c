-- The line that tells a class.
use Rattle.std.specs.Prelude.{ℕ, List, ◌++◌, codes}
use Rattle.std.specs.Fmt.{decimal}
use Rattle.browse_class.specs.declared.class.Class.{Class}
use Rattle.browse_class.specs.declared.class.Class.TheVariants.{Bounded, Browsable, Unbrowsable}

-- the line of a class, with LF
abbrev pub class_line : Class → List ℕ
class_line (Bounded most) = codes "class bounded " ++ decimal most ++ codes "\n"
class_line Browsable = codes "class browsable\n"
class_line Unbrowsable = codes "class unbrowsable\n"
