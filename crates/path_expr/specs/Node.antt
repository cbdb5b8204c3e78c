-- What a node of the code is.
use Rattle.path_expr.specs.Form.{name, any, seq, alt, star, plus, opt, none, Form, paths_of, repeated}
use Rattle.path_expr.specs.declared.path.Node.{Node}
use Rattle.path_expr.specs.declared.path.Node.TheVariants.{Name, Any, Seq, Alt, Star, Plus, Opt}

-- the path of a node
abbrev pub form_of : Node → Form
form_of (Name l) = record { head = name l; members = none }
form_of Any = record { head = any; members = none }
form_of (Seq ps) = record { head = seq; members = paths_of ps.items }
form_of (Alt ps) = record { head = alt; members = paths_of ps.items }
form_of (Star p) = repeated star p.value
form_of (Plus p) = repeated plus p.value
form_of (Opt p) = repeated opt p.value
