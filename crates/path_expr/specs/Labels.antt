-- The labels of paths as texts.
use Rattle.std.specs.Str.{IsUtf8}
use Rattle.path_expr.specs.Form.{Head, name, any, seq, alt, star, plus, opt, Paths, none, path}

-- the label of a head, where it has one, is UTF-8
abbrev pub HeadUtf8 : Head → Type 0
HeadUtf8 (name l) = IsUtf8 l
HeadUtf8 any = Unit {0}
HeadUtf8 seq = Unit {0}
HeadUtf8 alt = Unit {0}
HeadUtf8 star = Unit {0}
HeadUtf8 plus = Unit {0}
HeadUtf8 opt = Unit {0}

-- the labels of paths are UTF-8
abbrev pub AreUtf8 : Paths → Type 0
AreUtf8 none = Unit {0}
AreUtf8 (path head members after) = HeadUtf8 head × AreUtf8 members × AreUtf8 after
