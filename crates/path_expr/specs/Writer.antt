-- What the code writes around a member.
use Rattle.std.specs.Prelude.{Bool}
use Rattle.path_expr.specs.Form.{Head, Form}
use Rattle.path_expr.specs.Canonical.{Member, canon, wraps_in_seq, wraps_in_alt, wraps_in_mark}
use Rattle.path_expr.specs.declared.writing.Around.{Around}
use Rattle.path_expr.specs.declared.writing.Around.TheVariants.{Sequence, Choice, Mark}

-- which members stand in parentheses in a sequence, in a choice or under a mark
abbrev pub wraps_in : Around → Head → Bool
wraps_in Sequence = wraps_in_seq
wraps_in Choice = wraps_in_alt
wraps_in Mark = wraps_in_mark

-- a path as a member: its head and its canonical text
abbrev pub member_of : Form → Member
member_of v = record { head = v.head; text = canon v }
