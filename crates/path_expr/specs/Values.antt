-- The path that a written path means.
use Rattle.std.specs.Prelude.{ℕ, cond, ◌==◌, List, [], ◌∷◌, ◌++◌}
use Rattle.std.specs.Str.{bytes_eq}
use Rattle.mix_tree.specs.LabelGrammar.{meaning}
use Rattle.path_expr.specs.Grammar.{Spelled, word, quote, group, marked, dot, bar}
use Rattle.path_expr.specs.Form.{Head, name, any, seq, alt, star, plus, opt, none, Form, joined, repeated}

-- the path that is a label alone
abbrev pub named : List ℕ → Form
named l = record { head = name l; members = none }

-- the path that a bare word means: any label where it is _, else the name
abbrev pub word_form : List ℕ → Form
word_form l = cond (bytes_eq l (95 ∷ [])) (record { head = any; members = none }) (named l)

-- the head that a mark means
abbrev pub mark_head : ℕ → Head
mark_head b = cond (b == 42) star (cond (b == 43) plus opt)

-- the value, and the members as of a sequence, and as of a choice
pub record Read : Type 0 where
  pub value : Form
  pub dots : List Form
  pub bars : List Form

-- what is neither a sequence nor a choice
abbrev pub alone : Form → Read
alone v = record { value = v; dots = v ∷ []; bars = v ∷ [] }

-- members with dots between them
abbrev pub as_seq : List Form → Read
as_seq vs = record { value = joined seq vs; dots = vs; bars = joined seq vs ∷ [] }

-- members with bars between them
abbrev pub as_alt : List Form → Read
as_alt vs = record { value = joined alt vs; dots = joined alt vs ∷ []; bars = vs }

-- what a written path means, with its members
abbrev pub read : Spelled → Read
read (word l) = alone (word_form l)
read (quote ps) = alone (named (meaning ps))
read (group p) = alone (read p).value
read (marked p m) = alone (repeated (mark_head m) (read p).value)
read (dot p q) = as_seq ((read p).dots ++ (read q).value ∷ [])
read (bar p q) = as_alt ((read p).bars ++ (read q).value ∷ [])

-- the path that a written path means
abbrev pub value_of : Spelled → Form
value_of p = (read p).value
