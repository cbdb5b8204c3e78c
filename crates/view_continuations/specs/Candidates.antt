-- What may stand at a place of a view's text: each candidate with a spelling that is tried, and its name for people.
use Rattle.std.specs.Prelude.{ℕ, Bool, true, false, List, Option, Some, None, codes}
use Rattle.view_continuations.specs.declared.candidate.Candidate.{Candidate}
use Rattle.view_continuations.specs.declared.candidate.Candidate.TheVariants.{Construct, Where, And, Order, By, Desc, LabelOf, Variable, Quoted, Name, OpenTag, CloseTag, TagEnd, OpenBrace, CloseBrace, Comma, Comparison, Dot, Bar, Repeat, OpenParenthesis, CloseParenthesis, LabelEnd, Escape, End}

-- a spelling of a candidate; the end has none
abbrev pub spelling_of : Candidate → Option (List ℕ)
spelling_of Construct = Some (codes "CONSTRUCT")
spelling_of Where = Some (codes "WHERE")
spelling_of And = Some (codes "AND")
spelling_of Order = Some (codes "ORDER")
spelling_of By = Some (codes "BY")
spelling_of Desc = Some (codes "DESC")
spelling_of LabelOf = Some (codes "label $x")
spelling_of Variable = Some (codes "$x")
spelling_of Quoted = Some (codes "\"x\"")
spelling_of Name = Some (codes "x")
spelling_of OpenTag = Some (codes "<x>")
spelling_of CloseTag = Some (codes "</x>")
spelling_of TagEnd = Some (codes ">")
spelling_of OpenBrace = Some (codes "{")
spelling_of CloseBrace = Some (codes "}")
spelling_of Comma = Some (codes ",")
spelling_of Comparison = Some (codes "=$x")
spelling_of Dot = Some (codes ".x")
spelling_of Bar = Some (codes "|x")
spelling_of Repeat = Some (codes "*")
spelling_of OpenParenthesis = Some (codes "(x")
spelling_of CloseParenthesis = Some (codes ")")
spelling_of LabelEnd = Some (codes "\"")
spelling_of Escape = Some (codes "n")
spelling_of End = None

-- the name of a candidate, as it is written for people
abbrev pub name_of : Candidate → List ℕ
name_of Construct = codes "CONSTRUCT"
name_of Where = codes "WHERE"
name_of And = codes "AND"
name_of Order = codes "ORDER BY"
name_of By = codes "BY"
name_of Desc = codes "DESC"
name_of LabelOf = codes "label $X"
name_of Variable = codes "a variable ($X)"
name_of Quoted = codes "a label in double quotes (\"text\")"
name_of Name = codes "a name"
name_of OpenTag = codes "an element (<name>)"
name_of CloseTag = codes "a closing tag (</name>)"
name_of TagEnd = codes "> to end the tag"
name_of OpenBrace = codes "a group label ({$X})"
name_of CloseBrace = codes "}"
name_of Comma = codes "a comma and another key"
name_of Comparison = codes "a comparison (= != < <= > >=)"
name_of Dot = codes ". and another step"
name_of Bar = codes "| and another choice"
name_of Repeat = codes "* + or ?"
name_of OpenParenthesis = codes "a path in parentheses"
name_of CloseParenthesis = codes ")"
name_of LabelEnd = codes "the quote that ends the label"
name_of Escape = codes "n, t, a quote or a backslash"
name_of End = codes "the end of the view"

-- whether the spelling of a candidate begins with a letter, which goes on with a word before it
abbrev pub begins_word : Candidate → Bool
begins_word Construct = true
begins_word Where = true
begins_word And = true
begins_word Order = true
begins_word By = true
begins_word Desc = true
begins_word LabelOf = true
begins_word Variable = false
begins_word Quoted = false
begins_word Name = true
begins_word OpenTag = false
begins_word CloseTag = false
begins_word TagEnd = false
begins_word OpenBrace = false
begins_word CloseBrace = false
begins_word Comma = false
begins_word Comparison = false
begins_word Dot = false
begins_word Bar = false
begins_word Repeat = false
begins_word OpenParenthesis = false
begins_word CloseParenthesis = false
begins_word LabelEnd = false
begins_word Escape = false
begins_word End = false
