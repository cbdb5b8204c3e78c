-- What a list costs, in words.
use Rattle.std.specs.Prelude.{ℕ, zero, suc, Bool, cond, List, [], ◌++◌, Option, Some, None, codes}
use Rattle.std.specs.Fmt.{decimal}
use Rattle.browse_profile.specs.declared.profile.Profile.{Profile}
use Rattle.browse_profile.specs.Bounds.{larger}
use Rattle.browse_profile.specs.Profiles.{greatest}
use Rattle.list_costs.specs.declared.words.Standing.{Standing}

-- a number that is promised, or that none is
abbrev pub bound_words : Option ℕ → List ℕ
bound_words None = codes "any number"
bound_words (Some n) = decimal n

-- what steps in a list cost at most: into it, whether it has members or not; from one member to the next; and behind the last
abbrev pub cost_words : Profile → List ℕ
cost_words p =
    codes ": entering " ++ bound_words (larger p.lead p.none) ++ codes ", going on " ++ bound_words p.between ++ codes ", leaving " ++ bound_words p.trail
    ++ codes "\n"

-- two blanks for each list around
abbrev pub indent : ℕ → List ℕ
indent zero = []
indent (suc n) = indent n ++ codes "  "

-- the line of a reason, where the greatest of a list's numbers isn't promised
abbrev pub reason_line : List ℕ → Option ℕ → List ℕ → List ℕ
reason_line blanks (Some n) reason = []
reason_line blanks None reason = blanks ++ codes "    since " ++ reason ++ codes "\n"

-- that an element stands once in the element around it, where it does
abbrev pub once_words : Bool → List ℕ
once_words once = cond once (codes ", which has no key of its own and stands once") []

-- the lines of the list of an element of a label that stands so
abbrev pub list_lines : Standing → List ℕ → Profile → List ℕ → List ℕ
list_lines s label p reason =
    indent s.depth ++ codes "  the list of <" ++ label ++ codes ">" ++ once_words s.once ++ cost_words p
    ++ reason_line (indent s.depth) (greatest p) reason
