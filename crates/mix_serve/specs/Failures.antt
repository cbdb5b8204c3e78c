-- How many replies say that a source failed.
use Rattle.std.specs.Prelude.{ℕ, ◌+◌, ◌==◌, ◌&&◌, Bool, true, false, cond, List, [], ◌∷◌}
use Rattle.wire_text.specs.declared.request.Request.{Request}
use Rattle.wire_text.specs.declared.request.Request.TheVariants.{Count, Root, Fill}
use Rattle.wire_text.specs.Reply.{Said, count, root, list, failed, unknown_hole, no_memory, no_source}

-- whether a reply says that the source failed
abbrev pub is_failed : Said → Bool
is_failed (count n) = false
is_failed (root id weight) = false
is_failed (list o) = false
is_failed failed = true
is_failed unknown_hole = false
is_failed no_memory = false
is_failed no_source = false

-- whether a request asks for a list of a source
abbrev pub asks : ℕ → Request → Bool
asks s Count = false
asks s (Root source) = false
asks s (Fill source hole) = source == s

-- how many of the replies to requests say that a source failed
abbrev pub failures : ℕ → List Request → List Said → ℕ
failures s [] said = 0
failures s (r ∷ rs) [] = 0
failures s (r ∷ rs) (a ∷ said) = cond (is_failed a && asks s r) 1 0 + failures s rs said
