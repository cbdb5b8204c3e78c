-- How large elements are.
use Rattle.std.specs.Prelude.{ℕ, ◌+◌}
use Rattle.xmas_text.specs.Contents.{Contents, nothing, element, leaf, ElementForm}

-- how many items there are, those inside included
abbrev pub contents_size : Contents → ℕ
contents_size nothing = 0
contents_size (element tags inside after) = 1 + contents_size inside + contents_size after
contents_size (leaf item after) = 1 + contents_size after

-- how many items an element has, those inside included, and the element itself
abbrev pub element_size : ElementForm → ℕ
element_size e = 1 + contents_size e.contents
