-- The nodes that a buffer's entries are.
use Rattle.std.specs.Prelude.{◌≡◌, ℕ, List, [], map}
use Rattle.std.proofs.Common.{get_or}
use Rattle.lxp_core.specs.Open.{Open, nil}
use Rattle.lxp_core.specs.Plain.{stacked}
use Rattle.tree_buffer.specs.Nodes.{Nodes, IsLinked}
use Rattle.tree_buffer.specs.declared.entry.Entry.{Entry}

-- an entry's parent, and its index there
abbrev pub link_of : Entry → ℕ × ℕ
link_of e = (e.parent, e.index)

-- an entry's label
abbrev pub entry_label : Entry → List ℕ
entry_label e = e.label

-- the list of an entry's children that were not handed out
abbrev pub list_of : Entry → Open
list_of e = stacked e.rest.items nil

-- a buffer's entries as nodes: one list for each field
abbrev pub nodes : List Entry → Nodes
nodes es = record {
  links = map link_of es;
  counts = map (λ e. e.count) es;
  firsts = map (λ e. e.first) es;
  nexts = map (λ e. e.next) es;
  labels = map entry_label es;
  rests = map list_of es;
}

-- the parents, counts, first children and next siblings of a buffer's entries agree with one another
abbrev pub AreLinked : List Entry → Type 0
AreLinked es = IsLinked (nodes es).links (nodes es).counts (nodes es).firsts (nodes es).nexts

-- the first entry has the empty label
abbrev pub HasBareTop : List Entry → Type 0
HasBareTop es = get_or (nodes es).labels 0 [] ≡ []
