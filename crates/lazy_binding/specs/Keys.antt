-- Keys that were seen, by the spots of their nodes.
use Rattle.std.specs.Prelude.{◌≡◌, [], Some, Bool, true, false, List, ◌==◌, ◌&&◌}
use Rattle.std.specs.List.{list_any}
use Rattle.std.specs.Str.{bytes_eq}
use Rattle.std.specs.Cmp.Lexicographic.{pointwise}
use Rattle.std.specs.Hash as fed
use Rattle.mix_tree.specs.Keys.{key_var}
use Rattle.mix_tree.specs.declared.var.Key.{Key}
use Rattle.plan_core.specs.Valid.{Kinds, a_node}
use Rattle.lazy_binding.specs.declared.key.KeyPart.{KeyPart}
use Rattle.lazy_binding.specs.declared.key.KeyPart.TheVariants.{Node as node_part, Label as label_part, Free as free_part}

-- whether two parts of keys are the same: one spot of one source, or the same label
abbrev pub same_part : KeyPart → KeyPart → Bool
same_part (node_part s x) (node_part t y) = (s == t) && (x.number == y.number)
same_part (label_part a) (label_part b) = bytes_eq a b
same_part free_part free_part = true
same_part p q = false

-- whether two keys have the same parts, one by one
abbrev pub same_parts : List KeyPart → List KeyPart → Bool
same_parts = pointwise same_part

-- whether a key is among those that were seen
abbrev pub was_seen : List KeyPart → List (List KeyPart) → Bool
was_seen key seen = list_any (λ k. same_parts k key) seen

-- what a part of a key feeds a hasher
abbrev pub part_fed : KeyPart → fed.HashWrites
part_fed (node_part s x) = fed.u32 x.number
part_fed (label_part label) = fed.slice fed.u8 label
part_fed free_part = []

-- the variable of a key holds a node
abbrev pub IsNodeKey : Kinds → Key → Type 0
IsNodeKey kinds key = kinds (key_var key) ≡ Some a_node
