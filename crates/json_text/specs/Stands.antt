-- What a JSON file stands for.
use Rattle.std.specs.Prelude.{◌≡◌, ℕ, List, Some}
use Rattle.std.specs.Str.{IsUtf8}
use Rattle.mix_tree.specs.Forest.{LabelledTree}
use Rattle.json.specs.Json.{Json, document}
use Rattle.json_text.specs.Trees.{value_tree}

-- a text is a JSON value, and a tree is that of the value as a source of a given name
abbrev pub HoldsValue : List ℕ → List ℕ → LabelledTree → Type 0
HoldsValue name text t = (v : Json) × IsUtf8 text × (document text ≡ Some v) × (t ≡ value_tree name v)
