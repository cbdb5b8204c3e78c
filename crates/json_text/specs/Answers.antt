-- What reading answers: the document of the value that a JSON text is, or why there is none.
use Rattle.std.specs.Prelude.{◌≡◌, ℕ, ◌≤◌, List, length, Some, None, Result, Ok, Err}
use Rattle.std.specs.Str.{IsUtf8}
use Rattle.std.specs.Str.Lossy.{utf8_valid_len}
use Rattle.document_store.specs.Laid.{LaidNode, IsDocument}
use Rattle.json.specs.Json.{Json, document}
use Rattle.json_text.specs.Trees.{value_tree}
use Rattle.json_text.specs.declared.fault.JsonFault.{JsonFault}
use Rattle.json_text.specs.declared.fault.JsonFault.TheVariants.{NotUtf8, NotJson, OutOfMemory}

-- the fault is that of the text: it isn't UTF-8 from a place on, or it is no value of JSON, or memory ran out
abbrev pub Refuses : List ℕ → JsonFault → Type 0
Refuses text (NotUtf8 at) = (¬ IsUtf8 text) × (at ≡ utf8_valid_len text)
Refuses text (NotJson at) = IsUtf8 text × (document text ≡ None) × (at ≤ length text)
Refuses text OutOfMemory = Unit {0}

-- the document of the value that the text is, whose root has a given name, or why there is none
abbrev pub Answers : List ℕ → List ℕ → Result (List LaidNode) JsonFault → Type 0
Answers text name (Ok nodes) = (v : Json) × IsUtf8 text × (document text ≡ Some v) × IsDocument nodes (value_tree name v)
Answers text name (Err fault) = Refuses text fault
