-- Elements and their items as values.
use Rattle.std.specs.Prelude.{ℕ, List, Option}
use Rattle.xmas_text.specs.Groups.{GroupForm}
use Rattle.xmas_text.specs.declared.var.ShownText.{ShownText}

-- an item that holds no others
pub data Leaf : Type 0 where
  node : ShownText → Leaf
  label_of : ShownText → Leaf
  text : List ℕ → Leaf

-- the tags of an element and its group label
pub record Tags : Type 0 where
  pub at : ℕ
  pub name : List ℕ
  pub close_at : ℕ
  pub close_name : List ℕ
  pub group : Option GroupForm

-- the items of an element in order: none, or a first item and those after it
pub data Contents : Type 0 where
  nothing : Contents
  element : (tags : Tags) → (inside : Contents) → (after : Contents) → Contents
  leaf : (item : Leaf) → (after : Contents) → Contents

-- an element: the place of its opening tag, its name, what stands inside, its closing tag, and its group label
pub record ElementForm : Type 0 where
  pub at : ℕ
  pub name : List ℕ
  pub contents : Contents
  pub close_at : ℕ
  pub close_name : List ℕ
  pub group : Option GroupForm

-- the two tags of an element and its group label
abbrev pub tags_of : ElementForm → Tags
tags_of e = record { at = e.at; name = e.name; close_at = e.close_at; close_name = e.close_name; group = e.group }
