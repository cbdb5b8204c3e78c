-- Group labels as values.
use Rattle.std.specs.Prelude.{ℕ, List}
use Rattle.xmas_text.specs.declared.var.KeyText.{KeyText}

-- the place of the brace, and the keys in order
pub record GroupForm : Type 0 where
  pub at : ℕ
  pub keys : List KeyText
