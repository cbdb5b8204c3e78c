-- Trees whose names and variables are as the grammar has them.
use Rattle.std.specs.Prelude.{ℕ, List, [], ◌∷◌, Option, Some, None, Result, Ok, Err}
use Rattle.mix_tree.specs.Names.{IsName}
use Rattle.path_expr.specs.Form.{Form}
use Rattle.path_expr.specs.Results as paths
use Rattle.xmas_text.specs.declared.var.KeyText.{KeyText}
use Rattle.xmas_text.specs.declared.var.KeyText.TheVariants as keyed
use Rattle.xmas_tokens.specs.declared.lexeme.PathLimit.{PathLimit}
use Rattle.xmas_text.specs.declared.cond.OperandText.{OperandText}
use Rattle.xmas_text.specs.declared.cond.OperandText.TheVariants as operand
use Rattle.xmas_text.specs.declared.cond.CondText.{CondText}
use Rattle.xmas_text.specs.declared.cond.CondText.TheVariants as condition
use Rattle.xmas_text.specs.declared.rule.OrderText.{OrderText}
use Rattle.xmas_text.specs.Groups.{GroupForm}
use Rattle.xmas_text.specs.Contents.{Leaf, node, label_of, text, Contents, nothing, element, leaf}
use Rattle.xmas_text.specs.Elements.{contents_of}
use Rattle.xmas_tokens.specs.Lexical.{IsVar}
use Rattle.xmas_text.specs.Parsed.{RuleForm}

-- the name of a key's variable is one of the grammar
abbrev pub IsNamedKey : KeyText → Type 0
IsNamedKey (keyed.Node v) = IsVar v.name
IsNamedKey (keyed.LabelOf v) = IsVar v.name

-- the names of all keys' variables are of the grammar
abbrev pub AreNamedKeys : List KeyText → Type 0
AreNamedKeys [] = Unit {0}
AreNamedKeys (k ∷ ks) = IsNamedKey k × AreNamedKeys ks

-- the names of the variables in a group label are of the grammar
abbrev pub IsNamedGroup : Option GroupForm → Type 0
IsNamedGroup None = Unit {0}
IsNamedGroup (Some g) = AreNamedKeys g.keys

-- the name of a leaf's variable is of the grammar, and so are those in its group label
abbrev pub IsNamedLeaf : Leaf → Type 0
IsNamedLeaf (node s) = IsVar s.var.name × IsNamedGroup s.group
IsNamedLeaf (label_of s) = IsVar s.var.name × IsNamedGroup s.group
IsNamedLeaf (text l) = Unit {0}

-- the tags of all elements have names of the grammar, and all variables have such names
abbrev pub AreNamed : Contents → Type 0
AreNamed nothing = Unit {0}
AreNamed (element tags inside after) = IsName tags.name × IsName tags.close_name × IsNamedGroup tags.group × AreNamed inside × AreNamed after
AreNamed (leaf item after) = IsNamedLeaf item × AreNamed after

-- a path is one that some text spells within the limits
abbrev pub IsReadPath : Result Form PathLimit → Type 0
IsReadPath (Ok v) = (x : List ℕ) × paths.SpellsWithin x v
IsReadPath (Err l) = Unit {0}

-- the name of an operand's variable is of the grammar
abbrev pub IsNamedOperand : OperandText → Type 0
IsNamedOperand (operand.Var v) = IsVar v.name
IsNamedOperand (operand.Text l) = Unit {0}

-- the names of a condition's source and variables are of the grammar, and its path is one that a text spells within the limits
abbrev pub IsNamedCond : CondText → Type 0
IsNamedCond (condition.FromSource at name p v) = IsName name × IsReadPath p × IsVar v.name
IsNamedCond (condition.FromVar start p v) = IsVar start.name × IsReadPath p × IsVar v.name
IsNamedCond (condition.Compare left op right) = IsVar left.name × IsNamedOperand right

-- the names, variables and paths of all conditions are as the grammar has them
abbrev pub AreNamedConds : List CondText → Type 0
AreNamedConds [] = Unit {0}
AreNamedConds (c ∷ cs) = IsNamedCond c × AreNamedConds cs

-- the name of the variable that orders is of the grammar
abbrev pub IsNamedOrder : Option OrderText → Type 0
IsNamedOrder None = Unit {0}
IsNamedOrder (Some o) = IsVar o.var.name

-- all names, variables and paths of a tree are as the grammar has them
pub record IsNamedTree (v : RuleForm) : Type 0 where
  pub template : AreNamed (contents_of v.template)
  pub conds : AreNamedConds v.conds
  pub order : IsNamedOrder v.order
