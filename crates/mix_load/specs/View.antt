-- The view of the names of people, as a rule over one source.
use Rattle.std.specs.Prelude.{[], ◌∷◌, None, codes}
use Rattle.mix_tree.specs.declared.var.Key.TheVariants.{Node}
use Rattle.path_expr.specs.Form.{Head, name, any, seq, Form, none, path}
use Rattle.xmas_rule.specs.declared.condition.Cond.{Cond}
use Rattle.xmas_rule.specs.declared.condition.Cond.TheVariants.{FromSource, FromVar}
use Rattle.xmas_rule.specs.Items.{Element, done, variable, element, whole}
use Rattle.xmas_rule.specs.Rules.{RuleValue}

-- a path of two steps, one after the other
abbrev pub two_steps : Head → Head → Form
two_steps first second = record { head = seq; members = path first none (path second none none) }

-- the condition that R is a row of the source of people
abbrev pub rows_condition : Cond
rows_condition = FromSource 0 (two_steps (name (codes "people")) (name (codes "row"))) 0

-- the condition that N is what stands below the column `name` of R
abbrev pub names_condition : Cond
names_condition = FromVar 0 (two_steps (name (codes "name")) any) 1

-- the element that is built for each pair of R and N, with N in it
abbrev pub person_element : Element
person_element = record { label = codes "p"; items = variable whole 1 [] done; keys = Node 0 ∷ Node 1 ∷ [] }

-- the one outer element, in which the elements of the pairs are
abbrev pub names_element : Element
names_element = record { label = codes "names"; items = element person_element.label person_element.items person_element.keys done; keys = [] }

-- the rule of the view of people's names
abbrev pub names_rule : RuleValue
names_rule = record {
  label = names_element.label;
  items = names_element.items;
  keys = names_element.keys;
  conds = rows_condition ∷ names_condition ∷ [];
  order = None;
  names = codes "R" ∷ codes "N" ∷ [];
}
