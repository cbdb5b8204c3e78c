-- Which tokens may come at a stage of a rule, and what stage comes after them.
use Rattle.std.specs.Prelude.{ℕ, ◌+◌, ◌-◌, Bool, true, false, not, ◌&&◌}
use Rattle.xmas_tokens.specs.declared.token.Mark.TheVariants as mark
use Rattle.xmas_tokens.specs.declared.token.Kind.{Kind}
use Rattle.xmas_tokens.specs.declared.token.Kind.TheVariants as kind
use Rattle.xmas_text.specs.declared.stage.Last.{Last}
use Rattle.xmas_text.specs.declared.stage.Last.TheVariants as last
use Rattle.xmas_text.specs.declared.stage.Stage.{Stage}
use Rattle.xmas_text.specs.declared.stage.Stage.TheVariants as stage

-- whether no item stands before
abbrev pub is_first : Last → Bool
is_first last.Nothing = true
is_first (last.Item m) = false

-- an item may come: the first one at once, the others after a blank
abbrev pub may_stand : Last → Bool → Bool
may_stand last.Nothing gap = true
may_stand (last.Item m) gap = gap

-- whether a group label may come after this item
abbrev pub may_group_after : Last → Bool
may_group_after last.Nothing = false
may_group_after (last.Item m) = m

-- whether a token of the kind may come: inside an element or not, and after a blank or not
abbrev pub may_come : Stage → Bool → Bool → Kind → Bool
may_come stage.Beginning inside gap (kind.Fixed mark.Construct) = true
may_come (stage.Items l) false gap kind.OpenTag = is_first l && gap
may_come (stage.Items l) false gap (kind.Fixed mark.OpenBrace) = may_group_after l
may_come (stage.Items l) false gap (kind.Fixed mark.Where) = not (is_first l) && gap
may_come (stage.Items l) true gap kind.OpenTag = may_stand l gap
may_come (stage.Items l) true gap kind.CloseTag = true
may_come (stage.Items l) true gap kind.Var = may_stand l gap
may_come (stage.Items l) true gap kind.Quoted = may_stand l gap
may_come (stage.Items l) true gap (kind.Fixed mark.LabelWord) = may_stand l gap
may_come (stage.Items l) true gap (kind.Fixed mark.OpenBrace) = may_group_after l
may_come stage.Labelled inside gap kind.Var = gap
may_come (stage.Keys empty) inside gap kind.Var = empty
may_come (stage.Keys empty) inside gap (kind.Fixed mark.LabelWord) = empty
may_come (stage.Keys empty) inside gap (kind.Fixed mark.Comma) = not empty
may_come (stage.Keys empty) inside gap (kind.Fixed mark.CloseBrace) = true
may_come stage.KeyComma inside gap kind.Var = true
may_come stage.KeyComma inside gap (kind.Fixed mark.LabelWord) = true
may_come stage.KeyLabel inside gap kind.Var = gap
may_come stage.CondStart inside gap kind.Name = gap
may_come stage.CondStart inside gap kind.Var = gap
may_come (stage.CondFrom by_var) inside gap kind.Path = gap
may_come (stage.CondFrom by_var) inside gap kind.Operator = by_var
may_come stage.Compared inside gap kind.Var = true
may_come stage.Compared inside gap kind.Quoted = true
may_come stage.CondPath inside gap kind.Var = gap
may_come stage.CondDone inside gap (kind.Fixed mark.And) = gap
may_come stage.CondDone inside gap (kind.Fixed mark.Order) = gap
may_come stage.Ordering inside gap (kind.Fixed mark.By) = gap
may_come stage.OrderingBy inside gap kind.Var = gap
may_come (stage.Sorted true) inside gap (kind.Fixed mark.Desc) = gap
may_come s inside gap k = false

-- the stage after a token
abbrev pub stage_after : Stage → Kind → Stage
stage_after stage.Beginning (kind.Fixed mark.Construct) = stage.Items last.Nothing
stage_after (stage.Items l) kind.OpenTag = stage.Items last.Nothing
stage_after (stage.Items l) kind.CloseTag = stage.Items (last.Item true)
stage_after (stage.Items l) kind.Var = stage.Items (last.Item true)
stage_after (stage.Items l) kind.Quoted = stage.Items (last.Item false)
stage_after (stage.Items l) (kind.Fixed mark.LabelWord) = stage.Labelled
stage_after (stage.Items l) (kind.Fixed mark.OpenBrace) = stage.Keys true
stage_after (stage.Items l) (kind.Fixed mark.Where) = stage.CondStart
stage_after stage.Labelled kind.Var = stage.Items (last.Item true)
stage_after (stage.Keys empty) kind.Var = stage.Keys false
stage_after (stage.Keys empty) (kind.Fixed mark.LabelWord) = stage.KeyLabel
stage_after (stage.Keys empty) (kind.Fixed mark.Comma) = stage.KeyComma
stage_after (stage.Keys empty) (kind.Fixed mark.CloseBrace) = stage.Items (last.Item false)
stage_after stage.KeyComma kind.Var = stage.Keys false
stage_after stage.KeyComma (kind.Fixed mark.LabelWord) = stage.KeyLabel
stage_after stage.KeyLabel kind.Var = stage.Keys false
stage_after stage.CondStart kind.Name = stage.CondFrom false
stage_after stage.CondStart kind.Var = stage.CondFrom true
stage_after (stage.CondFrom by_var) kind.Path = stage.CondPath
stage_after (stage.CondFrom by_var) kind.Operator = stage.Compared
stage_after stage.Compared kind.Var = stage.CondDone
stage_after stage.Compared kind.Quoted = stage.CondDone
stage_after stage.CondPath kind.Var = stage.CondDone
stage_after stage.CondDone (kind.Fixed mark.And) = stage.CondStart
stage_after stage.CondDone (kind.Fixed mark.Order) = stage.Ordering
stage_after stage.Ordering (kind.Fixed mark.By) = stage.OrderingBy
stage_after stage.OrderingBy kind.Var = stage.Sorted true
stage_after (stage.Sorted may_descend) (kind.Fixed mark.Desc) = stage.Sorted false
stage_after s k = s

-- how many elements are open after a token
abbrev pub depth_after : ℕ → Kind → ℕ
depth_after n kind.OpenTag = n + 1
depth_after n kind.CloseTag = n - 1
depth_after n k = n
