use Rattle.std.proofs.Common.{◌≡◌, ◌++◌, map, drop}
use Rattle.xmas_text.specs.Elements.{contents_of}
use Rattle.xmas_read.specs.Tree.{contents_vars}
use Rattle.xmas_read.proofs.vars.+vars.Given as goal

abbrev pub invariant-push_items-loop-item : goal.invariant-push_items-loop-item
invariant-push_items-loop-item l =
    map (λ v. v.now) l.vars.items ++ contents_vars (contents_of (drop l.item-index l.items)) ≡ map (λ v. v.now) l.fn.vars.items ++ contents_vars (contents_of l.items)
