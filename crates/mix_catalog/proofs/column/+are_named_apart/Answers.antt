use Rattle.std.proofs.Common.{◌∙◌, ◌&&◌, not, ap, sym, take, drop, length, map, ◌-◌}
use Rattle.std.specs.List.{list_any}
use Rattle.std.specs.Str.{bytes_eq}
use Rattle.mix_catalog.specs.declared.column.Column.{Column}
use Rattle.mix_catalog.specs.Columns.{are_apart}
use Rattle.mix_catalog.proofs.NamedApart.{named_apart}
use Rattle.mix_catalog.proofs.column.+are_named_apart.Goals as goal

pub returns-then-not-is_named_among : goal.returns-then-not-is_named_among
returns-then-not-is_named_among t c =
    let others = take (length c.args.columns.now - 1) (drop 1 c.args.columns.now) in
    c.are_named_apart.ensures ∙ sym (named_apart c.args.columns.now c.first-item.result c.in-len1-up.len_at_least
    ∙ ap (λ b. not b && are_apart (map (λ (x : Column). x.name) others)) (ap (λ (x : Column). list_any (λ (y : Column). bytes_eq x.name y.name) others) (sym c.first-item.is) ∙ sym c.is_named_among.ensures ∙ c.if-not-is_named_among.true))

pub returns-else-not-is_named_among : goal.returns-else-not-is_named_among
returns-else-not-is_named_among t c =
    let others = take (length c.args.columns.now - 1) (drop 1 c.args.columns.now) in
    ap not c.if-not-is_named_among.false ∙ sym (named_apart c.args.columns.now c.first-item.result c.in-len1-up.len_at_least
    ∙ ap (λ b. not b && are_apart (map (λ (x : Column). x.name) others)) (ap (λ (x : Column). list_any (λ (y : Column). bytes_eq x.name y.name) others) (sym c.first-item.is) ∙ sym c.is_named_among.ensures ∙ c.if-not-is_named_among.false))
