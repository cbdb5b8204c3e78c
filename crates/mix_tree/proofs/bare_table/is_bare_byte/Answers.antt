use Rattle.std.proofs.Common.{◌≡◌, ◌<◌, ◌+◌, ◌∙◌, ap, get_or, arith, false}
use Rattle.mix_tree.specs.Spelling.{is_bare}
use Rattle.mix_tree.proofs.TableLaws.{tabulate-at}
use Rattle.mix_tree.proofs.bare_table.is_bare_byte.Goals as goal

pub returns : goal.returns
returns c =
    let fits : c.args.byte < 256 = omega arith in
    let same : 0 + c.args.byte ≡ c.args.byte = omega arith in
    ap (λ t. get_or t c.args.byte false) c.table.ensures ∙ tabulate-at is_bare 0 256 c.args.byte false fits ∙ ap is_bare same
