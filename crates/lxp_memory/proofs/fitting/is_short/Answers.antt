use Rattle.std.proofs.Common.{◌≡◌, ◌∙◌, ◌&&◌, ◌^◌, length, true, nat_lt, ap, sym, arith}
use Rattle.std.proofs.lemmas.Bool.Decides.{nat_tests}
use Rattle.lxp_core.specs.Open.{without_holes}
use Rattle.lxp_core.specs.Small.{tops_of}
use Rattle.lxp_memory.proofs.MetTrees.{tops_of-forest}
use Rattle.lxp_memory.proofs.fitting.is_short.Goals as goal

pub returns-then-bytes-lt-TOO_LONG : goal.returns-then-bytes-lt-TOO_LONG
returns-then-bytes-lt-TOO_LONG c =
    let t = c.args.tree.now in
    let count : length c.kids.result.now ≡ tops_of (without_holes t.kids) = sym (tops_of-forest c.kids.result.now) ∙ ap (λ f. tops_of (without_holes f)) c.kids.ensures in
    let label : length c.bytes.result.now ≡ length t.label = ap length (c.bytes.ensures.bytes ∙ c.label.ensures) in
    let short : true ≡ nat_lt (length t.label) (2 ^ 32) = grind (arith, nat_tests) in
    ap (λ n. nat_lt n (2 ^ 32)) count ∙ ap (λ b. b && nat_lt (tops_of (without_holes t.kids)) (2 ^ 32)) short
