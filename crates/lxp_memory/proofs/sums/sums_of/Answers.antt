use Rattle.std.proofs.Common.{◌≡◌, ◌∙◌, ◌+◌, length, get_or, sym, ap, arith}
use Rattle.std.proofs.lemmas.List.{get_or-replicate, length-replicate}
use Rattle.lxp_memory.specs.Sums.{total_from}
use Rattle.lxp_memory.proofs.Totals.{total_end}
use Rattle.lxp_memory.proofs.sums.sums_of.Goals as goal

pub nodes-init : goal.nodes-init
nodes-init c =
    let ns = c.args.nodes.now in
    let zeros = c.in_ok-sums.ensures.items_if_clones_equal (λ y e. e) in
    record {
      count = ap length zeros ∙ length-replicate (length ns + 1) 0 ∙ omega arith;
      within = omega arith;
      sums = λ i low high.
          let last : length ns ≡ i = omega arith in
          ap (λ xs. get_or xs i 0) zeros ∙ get_or-replicate (length ns + 1) i 0 0 (omega arith) ∙ sym (total_end ns) ∙ ap (total_from ns) last;
    }
