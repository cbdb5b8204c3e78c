use Rattle.std.proofs.Common.{sym, subst, List, ℕ}
use Rattle.node_text.specs.Grammar.{Spells}
use Rattle.node_text.proofs.Prefixes.{spelled_utf8}
use Rattle.lazy_value.proofs.text.text_of.Goals as goal

pub of_text-requires : goal.of_text-requires
of_text-requires c = spelled_utf8 c.deref.result.now c.args.node.now (subst (λ (x : List ℕ). Spells x c.args.node.now) (sym c.deref.ensures.value) c.in_ok-bytes.ensures)
