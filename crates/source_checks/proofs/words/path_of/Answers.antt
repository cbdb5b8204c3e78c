use Rattle.std.proofs.Math.Logic.{∥∥₁_elim}
use Rattle.source_checks.proofs.words.path_of.Goals as goal

pub unreachable-requires : goal.unreachable-requires
unreachable-requires c = ∥∥₁_elim c.bytes.ensures.utf8 (λ x y. absurd x) c.in-Err.ensures.cases.0
