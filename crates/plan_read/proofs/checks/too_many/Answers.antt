use Rattle.std.proofs.Common.{◌<◌, arith, length, slice_index_or}
use Rattle.std.proofs.lemmas.List.{get_or_default}
use Rattle.plan_read.specs.Checks.{AreFew}
use Rattle.plan_read.proofs.Stopping.{stops_at}
use Rattle.plan_read.proofs.checks.too_many.Goals as goal

pub returns-then-drafts-gt-OPERATORS : goal.returns-then-drafts-gt-OPERATORS
returns-then-drafts-gt-OPERATORS c =
    let ds = c.args.drafts.now in
    let d = slice_index_or ds 10000 c.index-drafts-10000.result in
    let inside : 10000 < length ds = omega arith in
    stops_at AreFew ds 10000 d inside (get_or_default ds 10000 c.index-drafts-10000.result d inside) (omega arith) (λ few. omega (arith, few))
