use Rattle.std.proofs.Common.{sym, subst}
use Rattle.xmas_read.specs.Results.{names_of_sources, IsWantOfMemory}
use Rattle.xmas_read.proofs.Acceptance.{accepted_answer}
use Rattle.xmas_read.proofs.Outcomes.{answers_of}
use Rattle.xmas_read.proofs.ReadAgain.{reads_spelled, wants_memory}
use Rattle.xmas_read.proofs.reading.read_rule.Goals as goal

pub returns-in-Ok : goal.returns-in-Ok
returns-in-Ok c =
    let answers = answers_of c.args.text.now (names_of_sources c.args.catalog.now) c.in-Ok.tree c.check_tree.result c.in-Ok.ensures.answers.0 c.in-Ok.ensures.answers.1 c.check_tree.ensures in
    record { answers = answers; only = reads_spelled c.args.text.now (names_of_sources c.args.catalog.now) c.check_tree.result answers; accepted = accepted_answer c.args.text.now (names_of_sources c.args.catalog.now) c.check_tree.result answers }

pub returns-in-Err-clause-only : goal.returns-in-Err-clause-only
returns-in-Err-clause-only c = λ v s. subst IsWantOfMemory (sym c.fault_of.ensures) (wants_memory c.args.text.now (names_of_sources c.args.catalog.now) c.in-Err.fault c.in-Err.ensures.only v s)
