use Rattle.std.proofs.Common.{List, ℕ, subst, sym}
use Rattle.mix_catalog.specs.Grammar.{file_of}
use Rattle.source_checks.specs.Beside.{IsBeside}
use Rattle.source_checks.specs.Words.{csv_columns}
use Rattle.source_checks.proofs.Files.{cause_of}
use Rattle.source_checks.proofs.file.text_lines.Goals as goal

pub returns-in_ok-words-in-Some : goal.returns-in_ok-words-in-Some
returns-in_ok-words-in-Some c =
    λ old new read.
    let path = file_of c.args.spec.now.kind in
    let fault = c.in-Some.fault in
    let beside = c.in_ok-words-in-Some.ensures old path read in
    let columns = subst (λ (columns : List (List ℕ)). IsBeside old path columns fault c.in_ok-words-in-Some.words.items) c.csv_columns.ensures beside in
    c.refusal_lines.ensures old new
    (cause_of c.args.spec.now.kind old new path c.args.bytes.now fault read (rw c.in-Some.is at c.in_ok-fault_of.ensures))
    (subst (λ (words : List ℕ). IsBeside old path (csv_columns c.args.spec.now.kind) fault words) (sym c.deref.ensures.value) columns)
