use Rattle.std.proofs.Common.{◌≡◌, ◌∙◌, ◌++◌, sym, ap, subst, arith}
use Rattle.csv_wrap.specs.Csv.{IsFile}
use Rattle.mix_load.specs.People.{people, people_columns, people_text, person, record_line}
use Rattle.mix_load.proofs.Lines.{text_is_file, text_more}
use Rattle.mix_load.proofs.people.people_text.Goals as goal

pub people-preserved : goal.people-preserved
people-preserved c =
    c.in_ok-push_person.ensures ∙ ap (λ x. x ++ record_line (person c.people.number)) c.people.invariant ∙ sym (text_more c.people.number)

pub returns-clause-text : goal.returns-clause-text
returns-clause-text c =
    let all : c.people.number ≡ c.args.count = omega (arith, c.people.auto.number-end, c.people-test.false) in
    c.people.invariant ∙ ap people_text all

pub returns-clause-file : goal.returns-clause-file
returns-clause-file c =
    subst (λ x. IsFile x people_columns (people c.args.count)) (sym (returns-clause-text c)) (text_is_file c.args.count (omega (arith, c.ranges.count.fits)))
