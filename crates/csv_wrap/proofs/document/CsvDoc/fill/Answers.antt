use Rattle.std.proofs.Common.{◌≡◌, ◌∙◌, ap, sym, subst}
use Rattle.lxp_core.specs.Fill.{Answers}
use Rattle.lxp_core.specs.Plain.{plain}
use Rattle.source_document.specs.Meaning.{without_tables}
use Rattle.csv_wrap.specs.Document.{given, means, part_given}
use Rattle.csv_wrap.proofs.Answering.{answers-given}
use Rattle.csv_wrap.proofs.document.CsvDoc.fill.Goals as goal

pub returns-clause-list : goal.returns-clause-list
returns-clause-list c = c.in_ok-give_part.ensures ∙ ap (part_given c.args.self.now) (sym c.in-Some.ensures.0)

pub returns-clause-answers : goal.returns-clause-answers
returns-clause-answers c =
    let d = c.args.self.now in
    let list : plain c.in_ok-give_part.field-0.items ≡ given c.args.self.now c.args.hole = c.in_ok-give_part.ensures ∙ ap (part_given d) (sym c.in-Some.ensures.0) in
    let doc = without_tables (means d) in
    subst (Answers doc doc c.args.hole) (sym list) (answers-given d c.args.hole)
