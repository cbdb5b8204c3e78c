use Rattle.std.proofs.Common.{◌∙◌, sym}
use Rattle.std.proofs.lemmas.Result.{IfOk-weaker}
use Rattle.lxp_core.specs.Plain.{plain}
use Rattle.source_document.proofs.Kept.{answers_kept}
use Rattle.table_wrap.specs.Document.{means, means_kept}
use Rattle.table_wrap.proofs.document.TableDoc.fill.Goals as goal

pub returns-clause-answers : goal.returns-clause-answers
returns-clause-answers g c =
    let d = c.args.self.now in
    let old = g.T.Tables.view c.args.t.now in
    let new = g.T.Tables.view c.give_part.new.t in
    IfOk-weaker c.give_part.result _ _
    (λ list a. answers_kept (means d) old new c.args.hole (plain list.items) (means_kept d) c.give_part.ensures.keeps (a.answers c.args.hole (sym c.of_hole.ensures ∙ c.in-Some.is)))
    c.give_part.ensures.answer
