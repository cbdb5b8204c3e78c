use Rattle.std.proofs.Common.{Some, subst, sym}
use Rattle.table_keep.specs.Rows.{rows_of}
use Rattle.table_wrap.specs.declared.parts.Part.TheVariants.{Rows}
use Rattle.table_wrap.specs.Document.{IsAnswer, declared_of}
use Rattle.table_wrap.proofs.Given.{answer_rows}
use Rattle.table_wrap.proofs.document.TableDoc.give_rows.Goals as goal

pub returns-clause-answer : goal.returns-clause-answer
returns-clause-answer g c =
    let v = g.T.Tables.view c.args.t.now in
    let d = c.args.self.now in
    let page = c.in_ok-rows.ensures in
    let given = c.in_ok-give_page.ensures in
    subst (IsAnswer v d (Some (Rows c.args.after))) (sym given.given)
    (answer_rows v d c.args.after (rows_of c.in_ok-rows.rows.items) (g.met.T.Tables.rising c.args.t.now (declared_of d)) page.page page.first given.keys given.range)
