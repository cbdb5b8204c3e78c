use Rattle.std.proofs.Common.{Some, subst, sym}
use Rattle.lxp_core.specs.Plain.{plain}
use Rattle.table_wrap.specs.declared.parts.Part.{Part}
use Rattle.table_wrap.specs.declared.parts.Part.TheVariants.{Name}
use Rattle.table_wrap.specs.Document.{IsAnswer}
use Rattle.table_wrap.proofs.Given.{answer_name}
use Rattle.table_wrap.proofs.document.TableDoc.give_part.Goals as goal

pub returns-in_ok-give_name-in-Name-clause-answer : goal.returns-in_ok-give_name-in-Name-clause-answer
returns-in_ok-give_name-in-Name-clause-answer g c =
    let v = g.T.Tables.view c.args.t.now in
    let d = c.args.self.now in
    subst (λ (p : Part). IsAnswer v d (Some p) (plain c.in_ok-give_name-in-Name.field-0.items)) (sym c.in-Name.is)
    (subst (IsAnswer v d (Some Name)) (sym c.in_ok-give_name-in-Name.ensures) (answer_name v d))
