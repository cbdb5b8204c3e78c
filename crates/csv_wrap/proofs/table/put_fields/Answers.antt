use Rattle.std.proofs.Common.{◌∙◌, ◌++◌, ◌∷◌, [], append_assoc, sym, ap, arith, add-one, take}
use Rattle.mix_base.proofs.Lists.{append_nil}
use Rattle.csv.specs.Records.{AllText, fields_of}
use Rattle.csv_wrap.proofs.FieldFacts.{no_field, take_field, text_at, text_more}
use Rattle.csv_wrap.proofs.table.put_fields.Goals as goal

pub fields-init : goal.fields-init
unfolding AllText
fields-init c = record { added = sym (append_nil c.args.fields.now); text = tt }

pub returns-in_default : goal.returns-in_default
returns-in_default c =
    let past = no_field (fields_of c.args.found.now) c.fields.i (sym c.in_default.ensures.value) in
    absurd (omega arith)

pub returns-in_default-from_utf8 : goal.returns-in_default-from_utf8
returns-in_default-from_utf8 c = λ t. c.in_default-from_utf8.ensures.cases.0 (text_at (fields_of c.args.found.now) c.fields.i c.in-Some.field.now (sym c.in-Some.ensures.value) t)

pub fields-preserved : goal.fields-preserved
fields-preserved c =
    let fields = fields_of c.args.found.now in
    let field = c.in-Some.field.now in
    rw (add-one, take_field fields c.fields.i field (sym c.in-Some.ensures.value)) (record {
      added = c.in_ok-push.ensures.ok ∙ ap (λ fs. fs ++ field ∷ []) c.fields.invariant.added ∙ append_assoc c.args.fields.now (take c.fields.i fields) (field ∷ []);
      text = text_more _ _ c.fields.invariant.text c.in-Ok.ensures.cases.1;
    })
