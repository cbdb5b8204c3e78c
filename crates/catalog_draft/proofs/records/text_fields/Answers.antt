use Rattle.std.proofs.Common.{rules, ◌∙◌, ◌++◌, ◌∷◌, [], ap, arith, add-one, sym, take}
use Rattle.csv.specs.Records.{AllText, fields_of}
use Rattle.csv_wrap.proofs.FieldFacts.{no_field, take_field, text_at, text_more}
use Rattle.catalog_draft.proofs.records.text_fields.Goals as goal

pub fields-init : goal.fields-init
unfolding AllText
fields-init c = record { added = search rules; text = tt }

pub returns-in_default : goal.returns-in_default
returns-in_default c =
    let past = no_field (fields_of c.args.found.now) c.fields.i (sym c.in_default.ensures.value) in
    absurd (omega arith)

pub returns-in_default-2 : goal.returns-in_default-2
returns-in_default-2 c = λ t. (rw c.in_default-2.is at c.in_ok-label.ensures) (text_at (fields_of c.args.found.now) c.fields.i c.in-Some.field.now (sym c.in-Some.ensures.value) t)

pub fields-preserved : goal.fields-preserved
fields-preserved c =
    let fields = fields_of c.args.found.now in
    let field = c.in-Some.field.now in
    let made = rw c.in-Some-2.is at c.in_ok-label.ensures in
    rw (add-one, take_field fields c.fields.i field (sym c.in-Some.ensures.value)) (record {
      added = c.in_ok-push.ensures.items ∙ ap (λ ls. ls ++ c.in-Some-2.label ∷ []) c.fields.invariant.added ∙ ap (λ l. take c.fields.i fields ++ l ∷ []) made.0;
      text = text_more _ _ c.fields.invariant.text made.1;
    })
