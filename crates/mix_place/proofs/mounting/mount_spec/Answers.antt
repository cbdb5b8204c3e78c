use Rattle.std.proofs.Common.{◌≡◌, ◌∙◌, None, Some, refl, sym}
use Rattle.table_wrap.specs.Document.{declared_of}
use Rattle.mix_place.proofs.SourceKinds.{table_is_apart}
use Rattle.mix_place.proofs.mounting.mount_spec.Goals as goal

pub returns-in_ok-open-in-Table-clause-ok : goal.returns-in_ok-open-in-Table-clause-ok
returns-in_ok-open-in-Table-clause-ok g c =
    let doc = c.in_ok-open-in-Table.field-0 in
    let is = c.in_ok-open-in-Table.ensures in
    let apart = table_is_apart c.args.spec.now.kind (declared_of doc) is.declared in
    record {
      file = λ e. absurd (apart.0 e);
      table = λ d e. record { doc = doc; is = refl; name = is.name; chunk = is.chunk; declares = is.declared };
      far = λ far e. absurd (let z : None ≡ Some far = sym apart.1 ∙ e in cc);
      other = c.requires.other;
    }
