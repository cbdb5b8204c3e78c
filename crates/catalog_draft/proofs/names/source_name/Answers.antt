use Rattle.std.proofs.Common.{◌∙◌, subst, sym}
use Rattle.std.specs.Str.{IsUtf8}
use Rattle.catalog_draft.proofs.Bytes.{fitted_utf8}
use Rattle.catalog_draft.proofs.names.source_name.Goals as goal

pub of_text-requires-2 : goal.of_text-requires-2
of_text-requires-2 c = subst IsUtf8 (sym (c.deref.ensures.value ∙ c.in_ok-name.ensures)) (fitted_utf8 c.in_ok-stem.field-0.now)
