use Rattle.std.proofs.Common.{[], length, ap, arith}
use Rattle.std.specs.Str.{IsUtf8}
use Rattle.std.proofs.lemmas.List.Elements.{All-nil}
use Rattle.document_store.proofs.Joined.{texts_kept}
use Rattle.document_store.proofs.texts.Texts.new.Goals as goal

pub invariant_of-result : goal.invariant_of-result
invariant_of-result c =
    texts_kept c.new.result.items c.new-2.result.items [] (record { bytes_are = c.new.ensures.items; ends_are = c.new-2.ensures.items; utf8 = ∣ All-nil IsUtf8 ∣₁; short = omega (arith, ap length c.new.ensures.items) })
