use Rattle.std.proofs.Common.{◌∙◌, ◌++◌, ◌∷◌, [], List, ℕ, ap, sym, take, ◌<◌, length, arith}
use Rattle.xmas_read.specs.Results.{names_of_sources}
use Rattle.mix_place.proofs.SourceNames.{names_more}
use Rattle.mix_place.proofs.names.source_names.Goals as goal

pub loop-number-preserved : goal.loop-number-preserved
loop-number-preserved c =
    let inside : c.loop-number.number < length c.args.catalog.now = omega (arith, c.loop-number-test.true, c.len-number-end.ensures.len) in
    c.in_ok-push.ensures.items
    ∙ ap (λ (names : List (List ℕ)). names ++ c.in_ok-copy.field-0 ∷ []) c.loop-number.invariant
    ∙ ap (λ (name : List ℕ). names_of_sources (take c.loop-number.number c.args.catalog.now) ++ name ∷ []) c.in_ok-copy.ensures
    ∙ sym (names_more c.args.catalog.now c.loop-number.number c.spec.result.now inside c.spec.ensures.spec)
