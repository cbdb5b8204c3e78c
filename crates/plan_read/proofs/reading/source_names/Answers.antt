use Rattle.std.proofs.Common.{◌≡◌, ◌∙◌, ◌++◌, ◌∷◌, [], ℕ, zero, suc, List, Some, sym, ap, map, take, slice_get}
use Rattle.std.proofs.lemmas.List.{map-append}
use Rattle.mix_base.proofs.Choices.{none_some, some_is}
use Rattle.mix_catalog.specs.declared.source.SourceSpec.{SourceSpec}
use Rattle.plan_read.proofs.Stopping.{next}
use Rattle.plan_read.proofs.reading.source_names.Goals as goal

-- the first sources and the next one
take_some : (ss : List SourceSpec) (i : ℕ) (s : SourceSpec) → slice_get ss i ≡ Some s → take (suc i) ss ≡ take i ss ++ s ∷ []
take_some [] i s e = none_some s e
take_some (t ∷ ss) zero s e = ap (λ u. u ∷ []) (some_is t s e)
take_some (t ∷ ss) (suc i) s e = ap (λ r. t ∷ r) (take_some ss i s e)

pub loop-s-preserved : goal.loop-s-preserved
loop-s-preserved c =
    let ss = c.args.catalog.now in
    let i = c.loop-s.s in
    let s = c.spec.result.now in
    c.in_ok-push.ensures.items ∙ ap (λ (ns : List (List ℕ)). ns ++ c.in_ok-copy.field-0 ∷ []) c.loop-s.invariant
    ∙ ap (λ (n : List ℕ). map (λ (t : SourceSpec). t.name) (take i ss) ++ n ∷ []) c.in_ok-copy.ensures
    ∙ sym (map-append (λ (t : SourceSpec). t.name) (take i ss) (s ∷ []))
    ∙ ap (map (λ (t : SourceSpec). t.name)) (sym (take_some ss i s c.spec.ensures.spec) ∙ ap (λ (n : ℕ). take n ss) (next i))
