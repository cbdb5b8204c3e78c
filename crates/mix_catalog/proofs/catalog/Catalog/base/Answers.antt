use Rattle.std.proofs.Common.{◌≡◌, ◌<◌, ◌∙◌, ◌++◌, ◌∷◌, [], List, false, ap, sym, arith, length, take}
use Rattle.std.proofs.lemmas.List.{take_more, take_all}
use Rattle.std.proofs.lemmas.Option.{get_or_from_slice_get}
use Rattle.std.specs.Str.{bytes_eq}
use Rattle.mix_catalog.specs.declared.source.SourceSpec.{SourceSpec}
use Rattle.mix_catalog.specs.Grammar.{is_view}
use Rattle.mix_catalog.specs.Sources.{has_view}
use Rattle.mix_catalog.proofs.Places.{base_first, base_whole, base_until, none_before, no_view_push}
use Rattle.mix_catalog.proofs.catalog.Catalog.base.Goals as goal
use Rattle.mix_catalog.proofs.catalog.Catalog.base.Goals.{else-loop-s-test, then-loop-s-test+then-is_view}

pub returns-in_err-copy-clause-numbers : goal.returns-in_err-copy-clause-numbers
returns-in_err-copy-clause-numbers c = base_first c.args.self.now c.len-count.ensures.last

pub add-requires-clause-new : goal.add-requires-clause-new
add-requires-clause-new c =
    let source = c.spec-source.result.now in
    rw (c.loop-s.invariant.taken, c.in_ok-copy.ensures) (none_before (λ (t : SourceSpec). bytes_eq source.name t.name) c.args.self.now c.loop-s.s c.spec-source.ensures.found)

pub returns-in_err-add-clause-numbers : goal.returns-in_err-add-clause-numbers
returns-in_err-add-clause-numbers c = base_first c.args.self.now c.len-count.ensures.last

pub loop-s-preserved : goal.loop-s-preserved
loop-s-preserved c =
    let sources = c.args.self.now in
    let source = c.spec-source.result.now in
    let inside : c.loop-s.s < length sources = omega (arith, c.loop-s-test.true, c.len-count.ensures.len) in
    record {
      taken = c.in_ok-add.ensures.ok ∙ ap (λ (b : List SourceSpec). b ++ c.in_ok-copy.field-0 ∷ []) c.loop-s.invariant.taken
          ∙ ap (λ (x : SourceSpec). take c.loop-s.s sources ++ x ∷ []) (c.in_ok-copy.ensures ∙ sym (get_or_from_slice_get sources c.loop-s.s source source c.spec-source.ensures.spec))
          ∙ sym (take_more sources c.loop-s.s source inside);
      others = ap has_view c.in_ok-add.ensures.ok
          ∙ no_view_push c.loop-s.base c.in_ok-copy.field-0 c.loop-s.invariant.others (ap (λ (x : SourceSpec). is_view x.kind) c.in_ok-copy.ensures ∙ sym c.is_view.ensures ∙ c.if-is_view.false);
    }

pub returns-clause-base : goal.returns-clause-base
returns-clause-base c =
    let sources = c.args.self.now in
    let others : has_view (take c.loop-s.s sources) ≡ false = ap has_view (sym c.loop-s.invariant.taken) ∙ c.loop-s.invariant.others in
    elim c.loop-s-test.branch [
      | else-loop-s-test w ↦
          let all : take c.loop-s.s sources ≡ sources = take_all c.loop-s.s sources (omega (arith, w.loop-s-test.false, c.len-count.ensures.len)) in
          c.loop-s.invariant.taken ∙ all ∙ sym (base_whole sources (ap has_view (sym all) ∙ others))
      | then-loop-s-test+then-is_view w ↦
          c.loop-s.invariant.taken
          ∙ sym (base_until sources c.len-count.ensures.last c.loop-s.s w.spec-source.result.now w.spec-source.ensures.spec (sym w.is_view.ensures ∙ w.if-is_view.true) others)
    ]

pub returns-clause-numbers : goal.returns-clause-numbers
returns-clause-numbers c = base_first c.args.self.now c.len-count.ensures.last
