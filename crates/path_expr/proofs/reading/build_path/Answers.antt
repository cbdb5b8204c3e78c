use Rattle.std.proofs.Common.{rules, ◌≡◌, ◌∙◌, sym, ap, subst, take, option_map}
use Rattle.std.proofs.lemmas.List.{take_all}
use Rattle.path_expr.specs.BuilderState.{state_in}
use Rattle.path_expr.proofs.Images.{BuildsTo, build_next, build_stops, builder_utf8, builder_utf8_now, ends_spell, ends_none}
use Rattle.path_expr.proofs.reading.build_path.Goals as goal

pub build_byte-requires : goal.build_byte-requires
build_byte-requires c = builder_utf8 _ _ c.loop-at.builder c.loop-at-test.true c.loop-at.invariant c.requires

pub returns-in_default-clause-none : goal.returns-in_default-clause-none
returns-in_default-clause-none c = λ p.
    build_stops _ _ (state_in c.loop-at.builder) p c.loop-at-test.true c.loop-at.invariant (sym c.in_ok-next.ensures ∙ ap (option_map state_in) c.in_default.is)

pub loop-at-preserved : goal.loop-at-preserved
loop-at-preserved c =
    build_next _ _ (state_in c.loop-at.builder) (state_in c.in-Some.next) c.loop-at-test.true c.loop-at.invariant
    (sym c.in_ok-next.ensures ∙ ap (option_map state_in) c.in-Some.is)

pub build_end-requires : goal.build_end-requires
build_end-requires c =
    let whole : take c.loop-at.at c.args.text.now ≡ c.args.text.now = search (rules, take_all) in
    builder_utf8_now c.args.text.now c.loop-at.builder (subst (λ x. BuildsTo x (state_in c.loop-at.builder)) whole c.loop-at.invariant)

pub returns-clause-spells : goal.returns-clause-spells
returns-clause-spells c =
    let whole : take c.loop-at.at c.args.text.now ≡ c.args.text.now = search (rules, take_all) in
    ends_spell c.build_end.result _ (state_in c.loop-at.builder) (subst (λ x. BuildsTo x (state_in c.loop-at.builder)) whole c.loop-at.invariant) c.build_end.ensures

pub returns-clause-none : goal.returns-clause-none
returns-clause-none c =
    let whole : take c.loop-at.at c.args.text.now ≡ c.args.text.now = search (rules, take_all) in
    ends_none c.build_end.result _ (state_in c.loop-at.builder) (subst (λ x. BuildsTo x (state_in c.loop-at.builder)) whole c.loop-at.invariant) c.build_end.ensures
