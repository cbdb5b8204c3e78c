use Rattle.std.proofs.Common.{◌≡◌, inl, inr, true, ◌<◌, ◌++◌, ◌∙◌, ap, sym, subst, arith, length}
use Rattle.std.specs.Prelude.{Result, Ok, Err}
use Rattle.std.specs.Global.{Vec}
use Rattle.lxp_core.specs.declared.open_tree.OpenTree.{OpenTree}
use Rattle.lxp_core.specs.declared.fault.SourceFault.{SourceFault}
use Rattle.lxp_core.specs.declared.fault.SourceFault.TheVariants.{Failed, UnknownHole, OutOfMemory}
use Rattle.lxp_core.specs.Plain.{plain}
use Rattle.lxp_core.specs.Small.{IsSmall}
use Rattle.lxp_core.proofs.Views.{keeps_same}
use Rattle.wire_text.specs.Wired.{with_weights}
use Rattle.wire_text.specs.Bytes.{list_bytes, AreTrees}
use Rattle.wire_text.specs.Reply.{failed, unknown_hole, no_memory, no_source}
use Rattle.lxp_wire.proofs.Served.{tops_of-plain}
use Rattle.lxp_wire.proofs.Replied.{list_answered, known_of}
use Rattle.lxp_wire.proofs.answering.answer_fill.Goals as goal

abbrev is_err_of : (T : Type 0) → Result T SourceFault → SourceFault → Type 0
is_err_of T r e = r ≡ Err e

not_ok : {T : Type 0} (x : T) (e : SourceFault) → is_err_of T (Ok x) e → ⊥
not_ok x e p = cc

not_failed : {T : Type 0} (a b : SourceFault) → (Failed ≡ b → ⊥) → a ≡ Failed → is_err_of T (Err a) b → ⊥
not_failed a b other e p = let same : a ≡ b = cc in other (sym e ∙ same)

pub returns-then-source-count-clause-answered : goal.returns-then-source-count-clause-answered
returns-then-source-count-clause-answered g c =
    let v = g.S.Sources.view c.args.sources.now in
    (no_source, c.in_ok-push.ensures.items, record { keeps = keeps_same v; fills = omega arith; answers = omega (arith, c.if-source-count.true, c.count.ensures); reply = tt })

pub push_open_list-requires-clause-few : goal.push_open_list-requires-clause-few
push_open_list-requires-clause-few g c =
    let old = g.S.Sources.view c.args.sources.now in
    let inside : c.args.source < old.count = omega (arith, c.if-source-count.false, c.count.ensures) in
    let small : IsSmall (plain c.in-Ok.list.items) = c.in-Ok.ensures.answers.small (g.met.S.Weighed.all_small c.args.sources.now c.args.source inside) in
    omega (arith, small.0, tops_of-plain c.in-Ok.list.items, ap length c.deref.ensures.value)

pub returns-in_ok-push_open_list-in-Ok-clause-answered : goal.returns-in_ok-push_open_list-in-Ok-clause-answered
returns-in_ok-push_open_list-in-Ok-clause-answered g c =
    let old = g.S.Sources.view c.args.sources.now in
    let new = g.S.Sources.view c.fill.new.self in
    let s = c.args.source in
    let ts = c.in-Ok.list.items in
    let said = c.in-Ok.ensures in
    let inside : s < old.count = omega (arith, c.if-source-count.false, c.count.ensures) in
    let small : IsSmall (plain ts) = said.answers.small (g.met.S.Weighed.all_small c.args.sources.now s inside) in
    let known : old.knows s c.args.hole ≡ true = known_of (old.knows s c.args.hole) (λ e. elim (said.refused.only_unknown e) [ inl p ↦ not_ok c.in-Ok.list UnknownHole p | inr p ↦ not_ok c.in-Ok.list OutOfMemory p ]) in
    let are : AreTrees (with_weights (new.weight s) (plain ts)) = subst (λ us. AreTrees (with_weights (new.weight s) (plain us))) c.deref.ensures.value c.in_ok-push_open_list-in-Ok.ensures.trees in
    list_answered old new s c.args.hole ts c.args.out.now.items c.push_open_list.new.out.items (g.met.S.Sources.keeps c.args.sources.now c.fill.new.self said.came) said.counted.at_most_one inside known said.answers
    small are
    (c.in_ok-push_open_list-in-Ok.ensures.bytes ∙ ap (λ us. c.push-in-Ok.new.self.items ++ list_bytes (with_weights (new.weight s) (plain us))) c.deref.ensures.value
    ∙ ap (λ x. x ++ list_bytes (with_weights (new.weight s) (plain ts))) c.in_ok-push-in-Ok.ensures.items)

pub returns-in_ok-push-in-Err-Failed-clause-answered : goal.returns-in_ok-push-in-Err-Failed-clause-answered
returns-in_ok-push-in-Err-Failed-clause-answered g c =
    let old = g.S.Sources.view c.args.sources.now in
    let s = c.args.source in
    let said = c.in-Err-Failed.ensures in
    let inside : s < old.count = omega (arith, c.if-source-count.false, c.count.ensures) in (
      failed,
      c.in_ok-push-in-Err-Failed.ensures.items,
      record {
        keeps = g.met.S.Sources.keeps c.args.sources.now c.fill.new.self said.came;
        fills = said.counted.at_most_one;
        answers = (
          inside,
          known_of (old.knows s c.args.hole) (λ e. elim (said.refused.only_unknown e) [
            | inl p ↦ not_failed {T = Vec OpenTree} c.in-Err-Failed.field-0 UnknownHole (λ q. cc) c.in-Err-Failed.field-0-is p
            | inr p ↦ not_failed {T = Vec OpenTree} c.in-Err-Failed.field-0 OutOfMemory (λ q. cc) c.in-Err-Failed.field-0-is p
          ]),
          said.refused.failed (ap (λ e. Err e) c.in-Err-Failed.field-0-is),
        );
        reply = tt;
      },
    )

pub returns-in_ok-push-in-Err-UnknownHole-clause-answered : goal.returns-in_ok-push-in-Err-UnknownHole-clause-answered
returns-in_ok-push-in-Err-UnknownHole-clause-answered g c =
    let old = g.S.Sources.view c.args.sources.now in
    let said = c.in-Err-UnknownHole.ensures in
    let inside : c.args.source < old.count = omega (arith, c.if-source-count.false, c.count.ensures) in (
      unknown_hole,
      c.in_ok-push-in-Err-UnknownHole.ensures.items,
      record {
        keeps = g.met.S.Sources.keeps c.args.sources.now c.fill.new.self said.came;
        fills = said.counted.at_most_one;
        answers = (inside, said.refused.unknown (ap (λ e. Err e) c.in-Err-UnknownHole.field-0-is));
        reply = tt;
      },
    )

pub returns-in_ok-push-in-Err-OutOfMemory-clause-answered : goal.returns-in_ok-push-in-Err-OutOfMemory-clause-answered
returns-in_ok-push-in-Err-OutOfMemory-clause-answered g c =
    let said = c.in-Err-OutOfMemory.ensures in (
      no_memory,
      c.in_ok-push-in-Err-OutOfMemory.ensures.items,
      record {
        keeps = g.met.S.Sources.keeps c.args.sources.now c.fill.new.self said.came;
        fills = said.counted.at_most_one;
        answers = tt;
        reply = tt;
      },
    )
