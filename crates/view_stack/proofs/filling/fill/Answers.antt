use Rattle.std.proofs.Common.{rules, ◌≡◌, ◌∙◌, sym, subst, arith, ◌-◌, ◌^◌, ◌≤◌, ◌<◌, ◌+◌, ℕ, min}
use Rattle.lxp_core.proofs.Fills.{refused_at_once}
use Rattle.view_stack.specs.Steps.{Moved}
use Rattle.view_stack.proofs.Fills.{base_source, view_source}
use Rattle.view_stack.proofs.Moving.{counted_sound, counted_came}
use Rattle.view_stack.proofs.filling.fill.Goals as goal
use Rattle.view_stack.proofs.filling.fill.Goals.{then-s-count, else-s-count}

pub returns-clause-sound : goal.returns-clause-sound
returns-clause-sound g c =
    let view = g.S.Sources.view in
    let came = g.S.Sources.came_from in
    let l = c.args.layers.now in
    let moved : Moved view came l c.if-s-count.layers = elim c.if-s-count.branch [
      | then-s-count w ↦ subst (Moved view came l) (sym w.layers-is) w.fill_base-answer.ensures.moved
      | else-s-count w ↦ subst (Moved view came l) (sym w.layers-is) w.fill_view-answer.ensures.moved
    ] in
    counted_sound view came c.views_are_kept.ensures l c.if-s-count.layers moved c.requires.sound c.saturating_add-layers.result

pub returns-clause-came : goal.returns-clause-came
returns-clause-came g c =
    let view = g.S.Sources.view in
    let came = g.S.Sources.came_from in
    let l = c.args.layers.now in
    let moved : Moved view came l c.if-s-count.layers = elim c.if-s-count.branch [
      | then-s-count w ↦ subst (Moved view came l) (sym w.layers-is) w.fill_base-answer.ensures.moved
      | else-s-count w ↦ subst (Moved view came l) (sym w.layers-is) w.fill_view-answer.ensures.moved
    ] in
    let small : l.fills ≤ 2 ^ 64 - 1 = search rules in
    let count : c.saturating_add-layers.result ≡ min (l.fills + 1) (2 ^ 64 - 1) = c.saturating_add-layers.ensures in
    counted_came view came c.views_are_kept.ensures l c.if-s-count.layers moved c.requires.sound c.saturating_add-layers.result small count

pub returns-clause-answers : goal.returns-clause-answers
returns-clause-answers g c =
    let view = g.S.Sources.view in
    let l = c.args.layers.now in
    let s = c.args.s in
    elim c.if-s-count.branch [
      | then-s-count w ↦
          let n = record w.fill_base-answer.new.layers { fills = c.saturating_add-layers.result } in
          let within : s < (view l.base).count = omega (arith, w.if-s-count.true, c.count-count.ensures) in
          let within' : s < (view n.base).count = omega (arith, within, w.fill_base-answer.ensures.moved.goes.base.count) in
          rw (w.answer-is, w.layers-is, base_source view l s within, base_source view n s within') w.fill_base-answer.ensures.answers
      | else-s-count w ↦
          let n = record w.fill_view-answer.new.layers { fills = c.saturating_add-layers.result } in
          let count = c.count-count.result in
          let past : s < count → ⊥ = λ h. grind (arith, w.if-s-count.false, h) in
          let is : count ≡ (view n.base).count = c.count-count.ensures ∙ sym w.fill_view-answer.ensures.moved.goes.base.count in
          rw (w.answer-is, w.layers-is, view_source view l s count c.count-count.ensures past, view_source view n s count is past) w.fill_view-answer.ensures.answers
    ]

pub returns-clause-refused : goal.returns-clause-refused
returns-clause-refused g c =
    let view = g.S.Sources.view in
    let l = c.args.layers.now in
    let s = c.args.s in
    elim c.if-s-count.branch [
      | then-s-count w ↦
          let n = record w.fill_base-answer.new.layers { fills = c.saturating_add-layers.result } in
          let within : s < (view l.base).count = omega (arith, w.if-s-count.true, c.count-count.ensures) in
          let within' : s < (view n.base).count = omega (arith, within, w.fill_base-answer.ensures.moved.goes.base.count) in
          rw (w.answer-is, w.layers-is, base_source view l s within, base_source view n s within') w.fill_base-answer.ensures.refused
      | else-s-count w ↦
          let n = record w.fill_view-answer.new.layers { fills = c.saturating_add-layers.result } in
          let count = c.count-count.result in
          let past : s < count → ⊥ = λ h. grind (arith, w.if-s-count.false, h) in
          let is : count ≡ (view n.base).count = c.count-count.ensures ∙ sym w.fill_view-answer.ensures.moved.goes.base.count in
          rw (w.answer-is, w.layers-is, view_source view l s count c.count-count.ensures past, view_source view n s count is past)
          (refused_at_once _ _ _ _ _ w.fill_view-answer.ensures.refused)
    ]
