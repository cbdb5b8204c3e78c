use Rattle.std.proofs.Common.{rules, ◌≡◌, ◌∷◌, arith, [], Some, refl, sym, ap, subst, ◌∙◌, length, set}
use Rattle.std.specs.Vec.{with_item}
use Rattle.std.proofs.lemmas.Result.{err_from_is_err_and}
use Rattle.lxp_core.specs.Fill.{Answers, source_of}
use Rattle.lxp_core.specs.Plain.{plain}
use Rattle.view_stack.specs.declared.layers.Served.{Served}
use Rattle.view_stack.specs.Stacks.{stacking_in, view_at, views_of}
use Rattle.view_stack.specs.Steps.{given}
use Rattle.view_stack.proofs.Answering.{answers_given}
use Rattle.view_stack.proofs.Moving.{unmoved, moved_on, moved_at, written_back, read_view, asked_view}
use Rattle.view_stack.proofs.Stepping.{err_other, part_stands}
use Rattle.lxp_core.specs.declared.fault.SourceFault.TheVariants.{Failed, UnknownHole}
use Rattle.view_stack.proofs.Views.{view_failed}
use Rattle.view_stack.proofs.Weights.{is_number}
use Rattle.view_stack.proofs.filling.fill_view.Goals as goal

pub returns-in_default-clause-moved : goal.returns-in_default-clause-moved
returns-in_default-clause-moved g c =
    let l = c.args.layers.now in
    unmoved g.S.Sources.view g.S.Sources.came_from c.views_are_kept.ensures g.met.S.Sources.same l l c.requires.sound refl refl refl refl

pub returns-in_default-index_mut-clause-moved : goal.returns-in_default-index_mut-clause-moved
returns-in_default-index_mut-clause-moved g c =
    let l = c.args.layers.now in
    unmoved g.S.Sources.view g.S.Sources.came_from c.views_are_kept.ensures g.met.S.Sources.same l _ c.requires.sound refl (written_back l.views.items c.args.view c.index_mut.result.now c.index_mut.ensures.value) refl refl

pub find-requires-clause-walk : goal.find-requires-clause-walk
find-requires-clause-walk g c =
    let views = c.args.layers.now.views.items in
    c.requires.sound.views c.args.view c.in-Some-index_mut.walk (read_view views c.args.view c.index_mut.result.now c.in-Some-index_mut.walk c.requires.view c.index_mut.ensures.value c.in-Some-index_mut.is)

pub find-requires-clause-part : goal.find-requires-clause-part
find-requires-clause-part g c =
    let l = c.args.layers.now in
    let there = read_view l.views.items c.args.view c.index_mut.result.now c.in-Some-index_mut.walk c.requires.view c.index_mut.ensures.value c.in-Some-index_mut.is in
    rw c.deref-2.ensures.value (part_stands (stacking_in g.S.Sources.view l) c.requires.sound c.args.view c.in-Some-index_mut.walk there c.in-Some.part (rw c.deref.ensures.value at c.in-Some.ensures.1))

pub returns-in_err-found-clause-moved : goal.returns-in_err-found-clause-moved
returns-in_err-found-clause-moved g c =
    let l = c.args.layers.now in
    let there = read_view l.views.items c.args.view c.index_mut.result.now c.in-Some-index_mut.walk c.requires.view c.index_mut.ensures.value c.in-Some-index_mut.is in
    let stepped = c.find.ensures.stepped in
    moved_on g.S.Sources.view g.S.Sources.came_from c.views_are_kept.ensures l _ (g.met.S.Sources.keeps l.base c.find.new.base stepped.came) c.requires.sound c.args.view c.in-Some-index_mut.walk c.find.new.view c.requires.view there refl
    stepped refl refl

pub returns-in_err-found-clause-refused : goal.returns-in_err-found-clause-refused
returns-in_err-found-clause-refused g c =
    let l = c.args.layers.now in
    let v = g.S.Sources.view l.base in
    let v' = g.S.Sources.view c.find.new.base in
    let m = c.in-Some-index_mut.walk in
    let there = read_view l.views.items c.args.view c.index_mut.result.now m c.requires.view c.index_mut.ensures.value c.in-Some-index_mut.is in
    let stepped = c.find.ensures.stepped in
    let p = err_from_is_err_and c.from_residual.result c.from_residual.ensures.1 in
    record {
      failed = λ e. view_failed v v' m c.find.new.view (view_at l.views.items c.args.view) (view_at (set l.views.items c.args.view (Some c.find.new.view)) c.args.view) there (asked_view l.views.items c.args.view c.find.new.view c.requires.view)
          (c.requires.sound.views c.args.view m there) (g.met.S.Sources.keeps l.base c.find.new.base stepped.came) stepped.kept (c.in_err-found.ensures.failed (err_other c.in_err-found.field-0.0 Failed (rw (p.1, p.2) at e)));
      unknown = λ e. absurd (c.in_err-found.ensures.known (err_other c.in_err-found.field-0.0 UnknownHole (rw (p.1, p.2) at e)));
      only_unknown = λ e. search rules;
    }

pub returns-in_default-2-clause-moved : goal.returns-in_default-2-clause-moved
returns-in_default-2-clause-moved g c =
    let l = c.args.layers.now in
    let there = read_view l.views.items c.args.view c.index_mut.result.now c.in-Some-index_mut.walk c.requires.view c.index_mut.ensures.value c.in-Some-index_mut.is in
    let stepped = c.find.ensures.stepped in
    moved_on g.S.Sources.view g.S.Sources.came_from c.views_are_kept.ensures l _ (g.met.S.Sources.keeps l.base c.find.new.base stepped.came) c.requires.sound c.args.view c.in-Some-index_mut.walk c.find.new.view c.requires.view there refl
    stepped refl refl

pub returns-in_err-list-clause-moved : goal.returns-in_err-list-clause-moved
returns-in_err-list-clause-moved g c =
    let l = c.args.layers.now in
    let there = read_view l.views.items c.args.view c.index_mut.result.now c.in-Some-index_mut.walk c.requires.view c.index_mut.ensures.value c.in-Some-index_mut.is in
    let stepped = c.find.ensures.stepped in
    moved_on g.S.Sources.view g.S.Sources.came_from c.views_are_kept.ensures l _ (g.met.S.Sources.keeps l.base c.find.new.base stepped.came) c.requires.sound c.args.view c.in-Some-index_mut.walk c.find.new.view c.requires.view there refl
    stepped refl refl

pub returns-in_err-push-clause-moved : goal.returns-in_err-push-clause-moved
returns-in_err-push-clause-moved g c =
    let l = c.args.layers.now in
    let there = read_view l.views.items c.args.view c.index_mut.result.now c.in-Some-index_mut.walk c.requires.view c.index_mut.ensures.value c.in-Some-index_mut.is in
    let stepped = c.find.ensures.stepped in
    moved_on g.S.Sources.view g.S.Sources.came_from c.views_are_kept.ensures l _ (g.met.S.Sources.keeps l.base c.find.new.base stepped.came) c.requires.sound c.args.view c.in-Some-index_mut.walk c.find.new.view c.requires.view there refl
    stepped c.in_err-push.ensures.items refl

pub returns-clause-moved : goal.returns-clause-moved
returns-clause-moved g c =
    let l = c.args.layers.now in
    let there = read_view l.views.items c.args.view c.index_mut.result.now c.in-Some-index_mut.walk c.requires.view c.index_mut.ensures.value c.in-Some-index_mut.is in
    let stepped = c.find.ensures.stepped in
    let found = rw c.in-Some-2.is at c.in_ok-found.ensures.found in
    let new : Served = record { view = c.args.view; node = c.in-Some-2.found.node } in
    moved_at g.S.Sources.view g.S.Sources.came_from c.views_are_kept.ensures l _ (g.met.S.Sources.keeps l.base c.find.new.base stepped.came) c.requires.sound c.args.view c.in-Some-index_mut.walk c.find.new.view c.requires.view there refl
    stepped (new ∷ []) c.in_ok-push.ensures.items ((refl, found.0), tt) refl

pub returns-clause-answers : goal.returns-clause-answers
returns-clause-answers g c =
    let l = c.args.layers.now in
    let k = stacking_in g.S.Sources.view l in
    let k' = stacking_in g.S.Sources.view (record { base = c.find.new.base; views = with_item l.views c.args.view (Some c.find.new.view); served = c.push.new.self; fills = l.fills }) in
    let m = c.in-Some-index_mut.walk in
    let there = read_view l.views.items c.args.view c.index_mut.result.now m c.requires.view c.index_mut.ensures.value c.in-Some-index_mut.is in
    let found = rw c.in-Some-2.is at c.in_ok-found.ensures.found in
    let new : Served = record { view = c.args.view; node = c.in-Some-2.found.node } in
    let few = is_number (length l.served.items) (omega (arith, l.served.ok.0, l.served.ok.1, l.served.small)) in
    let is : plain c.in_ok-list.list.items ≡ given c.in-Some-2.found.label (length l.served.items) c.in-Some.part = c.in_ok-list.ensures ∙ ap (λ n. given c.in-Some-2.found.label n c.in-Some.part) (c.len.ensures ∙ l.served.ok.0) in
    subst (Answers (source_of (views_of k) c.args.view) (source_of (views_of k') c.args.view) c.args.hole) (sym is)
    (answers_given k k' c.args.view c.args.hole c.in-Some.part c.in-Some.ensures.0 (rw c.deref.ensures.value at c.in-Some.ensures.1) m c.find.new.view there (asked_view l.views.items c.args.view c.find.new.view c.requires.view)
    new refl c.in_ok-push.ensures.items few c.in-Some-2.found.label (rw c.deref-2.ensures.value at found.1))
