use Rattle.std.proofs.Common.{◌≡◌, ◌∙◌, true, false, inl, OnOk, IfOk, IfErr, refl, sym, subst, ap}
use Rattle.std.proofs.lemmas.Result.{on_ok_weaker, IfErr-weaker}
use Rattle.mix_reach.specs.Stores.{stores_in}
use Rattle.mix_place.specs.Reading.{ReadsAmong}
use Rattle.mix_run.specs.Ends.{EndsFrom}
use Rattle.mix_run.specs.Outside.{outside}
use Rattle.mix_run.specs.Stops.{IsCut, IsDone, IsDoneAs, IsStop, IsStopFrom}
use Rattle.mix_top.specs.Commands.{Command, help, version, walk, read, load, unknown, asks_stores}
use Rattle.mix_top.specs.Course.{IsCourse}
use Rattle.mix_top.specs.FilesRead.{MayRead}
use Rattle.mix_top.specs.Texts.{help_text, version_text}
use Rattle.mix_top.specs.Words.{plan_command, run_command}
use Rattle.mix_top.proofs.Forms.{plan_course, plan_may_read, run_asks, run_course, run_may_read, words_told}
use Rattle.mix_top.proofs.StopLaws.{cut_stops}
use Rattle.mix_top.proofs.Telling.{ends_from, talk_ends, told_ends}
use Rattle.mix_top.proofs.top.mixq_over.Goals as goal

pub returns-in-Help-clause-ends : goal.returns-in-Help-clause-ends
returns-in-Help-clause-ends g c =
    let s0 = g.K.Sink.view c.args.streams.now.out in
    let s1 = g.K.Sink.view c.write_lines.new.out in
    let s2 = g.K.Sink.view c.tell_plain.new.out in
    let stores = stores_in g.T.Tables.view g.R.Fars.view c.args.stores in
    let before = outside (g.F.Files.view c.args.files.now) stores in
    let after = outside (g.F.Files.view c.args.files.now) stores in
    inl (
      refl,
      words_told before after s0 s1 s2 help _ c.in-Help.ensures c.write_lines.result c.tell_plain.result refl
          (on_ok_weaker c.write_lines.result (λ w. (help_text, (refl, refl), w)) c.write_lines.ensures.ok)
          (IfErr-weaker c.write_lines.result (IsCut s0 s1 help_text) (IsStop (IsCourse before after help s0 s1) s0 s1) (λ stop h. cut_stops (IsCourse before after help s0 s1) s0 s1 0 help_text stop (refl, refl) h) c.write_lines.ensures.err)
          c.write_lines.ensures.count c.tell_plain.ensures.told,
    )

pub returns-in-Version-clause-ends : goal.returns-in-Version-clause-ends
returns-in-Version-clause-ends g c =
    let s0 = g.K.Sink.view c.args.streams.now.out in
    let s1 = g.K.Sink.view c.write_line.new.out in
    let s2 = g.K.Sink.view c.tell_plain-in-Version.new.out in
    let stores = stores_in g.T.Tables.view g.R.Fars.view c.args.stores in
    let before = outside (g.F.Files.view c.args.files.now) stores in
    let after = outside (g.F.Files.view c.args.files.now) stores in
    inl (
      refl,
      words_told before after s0 s1 s2 version _ c.in-Version.ensures c.write_line.result c.tell_plain-in-Version.result refl
          (on_ok_weaker c.write_line.result (λ w. (version_text, (refl, refl), w)) c.write_line.ensures.ok)
          (IfErr-weaker c.write_line.result (IsCut s0 s1 version_text) (IsStop (IsCourse before after version s0 s1) s0 s1) (λ stop h. cut_stops (IsCourse before after version s0 s1) s0 s1 0 version_text stop (refl, refl) h) c.write_line.ensures.err)
          c.write_line.ensures.count c.tell_plain-in-Version.ensures.told,
    )

pub returns-in-Walk-clause-ends : goal.returns-in-Walk-clause-ends
returns-in-Walk-clause-ends g c =
    let s0 = g.K.Sink.view c.args.streams.now.out in
    let s1 = g.K.Sink.view c.walk.new.out in
    let s2 = g.K.Sink.view c.tell_plain-in-Walk.new.out in
    let stores = stores_in g.T.Tables.view g.R.Fars.view c.args.stores in
    let before = outside (g.F.Files.view c.args.files.now) stores in
    let after = outside (g.F.Files.view c.walk.new.files) stores in
    inl (
      refl,
      words_told before after s0 s1 s2 (walk c.in-Walk.file.now c.in-Walk.script.now) _ c.in-Walk.ensures c.walk.result c.tell_plain-in-Walk.result refl
          c.walk.ensures.done
          c.walk.ensures.stop
          c.walk.ensures.count c.tell_plain-in-Walk.ensures.told,
    )

pub returns-in-Read-clause-ends : goal.returns-in-Read-clause-ends
returns-in-Read-clause-ends g c =
    let s0 = g.K.Sink.view c.args.streams.now.out in
    let s1 = g.K.Sink.view c.write_rule_text.new.out in
    let s2 = g.K.Sink.view c.tell_plain-in-Read.new.out in
    let stores = stores_in g.T.Tables.view g.R.Fars.view c.args.stores in
    let before = outside (g.F.Files.view c.args.files.now) stores in
    let after = outside (g.F.Files.view c.write_rule_text.new.files) stores in
    inl (
      refl,
      words_told before after s0 s1 s2 (read c.in-Read.view.now c.in-Read.catalog.now) _ c.in-Read.ensures c.write_rule_text.result c.tell_plain-in-Read.result refl
          c.write_rule_text.ensures.done
          c.write_rule_text.ensures.stop
          c.write_rule_text.ensures.count c.tell_plain-in-Read.ensures.told,
    )

pub returns-in-Plan-clause-ends : goal.returns-in-Plan-clause-ends
returns-in-Plan-clause-ends g c =
    let s0 = g.K.Sink.view c.args.streams.now.out in
    let s1 = g.K.Sink.view c.write_plan_text.new.out in
    let s2 = g.K.Sink.view c.tell_plain-in-Plan.new.out in
    let stores = stores_in g.T.Tables.view g.R.Fars.view c.args.stores in
    let before = outside (g.F.Files.view c.args.files.now) stores in
    let after = outside (g.F.Files.view c.write_plan_text.new.files) stores in
    let p = c.in-Plan.planning in
    inl (
      refl,
      words_told before after s0 s1 s2 (plan_command p.form p.file.now p.catalog.now) _ c.in-Plan.ensures c.write_plan_text.result c.tell_plain-in-Plan.result refl
          (plan_course (λ Course. OnOk c.write_plan_text.result (IsDone Course s0 s1)) before after s0 s1 p.form p.file.now p.catalog.now c.write_plan_text.ensures.done)
          (plan_course (λ Course. IfErr c.write_plan_text.result (IsStop Course s0 s1)) before after s0 s1 p.form p.file.now p.catalog.now c.write_plan_text.ensures.stop)
          c.write_plan_text.ensures.count c.tell_plain-in-Plan.ensures.told,
    )

pub returns-in-Load-clause-ends : goal.returns-in-Load-clause-ends
returns-in-Load-clause-ends g c =
    let s0 = g.K.Sink.view c.args.streams.now.out in
    let s1 = g.K.Sink.view c.load.new.out in
    let s2 = g.K.Sink.view c.tell_plain-in-Load.new.out in
    let stores = stores_in g.T.Tables.view g.R.Fars.view c.args.stores in
    let before = outside (g.F.Files.view c.args.files.now) stores in
    let after = outside (g.F.Files.view c.args.files.now) stores in
    inl (
      refl,
      words_told before after s0 s1 s2 (load c.in-Load.count) _ c.in-Load.ensures c.load.result c.tell_plain-in-Load.result refl
          c.load.ensures.done
          c.load.ensures.stop
          c.load.ensures.count c.tell_plain-in-Load.ensures.told,
    )

pub returns-in-Plan-clause-reads : goal.returns-in-Plan-clause-reads
returns-in-Plan-clause-reads g c =
    let old = g.F.Files.view c.args.files.now in
    let new = g.F.Files.view c.write_plan_text.new.files in
    let p = c.in-Plan.planning in
    subst (λ (command : Command). ReadsAmong (MayRead old command) old new) c.in-Plan.ensures (plan_may_read (λ May. ReadsAmong May old new) old p.form p.file.now p.catalog.now c.write_plan_text.ensures.reads)

pub returns-in-Run-clause-ends : goal.returns-in-Run-clause-ends
returns-in-Run-clause-ends g c =
    let s0 = g.K.Sink.view c.args.streams.now.out in
    let s1 = g.K.Sink.view c.run-end.new.out in
    let s2 = g.K.Sink.view c.tell.new.out in
    let before = outside (g.F.Files.view c.args.files.now) (stores_in g.T.Tables.view g.R.Fars.view c.args.stores) in
    let after = outside (g.F.Files.view c.run-end.new.files) (stores_in g.T.Tables.view g.R.Fars.view c.run-end.result.1) in
    let Unbegun : Type 0 = after.stores ≡ before.stores in
    let r = c.in-Run.running in
    inl (
      refl,
      subst (λ (command : Command). EndsFrom Unbegun (IsCourse before after command s0 s2) s0 s2 c.tell.result) c.in-Run.ensures
          (told_ends before after (run_command r.form r.file.now r.catalog.now r.script.now) s0 s1 s2 c.run-end.result.0 c.tell.result c.run-end.ensures.count
          (run_course (λ Course. IfOk c.run-end.result.0 (IsDoneAs Course s0 s1)) before after s0 s1 r.form r.file.now r.catalog.now r.script.now c.run-end.ensures.done)
          (run_course (λ Course. IfErr c.run-end.result.0 (IsStopFrom Unbegun Course s0 s1)) before after s0 s1 r.form r.file.now r.catalog.now r.script.now c.run-end.ensures.stop) c.tell.ensures.told),
    )

pub returns-in-Run-clause-reads : goal.returns-in-Run-clause-reads
returns-in-Run-clause-reads g c =
    let old = g.F.Files.view c.args.files.now in
    let new = g.F.Files.view c.run-end.new.files in
    let r = c.in-Run.running in
    subst (λ (command : Command). ReadsAmong (MayRead old command) old new) c.in-Run.ensures
    (run_may_read (λ May. ReadsAmong May old new) old r.form r.file.now r.catalog.now r.script.now c.run-end.ensures.reads)

pub returns-in-Run-clause-untouched : goal.returns-in-Run-clause-untouched
returns-in-Run-clause-untouched g c = λ no.
    let r = c.in-Run.running in
    let asks : true ≡ false = sym (run_asks r.form r.file.now r.catalog.now r.script.now) ∙ ap asks_stores c.in-Run.ensures ∙ no in absurd (cc asks)

pub returns-in-Talk-clause-ends : goal.returns-in-Talk-clause-ends
returns-in-Talk-clause-ends g c =
    let stores = stores_in g.T.Tables.view g.R.Fars.view in
    let before = outside (g.F.Files.view c.args.files.now) (stores c.args.stores) in
    let after = outside (g.F.Files.view c.talk.new.files) (stores c.talk.result.1) in
    let t = c.in-Talk.talking in
    talk_ends before after _ t.view.now t.catalog.now c.in-Talk.ensures (g.I.Input.view c.args.streams.now.input) (g.I.Input.view c.talk.new.streams.input) (g.K.Sink.view c.args.streams.now.out)
    (g.K.Sink.view c.talk.new.streams.out) c.talk.result.0 c.talk.ensures.ends

pub returns-in-Talk-clause-untouched : goal.returns-in-Talk-clause-untouched
returns-in-Talk-clause-untouched g c = λ no. (let asks : true ≡ false = ap asks_stores c.in-Talk.ensures ∙ no in absurd (cc asks))

pub returns-in-Unknown-clause-ends : goal.returns-in-Unknown-clause-ends
returns-in-Unknown-clause-ends g c =
    let s0 = g.K.Sink.view c.args.streams.now.out in
    let s1 = g.K.Sink.view c.refuse_words.new.out in
    let o = outside (g.F.Files.view c.args.files.now) (stores_in g.T.Tables.view g.R.Fars.view c.args.stores) in
    let Unbegun : Type 0 = o.stores ≡ o.stores in
    inl (
      refl,
      subst (λ (command : Command). EndsFrom Unbegun (IsCourse o o command s0 s1) s0 s1 c.refuse_words.result) c.in-Unknown.ensures
          (ends_from Unbegun refl (IsCourse o o unknown s0 s1) s0 s1 c.refuse_words.result c.refuse_words.ensures.ends),
    )
