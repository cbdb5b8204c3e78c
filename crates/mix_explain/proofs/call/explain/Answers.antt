use Rattle.mix_run.proofs.CourseEnds.{course_ends}
use Rattle.source_checks.specs.Checks.{moment}
use Rattle.mix_explain.specs.Explained.{Explains}
use Rattle.mix_explain.proofs.call.explain.Goals as goal

pub returns-in-Ok-clause-ends : goal.returns-in-Ok-clause-ends
returns-in-Ok-clause-ends g c =
    course_ends (Explains (moment (g.F.Files.view c.args.files.now) (g.T.Tables.view c.args.tables.now)) (moment (g.F.Files.view c.explained.new.files) (g.T.Tables.view c.explained.new.tables)) c.args.asked.now.view.now c.args.asked.now.catalog.now)
    (g.K.Sink.view c.args.out.now) (g.K.Sink.view c.write_explained.new.out) c.in-Ok.explained.status c.in-Ok.explained.lines.items c.in-Ok.ensures.ok
    c.write_explained.result c.write_explained.ensures.ends
