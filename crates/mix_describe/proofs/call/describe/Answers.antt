use Rattle.mix_run.proofs.CourseEnds.{course_ends}
use Rattle.mix_describe.specs.Describes.{Describes}
use Rattle.mix_describe.proofs.call.describe.Goals as goal

pub returns-in-Ok-clause-ends : goal.returns-in-Ok-clause-ends
returns-in-Ok-clause-ends g c =
    course_ends (Describes (g.F.Files.view c.args.files.now) (g.F.Files.view c.described.new.files) (g.C.Schemas.view c.args.schemas.now) (g.C.Schemas.view c.described.new.schemas) c.args.path.now)
    (g.K.Sink.view c.args.out.now) (g.K.Sink.view c.write_described.new.out) c.in-Ok.described.status c.in-Ok.described.lines.items c.in-Ok.ensures.ok
    c.write_described.result c.write_described.ensures.ends
