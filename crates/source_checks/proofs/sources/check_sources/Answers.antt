use Rattle.std.proofs.Common.{◌≡◌, ◌∙◌, ◌++◌, ap, Bool, IsTrue, ℕ, List, subst}
use Rattle.mix_place.specs.Reading.{IsWholeFile, ReadsAmong}
use Rattle.mix_place.proofs.ReadingLaws.{reads_sources}
use Rattle.plan_core.specs.PlanMade.{plan_value}
use Rattle.view_class.specs.Reads.{reads_source}
use Rattle.source_checks.specs.Checks.{Keeps, Moment, SaysWhere, moment}
use Rattle.source_checks.proofs.Saying.{keeps_twice, says_more}
use Rattle.source_checks.proofs.sources.check_sources.Goals as goal

pub loop-s-preserved : goal.loop-s-preserved
loop-s-preserved g c =
    let view = g.F.Files.view in
    let table_view = g.T.Tables.view in
    let chosen = reads_source (plan_value c.args.plan.now).ops in
    let spec = c.spec.result.now in
    let old : Moment = moment (view c.args.files.now) (table_view c.args.tables.now) in
    let mid : Moment = moment (view c.loop-s.files) (table_view c.loop-s.tables) in
    let new : Moment = moment (view c.lines_where.new.files) (table_view c.lines_where.new.tables) in
    let first : Keeps old mid = record { files = c.loop-s.invariant.files; tables = c.loop-s.invariant.tables } in
    let second : Keeps mid new = record { files = c.in_ok-said.ensures.files; tables = c.in_ok-said.ensures.tables } in
    let both = keeps_twice old mid new first second in
    record {
      files = both.files;
      tables = both.tables;
      reads = reads_sources chosen c.args.catalog.now c.loop-s.s spec old.files mid.files new.files c.spec.ensures.spec c.loop-s.invariant.reads
          (subst (λ (b : Bool). ReadsAmong (λ (path : List ℕ). IsTrue b × IsWholeFile spec path) mid.files new.files) c.reads_source.ensures c.in_ok-said.ensures.reads);
      says = says_more chosen c.args.catalog.now c.loop-s.s spec old mid new c.loop-s.lines.items c.in_ok-said.said.items c.extend_from_slice.new.self.items c.spec.ensures.spec first second
          c.loop-s.invariant.says (subst (λ (b : Bool). SaysWhere b spec mid new c.in_ok-said.said.items) c.reads_source.ensures c.in_ok-said.ensures.ok)
          (c.in_ok-extend_from_slice.ensures.items ∙ ap (λ (ys : List ℕ). c.loop-s.lines.items ++ ys) c.deref.ensures.value);
    }
