use Rattle.std.proofs.Common.{◌≡◌, ◌∙◌, true, false, [], refl, ap, sym, subst, arith, rules}
use Rattle.std.proofs.lemmas.Grind.{common_steps}
use Rattle.std.proofs.lemmas.Result.{err_from_is_err_and}
use Rattle.mix_lines.specs.Heard.{heard}
use Rattle.mix_lines.specs.Reading.{IsLine, Moved}
use Rattle.mix_lines.proofs.Cutting.{IsCutting, cutting_start, cutting_more, cutting_failed, kept_length, whole_line, reads_line, last_line, reads_last}
use Rattle.mix_lines.proofs.reader.LineReader.next.Goals as goal

pub pages-init : goal.pages-init
pages-init g c =
    let input = g.I.Input.view c.args.input.now in
    record { count = omega arith; cutting = subst (IsCutting input input c.args.self.now c.args.self.now) (sym c.new-line.ensures.items) (cutting_start input c.args.self.now c.requires) }

pub read_whole_line-requires : goal.read_whole_line-requires
read_whole_line-requires g c =
    let view = g.I.Input.view in
    let moved : Moved c.pages.self.page c.move_line.new.page c.pages.line.items c.move_line.new.line.items true =
    subst (Moved c.pages.self.page c.move_line.new.page c.pages.line.items c.move_line.new.line.items) c.if-branch.true c.in_ok-move_line.ensures in
    subst IsLine (sym c.deref.ensures.value)
    (whole_line (view c.args.input.now) (view c.pages.input) c.args.self.now c.pages.self c.pages.line.items c.pages.invariant.cutting c.move_line.new.page c.move_line.new.line.items moved)

pub returns-then-branch-clause-reads : goal.returns-then-branch-clause-reads
returns-then-branch-clause-reads g c =
    let view = g.I.Input.view in
    let moved : Moved c.pages.self.page c.move_line.new.page c.pages.line.items c.move_line.new.line.items true =
    subst (Moved c.pages.self.page c.move_line.new.page c.pages.line.items c.move_line.new.line.items) c.if-branch.true c.in_ok-move_line.ensures in
    let read = c.in_ok-read_whole_line.ensures in
    reads_line (view c.args.input.now) (view c.pages.input) c.args.self.now c.pages.self c.pages.line.items c.pages.invariant.cutting c.move_line.new.page c.move_line.new.line.items moved
    (record { page = c.move_line.new.page; ended = c.pages.self.ended }) c.in_ok-read_whole_line.field-0 refl (search rules) (search rules)
    (ap heard (sym c.deref.ensures.value) ∙ read.asks) (λ e. sym c.deref.ensures.value ∙ read.none e)

pub returns-in_err-refill-clause-err : goal.returns-in_err-refill-clause-err
returns-in_err-refill-clause-err g c =
    let view = g.I.Input.view in
    let moved : Moved c.pages.self.page c.move_line.new.page c.pages.line.items c.move_line.new.line.items false =
    subst (Moved c.pages.self.page c.move_line.new.page c.pages.line.items c.move_line.new.line.items) c.if-branch.false c.in_ok-move_line.ensures in
    let p = err_from_is_err_and c.from_residual-in_err-refill.result c.from_residual-in_err-refill.ensures.1 in
    rw (p.1, p.2)
    (cutting_failed (view c.args.input.now) (view c.pages.input) c.args.self.now c.pages.self c.pages.line.items c.pages.invariant.cutting (view c.refill.new.input) c.move_line.new.page c.move_line.new.line.items moved
    c.in_err-refill.ensures.err (search rules) _)

pub move_line-requires : goal.move_line-requires
move_line-requires g c =
    let view = g.I.Input.view in
    kept_length (view c.args.input.now) (view c.pages.input) c.args.self.now c.pages.self c.pages.line.items c.pages.invariant.cutting

pub returns-clause-reads : goal.returns-clause-reads
returns-clause-reads g c =
    let view = g.I.Input.view in
    let read = c.in_ok-read_whole_line-2.ensures in
    reads_last (view c.args.input.now) (view c.pages.input) c.args.self.now c.pages.self c.pages.line.items c.pages.invariant.cutting c.in_ok-read_whole_line-2.field-0 (grind (arith, c.pages-test.false))
    (ap heard (sym c.deref-2.ensures.value) ∙ read.asks) (λ e. read.empty (c.deref-2.ensures.value ∙ e))

pub pages-preserved : goal.pages-preserved
pages-preserved g c =
    let view = g.I.Input.view in
    let moved : Moved c.pages.self.page c.move_line.new.page c.pages.line.items c.move_line.new.line.items false =
    subst (Moved c.pages.self.page c.move_line.new.page c.pages.line.items c.move_line.new.line.items) c.if-branch.false c.in_ok-move_line.ensures in
    let empty : c.is_empty-self.result ≡ true → c.refill.new.self ≡ [] = λ e. grind (arith, common_steps, e) in
    record {
      count = omega (arith, c.pages.invariant.count, c.refill.ensures.count);
      cutting = cutting_more (view c.args.input.now) (view c.pages.input) c.args.self.now c.pages.self c.pages.line.items c.pages.invariant.cutting (view c.refill.new.input)
          (record { page = c.refill.new.self; ended = c.is_empty-self.result }) c.move_line.new.page c.move_line.new.line.items moved c.in_ok-refill.ensures.ok empty (search rules) c.in_ok-refill.ensures.short;
    }

pub read_whole_line-requires-2 : goal.read_whole_line-requires-2
read_whole_line-requires-2 g c =
    let view = g.I.Input.view in
    subst IsLine (sym c.deref-2.ensures.value) (last_line (view c.args.input.now) (view c.pages.input) c.args.self.now c.pages.self c.pages.line.items c.pages.invariant.cutting)
