use Rattle.std.proofs.Common.{◌≡◌, ◌∙◌, false, None, Some, sym, ap}
use Rattle.table_keep.specs.Memory.{fails_at}
use Rattle.table_keep.specs.Rows.{rows_of}
use Rattle.table_keep.specs.Table.{rows_told}
use Rattle.table_keep.specs.Views.{declared_by}
use Rattle.table_keep.proofs.Nulls.{call_gives, call_refuses, first_of, gives_of, nothing_given}
use Rattle.table_keep.proofs.mem_tables.MemTables.give.Goals as goal

pub returns-in_default-clause-failed : goal.returns-in_default-clause-failed
returns-in_default-clause-failed c = λ failed.
    let told = rows_told c.args.self.now.tables.items (declared_by c.args.ask.now) in
    let none : None ≡ first_of c.args.ask.now told = rw c.in_default.is at c.in_ok-rows.ensures in
    nothing_given c.args.ask.now (fails_at c.args.self.now c.args.call) told none

pub returns-then-not-is_page-clause-failed : goal.returns-then-not-is_page-clause-failed
returns-then-not-is_page-clause-failed c = λ failed.
    let tables = c.args.self.now.tables.items in
    let told = rows_told tables (declared_by c.args.ask.now) in
    let rows = rows_of c.in-Some.rows.items in
    let some : Some rows ≡ first_of c.args.ask.now told = rw c.in-Some.is at c.in_ok-rows.ensures in
    call_refuses tables c.args.self.now.sound c.args.ask.now rows (fails_at c.args.self.now c.args.call) some
    (rw c.deref.ensures.value at c.if-not-is_page.ensures)

pub returns-clause-gives : goal.returns-clause-gives
returns-clause-gives c =
    let tables = c.args.self.now.tables.items in
    let told = rows_told tables (declared_by c.args.ask.now) in
    let rows = rows_of c.in-Some.rows.items in
    let some : Some rows ≡ first_of c.args.ask.now told = rw c.in-Some.is at c.in_ok-rows.ensures in
    let goes : fails_at c.args.self.now c.args.call ≡ false = sym c.contains.ensures ∙ c.if-contains.false in
    ap (λ fails. gives_of c.args.ask.now fails told) goes
    ∙ call_gives tables c.args.self.now.sound c.args.ask.now rows some (rw c.deref.ensures.value at c.if-not-is_page.ensures)
