use Rattle.std.proofs.Common.{◌≡◌, ◌∙◌, ◌*◌, [], ◌∷◌, ◌++◌, length, length-append, true, false, refl, sym, ap, arith, rules}
use Rattle.std.proofs.lemmas.Result.{err_from_is_err_and}
use Rattle.std.proofs.lemmas.List.Elements.{All-append, All-nil}
use Rattle.csv.specs.Reading.{reader_state}
use Rattle.csv.specs.Records.{fields_of}
use Rattle.csv_wrap.specs.Csv.{IsRow, file_records, without_marks}
use Rattle.csv_wrap.specs.Table.{cut_rows}
use Rattle.csv_wrap.proofs.FieldFacts.{one}
use Rattle.csv_wrap.proofs.ReachFacts.{file_row}
use Rattle.csv_wrap.proofs.RowFacts.{flat_cut, flat_more, length-flat}
use Rattle.csv_wrap.proofs.reading.rows_of.Goals as goal

pub returns-in_err-read_header-clause-refused : goal.returns-in_err-read_header-clause-refused
returns-in_err-read_header-clause-refused c = λ bytes start.
    let p = err_from_is_err_and c.from_residual.result c.from_residual.ensures.1 in
    rw (p.1, p.2) (c.in_err-read_header.ensures.refused bytes start)

pub rows-init : goal.rows-init
rows-init c = λ bytes start.
    record {
      rows = [];
      reached = c.in_ok-read_header.ensures.read bytes start;
      fit = All-nil (IsRow (length c.args.columns.now));
      fields_are = c.new-fields.ensures;
      next_is = refl;
    }

pub returns-then-not-branch-clause-accepted : goal.returns-then-not-branch-clause-accepted
unfolding file_records
returns-then-not-branch-clause-accepted c = λ bytes start.
    let had = c.rows.invariant bytes start in
    let width = length c.args.columns.now in
    let none : c.in_ok-read_next.field-0 ≡ false = search rules in
    let end = rw none at c.in_ok-read_next.ensures (without_marks bytes) (c.args.columns.now ∷ had.rows) had.reached in
    let count : c.full_table.result.rows ≡ length had.rows = omega (arith, c.full_table.ensures.rows, had.next_is) in
    let rows = ap (λ n. cut_rows width n c.full_table.result.fields) count ∙ ap (cut_rows width (length had.rows)) (c.full_table.ensures.fields ∙ had.fields_are) ∙ flat_cut width had.rows had.fit in
    rw rows (end, had.fit)

pub returns-then-not-branch-clause-full : goal.returns-then-not-branch-clause-full
returns-then-not-branch-clause-full c = λ bytes start.
    let had = c.rows.invariant bytes start in
    let width = length c.args.columns.now in
    let count : length had.rows ≡ c.full_table.result.rows = omega (arith, c.full_table.ensures.rows, had.next_is) in
    ap length (c.full_table.ensures.fields ∙ had.fields_are) ∙ length-flat width had.rows had.fit ∙ ap (λ n. n * width) count

pub returns-then-len-columns-clause-refused : goal.returns-then-len-columns-clause-refused
returns-then-len-columns-clause-refused c = λ bytes start.
    let had = c.rows.invariant bytes start in
    let fields = fields_of c.read_next.new.found in
    let some : c.in_ok-read_next.field-0 ≡ true = search rules in
    let at = rw some at c.in_ok-read_next.ensures (without_marks bytes) (c.args.columns.now ∷ had.rows) had.reached in
    let row = file_row bytes c.args.columns.now had.rows fields (reader_state c.read_next.new.reader) at.3 at.5 in
    let found : c.len-then-len-columns.result ≡ c.len.result = cc in
    (refl, (λ e. c.if-len-columns.true (sym found ∙ e)), fields, sym c.len-then-len-columns.ensures, (had.rows, row.0, row.1, had.fit, had.next_is))

pub returns-then-not-branch-2-clause-refused : goal.returns-then-not-branch-2-clause-refused
returns-then-not-branch-2-clause-refused c = λ bytes start.
    let had = c.rows.invariant bytes start in
    let fields = fields_of c.read_next.new.found in
    let some : c.in_ok-read_next.field-0 ≡ true = search rules in
    let at = rw some at c.in_ok-read_next.ensures (without_marks bytes) (c.args.columns.now ∷ had.rows) had.reached in
    let row = file_row bytes c.args.columns.now had.rows fields (reader_state c.read_next.new.reader) at.3 at.5 in
    let no_text : c.in_ok-put_fields.field-0 ≡ false = search rules in
    (fields, cc, rw no_text at c.in_ok-put_fields.ensures, (had.rows, row.0, row.1, had.fit, had.next_is))

pub rows-preserved : goal.rows-preserved
rows-preserved c = λ bytes start.
    let had = c.rows.invariant bytes start in
    let fields = fields_of c.read_next.new.found in
    let columns = c.args.columns.now in
    let some : c.in_ok-read_next.field-0 ≡ true = search rules in
    let text : c.in_ok-put_fields.field-0 ≡ true = search rules in
    let put = rw text at c.in_ok-put_fields.ensures in
    let long : length (fields_of c.read_next.new.found) ≡ length c.args.columns.now = cc in
    record {
      rows = had.rows ++ fields ∷ [];
      reached = rw some at c.in_ok-read_next.ensures (without_marks bytes) (c.args.columns.now ∷ had.rows) had.reached;
      fit = All-append (IsRow (length columns)) had.rows (fields ∷ []) had.fit (one (IsRow (length columns)) fields (long, put.0));
      fields_are = put.1 ∙ ap (λ fs. fs ++ fields) had.fields_are ∙ sym (flat_more had.rows fields);
      next_is = omega (arith, had.next_is, length-append had.rows (fields ∷ []));
    }
