use Rattle.std.proofs.Common.{◌<◌, ◌≤◌, ◌∙◌, length, slice_index, refl, arith}
use Rattle.std.proofs.lemmas.Result.{err_from_is_err_and}
use Rattle.std.proofs.lemmas.Str.{IsCharBoundary-after_ascii}
use Rattle.bracket_text.specs.Machine.{at, named}
use Rattle.bracket_text.proofs.Taken.{label_at, step_goes, fault_stops, ascii_after}
use Rattle.bracket_text.proofs.Held.{may, few_open, deep_at, seen_fault, label_lies}
use Rattle.bracket_text.proofs.reader.Reader.take_label.Goals as goal

pub returns-then-len-ge-LEVELS : goal.returns-then-len-ge-LEVELS
returns-then-len-ge-LEVELS c = λ o m h.
    let many : 200 ≤ length o = omega (arith, few_open c.args.self.now o m h, c.args.self.now.«open».ok.0, c.len.ensures, c.if-len-ge-LEVELS.true) in
    deep_at o m c.args.text.now c.args.at (may c.args.self.now o m h c.requires.mode) many c.requires.inside c.requires.label

pub returns-in_err-end : goal.returns-in_err-end
returns-in_err-end c = λ o m h.
    let few : length o < 200 = omega (arith, few_open c.args.self.now o m h, c.args.self.now.«open».ok.0, c.len.ensures, c.if-len-ge-LEVELS.false) in
    let p = err_from_is_err_and c.from_residual.result c.from_residual.ensures.1 in
    rw (p.1, p.2) (seen_fault o m c.args.text.now c.args.at _ (may c.args.self.now o m h c.requires.mode) few c.requires.inside c.requires.label c.in_err-end.ensures)

pub returns-then-end-text : goal.returns-then-end-text
returns-then-end-text c = λ o m h.
    let few : length o < 200 = omega (arith, few_open c.args.self.now o m h, c.args.self.now.«open».ok.0, c.len.ensures, c.if-len-ge-LEVELS.false) in
    let put = c.in_ok-end.ensures in
    let begun = may c.args.self.now o m h c.requires.mode in
    record {
      state = at o (named put.label);
      order = put.next;
      inside = put.inside;
      boundary = put.boundary;
      same = label_at o m c.args.text.now c.args.at _ begun few c.requires.inside c.requires.label put.seen_is;
      holds = record { lies = label_lies c.args.self.now o m _ put.label h begun put.nodes; same = refl };
    }

pub returns-in_err-close_label : goal.returns-in_err-close_label
returns-in_err-close_label c = λ o m h.
    let few : length o < 200 = omega (arith, few_open c.args.self.now o m h, c.args.self.now.«open».ok.0, c.len.ensures, c.if-len-ge-LEVELS.false) in
    let text = c.args.text.now in
    let put = c.in_ok-end.ensures in
    let begun = may c.args.self.now o m h c.requires.mode in
    let taken = label_at o m text c.args.at _ begun few c.requires.inside c.requires.label put.seen_is in
    let inside : c.in_ok-end.end < length text = omega (arith, put.inside, c.if-end-text.false) in
    let p = err_from_is_err_and c.from_residual-in_err-close_label.result c.from_residual-in_err-close_label.ensures.1 in
    rw (p.1, p.2) (fault_stops (at o (named put.label)) text c.in_ok-end.end _ _ taken inside refl (c.in_err-close_label.ensures o put.label (label_lies c.args.self.now o m _ put.label h begun put.nodes)))

pub returns : goal.returns
returns c = λ o m h.
    let few : length o < 200 = omega (arith, few_open c.args.self.now o m h, c.args.self.now.«open».ok.0, c.len.ensures, c.if-len-ge-LEVELS.false) in
    let text = c.args.text.now in
    let put = c.in_ok-end.ensures in
    let end = c.in_ok-end.end in
    let begun = may c.args.self.now o m h c.requires.mode in
    let taken = label_at o m text c.args.at _ begun few c.requires.inside c.requires.label put.seen_is in
    let inside : c.in_ok-end.end < length text = omega (arith, put.inside, c.if-end-text.false) in
    let given = c.in_ok-close_label.ensures o put.label (label_lies c.args.self.now o m _ put.label h begun put.nodes) in
    let low : slice_index text end < 128 = ascii_after o put.label (slice_index text end) given.0 given.1 in
    record {
      state = given.0;
      order = omega (arith, put.next);
      inside = omega (arith, inside);
      boundary = IsCharBoundary-after_ascii text end c.requires.utf8 inside low;
      same = taken ∙ step_goes (at o (named put.label)) given.0 text end inside refl given.1;
      holds = given.2;
    }
