use Rattle.std.proofs.Common.{rules, ◌≡◌, false, IsTrue, slice_index, arith, refl}
use Rattle.std.proofs.lemmas.Result.{err_from_is_err_and}
use Rattle.std.proofs.lemmas.Str.{IsCharBoundary-after_ascii}
use Rattle.bracket_text.specs.Machine.{begins, at}
use Rattle.bracket_text.proofs.Taken.{step_goes, step_stops, fault_stops, other_ascii, other_not_deep}
use Rattle.bracket_text.proofs.Held.{may_not}
use Rattle.bracket_text.proofs.reader.Reader.take.Goals as goal

pub returns-in_err-take_byte : goal.returns-in_err-take_byte
returns-in_err-take_byte c = λ o m h.
    let text = c.args.text.now in
    let i = c.args.at in
    let other : begins (slice_index text i) ≡ false = search rules in
    let p = err_from_is_err_and c.from_residual.result c.from_residual.ensures.1 in
    rw (p.1, p.2) (fault_stops (at o m) text i _ _ refl c.requires.inside (other_not_deep o m (slice_index text i) other) (c.in_err-take_byte.ensures o m h))

pub returns-then-not-begins_label : goal.returns-then-not-begins_label
returns-then-not-begins_label c = λ o m h.
    let text = c.args.text.now in
    let i = c.args.at in
    let other : begins (slice_index text i) ≡ false = search rules in
    let given = c.in_ok-take_byte.ensures o m h in
    record {
      state = given.0;
      order = omega arith;
      inside = omega (arith, c.requires.inside);
      boundary = IsCharBoundary-after_ascii text i c.requires.utf8 c.requires.inside (other_ascii (slice_index text i) other);
      same = step_goes (at o m) given.0 text i c.requires.inside (other_not_deep o m (slice_index text i) other) given.1;
      holds = given.2;
    }

pub returns : goal.returns
returns c = λ o m h.
    let text = c.args.text.now in
    let i = c.args.at in
    let begun : IsTrue (begins (slice_index text i)) = search rules in
    let no = may_not c.args.self.now o m h (λ k. let may = c.may_begin.ensures.1 k in cc) (slice_index text i) begun in
    step_stops (at o m) text i c.requires.inside no.0 no.1
