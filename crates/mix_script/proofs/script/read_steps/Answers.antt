use Rattle.std.proofs.Common.{◌<◌, ◌+◌, ◌∙◌, ℕ, List, [], Bor, map, arith, length, get_or, ap}
use Rattle.std.proofs.lemmas.List.{length-map, get_or-map}
use Rattle.std.proofs.lemmas.Result.{err_from_is_err_and}
use Rattle.mix_script.specs.Steps.{line_steps, steps_of}
use Rattle.mix_script.proofs.Reading.{line_taken, line_refused, line_fault}
use Rattle.mix_script.proofs.script.read_steps.Goals as goal

pub loop-before-preserved : goal.loop-before-preserved
loop-before-preserved c =
    let items = c.deref-line-items.result.now in
    let lines = map (λ (line : Bor (List ℕ)). line.now) items in
    let i = c.loop-before.before in
    let inside : i < length lines = omega (arith, length-map items (λ (line : Bor (List ℕ)). line.now), c.loop-before-test.true) in
    let same = get_or-map (λ (line : Bor (List ℕ)). line.now) items i (record { ref_ptr = (0, 0); now = [] }) [] c.loop-before-test.true in
    let ok = c.in_ok-push_line.ensures.ok in
    line_taken c.args.forms lines i (i + 1) _ ok.0 _ _ inside (ap (line_steps c.args.forms) same ∙ ok.1) ok.2 c.loop-before.invariant

pub returns-in_err-push_line-clause-line : goal.returns-in_err-push_line-clause-line
returns-in_err-push_line-clause-line c =
    let items = c.deref-line-items.result.now in
    let lines = map (λ (line : Bor (List ℕ)). line.now) items in
    let i = c.loop-before.before in
    let inside : i < length lines = omega (arith, length-map items (λ (line : Bor (List ℕ)). line.now), c.loop-before-test.true) in
    let same = get_or-map (λ (line : Bor (List ℕ)). line.now) items i (record { ref_ptr = (0, 0); now = [] }) [] c.loop-before-test.true in
    let p = err_from_is_err_and c.from_residual-in_err-push_line.result c.from_residual-in_err-push_line.ensures.1 in
    rw p.1 (line_fault _ _ (i + 1) (line_steps c.args.forms (get_or items i (record { ref_ptr = (0, 0); now = [] })).now) (steps_of c.args.forms c.args.text.now) p.2 c.in_err-push_line.ensures.line
    (λ h. line_refused c.args.forms lines i (i + 1) _ _ inside (ap (line_steps c.args.forms) same ∙ h) c.loop-before.invariant))
