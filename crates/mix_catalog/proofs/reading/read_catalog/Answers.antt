use Rattle.std.proofs.Common.{◌≡◌, ◌<◌, ◌∙◌, ℕ, List, [], Bor, Ok, Err, map, arith, length, ap, sym, take, subst}
use Rattle.std.proofs.lemmas.List.{length-map, get_or-map, take_all}
use Rattle.std.proofs.lemmas.Result.{err_from_is_err_and}
use Rattle.mix_words.specs.Lines.{lines_of}
use Rattle.mix_catalog.specs.Sources.{Accepts, Refuses, IsCatalog}
use Rattle.mix_catalog.proofs.Accepted.{Accepts-more, fault_refuses}
use Rattle.mix_catalog.proofs.OneAnswer.{one_answer}
use Rattle.mix_catalog.proofs.reading.read_catalog.Goals as goal

-- the lines of a list of slices
abbrev lines_in : List (Bor (List ℕ)) → List (List ℕ)
lines_in items = map (λ (line : Bor (List ℕ)). line.now) items

pub loop-before-preserved : goal.loop-before-preserved
loop-before-preserved c =
    let items = c.deref-line-items.result.now in
    let i = c.loop-before.before in
    let inside : i < length (lines_in items) = omega (arith, length-map items (λ (line : Bor (List ℕ)). line.now), c.loop-before-test.true) in
    let same = get_or-map (λ (line : Bor (List ℕ)). line.now) items i (record { ref_ptr = (0, 0); now = [] }) [] c.loop-before-test.true in
    Accepts-more (lines_in items) i _ c.loop-before.catalog c.add_line.new.catalog inside (sym same) c.loop-before.invariant c.in_ok-add_line.ensures.ok

-- the text is refused for the line's fault
refused : (c : goal.After-drop-lines) → Refuses c.args.text.now c.in_err-add_line.field-0.0
refused c =
    let items = c.deref-line-items.result.now in
    let i = c.loop-before.before in
    let cut : lines_in items ≡ lines_of c.args.text.now = ap lines_in c.deref-line-items.ensures.value ∙ c.in_ok-lines.ensures in
    let inside : i < length (lines_in items) = omega (arith, length-map items (λ (line : Bor (List ℕ)). line.now), c.loop-before-test.true) in
    let same = get_or-map (λ (line : Bor (List ℕ)). line.now) items i (record { ref_ptr = (0, 0); now = [] }) [] c.loop-before-test.true in
    fault_refuses c.args.text.now (lines_in items) i _ c.loop-before.catalog c.in_err-add_line.field-0.0 cut inside (sym same) c.loop-before.invariant c.in_err-add_line.ensures.err

pub returns-in_err-add_line-clause-answers : goal.returns-in_err-add_line-clause-answers
returns-in_err-add_line-clause-answers c =
    let p = err_from_is_err_and c.from_residual-in_err-add_line.result c.from_residual-in_err-add_line.ensures.1 in
    rw (p.1, p.2) (refused c)

pub returns-in_err-add_line-clause-only : goal.returns-in_err-add_line-clause-only
returns-in_err-add_line-clause-only c =
    let p = err_from_is_err_and c.from_residual-in_err-add_line.result c.from_residual-in_err-add_line.ensures.1 in
    λ other. rw (p.1, p.2) (one_answer c.args.text.now (Err c.in_err-add_line.field-0.0) other (refused c))

-- the text is a catalog of what was read
read : (c : goal.After-drop-lines-2) → IsCatalog c.args.text.now c.loop-before.catalog
read c =
    let items = c.deref-line-items.result.now in
    let cut : lines_in items ≡ lines_of c.args.text.now = ap lines_in c.deref-line-items.ensures.value ∙ c.in_ok-lines.ensures in
    let all : take c.loop-before.before (lines_in items) ≡ lines_in items =
    take_all c.loop-before.before (lines_in items) (omega (arith, length-map items (λ (line : Bor (List ℕ)). line.now), c.loop-before-test.false)) in
    subst (λ lines. Accepts [] lines c.loop-before.catalog) (all ∙ cut) c.loop-before.invariant

pub returns-clause-answers : goal.returns-clause-answers
returns-clause-answers c = read c

pub returns-clause-only : goal.returns-clause-only
returns-clause-only c = λ other. one_answer c.args.text.now (Ok c.loop-before.catalog) other (read c)
