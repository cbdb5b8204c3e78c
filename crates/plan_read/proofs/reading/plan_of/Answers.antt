use Rattle.std.proofs.Common.{◌≡◌, ◌∙◌, List, sym, ap, subst, map}
use Rattle.std.specs.Str.{IsUtf8}
use Rattle.std.specs.List.{AllByRecursion}
use Rattle.std.proofs.lemmas.Result.{err_from_is_err_and}
use Rattle.plan_read.specs.Checks.{ops_of}
use Rattle.plan_read.specs.Drafts.{all_numbered, AreDrafts}
use Rattle.plan_read.specs.Lines.{line_of, operator_lines}
use Rattle.plan_read.specs.Variables.{names_in, names_of}
use Rattle.plan_read.specs.declared.draft.Draft.{Draft}
use Rattle.plan_read.proofs.Answered.{drafts_of, refused_ops, read_whole}
use Rattle.plan_read.proofs.NameTexts.{names_text}
use Rattle.plan_read.proofs.reading.plan_of.Goals as goal

pub returns-in_err-check : goal.returns-in_err-check
returns-in_err-check c =
    let text = c.args.text.now in
    let sources = c.args.catalog.now in
    let first : map line_of c.deref.result.now ≡ operator_lines text = ap (map line_of) c.deref.ensures.value ∙ c.in_ok-lines.ensures in
    let second : map line_of c.deref-2.result.now ≡ operator_lines text = ap (map line_of) c.deref-2.ensures.value ∙ c.in_ok-lines.ensures in
    let read = drafts_of text sources c.in_ok-names.names (map line_of c.deref.result.now) (map line_of c.deref-2.result.now) c.in_ok-drafts.drafts.items first c.in_ok-names.ensures.all second c.in_ok-drafts.ensures.ok in
    let drafts = subst (λ (ds : List Draft). AreDrafts (names_of text) sources (operator_lines text) ds) (sym c.deref-3.ensures.value) read in
    let refused = c.in_err-check.ensures (names_of text) sources (operator_lines text) drafts (sym c.len.ensures.len) in
    let p = err_from_is_err_and c.from_residual-in_err-check.result c.from_residual-in_err-check.ensures.1 in
    rw (p.1, p.2) (refused_ops text sources c.deref-3.result.now c.in_default.ensures.cases.1 drafts c.in_err-check.field-0.0 refused)

pub labels-requires : goal.labels-requires
labels-requires c = subst (AllByRecursion IsUtf8) (sym c.in_ok-names.ensures.all) (names_text (map line_of c.deref.result.now))

pub returns : goal.returns
returns c =
    let text = c.args.text.now in
    let sources = c.args.catalog.now in
    let first : map line_of c.deref.result.now ≡ operator_lines text = ap (map line_of) c.deref.ensures.value ∙ c.in_ok-lines.ensures in
    let second : map line_of c.deref-2.result.now ≡ operator_lines text = ap (map line_of) c.deref-2.ensures.value ∙ c.in_ok-lines.ensures in
    let read = drafts_of text sources c.in_ok-names.names (map line_of c.deref.result.now) (map line_of c.deref-2.result.now) c.in_ok-drafts.drafts.items first c.in_ok-names.ensures.all second c.in_ok-drafts.ensures.ok in
    let drafts = subst (λ (ds : List Draft). AreDrafts (names_of text) sources (operator_lines text) ds) (sym c.deref-3.ensures.value) read in
    let whole = c.in_ok-check.ensures (names_of text) sources (operator_lines text) drafts (sym c.len.ensures.len) in
    let names = c.in_ok-labels.ensures ∙ c.in_ok-names.ensures.all ∙ ap names_in first in
    let ops = c.in_ok-ops_of.ensures ∙ ap (λ (ds : List Draft). ops_of (all_numbered ds)) (sym c.deref-3.ensures.value) in
    read_whole text sources c.deref-3.result.now c.in_default.ensures.cases.1 drafts _ whole.0 whole.1 ops names c.in_ok-source_names.ensures
