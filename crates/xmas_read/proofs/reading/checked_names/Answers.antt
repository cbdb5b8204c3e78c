use Rattle.std.proofs.Common.{◌≡◌, ◌∙◌, sym, ap}
use Rattle.xmas_read.specs.Tree.{tree_of, bound_names}
use Rattle.xmas_read.specs.Results.{names_of_sources}
use Rattle.xmas_read.proofs.Outcomes.{size_refused, scope_refused, template_refused, few_names, none_of}
use Rattle.xmas_read.proofs.reading.checked_names.Goals as goal

pub returns-in-Some-clause-refused : goal.returns-in-Some-clause-refused
returns-in-Some-clause-refused c = size_refused (names_of_sources c.args.catalog.now) (tree_of c.args.tree.now) c.in-Some.fault (sym c.in_ok-fault.ensures ∙ c.in-Some.is)

pub returns-in-Some-2-clause-refused : goal.returns-in-Some-2-clause-refused
returns-in-Some-2-clause-refused c =
    scope_refused (names_of_sources c.args.catalog.now) (tree_of c.args.tree.now) c.in-Some-2.fault (sym c.in_ok-fault.ensures ∙ none_of c.in_default.not-Some) (sym c.in_ok-fault-2.ensures ∙ c.in-Some-2.is)

pub template_refusal-requires-clause-few : goal.template_refusal-requires-clause-few
template_refusal-requires-clause-few c =
    few_names (tree_of c.args.tree.now) c.deref-3.result.now (sym c.in_ok-fault.ensures ∙ none_of c.in_default.not-Some) (c.deref-3.ensures.value ∙ c.in_ok-names.ensures ∙ ap bound_names c.deref.ensures.value)

pub returns-in-Some-3-clause-refused : goal.returns-in-Some-3-clause-refused
returns-in-Some-3-clause-refused c =
    template_refused (names_of_sources c.args.catalog.now) (tree_of c.args.tree.now) c.in-Some-3.fault (sym c.in_ok-fault.ensures ∙ none_of c.in_default.not-Some)
    (sym c.in_ok-fault-2.ensures ∙ none_of c.in_default-2.not-Some) (sym c.in_ok-fault-3.ensures ∙ c.in-Some-3.is)
