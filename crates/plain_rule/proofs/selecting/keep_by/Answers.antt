use Rattle.std.proofs.Common.{◌≡◌, ◌∷◌, ◌∙◌, [], ap, sym, subst}
use Rattle.std.proofs.lemmas.Result.{IfOk-weaker}
use Rattle.std.specs.List.{filter}
use Rattle.mix_tree.specs.Comparisons.{passes}
use Rattle.xmas_rule.specs.Bindings.{node_of}
use Rattle.xmas_rule.specs.Conditions.{comparisons, AreCompared}
use Rattle.xmas_rule.specs.declared.condition.Cond.{Cond}
use Rattle.xmas_rule.specs.Tuples.{passing}
use Rattle.plain_rule.specs.Documents.{documents_of}
use Rattle.plain_rule.proofs.Tupling.{passing_one, passing_none}
use Rattle.plain_rule.proofs.selecting.keep_by.Goals as goal

pub keep_passing-requires : goal.keep_passing-requires
keep_passing-requires c = (subst (λ (x : Cond). AreCompared c.requires.0 (comparisons (x ∷ []))) c.in-Compare.is c.requires.1).0.2

pub returns-in-Compare : goal.returns-in-Compare
returns-in-Compare c =
    IfOk-weaker c.keep_passing.result (λ kept. kept.items ≡ filter (λ b. passes (documents_of c.args.docs.now) c.in-Compare.test (node_of b)) c.deref.result.now) (λ kept. kept.items ≡ passing (documents_of c.args.docs.now) (comparisons (c.args.cond.now ∷ [])) c.args.bindings.items)
    (λ kept e. e ∙ ap (filter (λ b. passes (documents_of c.args.docs.now) c.in-Compare.test (node_of b))) c.deref.ensures.value
    ∙ sym (passing_one (documents_of c.args.docs.now) c.in-Compare.test c.args.bindings.items)
    ∙ ap (λ z. passing (documents_of c.args.docs.now) (comparisons (z ∷ [])) c.args.bindings.items) (sym c.in-Compare.is))
    c.keep_passing.ensures

pub returns-in-FromSource : goal.returns-in-FromSource
returns-in-FromSource c = sym (ap (λ z. passing (documents_of c.args.docs.now) (comparisons (z ∷ [])) c.args.bindings.items) c.in-FromSource.is ∙ passing_none (documents_of c.args.docs.now) c.args.bindings.items)

pub returns-in-FromVar : goal.returns-in-FromVar
returns-in-FromVar c = sym (ap (λ z. passing (documents_of c.args.docs.now) (comparisons (z ∷ [])) c.args.bindings.items) c.in-FromVar.is ∙ passing_none (documents_of c.args.docs.now) c.args.bindings.items)
