use Rattle.std.proofs.Common.{◌≡◌, ◌∷◌, ◌∙◌, [], ap, sym}
use Rattle.std.proofs.lemmas.Result.{IfOk-weaker}
use Rattle.xmas_rule.specs.Conditions.{binders, flat}
use Rattle.xmas_rule.specs.Reached.{reached, begun}
use Rattle.xmas_rule.specs.Tuples.{MatchLists, AreMatchLists, tuples}
use Rattle.plain_rule.specs.Documents.{documents_of}
use Rattle.plain_rule.proofs.Tupling.{begun_source, tuples_none}
use Rattle.plain_rule.proofs.tuples.extend_begun.Goals as goal

pub returns-in_ok-begun-in-FromSource : goal.returns-in_ok-begun-in-FromSource
returns-in_ok-begun-in-FromSource c =
    IfOk-weaker c.extend_reached.result
    (λ longer. (lists : MatchLists) → AreMatchLists (documents_of c.args.docs.now) lists → longer.items ≡ tuples lists c.in_ok-begun-in-FromSource.begun.items (reached (c.in-FromSource.var ∷ []) (binders c.args.after.now)))
    (λ longer. (lists : MatchLists) → AreMatchLists (documents_of c.args.docs.now) lists → longer.items ≡ tuples lists c.args.bindings.items (flat (begun c.args.cond.now (binders c.args.after.now))))
    (λ longer h. λ lists is.
    h lists is
    ∙ begun_source lists c.in-FromSource.source c.in-FromSource.path c.in-FromSource.var (binders c.args.after.now) c.args.bindings.items c.deref.result.now c.in_ok-begun-in-FromSource.begun.items c.deref.ensures.value (c.in_ok-begun-in-FromSource.ensures lists is)
    ∙ ap (λ z. tuples lists c.args.bindings.items (flat (begun z (binders c.args.after.now)))) (sym c.in-FromSource.is))
    c.extend_reached.ensures

pub returns-in-FromVar : goal.returns-in-FromVar
returns-in-FromVar c = λ lists is. sym (ap (λ z. tuples lists c.args.bindings.items (flat (begun z (binders c.args.after.now)))) c.in-FromVar.is ∙ tuples_none lists c.args.bindings.items)

pub returns-in-Compare : goal.returns-in-Compare
returns-in-Compare c = λ lists is. sym (ap (λ z. tuples lists c.args.bindings.items (flat (begun z (binders c.args.after.now)))) c.in-Compare.is ∙ tuples_none lists c.args.bindings.items)
