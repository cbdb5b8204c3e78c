use Rattle.std.proofs.Common.{◌≡◌, ◌∷◌, ◌∙◌, [], false, true, cond, ap, sym}
use Rattle.std.proofs.lemmas.Result.{IfOk-weaker}
use Rattle.xmas_rule.specs.Conditions.{from_var, has}
use Rattle.xmas_rule.specs.Tuples.{MatchLists, AreMatchLists, extend, tuples}
use Rattle.plain_rule.specs.Documents.{documents_of}
use Rattle.plain_rule.proofs.Tupling.{tuples_none, tuples_one}
use Rattle.plain_rule.proofs.tuples.extend_if_has.Goals as goal

pub returns-then-not-has_var-clause-tuples : goal.returns-then-not-has_var-clause-tuples
returns-then-not-has_var-clause-tuples c = λ lists is.
    let no : has c.args.vars.now.items c.args.start ≡ false = cc in
    sym (ap (λ b. tuples lists c.args.bindings.items (cond b (from_var c.args.start c.args.leads.now.path.now c.args.leads.now.var ∷ []) [])) no ∙ tuples_none lists c.args.bindings.items)

pub returns-clause-tuples : goal.returns-clause-tuples
returns-clause-tuples c =
    let yes : has c.args.vars.now.items c.args.start ≡ true = cc in
    IfOk-weaker c.extend_from_var.result
    (λ longer. (lists : MatchLists) → AreMatchLists (documents_of c.args.leads.now.docs.now) lists → longer.items ≡ extend lists (from_var c.args.start c.args.leads.now.path.now c.args.leads.now.var) c.deref-2.result.now)
    (λ longer. (lists : MatchLists) → AreMatchLists (documents_of c.args.leads.now.docs.now) lists → longer.items ≡ tuples lists c.args.bindings.items (cond (has c.args.vars.now.items c.args.start) (from_var c.args.start c.args.leads.now.path.now c.args.leads.now.var ∷ []) []))
    (λ longer h. λ lists is.
    h lists is
    ∙ ap (extend lists (from_var c.args.start c.args.leads.now.path.now c.args.leads.now.var)) c.deref-2.ensures.value
    ∙ sym (tuples_one lists c.args.bindings.items (from_var c.args.start c.args.leads.now.path.now c.args.leads.now.var))
    ∙ ap (λ b. tuples lists c.args.bindings.items (cond b (from_var c.args.start c.args.leads.now.path.now c.args.leads.now.var ∷ []) [])) (sym yes))
    c.extend_from_var.ensures
