use Rattle.std.proofs.Common.{◌≡◌, List, Some, map, OnOk, ℕ, ◌≤◌, length, ap, subst, ◌∙◌, arith}
use Rattle.std.proofs.lemmas.List.{length-map}
use Rattle.plan_core.specs.Plans.{Operator}
use Rattle.plan_core.specs.PlanMade.{op_of}
use Rattle.plan_rewrite.specs.Edits.{landing, edited}
use Rattle.plan_rewrite.specs.Rewritten.{pushed}
use Rattle.plan_make.specs.Trees.{Tree, under, numbered}
use Rattle.plan_rewrite.proofs.Editing.{edits, edited-pushed}
use Rattle.plan_make.proofs.Numbering.{numbered-length}
use Rattle.plan_rewrite.proofs.way.push_test.Goals as goal

pub returns-in-None : goal.returns-in-None
returns-in-None c = λ x e.
    let found : c.in_ok-at.field-0 ≡ Some (landing c.args.test x) = c.in_ok-at.ensures x (ap (map op_of) c.as_slice.ensures.value ∙ e) in
    absurd (cc (found, c.in-None.is))

pub place-requires : goal.place-requires
place-requires c =
    let x : Tree = c.requires.0 in
    let e : map op_of c.args.ops.now.items ≡ numbered 0 x = c.requires.1 in
    let k = length-map c.args.ops.now.items op_of in
    let n = ap length e in
    let m = numbered-length x 0 in
    let found : c.in_ok-at.field-0 ≡ Some (landing c.args.test x) = c.in_ok-at.ensures x (ap (map op_of) c.as_slice.ensures.value ∙ e) in
    let at : c.in-Some.at ≡ landing c.args.test x = cc (found, c.in-Some.is) in
    let inside : landing c.args.test x ≤ under x = (edits c.args.test x 0).inside in
    omega (arith, at, inside, k, n, m, c.args.ops.now.ok.0)

pub returns-in-Some : goal.returns-in-Some
returns-in-Some c = λ x e.
    let found : c.in_ok-at.field-0 ≡ Some (landing c.args.test x) = c.in_ok-at.ensures x (ap (map op_of) c.as_slice.ensures.value ∙ e) in
    let at : c.in-Some.at ≡ landing c.args.test x = cc (found, c.in-Some.is) in
    let same : edited c.args.test c.in-Some.at c.in-Some.at (map op_of c.args.ops.now.items) ≡ numbered 0 (pushed c.args.test x) =
    ap (λ (j : ℕ). edited c.args.test j j (map op_of c.args.ops.now.items)) at ∙ ap (edited c.args.test (landing c.args.test x) (landing c.args.test x)) e ∙ edited-pushed c.args.test x in
    subst (λ (z : List Operator). OnOk c.place.result (map op_of c.place.new.ops.items ≡ z)) same c.place.ensures
