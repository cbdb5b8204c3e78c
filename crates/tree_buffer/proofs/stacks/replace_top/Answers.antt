use Rattle.std.proofs.Common.{◌≡◌, ◌++◌, ◌∷◌, [], refl, ap, ◌∙◌, arith, length, ◌-◌, length-append}
use Rattle.std.specs.Prelude.{reverse, remove}
use Rattle.lxp_core.specs.Open.{nil}
use Rattle.lxp_core.specs.Plain.{stacked}
use Rattle.tree_buffer.proofs.StackTops.{stacked-only, stacked-refilled}
use Rattle.tree_buffer.proofs.stacks.replace_top.Goals as goal

pub returns-then-at-eq0-clause-ok : goal.returns-then-at-eq0-clause-ok
returns-then-at-eq0-clause-ok c = λ prefix top e.
    let one : length (prefix ++ top ∷ []) ≡ 1 =
    omega (arith, c.if-at-eq0.true, c.len-at.ensures, c.args.stack.now.ok.0, ap length e, length-append prefix (top ∷ [])) in
    rw (c.replace.ensures.after) (ap (λ xs. stacked xs nil) c.turn_round.ensures ∙ stacked-only prefix c.args.list.items top one)

pub returns-clause-ok : goal.returns-clause-ok
returns-clause-ok c = λ prefix top e.
    let list = c.args.list.items in
    let at_is : c.len-at.result - 1 ≡ length prefix = omega (arith, c.len-at.ensures, c.args.stack.now.ok.0, ap length e, length-append prefix (top ∷ [])) in
    let whole : c.append.new.self.items ≡ (prefix ++ top ∷ []) ++ reverse list = rw (c.in_ok-append.ensures.items, c.turn_round.ensures, e) refl in
    ap (λ xs. stacked xs nil) (c.remove.ensures.items ∙ ap (λ xs. remove xs (c.len-at.result - 1)) whole ∙ ap (remove ((prefix ++ top ∷ []) ++ reverse list)) at_is)
    ∙ stacked-refilled prefix list top
