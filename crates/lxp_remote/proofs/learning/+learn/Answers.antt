use Rattle.std.proofs.Common.{rules, ◌≡◌, ◌<◌, ◌+◌, ◌*◌, ◌∙◌, ap, sym, subst, arith, drop}
use Rattle.std.specs.Prelude.{OnOk}
use Rattle.std.proofs.lemmas.Result.{err_from_is_err_and}
use Rattle.mix_base.proofs.Lists.{append_nil}
use Rattle.lxp_remote.specs.declared.learning.Unlearned.TheVariants.{Changed}
use Rattle.wire_text.specs.Wired.{nil, node, size_of, holes_of}
use Rattle.wire_text.specs.Plain.{plain, put}
use Rattle.lxp_remote.specs.Known.{IsChanged}
use Rattle.lxp_remote.specs.Learned.{Learns, weights}
use Rattle.wire_text.proofs.Trees.{put-node, size_at}
use Rattle.lxp_remote.proofs.Learnt.{Learning, learning_more, learning_changed, holes-step, err_same}
use Rattle.lxp_remote.proofs.learning.+learn.Goals as goal

pub learn_tree-learn_list-requires : goal.learn_tree-learn_list-requires
learn_tree-learn_list-requires t c =
    let is : put c.args.tree.now nil ≡ node c.in-Node.label (plain c.in-Node.kids.items) nil = ap (λ u. put u nil) c.in-Node.is ∙ put-node c.in-Node.label c.in-Node.kids nil in
    let smaller : 2 * size_of (plain c.deref.result.now) + 1 < 2 * size_of (put c.args.tree.now nil) =
    omega (arith, ap size_of is, ap (λ ts. size_of (plain ts)) c.deref.ensures.value) in
    search rules

pub learn_list-learn_tree-requires : goal.learn_list-learn_tree-requires
learn_list-learn_tree-requires t c =
    let smaller : 2 * size_of (put c.tree-item.result nil) < 2 * size_of (plain c.args.trees.now) + 1 =
    omega (arith, size_at c.args.trees.now c.loop-tree.tree-index c.tree-item.result (omega arith) c.tree-item.is) in
    search rules

pub learn_tree-returns-in-Node-clause-learned : goal.learn_tree-returns-in-Node-clause-learned
learn_tree-returns-in-Node-clause-learned t c =
    let kids = c.in-Node.kids.items in
    let is : put c.args.tree.now nil ≡ node c.in-Node.label (plain kids) nil = ap (λ u. put u nil) c.in-Node.is ∙ put-node c.in-Node.label c.in-Node.kids nil in
    let same : holes_of (plain c.deref.result.now) ≡ holes_of (put c.args.tree.now nil) =
    ap (λ ts. holes_of (plain ts)) c.deref.ensures.value ∙ sym (append_nil (holes_of (plain kids))) ∙ sym (ap holes_of is) in
    subst (λ hs. OnOk c.learn_list.result (Learns (weights c.args.root.now c.args.known.now) (weights c.args.root.now c.learn_list.new.known) hs)) same c.learn_list.ensures.learned

pub learn_tree-returns-in-Node-clause-changed : goal.learn_tree-returns-in-Node-clause-changed
learn_tree-returns-in-Node-clause-changed t c = λ f.
    let kids = c.in-Node.kids.items in
    let is : put c.args.tree.now nil ≡ node c.in-Node.label (plain kids) nil = ap (λ u. put u nil) c.in-Node.is ∙ put-node c.in-Node.label c.in-Node.kids nil in
    let same : holes_of (plain c.deref.result.now) ≡ holes_of (put c.args.tree.now nil) =
    ap (λ ts. holes_of (plain ts)) c.deref.ensures.value ∙ sym (append_nil (holes_of (plain kids))) ∙ sym (ap holes_of is) in
    subst (IsChanged (weights c.args.root.now c.args.known.now)) same (c.learn_list.ensures.changed f)

pub learn_list-returns-in_err-learn_tree-clause-changed : goal.learn_list-returns-in_err-learn_tree-clause-changed
learn_list-returns-in_err-learn_tree-clause-changed t c = λ f.
    let ts = c.args.trees.now in
    let i = c.loop-tree.tree-index in
    let root = c.args.root.now in
    let p = err_from_is_err_and c.from_residual.result c.from_residual.ensures.1 in
    let rest = holes_of (plain (drop (i + 1) ts)) in
    let all = holes_of (plain ts) in
    let so_far = subst (Learning root c.args.known.now c.loop-tree.known all) (holes-step ts i c.tree-item.result (omega arith) c.tree-item.is) c.loop-tree.invariant in
    learning_changed root c.args.known.now c.loop-tree.known all (holes_of (put c.tree-item.result nil)) rest so_far
    (c.in_err-learn_tree.ensures.changed (err_same c.from_residual.result p.0 _ Changed p.1 p.2 f))

pub learn_list-loop-tree-preserved : goal.learn_list-loop-tree-preserved
learn_list-loop-tree-preserved t c =
    let ts = c.args.trees.now in
    let i = c.loop-tree.tree-index in
    let root = c.args.root.now in
    let rest = holes_of (plain (drop (i + 1) ts)) in
    let all = holes_of (plain ts) in
    let so_far = subst (Learning root c.args.known.now c.loop-tree.known all) (holes-step ts i c.tree-item.result (omega arith) c.tree-item.is) c.loop-tree.invariant in
    learning_more root c.args.known.now c.loop-tree.known c.learn_tree.new.known all (holes_of (put c.tree-item.result nil)) rest so_far c.in_ok-learn_tree.ensures.learned c.in_ok-learn_tree.ensures.prefix
