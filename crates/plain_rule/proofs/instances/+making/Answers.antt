use Rattle.std.proofs.Common.{◌≡◌, ◌+◌, ◌*◌, ◌<◌, ◌∙◌, List, rules, arith, refl, sym, ap}
use Rattle.std.proofs.lemmas.Result.{on_ok_weaker}
use Rattle.mix_tree.specs.Forest.{Forest, forest_of, none, tree, followed}
use Rattle.mix_tree.specs.Keys.{in_force}
use Rattle.mix_tree.specs.Nodes.{Documents}
use Rattle.mix_tree.specs.declared.var.Key.{Key}
use Rattle.xmas_rule.specs.Codes.{items_size}
use Rattle.xmas_rule.specs.Items.{Element, whole, label_alone, element, done}
use Rattle.xmas_rule.specs.Made.{items_of, item_before}
use Rattle.xmas_rule.specs.Meaning.{instances, parts}
use Rattle.plain_rule.specs.Documents.{documents_of}
use Rattle.plain_rule.proofs.Making.{joined_next, joined_end, instances_next, instances_end, item_small, shown_item, element_item}
use Rattle.plain_rule.proofs.instances.+making.Goals as goal

pub push_elements-loop-part-preserved : goal.push_elements-loop-part-preserved
push_elements-loop-part-preserved t c =
    let docs : Documents = documents_of c.args.scope.now.docs.now in
    let force : List Key = c.args.scope.now.force.now in
    let e : Element = c.args.template.now in
    let some : Forest = forest_of c.loop-part.made.items in
    let label : c.template.inside.label ≡ e.label = ap (λ (z : Element). z.label) c.template.view_is in
    let items : items_of c.deref.result.now ≡ e.items = ap items_of c.deref.ensures.value ∙ ap (λ (z : Element). z.items) c.template.view_is in
    let kids : forest_of c.push_instances.new.made.items ≡ instances docs force e.items c.part-item.result =
    c.in_ok-push_instances.ensures
    ∙ ap (λ z. followed (forest_of z) (instances docs force (items_of c.deref.result.now) c.bindings.result.now)) c.new-kids.ensures.items
    ∙ ap (λ z. instances docs force z c.bindings.result.now) items
    ∙ ap (λ z. instances docs force e.items z) c.bindings.ensures in
    joined_next (λ part. tree e.label (instances docs force e.items part) none) c.args.found.now c.loop-part.part-index c.part-item.result some (forest_of c.push_labelled.new.made.items)
    c.loop-part-test.true c.part-item.is
    (c.in_ok-push_labelled.ensures
    ∙ ap (λ l. followed some (tree l (forest_of c.push_instances.new.made.items) none)) label
    ∙ ap (λ z. followed some (tree e.label z none)) kids)
    ∙ c.loop-part.invariant

pub push_elements-returns : goal.push_elements-returns
push_elements-returns t c =
    let e : Element = c.args.template.now in
    sym (joined_end (λ part. tree e.label (instances (documents_of c.args.scope.now.docs.now) c.args.scope.now.force.now e.items part) none) c.args.found.now c.loop-part.part-index (forest_of c.loop-part.made.items) c.loop-part-test.false)
    ∙ c.loop-part.invariant

pub push_instances-push_item-requires : goal.push_instances-push_item-requires
push_instances-push_item-requires t c =
    let small : 4 * items_size (item_before c.item-item.result done) + 2 < 4 * items_size (items_of c.args.items.now) + 3 =
    omega (arith, item_small c.args.items.now c.loop-item.item-index c.item-item.result c.loop-item-test.true c.item-item.is) in
    search rules

pub push_instances-loop-item-preserved : goal.push_instances-loop-item-preserved
push_instances-loop-item-preserved t c =
    instances_next (documents_of c.args.scope.now.docs.now) c.args.scope.now.force.now c.args.items.now c.loop-item.item-index c.item-item.result c.args.bindings.now (forest_of c.loop-item.made.items) (forest_of c.push_item.new.made.items)
    c.loop-item-test.true c.item-item.is c.in_ok-push_item.ensures
    ∙ c.loop-item.invariant

pub push_instances-returns : goal.push_instances-returns
push_instances-returns t c =
    sym (instances_end (documents_of c.args.scope.now.docs.now) c.args.scope.now.force.now c.args.items.now c.loop-item.item-index c.args.bindings.now (forest_of c.loop-item.made.items) c.loop-item-test.false)
    ∙ c.loop-item.invariant

pub push_item-returns-in_ok-found-in-Node : goal.push_item-returns-in_ok-found-in-Node
push_item-returns-in_ok-found-in-Node t c =
    let docs : Documents = documents_of c.args.scope.now.docs.now in
    on_ok_weaker c.push_wholes.result
    (λ e. shown_item docs c.args.scope.now.force.now c.in-Node.keys.items whole c.in-Node.var c.args.bindings.now c.deref-in-Node.result.now (item_before c.args.item.now done) (forest_of c.args.made.now.items) (forest_of c.push_wholes.new.made.items)
    (c.deref-in-Node.ensures.value ∙ c.in_ok-found-in-Node.ensures ∙ ap (λ k. parts docs c.args.scope.now.force.now k c.args.bindings.now) c.deref.ensures.value)
    (ap (λ z. item_before z done) c.in-Node.is) e)
    c.push_wholes.ensures

pub push_item-returns-in_ok-found-in-LabelOf : goal.push_item-returns-in_ok-found-in-LabelOf
push_item-returns-in_ok-found-in-LabelOf t c =
    let docs : Documents = documents_of c.args.scope.now.docs.now in
    on_ok_weaker c.push_labels.result
    (λ e. shown_item docs c.args.scope.now.force.now c.in-LabelOf.keys.items label_alone c.in-LabelOf.var c.args.bindings.now c.deref-in-LabelOf-2.result.now (item_before c.args.item.now done) (forest_of c.args.made.now.items) (forest_of c.push_labels.new.made.items)
    (c.deref-in-LabelOf-2.ensures.value ∙ c.in_ok-found-in-LabelOf.ensures ∙ ap (λ k. parts docs c.args.scope.now.force.now k c.args.bindings.now) c.deref-in-LabelOf.ensures.value)
    (ap (λ z. item_before z done) c.in-LabelOf.is) e)
    c.push_labels.ensures

pub push_element-returns : goal.push_element-returns
push_element-returns t c =
    let docs : Documents = documents_of c.args.scope.now.docs.now in
    let e : Element = c.args.template.now in
    let keys : c.template.inside.keys.items ≡ e.keys = ap (λ (z : Element). z.keys) c.template.view_is in
    on_ok_weaker c.push_elements.result
    (λ n. element_item docs c.args.scope.now.force.now e.keys c.deref-3.result.now e.label e.items c.args.bindings.now c.deref-4.result.now (element e.label e.items e.keys done) (forest_of c.args.made.now.items) (forest_of c.push_elements.new.made.items)
    (c.deref-4.ensures.value ∙ c.in_ok-found.ensures ∙ ap (λ k. parts docs c.args.scope.now.force.now k c.args.bindings.now) (c.deref.ensures.value ∙ keys))
    (c.deref-3.ensures.value ∙ c.in_ok-inside.ensures ∙ ap (in_force c.args.scope.now.force.now) (c.deref-2.ensures.value ∙ keys))
    refl n)
    c.push_elements.ensures
