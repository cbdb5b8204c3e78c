use Rattle.std.proofs.Common.{◌≡◌, ◌+◌, ◌*◌, drop}
use Rattle.mix_tree.specs.Forest.{forest_of, none, tree, followed, joined}
use Rattle.xmas_rule.specs.Made.{items_of, item_before}
use Rattle.xmas_rule.specs.Items.{done}
use Rattle.xmas_rule.specs.Codes.{items_size, element_size}
use Rattle.xmas_rule.specs.Meaning.{instances}
use Rattle.plain_rule.specs.Documents.{documents_of}
use Rattle.plain_rule.proofs.instances.+making.Given as goal

abbrev pub decreases-push_elements : goal.decreases-push_elements
decreases-push_elements l = 4 * element_size l.template.now

abbrev pub decreases-push_element : goal.decreases-push_element
decreases-push_element l = 4 * element_size l.template.now + 1

abbrev pub decreases-push_item : goal.decreases-push_item
decreases-push_item l = 4 * items_size (item_before l.item.now done) + 2

abbrev pub decreases-push_instances : goal.decreases-push_instances
decreases-push_instances l = 4 * items_size (items_of l.items.now) + 3

abbrev pub invariant-push_elements-loop-part : goal.invariant-push_elements-loop-part
invariant-push_elements-loop-part l =
    followed (forest_of l.made.items) (joined (λ part. tree l.template.label (instances (documents_of l.scope.docs.now) l.scope.force.now l.template.items part) none) (drop l.part-index l.found))
    ≡ followed (forest_of l.fn.made.items) (joined (λ part. tree l.template.label (instances (documents_of l.scope.docs.now) l.scope.force.now l.template.items part) none) l.found)

abbrev pub invariant-push_instances-loop-item : goal.invariant-push_instances-loop-item
invariant-push_instances-loop-item l =
    followed (forest_of l.made.items) (instances (documents_of l.scope.docs.now) l.scope.force.now (items_of (drop l.item-index l.items)) l.bindings)
    ≡ followed (forest_of l.fn.made.items) (instances (documents_of l.scope.docs.now) l.scope.force.now (items_of l.items) l.bindings)
