use Rattle.std.proofs.Common.{◌∙◌, sym, ap}
use Rattle.mix_tree.specs.Forest.{forest_of, followed}
use Rattle.xmas_rule.specs.Items.{label_alone}
use Rattle.xmas_rule.specs.Meaning.{shown_first}
use Rattle.plain_rule.specs.Documents.{documents_of}
use Rattle.plain_rule.proofs.Making.{joined_next, joined_end}
use Rattle.plain_rule.proofs.instances.push_labels.Goals as goal

pub loop-part-preserved : goal.loop-part-preserved
loop-part-preserved c =
    joined_next (shown_first (documents_of c.args.docs.now) label_alone c.args.var) c.args.found.now c.loop-part.part-index c.part-item.result (forest_of c.loop-part.made.items) (forest_of c.push_label.new.made.items)
    c.loop-part-test.true c.part-item.is
    (c.in_ok-push_label.ensures ∙ ap (λ z. followed (forest_of c.loop-part.made.items) (shown_first (documents_of c.args.docs.now) label_alone c.args.var z)) c.bindings.ensures)
    ∙ c.loop-part.invariant

pub returns : goal.returns
returns c =
    sym (joined_end (shown_first (documents_of c.args.docs.now) label_alone c.args.var) c.args.found.now c.loop-part.part-index (forest_of c.loop-part.made.items) c.loop-part-test.false)
    ∙ c.loop-part.invariant
