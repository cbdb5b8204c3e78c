use Rattle.std.proofs.Common.{◌≡◌, List, [], ◌∷◌, Some, refl, sym, ap, ◌∙◌}
use Rattle.plan_forms.specs.declared.link.Link.{Link}
use Rattle.plan_forms.specs.Links.{links_at}
use Rattle.lazy_binding.specs.Parts.{operators, world_of}
use Rattle.lazy_steps.specs.Beside.{memo_in, sought_label}
use Rattle.lazy_steps.proofs.Growing.{memo_read}
use Rattle.lazy_steps.proofs.Linked.{left_nodes, only_is, no_label, empty_is, sought_by_label, found_in, next_place, place_found, found_label}
use Rattle.lazy_steps.proofs.join_steps.Join.next_known.Goals as goal

pub label_of-requires-clause-node : goal.label_of-requires-clause-node
label_of-requires-clause-node c =
    let k = c.args.self.now in
    let only = only_is c.links-by.result.now c.in-Some.link (sym c.only_label.ensures ∙ c.in-Some.is) in
    (left_nodes (operators k.walk.fixed.now) c.requires.fixed.typed k.walk.op c.requires.op k.left k.right k.tests.now c.requires.is (c.in-Some.link ∷ []) (sym only.0 ∙ c.links-by.ensures)).0

pub key_by-requires-clause-nodes : goal.key_by-requires-clause-nodes
key_by-requires-clause-nodes c =
    let k = c.args.self.now in
    left_nodes (operators k.walk.fixed.now) c.requires.fixed.typed k.walk.op c.requires.op k.left k.right k.tests.now c.requires.is c.links-by.result.now c.links-by.ensures

pub returns-then-is_empty-clause-label : goal.returns-then-is_empty-clause-label
returns-then-is_empty-clause-label c view bench of told =
    let k = c.args.self.now in
    let ops = operators k.walk.fixed.now in
    let none = empty_is c.links-by.result.now c.is_empty.result c.is_empty.ensures c.if-is_empty.true in
    no_label (memo_in c.args.growing.now k.walk.op).pairs (sought_label (world_of view c.args.growing.now) ops k.left (links_at ops k.walk.op) c.args.l.now.value) (links_at ops k.walk.op) (Some c.args.from) (sym c.links-by.ensures ∙ none)

pub returns-in-Some-clause-place : goal.returns-in-Some-clause-place
returns-in-Some-clause-place c =
    let k = c.args.self.now in
    let stand = c.requires.cursor in
    let memo = memo_read stand.0 c.args.growing.now (operators k.walk.fixed.now) stand.1 k.walk.op c.requires.op c.index-memo.result.now c.index-memo.ensures in
    let key = c.label_of.result.now in
    place_found (memo_in c.args.growing.now k.walk.op).pairs key c.args.from c.find.result (found_in c.index-memo.result.now (memo_in c.args.growing.now k.walk.op) key key c.args.from c.find.result memo refl c.find.ensures)

pub returns-in-Some-clause-next : goal.returns-in-Some-clause-next
returns-in-Some-clause-next c view bench of told =
    let k = c.args.self.now in
    let ops = operators k.walk.fixed.now in
    let w = world_of view c.args.growing.now in
    let only = only_is c.links-by.result.now c.in-Some.link (sym c.only_label.ensures ∙ c.in-Some.is) in
    let key : c.label_of.result.now ≡ sought_label w ops k.left (links_at ops k.walk.op) c.args.l.now.value =
    (rw c.deref.ensures at c.label_of.ensures) view bench of told ∙ sought_by_label w ops k.left (links_at ops k.walk.op) c.in-Some.link c.args.l.now.value (sym c.links-by.ensures ∙ only.0) only.1 in
    let memo = memo_read view c.args.growing.now ops bench k.walk.op c.requires.op c.index-memo.result.now c.index-memo.ensures in
    let found = found_in c.index-memo.result.now (memo_in c.args.growing.now k.walk.op) (c.label_of.result.now) (sought_label w ops k.left (links_at ops k.walk.op) c.args.l.now.value) c.args.from c.find.result memo key c.find.ensures in
    next_place (memo_in c.args.growing.now k.walk.op).pairs (sought_label w ops k.left (links_at ops k.walk.op) c.args.l.now.value) c.args.from c.find.result found

pub returns-in-Some-clause-label : goal.returns-in-Some-clause-label
returns-in-Some-clause-label c view bench of told =
    let k = c.args.self.now in
    let ops = operators k.walk.fixed.now in
    let w = world_of view c.args.growing.now in
    let only = only_is c.links-by.result.now c.in-Some.link (sym c.only_label.ensures ∙ c.in-Some.is) in
    let key : c.label_of.result.now ≡ sought_label w ops k.left (links_at ops k.walk.op) c.args.l.now.value =
    (rw c.deref.ensures at c.label_of.ensures) view bench of told ∙ sought_by_label w ops k.left (links_at ops k.walk.op) c.in-Some.link c.args.l.now.value (sym c.links-by.ensures ∙ only.0) only.1 in
    let memo = memo_read view c.args.growing.now ops bench k.walk.op c.requires.op c.index-memo.result.now c.index-memo.ensures in
    let found = found_in c.index-memo.result.now (memo_in c.args.growing.now k.walk.op) (c.label_of.result.now) (sought_label w ops k.left (links_at ops k.walk.op) c.args.l.now.value) c.args.from c.find.result memo key c.find.ensures in
    found_label (memo_in c.args.growing.now k.walk.op).pairs (sought_label w ops k.left (links_at ops k.walk.op) c.args.l.now.value) (links_at ops k.walk.op) c.args.from c.find.result found

pub returns-in_ok-key-in-None-clause-next : goal.returns-in_ok-key-in-None-clause-next
returns-in_ok-key-in-None-clause-next c view bench of told =
    let k = c.args.self.now in
    let ops = operators k.walk.fixed.now in
    let w = world_of view c.args.growing.now in
    let key : c.in_ok-key-in-None.key ≡ sought_label w ops k.left (links_at ops k.walk.op) c.args.l.now.value =
    (rw c.deref-in-None.ensures at c.in_ok-key-in-None.ensures) view bench of told ∙ ap (λ (z : List Link). sought_label w ops k.left z c.args.l.now.value) c.links-by.ensures in
    let memo = memo_read view c.args.growing.now ops bench k.walk.op c.requires.op c.index-memo.result.now c.index-memo.ensures in
    let found = found_in c.index-memo.result.now (memo_in c.args.growing.now k.walk.op) (c.in_ok-key-in-None.key) (sought_label w ops k.left (links_at ops k.walk.op) c.args.l.now.value) c.args.from c.find-in-None.result memo key c.find-in-None.ensures in
    next_place (memo_in c.args.growing.now k.walk.op).pairs (sought_label w ops k.left (links_at ops k.walk.op) c.args.l.now.value) c.args.from c.find-in-None.result found

pub returns-in_ok-key-in-None-clause-label : goal.returns-in_ok-key-in-None-clause-label
returns-in_ok-key-in-None-clause-label c view bench of told =
    let k = c.args.self.now in
    let ops = operators k.walk.fixed.now in
    let w = world_of view c.args.growing.now in
    let key : c.in_ok-key-in-None.key ≡ sought_label w ops k.left (links_at ops k.walk.op) c.args.l.now.value =
    (rw c.deref-in-None.ensures at c.in_ok-key-in-None.ensures) view bench of told ∙ ap (λ (z : List Link). sought_label w ops k.left z c.args.l.now.value) c.links-by.ensures in
    let memo = memo_read view c.args.growing.now ops bench k.walk.op c.requires.op c.index-memo.result.now c.index-memo.ensures in
    let found = found_in c.index-memo.result.now (memo_in c.args.growing.now k.walk.op) (c.in_ok-key-in-None.key) (sought_label w ops k.left (links_at ops k.walk.op) c.args.l.now.value) c.args.from c.find-in-None.result memo key c.find-in-None.ensures in
    found_label (memo_in c.args.growing.now k.walk.op).pairs (sought_label w ops k.left (links_at ops k.walk.op) c.args.l.now.value) (links_at ops k.walk.op) c.args.from c.find-in-None.result found
