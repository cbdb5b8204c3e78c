use Rattle.std.proofs.Common.{◌≡◌, ◌∙◌, ◌-◌, ◌<◌, [], ◌∷◌, ◌++◌, length, Some, None, true, false, refl, ap, ap₂, arith}
use Rattle.std.proofs.lemmas.Result.{on_ok_weaker}
use Rattle.mix_tree.specs.Forest.{alone}
use Rattle.document_store.specs.Laid.{bare_node, laid}
use Rattle.document_store.proofs.Laying.{closes_tree}
use Rattle.json.specs.Token.{Token}
use Rattle.json.specs.Json.{Json, array, object, no_items, item, no_members, member, parse_map, after_end_array, read_key, value}
use Rattle.json.specs.Reads.{token_of}
use Rattle.json.proofs.Grammar.{value_is, value-begin_array, value-begin_object, read_key-shorter, items_end, items_fail, items_more, members_end, members_no_key, members_fail, members_more}
use Rattle.json_text.specs.Trees.{items_trees, members_trees, value_tree, value_trees}
use Rattle.json_text.proofs.Passed.{none_passed, one_passed, all_passed, none_left}
use Rattle.json_text.proofs.values.+read.Goals as goal

pub read_value-returns-in_err-text-clause-refused : goal.read_value-returns-in_err-text-clause-refused
read_value-returns-in_err-text-clause-refused t c refused =
    let empty : c.args.reader.now ≡ [] = grind arith in
    ap (value c.args.depth) empty ∙ value_is c.args.depth []

pub read_value-returns-in-String-clause-ok : goal.read_value-returns-in-String-clause-ok
read_value-returns-in-String-clause-ok t c =
    let first : c.args.reader.now ≡ token_of c.in_ok-text.field-0 ∷ c.next.new.self = grind arith in
    let is : c.args.reader.now ≡ Token.string c.in-String.text.now ∷ c.next.new.self = first ∙ ap (λ k. token_of k ∷ c.next.new.self) c.in-String.is in
    on_ok_weaker c.push.result (λ n. (Json.string c.in-String.text.now, ap (value c.args.depth) is ∙ value_is c.args.depth _, n ∙ ap (λ l. bare_node l ∷ c.args.store.now) c.as_bytes.ensures.value)) c.push.ensures.ok

pub read_value-returns-in-Number-clause-ok : goal.read_value-returns-in-Number-clause-ok
read_value-returns-in-Number-clause-ok t c =
    let first : c.args.reader.now ≡ token_of c.in_ok-text.field-0 ∷ c.next.new.self = grind arith in
    let is : c.args.reader.now ≡ Token.number c.in-Number.text.now ∷ c.next.new.self = first ∙ ap (λ k. token_of k ∷ c.next.new.self) c.in-Number.is in
    on_ok_weaker c.push-in-Number.result
    (λ n. (Json.number c.in-Number.text.now, ap (value c.args.depth) is ∙ value_is c.args.depth _, n ∙ ap (λ l. bare_node l ∷ c.args.store.now) c.as_bytes-in-Number.ensures.value)) c.push-in-Number.ensures.ok

pub read_value-returns-in-Bool-true-clause-ok : goal.read_value-returns-in-Bool-true-clause-ok
read_value-returns-in-Bool-true-clause-ok t c =
    let first : c.args.reader.now ≡ token_of c.in_ok-text.field-0 ∷ c.next.new.self = grind arith in
    let is : c.args.reader.now ≡ Token.boolean true ∷ c.next.new.self = grind (arith, first) in
    on_ok_weaker c.push-in-Bool-true.result (λ n. (Json.boolean true, ap (value c.args.depth) is ∙ value_is c.args.depth _, n)) c.push-in-Bool-true.ensures.ok

pub read_value-returns-in-Bool-false-clause-ok : goal.read_value-returns-in-Bool-false-clause-ok
read_value-returns-in-Bool-false-clause-ok t c =
    let first : c.args.reader.now ≡ token_of c.in_ok-text.field-0 ∷ c.next.new.self = grind arith in
    let is : c.args.reader.now ≡ Token.boolean false ∷ c.next.new.self = grind (arith, first) in
    on_ok_weaker c.push-in-Bool-false.result (λ n. (Json.boolean false, ap (value c.args.depth) is ∙ value_is c.args.depth _, n)) c.push-in-Bool-false.ensures.ok

pub read_value-returns-in-Null-clause-ok : goal.read_value-returns-in-Null-clause-ok
read_value-returns-in-Null-clause-ok t c =
    let first : c.args.reader.now ≡ token_of c.in_ok-text.field-0 ∷ c.next.new.self = grind arith in
    let is : c.args.reader.now ≡ Token.null ∷ c.next.new.self = first ∙ ap (λ k. token_of k ∷ c.next.new.self) c.in-Null.is in
    (Json.null, ap (value c.args.depth) is ∙ value_is c.args.depth _, refl)

pub read_value-returns-in-BeginArray-clause-ok : goal.read_value-returns-in-BeginArray-clause-ok
read_value-returns-in-BeginArray-clause-ok t c =
    let first : c.args.reader.now ≡ token_of c.in_ok-text.field-0 ∷ c.next.new.self = grind arith in
    let opened = ap (value c.args.depth) (first ∙ ap (λ k. token_of k ∷ c.next.new.self) c.in-BeginArray.is) ∙ value-begin_array c.args.depth c.next.new.self (omega arith) in
    on_ok_weaker c.read_items.result (λ r. (array r.0, opened ∙ ap (parse_map array) r.1, r.2)) c.read_items.ensures.ok

pub read_value-returns-in-BeginArray-clause-refused : goal.read_value-returns-in-BeginArray-clause-refused
read_value-returns-in-BeginArray-clause-refused t c refused =
    let first : c.args.reader.now ≡ token_of c.in_ok-text.field-0 ∷ c.next.new.self = grind arith in
    let opened = ap (value c.args.depth) (first ∙ ap (λ k. token_of k ∷ c.next.new.self) c.in-BeginArray.is) ∙ value-begin_array c.args.depth c.next.new.self (omega arith) in
    opened ∙ ap (parse_map array) (c.read_items.ensures.refused refused)

pub read_value-returns-in-BeginObject-clause-ok : goal.read_value-returns-in-BeginObject-clause-ok
read_value-returns-in-BeginObject-clause-ok t c =
    let first : c.args.reader.now ≡ token_of c.in_ok-text.field-0 ∷ c.next.new.self = grind arith in
    let opened = ap (value c.args.depth) (first ∙ ap (λ k. token_of k ∷ c.next.new.self) c.in-BeginObject.is) ∙ value-begin_object c.args.depth c.next.new.self (omega arith) in
    on_ok_weaker c.read_members.result (λ r. (object r.0, opened ∙ ap (parse_map object) r.1, r.2)) c.read_members.ensures.ok

pub read_value-returns-in-BeginObject-clause-refused : goal.read_value-returns-in-BeginObject-clause-refused
read_value-returns-in-BeginObject-clause-refused t c refused =
    let first : c.args.reader.now ≡ token_of c.in_ok-text.field-0 ∷ c.next.new.self = grind arith in
    let opened = ap (value c.args.depth) (first ∙ ap (λ k. token_of k ∷ c.next.new.self) c.in-BeginObject.is) ∙ value-begin_object c.args.depth c.next.new.self (omega arith) in
    opened ∙ ap (parse_map object) (c.read_members.ensures.refused refused)

pub read_labelled-returns-clause-ok : goal.read_labelled-returns-clause-ok
read_labelled-returns-clause-ok t c =
    let read = c.in_ok-read_value.ensures.ok in
    let kids = value_trees read.0 in
    let laid_is : c.read_value.new.store ≡ laid kids ++ bare_node c.args.label.now ∷ c.args.store.now = read.2 ∙ ap (λ ns. laid kids ++ ns) c.in_ok-push.ensures.ok in
    (read.0, read.1, closes_tree c.read_value.new.store c.close.new.self c.args.store.now c.len-place.result c.args.label.now kids c.close.ensures laid_is c.len-place.ensures)

pub read_items-loop-reader-init : goal.read_items-loop-reader-init
read_items-loop-reader-init t c = (length c.args.reader.now, omega arith, omega arith, none_passed items_trees _ _)

pub read_items-loop-reader-preserved : goal.read_items-loop-reader-preserved
read_items-loop-reader-preserved t c =
    let l = c.loop-reader in
    let n = l.invariant.0 in
    let going : (after_end_array l.reader ≡ None) × (c.take_end_array.new.self ≡ l.reader) = grind arith in
    let done = c.in_ok-read_labelled.ensures in
    let less : length c.read_labelled.new.reader < length l.reader = rw (← going.1) done.shorter in
    let some : 0 < n = omega (arith, l.invariant.1) in
    let more = items_more (value c.args.depth) n l.reader c.read_labelled.new.reader done.ok.0 some going.0 (rw (← going.1) done.ok.1) in
    (n - 1, omega (arith, l.invariant.1), omega (arith, l.invariant.2), one_passed l.invariant.3 (item done.ok.0) _ _ _ more (λ js. refl) done.ok.2)

pub read_items-returns-in_err-read_labelled-clause-refused : goal.read_items-returns-in_err-read_labelled-clause-refused
read_items-returns-in_err-read_labelled-clause-refused t c refused =
    let l = c.loop-reader in
    let going : (after_end_array l.reader ≡ None) × (c.take_end_array.new.self ≡ l.reader) = grind arith in
    let failed : value c.args.depth c.take_end_array.new.self ≡ None = grind arith in
    none_left l.invariant.3 (items_fail (value c.args.depth) l.invariant.0 l.reader going.0 (rw (← going.1) failed))

pub read_items-returns-clause-ok : goal.read_items-returns-clause-ok
read_items-returns-clause-ok t c =
    let l = c.loop-reader in
    all_passed l.invariant.3 no_items _ (items_end (value c.args.depth) l.invariant.0 l.reader c.take_end_array.new.self l.invariant.1 (grind arith)) refl

pub read_members-loop-name-init : goal.read_members-loop-name-init
read_members-loop-name-init t c = (length c.args.reader.now, omega arith, omega arith, none_passed members_trees _ _)

pub read_members-returns-in_err-name-clause-refused : goal.read_members-returns-in_err-name-clause-refused
read_members-returns-in_err-name-clause-refused t c refused =
    let l = c.loop-name in
    none_left l.invariant.3 (members_no_key (value c.args.depth) l.invariant.0 l.reader c.in_err-name.ensures.value)

pub read_members-loop-name-preserved : goal.read_members-loop-name-preserved
read_members-loop-name-preserved t c =
    let l = c.loop-name in
    let n = l.invariant.0 in
    let name = c.in-Some.name.now in
    let s = c.next_key.new.self in
    let key : read_key l.reader ≡ Some (Some name, s) = grind arith in
    let less = read_key-shorter l.reader (Some name) s key in
    let done = c.in_ok-read_labelled.ensures in
    let lesser = done.shorter in
    let more = members_more (value c.args.depth) n name l.reader s _ done.ok.0 (omega (arith, l.invariant.1)) key done.ok.1 in
    let laid_is : c.read_labelled.new.store ≡ laid (alone (value_tree name done.ok.0)) ++ l.store =
    done.ok.2 ∙ ap (λ k. laid (alone (value_tree k done.ok.0)) ++ l.store) c.as_bytes.ensures.value in
    (n - 1, omega (arith, l.invariant.1), omega (arith, l.invariant.2), one_passed l.invariant.3 (member name done.ok.0) (value_tree name done.ok.0) _ _ more (λ ms. refl) laid_is)

pub read_members-returns-in_err-read_labelled-clause-refused : goal.read_members-returns-in_err-read_labelled-clause-refused
read_members-returns-in_err-read_labelled-clause-refused t c refused =
    let l = c.loop-name in
    let name = c.in-Some.name.now in
    let s = c.next_key.new.self in
    let key : read_key l.reader ≡ Some (Some name, s) = grind arith in
    let failed : value c.args.depth s ≡ None = grind arith in
    none_left l.invariant.3 (members_fail (value c.args.depth) l.invariant.0 name l.reader s key failed)

pub read_members-returns-clause-ok : goal.read_members-returns-clause-ok
read_members-returns-clause-ok t c =
    let l = c.loop-name in
    all_passed l.invariant.3 no_members _ (members_end (value c.args.depth) l.invariant.0 l.reader c.next_key.new.self l.invariant.1 (grind arith)) refl

pub read_value-returns-in-EndArray-clause-refused : goal.read_value-returns-in-EndArray-clause-refused
read_value-returns-in-EndArray-clause-refused t c refused =
    let first : c.args.reader.now ≡ token_of c.in_ok-text.field-0 ∷ c.next.new.self = grind arith in
    rw (value_is c.args.depth c.args.reader.now, first) (grind arith)

pub read_value-returns-in-BeginArray-2-clause-refused : goal.read_value-returns-in-BeginArray-2-clause-refused
unfolding value
read_value-returns-in-BeginArray-2-clause-refused t c refused =
    let first : c.args.reader.now ≡ token_of c.in_ok-text.field-0 ∷ c.next.new.self = grind arith in
    let none : c.args.depth ≡ 0 = omega arith in
    ap₂ value none (first ∙ ap (λ k. token_of k ∷ c.next.new.self) c.in-BeginArray.is)

pub read_value-returns-in-BeginArray-2-2-clause-refused : goal.read_value-returns-in-BeginArray-2-2-clause-refused
unfolding value
read_value-returns-in-BeginArray-2-2-clause-refused t c refused =
    let first : c.args.reader.now ≡ token_of c.in_ok-text.field-0 ∷ c.next.new.self = grind arith in
    let none : c.args.depth ≡ 0 = omega arith in
    ap₂ value none (first ∙ ap (λ k. token_of k ∷ c.next.new.self) c.in-BeginObject.is)
