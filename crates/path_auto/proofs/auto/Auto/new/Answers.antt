use Rattle.std.proofs.Common.{◌≡◌, ◌∙◌, ◌^◌, ◌++◌, length, ap, sym, subst, arith}
use Rattle.path_auto.specs.Sets.{tests_by, tests_of, rows_by, rows, rows_in, entry_by, entry, end_of, first_set}
use Rattle.path_auto.specs.Automaton.{machine_of, IsAutomatonOf}
use Rattle.path_auto.proofs.Automata.{few_lives, labels_length, sizes, table_automaton}
use Rattle.path_auto.proofs.auto.Auto.new.Goals as goal

pub live_set-requires : goal.live_set-requires
live_set-requires c = omega (arith, few_lives c.args.p.now, c.requires)

pub invariant_of-result : goal.invariant_of-result
invariant_of-result c =
    let p = c.args.p.now in
    let end : c.single-end.result ≡ 2 ^ end_of c.args.p.now = c.single-end.ensures ∙ ap (λ n. 2 ^ n) c.count_positions.ensures.listed in
    let labels : c.push_labels.new.table.items ≡ tests_by c.args.p.now.head (tests_of c.args.p.now.members) =
    c.in_ok-push_labels.ensures.labels ∙ ap (λ xs. xs ++ tests_by p.head (tests_of p.members)) c.new-labels.ensures.items in
    let after : c.push_after.new.table.items ≡ rows_in c.args.p.now =
    c.in_ok-push_after.ensures ∙ ap (λ xs. xs ++ rows_by p.head (rows p.members) (entry p.members) 0 c.single-end.result) c.new-after.ensures.items
    ∙ ap (λ n. rows_by p.head (rows p.members) (entry p.members) 0 n) end in
    let fit = sizes c.push_labels.new.table.items c.push_after.new.table.items p labels after in
    let last : c.single-end.result ≡ 2 ^ length c.push_labels.new.table.items = end ∙ ap (λ n. 2 ^ n) (sym (ap length labels ∙ labels_length p)) in
    (omega (arith, fit.0, c.requires), fit.1, last)

pub returns-clause-table : goal.returns-clause-table
returns-clause-table c =
    let p = c.args.p.now in
    let end : c.single-end.result ≡ 2 ^ end_of c.args.p.now = c.single-end.ensures ∙ ap (λ n. 2 ^ n) c.count_positions.ensures.listed in
    let labels : c.push_labels.new.table.items ≡ tests_by c.args.p.now.head (tests_of c.args.p.now.members) =
    c.in_ok-push_labels.ensures.labels ∙ ap (λ xs. xs ++ tests_by p.head (tests_of p.members)) c.new-labels.ensures.items in
    let after : c.push_after.new.table.items ≡ rows_in c.args.p.now =
    c.in_ok-push_after.ensures ∙ ap (λ xs. xs ++ rows_by p.head (rows p.members) (entry p.members) 0 c.single-end.result) c.new-after.ensures.items
    ∙ ap (λ n. rows_by p.head (rows p.members) (entry p.members) 0 n) end in
    let first : c.entry_path-first.result ≡ first_set c.args.p.now = c.entry_path-first.ensures ∙ ap (λ n. entry_by p.head (entry p.members) 0 n) end in
    let live = c.in_ok-live.ensures in
    cc

pub returns-clause-automaton : goal.returns-clause-automaton
returns-clause-automaton c =
    let p = c.args.p.now in
    subst (λ t. IsAutomatonOf (machine_of t) p) (sym (returns-clause-table c)) (table_automaton p c.in_ok-push_labels.ensures.utf8.0 c.in_ok-push_labels.ensures.utf8.1)
