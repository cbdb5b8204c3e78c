use Rattle.std.proofs.Common.{rules, ◌≡◌, Ok, Err, Some, subst, take}
use Rattle.std.proofs.lemmas.List.{take_all}
use Rattle.node_text.specs.Machine.{run, first}
use Rattle.node_text.specs.ReaderState.{state_in}
use Rattle.node_text.specs.declared.fault.NodeFault.TheVariants.{Unexpected, Ends}
use Rattle.node_text.proofs.Prefixes.{run_more, stops_at, cut_at, whole_at}
use Rattle.node_text.proofs.Verdicts.{answers_node}
use Rattle.node_text.proofs.reading.read_node.Goals as goal

pub returns-in_default : goal.returns-in_default
returns-in_default c =
    let text = c.args.text.now in
    let i = c.loop-at.at in
    let a = stops_at text i (state_in c.loop-at.reader) c.loop-at-test.true c.loop-at.invariant (search rules) in
    record { answers = a; only = λ n. answers_node text (Err (Unexpected i)) n a }

pub loop-at-preserved : goal.loop-at-preserved
loop-at-preserved c =
    run_more c.args.text.now c.loop-at.at (state_in c.loop-at.reader) (Some (state_in c.in-Some.next)) c.loop-at-test.true c.loop-at.invariant (search rules)

pub returns-in-Some-2 : goal.returns-in-Some-2
returns-in-Some-2 c =
    let text = c.args.text.now in
    let all : take c.loop-at.at text ≡ text = search (rules, take_all) in
    let a = whole_at text (state_in c.loop-at.reader) c.in-Some-2.node (subst (λ x. run first x ≡ Some (state_in c.loop-at.reader)) all c.loop-at.invariant) (search rules) in
    record { answers = a; only = λ n. answers_node text (Ok c.in-Some-2.node) n a }

pub returns-in-None : goal.returns-in-None
returns-in-None c =
    let text = c.args.text.now in
    let all : take c.loop-at.at text ≡ text = search (rules, take_all) in
    let a = cut_at text (state_in c.loop-at.reader) (subst (λ x. run first x ≡ Some (state_in c.loop-at.reader)) all c.loop-at.invariant) (search rules) in
    record { answers = a; only = λ n. answers_node text (Err Ends) n a }
