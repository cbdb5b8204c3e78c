use Rattle.std.proofs.Common.{rules, Some, None, refl, sym}
use Rattle.std.specs.Prelude.{Ok}
use Rattle.lazy_value.specs.declared.mediator.Mediator.{Mediator}
use Rattle.lazy_value.specs.Named.{state_of}
use Rattle.lazy_value.proofs.Going.{comes_further, comes_next, kept_further, leads_further}
use Rattle.lazy_value.proofs.Keeping.{found_now, found_same, walked_alike, walked_same}
use Rattle.lazy_value.proofs.mediator.Mediator.further.Goals as goal

pub led_on-requires-clause-node : goal.led_on-requires-clause-node
led_on-requires-clause-node g c = (c.requires.mediator.found c.in_ok-part.part c.in-Some.node.now (sym c.in-Some.ensures.value)).node

pub returns-in_err-passed-clause-walked : goal.returns-in_err-passed-clause-walked
returns-in_err-passed-clause-walked g c =
    walked_alike g.met.S.Sources.keeps c.args.s.now c.led_on.new.s c.args.self.now (record { walk = c.led_on.new.self; found = c.args.self.now.found }) c.requires.mediator c.led_on.ensures.walked refl

pub returns-in_err-passed-clause-leads : goal.returns-in_err-passed-clause-leads
returns-in_err-passed-clause-leads g c = λ tells q p here there.
    let a = state_of (g.S.Sources.view c.args.s.now) c.args.self.now in
    let b = state_of (g.S.Sources.view c.led_on.new.s) (record { walk = c.led_on.new.self; found = c.args.self.now.found }) in
    let d = c.args.marked.now.mark.data in
    let f = c.requires.mediator.found c.in_ok-part.part c.in-Some.node.now (sym c.in-Some.ensures.value) in
    let l = leads_further a d c.args.stage c.in_ok-part.part c.in_ok-part.ensures c.in-Some.node.now f c.requires.ahead b c.led_on.result c.led_on.ensures.leads tells q p here there in
    comes_further a b d c.args.stage q p c.led_on.result l c.from_residual-in_err-passed.result (search rules)

pub returns-in_default-2-clause-walked : goal.returns-in_default-2-clause-walked
returns-in_default-2-clause-walked g c =
    walked_alike g.met.S.Sources.keeps c.args.s.now c.led_on.new.s c.args.self.now (record { walk = c.led_on.new.self; found = c.args.self.now.found }) c.requires.mediator c.led_on.ensures.walked refl

pub returns-in_default-2-clause-leads : goal.returns-in_default-2-clause-leads
returns-in_default-2-clause-leads g c = λ tells q p here there.
    let a = state_of (g.S.Sources.view c.args.s.now) c.args.self.now in
    let b = state_of (g.S.Sources.view c.led_on.new.s) (record { walk = c.led_on.new.self; found = c.args.self.now.found }) in
    let d = c.args.marked.now.mark.data in
    let f = c.requires.mediator.found c.in_ok-part.part c.in-Some.node.now (sym c.in-Some.ensures.value) in
    let l = leads_further a d c.args.stage c.in_ok-part.part c.in_ok-part.ensures c.in-Some.node.now f c.requires.ahead b (Ok None) (rw c.in_default-2.is at c.in_ok-passed.ensures.leads) tells q p here there in
    absurd l.finds

pub returns-in_err-text-clause-walked : goal.returns-in_err-text-clause-walked
returns-in_err-text-clause-walked g c =
    walked_alike g.met.S.Sources.keeps c.args.s.now c.led_on.new.s c.args.self.now (record { walk = c.led_on.new.self; found = c.args.self.now.found }) c.requires.mediator c.led_on.ensures.walked refl

pub returns-in_err-text-clause-leads : goal.returns-in_err-text-clause-leads
returns-in_err-text-clause-leads g c = λ tells q p here there.
    let a = state_of (g.S.Sources.view c.args.s.now) c.args.self.now in
    let b = state_of (g.S.Sources.view c.led_on.new.s) (record { walk = c.led_on.new.self; found = c.args.self.now.found }) in
    let d = c.args.marked.now.mark.data in
    let f = c.requires.mediator.found c.in_ok-part.part c.in-Some.node.now (sym c.in-Some.ensures.value) in
    let l = leads_further a d c.args.stage c.in_ok-part.part c.in_ok-part.ensures c.in-Some.node.now f c.requires.ahead b (Ok (Some c.in-Some-2.passed)) (rw c.in-Some-2.is at c.in_ok-passed.ensures.leads) tells q p here there in
    comes_further a b d c.args.stage q p (Ok (Some c.in-Some-2.passed)) l c.from_residual-in_err-text.result (search rules)

pub returns-in_err-insert-clause-walked : goal.returns-in_err-insert-clause-walked
returns-in_err-insert-clause-walked g c =
    let n : Mediator = record { walk = c.led_on.new.self; found = c.insert.new.self } in
    walked_same g.met.S.Sources.keeps c.args.s.now c.led_on.new.s c.args.self.now n c.requires.mediator c.led_on.ensures.walked
    (found_same c.args.self.now.found c.insert.new.self c.in_err-insert.ensures.err)

pub returns-in_err-insert-clause-leads : goal.returns-in_err-insert-clause-leads
returns-in_err-insert-clause-leads g c = λ tells q p here there.
    let a = state_of (g.S.Sources.view c.args.s.now) c.args.self.now in
    let b = state_of (g.S.Sources.view c.led_on.new.s) (record { walk = c.led_on.new.self; found = c.insert.new.self }) in
    let d = c.args.marked.now.mark.data in
    let f = c.requires.mediator.found c.in_ok-part.part c.in-Some.node.now (sym c.in-Some.ensures.value) in
    let l = leads_further a d c.args.stage c.in_ok-part.part c.in_ok-part.ensures c.in-Some.node.now f c.requires.ahead b (Ok (Some c.in-Some-2.passed)) (rw c.in-Some-2.is at c.in_ok-passed.ensures.leads) tells q p here there in
    comes_further a b d c.args.stage q p (Ok (Some c.in-Some-2.passed)) l c.from_residual-in_err-insert.result (search rules)

pub returns-clause-walked : goal.returns-clause-walked
returns-clause-walked g c =
    let n : Mediator = record { walk = c.led_on.new.self; found = c.insert.new.self } in
    let is = rw c.in-Some-2.is at c.in_ok-passed.ensures.further in
    let goes = rw c.in-Some-2.is at c.in_ok-passed.ensures.leads in
    kept_further g.met.S.Sources.keeps c.args.s.now c.led_on.new.s c.args.self.now n c.requires.mediator c.led_on.ensures.walked c.args.marked.now.mark.data c.args.stage c.in_ok-part.part
    c.in-Some.node.now (sym c.in-Some.ensures.value) c.in_ok-part.ensures c.requires.known.stage c.requires.ahead c.requires.marked.names c.in-Some-2.passed is goes c.in_ok-text.text
    c.in_ok-text.ensures c.in_ok-insert.ensures.updates

pub returns-clause-known : goal.returns-clause-known
returns-clause-known g c =
    let is = rw c.in-Some-2.is at c.in_ok-passed.ensures.further in (
      record {
        stage = is.stage;
        text = c.in_ok-text.text;
        spells = c.in_ok-text.ensures;
        found = found_now c.args.self.now.found c.insert.new.self c.in_ok-text.text c.in-Some-2.passed.node c.in_ok-insert.ensures.updates;
      },
      is.more,
    )

pub returns-clause-leads : goal.returns-clause-leads
returns-clause-leads g c = λ tells q p here there.
    let a = state_of (g.S.Sources.view c.args.s.now) c.args.self.now in
    let b = state_of (g.S.Sources.view c.led_on.new.s) (record { walk = c.led_on.new.self; found = c.insert.new.self }) in
    let d = c.args.marked.now.mark.data in
    let f = c.requires.mediator.found c.in_ok-part.part c.in-Some.node.now (sym c.in-Some.ensures.value) in
    let l = leads_further a d c.args.stage c.in_ok-part.part c.in_ok-part.ensures c.in-Some.node.now f c.requires.ahead b (Ok (Some c.in-Some-2.passed)) (rw c.in-Some-2.is at c.in_ok-passed.ensures.leads) tells q p here there in
    comes_further a b d c.args.stage q p (Ok (Some c.in-Some-2.passed)) l (Ok (Some c.in-Some-2.passed.stage)) (comes_next a b d c.args.stage q p l.index c.in-Some-2.passed l.finds)
