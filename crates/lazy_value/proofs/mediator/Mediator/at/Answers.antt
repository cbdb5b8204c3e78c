use Rattle.std.proofs.Common.{rules, ◌≡◌, false, refl, sym, subst}
use Rattle.node_text.specs.Grammar.{Spells}
use Rattle.node_text.specs.Node.{NodeValue}
use Rattle.plan_core.specs.PlanMade.{plan_value}
use Rattle.lazy_follow.specs.Following.{IsFollowed}
use Rattle.lazy_follow.specs.Marks.{IsMarkOf}
use Rattle.lazy_plan.specs.Bench.{documents, ops_of}
use Rattle.lazy_value.specs.declared.ids.MarkedText.{MarkedText}
use Rattle.lazy_value.specs.Named.{state_of, plan_of}
use Rattle.lazy_value.proofs.Forming.{denied}
use Rattle.lazy_value.proofs.Keeping.{walked_alike, text_given}
use Rattle.lazy_value.proofs.NamesFormed.{names_formed}
use Rattle.lazy_value.proofs.mediator.Mediator.at.Goals as goal

pub returns-then-not-is_formed-clause-answer : goal.returns-then-not-is_formed-clause-answer
returns-then-not-is_formed-clause-answer g c = λ tells p names.
    let a = state_of (g.S.Sources.view c.args.s.now) c.args.self.now in
    let no : c.is_formed.result ≡ false = search rules in
    denied c.is_formed.result c.is_formed.ensures no (names_formed (documents a) (ops_of a) c.args.node.now p names)

pub returns-in_err-mark-clause-walked : goal.returns-in_err-mark-clause-walked
returns-in_err-mark-clause-walked g c =
    walked_alike g.met.S.Sources.keeps c.args.s.now c.follow.new.s c.args.self.now (record { walk = c.follow.new.self; found = c.args.self.now.found }) c.requires.mediator c.follow.ensures.walked refl

pub returns-in_default-clause-walked : goal.returns-in_default-clause-walked
returns-in_default-clause-walked g c =
    walked_alike g.met.S.Sources.keeps c.args.s.now c.follow.new.s c.args.self.now (record { walk = c.follow.new.self; found = c.args.self.now.found }) c.requires.mediator c.follow.ensures.walked refl

pub returns-in_default-clause-answer : goal.returns-in_default-clause-answer
returns-in_default-clause-answer g c = λ tells p names.
    let a = state_of (g.S.Sources.view c.args.s.now) c.args.self.now in
    let law = c.followed_are_named.ensures (plan_value (plan_of c.args.self.now)) c.requires.mediator.walk.valid c.requires.uses (documents a) c.args.node.now in
    let none = rw c.in_default.is at c.in_ok-mark.ensures.answer in
    none tells (subst (IsFollowed (documents a) (ops_of a)) (sym c.in_ok-data.ensures) (law.1 p names))

pub returns-in_err-marked-clause-walked : goal.returns-in_err-marked-clause-walked
returns-in_err-marked-clause-walked g c =
    walked_alike g.met.S.Sources.keeps c.args.s.now c.follow.new.s c.args.self.now (record { walk = c.follow.new.self; found = c.args.self.now.found }) c.requires.mediator c.follow.ensures.walked refl

pub returns-clause-walked : goal.returns-clause-walked
returns-clause-walked g c =
    walked_alike g.met.S.Sources.keeps c.args.s.now c.follow.new.s c.args.self.now (record { walk = c.follow.new.self; found = c.args.self.now.found }) c.requires.mediator c.follow.ensures.walked refl

pub returns-clause-answer : goal.returns-clause-answer
returns-clause-answer g c =
    let a = state_of (g.S.Sources.view c.args.s.now) c.args.self.now in
    let b = state_of (g.S.Sources.view c.follow.new.s) (record { walk = c.follow.new.self; found = c.args.self.now.found }) in
    let k : MarkedText = c.in_ok-marked.marked.value in
    let d : NodeValue = c.args.node.now in
    let e : NodeValue = c.in_ok-data.data in
    let same : k ≡ record { text = c.in_ok-text.text; mark = c.in-Some.mark } = c.in_ok-marked.ensures.ok in
    let answer = rw c.in-Some.is at c.in_ok-mark.ensures.answer in
    let law = c.followed_are_named.ensures (plan_value (plan_of c.args.self.now)) c.requires.mediator.walk.valid c.requires.uses (documents a) d in
    text_given a b c.follow.ensures.walked.kept k d e (subst (λ (x : MarkedText). IsMarkOf b e x.mark) (sym same) answer.0) c.in_ok-data.ensures
    (subst (λ (x : MarkedText). Spells x.text d) (sym same) c.in_ok-text.ensures) c.requires.uses answer.1 law.0
