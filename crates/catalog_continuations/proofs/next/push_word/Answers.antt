use Rattle.std.proofs.Common.{refl, subst}
use Rattle.mix_base.specs.Ascents.{Among}
use Rattle.catalog_continuations.specs.GoesOn.{GoesOnWith, Tells}
use Rattle.catalog_continuations.specs.Next.{Leads}
use Rattle.catalog_continuations.proofs.Adding.{had, none_added, pushed}
use Rattle.catalog_continuations.proofs.next.push_word.Goals as goal

pub returns-then-has_word : goal.returns-then-has_word
returns-then-has_word c =
    let there : Among c.args.word c.deref.result.now = subst (Tells (Among c.args.word c.deref.result.now)) c.if-has_word.true c.has_word.ensures in
    had (Leads c.args.front.now c.args.rest.now c.args.word) c.args.word c.args.words.now.items (subst (Among c.args.word) c.deref.ensures.value there) (λ w h. h.0)

pub returns : goal.returns
returns c =
    let none = subst (Tells (GoesOnWith c.args.front.now c.args.rest.now)) c.if-goes.false c.in_ok-goes.ensures in
    none_added (Leads c.args.front.now c.args.rest.now c.args.word) c.args.words.now.items (λ w h. none h.1)

pub returns-then-goes : goal.returns-then-goes
returns-then-goes c =
    let goes : GoesOnWith c.args.front.now c.args.rest.now = subst (Tells (GoesOnWith c.args.front.now c.args.rest.now)) c.if-goes.true c.in_ok-goes.ensures in
    pushed (Leads c.args.front.now c.args.rest.now c.args.word) c.args.word c.args.words.now.items c.push.new.self.items c.in_ok-push.ensures.items (refl, goes) (λ w h. h.0)
