use Rattle.std.proofs.Common.{◌≡◌, ◌∙◌, subst, sym}
use Rattle.wire_text.specs.Request.{SpellsRequest}
use Rattle.lxp_wire.specs.Links.{IsReplyOf}
use Rattle.lxp_remote.specs.Faults.{ShowsFault}
use Rattle.lxp_remote.specs.Causes.{Shows}
use Rattle.lxp_remote.proofs.Unread.{told_answer, told_memory, has_come}
use Rattle.lxp_remote.proofs.asking.ask_reply.Goals as goal

pub returns-in-Ok-read_reply-clause-answers : goal.returns-in-Ok-read_reply-clause-answers
returns-in-Ok-read_reply-clause-answers g c = λ told.
    let old = g.L.Link.view c.args.link.now in
    let new = g.L.Link.view c.ask.new.self in
    let r = c.args.request in
    let spells : SpellsRequest c.deref.result.now r = subst (λ x. SpellsRequest x r) (sym c.deref.ensures.value) c.in-Ok.ensures in
    let replied : IsReplyOf old.peer new.peer r c.deref-2.result.now = subst (IsReplyOf old.peer new.peer r) (sym c.deref-2.ensures.value) (c.in-Ok-ask.ensures.answers r spells told) in
    told_answer old.peer new.peer r c.deref-2.result.now c.in-Ok-read_reply.reply replied c.in-Ok-read_reply.ensures.only

pub returns-clause-cause : goal.returns-clause-cause
returns-clause-cause g c = λ asked fault is e.
    let old = g.L.Link.view c.args.link.now in
    let new = g.L.Link.view c.ask.new.self in
    let text = c.deref-2.result.now in
    let shown : Shows asked fault text = subst (ShowsFault asked text) e (c.unread.ensures.shows asked text is c.in-Err.ensures.answers) in
    let same : text ≡ new.last = c.deref-2.ensures.value ∙ sym c.in-Ok-ask.ensures.last in
    has_come asked old new fault c.in-Ok-ask.ensures.counted (subst (Shows asked fault) same shown)

pub returns-clause-told : goal.returns-clause-told
returns-clause-told g c = λ fault e told.
    let old = g.L.Link.view c.args.link.now in
    let new = g.L.Link.view c.ask.new.self in
    let r = c.args.request in
    let spells : SpellsRequest c.deref.result.now r = subst (λ x. SpellsRequest x r) (sym c.deref.ensures.value) c.in-Ok.ensures in
    let replied : IsReplyOf old.peer new.peer r c.deref-2.result.now = subst (IsReplyOf old.peer new.peer r) (sym c.deref-2.ensures.value) (c.in-Ok-ask.ensures.answers r spells told) in
    let memory = told_memory old.peer new.peer r c.deref-2.result.now c.in-Err.fault replied c.in-Err.ensures.only in
    let both = sym e ∙ c.unread.ensures.memory memory in
    absurd cc
