use Rattle.std.proofs.Common.{inr, refl}
use Rattle.std.specs.Prelude.{OnErr, Result, Ok, Err}
use Rattle.std.proofs.lemmas.Result.{IfOk-weaker}
use Rattle.lazy_binding.specs.Parts.{operators}
use Rattle.lazy_binding.proofs.KeyParts.{keys_fit}
use Rattle.lazy_steps.specs.Firsts.{Noted}
use Rattle.lazy_steps.proofs.pass_steps.Distinct.seen_at.Goals as goal

-- what holds anyway holds after an error
after_error : {A E P : Type 0} (r : Result A E) → P → OnErr r P
after_error (Ok x) p = tt
after_error (Err e) p = p

pub key_of-requires-clause-keys : goal.key_of-requires-clause-keys
key_of-requires-clause-keys c = keys_fit (operators c.args.self.now.walk.fixed.now) c.requires.fixed.typed c.args.self.now.walk.op c.requires.op c.args.self.now.input c.args.self.now.keys.now c.requires.is.0 c.requires.is.1

pub returns-clause-err : goal.returns-clause-err
returns-clause-err c = after_error c.note_key.result (inr (record { key = c.in_ok-key.key.items; parts = rw c.deref.ensures at c.in_ok-key.ensures.parts; value = rw c.deref.ensures at c.in_ok-key.ensures.value; grows = c.note_key.ensures.grows; pushed = c.note_key.ensures.pushed; rest = refl }))

pub returns-clause-ok : goal.returns-clause-ok
returns-clause-ok c =
    let noted : Noted c.args.growing.now record { buffers = c.args.growing.now.buffers; seen = c.note_key.new.seen; memos = c.args.growing.now.memos; walked = c.args.growing.now.walked } c.args.self.now c.args.below.now.value c.args.count = record { key = c.in_ok-key.key.items; parts = rw c.deref.ensures at c.in_ok-key.ensures.parts; value = rw c.deref.ensures at c.in_ok-key.ensures.value; grows = c.note_key.ensures.grows; pushed = c.note_key.ensures.pushed; rest = refl } in
    IfOk-weaker c.note_key.result _ _ (λ seen z. (noted, z)) c.note_key.ensures.answer
