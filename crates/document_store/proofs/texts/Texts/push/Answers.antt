use Rattle.std.proofs.Common.{◌∙◌, ◌∷◌, ◌++◌, [], ap}
use Rattle.document_store.proofs.Joined.{text_added, texts_kept, shows_texts}
use Rattle.document_store.proofs.texts.Texts.push.Goals as goal

pub invariant_of-self-2 : goal.invariant_of-self-2
invariant_of-self-2 c =
    let i = c.self.inside in
    let made = c.in_ok-add.ensures in
    texts_kept c.add.new.bytes.items c.add.new.ends.items _ (text_added i.bytes.items i.ends.items c.add.new.bytes.items c.add.new.ends.items c.args.text.now _ c.self.invariant c.requires made.bytes made.ends made.short)

pub returns-clause-ok : goal.returns-clause-ok
returns-clause-ok c =
    let i = c.self.inside in
    let made = c.in_ok-add.ensures in
    shows_texts c.add.new.bytes.items c.add.new.ends.items _ (text_added i.bytes.items i.ends.items c.add.new.bytes.items c.add.new.ends.items c.args.text.now _ c.self.invariant c.requires made.bytes made.ends made.short)
    ∙ ap (λ v. v ++ c.args.text.now ∷ []) c.self.view_is

pub invariant_of-self : goal.invariant_of-self
invariant_of-self c = rw (c.in_err-add.ensures.same_bytes, c.in_err-add.ensures.same_ends) c.self.invariant
