use Rattle.catalog_continuations.proofs.Adding.{form_added}
use Rattle.catalog_continuations.proofs.next.push_form.Goals as goal

pub returns-then-may : goal.returns-then-may
returns-then-may c =
    form_added c.args.front.now c.args.form c.words.result.now c.args.words.now.items c.push_words.new.words.items c.in_ok-may.may c.push_words.result c.words.ensures c.if-may.true
    c.in_ok-may.ensures c.push_words.ensures
