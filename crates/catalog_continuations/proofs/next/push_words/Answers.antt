use Rattle.std.proofs.Common.{List, take, drop, length, ◌-◌, subst, get_or}
use Rattle.catalog_continuations.specs.declared.form_word.FormWord.TheVariants.{End}
use Rattle.catalog_continuations.specs.declared.form_word.FormWord.{FormWord}
use Rattle.catalog_continuations.specs.Next.{AreAdded, Leads, LeadsAt}
use Rattle.catalog_continuations.proofs.Adding.{added_more, none_below}
use Rattle.catalog_continuations.proofs.TriedLines.{rest_whole}
use Rattle.catalog_continuations.proofs.next.push_words.Goals as goal

pub loop-passed-init : goal.loop-passed-init
loop-passed-init c = none_below (LeadsAt c.args.front.now c.args.form.now) c.args.words.now.items

pub loop-passed-preserved : goal.loop-passed-preserved
loop-passed-preserved c =
    let form = c.args.form.now in
    let k = c.loop-passed.passed in
    let added = subst (λ (w : FormWord). AreAdded (Leads c.args.front.now (take (length form - k) (drop k form)) w) c.loop-passed.words.items c.push_word.new.words.items) c.word_at.ensures
    c.in_ok-push_word.ensures in
    added_more (LeadsAt c.args.front.now form) k c.args.words.now.items c.loop-passed.words.items c.push_word.new.words.items c.loop-passed.invariant
    (subst (λ (rest : List FormWord). AreAdded (Leads c.args.front.now rest (get_or form k End)) c.loop-passed.words.items c.push_word.new.words.items) (rest_whole form k) added)
