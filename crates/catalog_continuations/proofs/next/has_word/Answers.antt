use Rattle.std.proofs.Common.{rules, sym, subst, get_or}
use denote.Enum.Bare.{same_false, same_true}
use Rattle.mix_base.specs.Ascents.{Among}
use Rattle.catalog_continuations.specs.contracts.form_word.FormWord.{the_type}
use Rattle.catalog_continuations.specs.declared.form_word.FormWord.{FormWord}
use Rattle.catalog_continuations.specs.declared.form_word.FormWord.TheVariants.{Source}
use Rattle.catalog_continuations.proofs.Adding.{among_at, no_more}
use Rattle.catalog_continuations.proofs.next.has_word.Goals as goal

pub returns-then-eq : goal.returns-then-eq
returns-then-eq c =
    let words = c.args.words.now in
    let i = c.loop-other.other-index in
    subst (λ (w : FormWord). Among w words) (same_true the_type (search rules) (get_or words i Source) c.args.word (sym c.if-eq.ensures)) (among_at words i Source c.loop-other-test.true)

pub loop-other-preserved : goal.loop-other-preserved
loop-other-preserved c =
    let words = c.args.words.now in
    let i = c.loop-other.other-index in
    no_more words i c.args.word Source c.loop-other-test.true c.loop-other.invariant
    (λ e. same_false the_type (get_or words i Source) c.args.word (sym c.if-eq.ensures) (sym e))
