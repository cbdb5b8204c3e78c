use Rattle.std.proofs.Common.{◌≤◌, ℕ, List, Err, ap, refl, subst, sym, length, arith}
use Rattle.xmas_read.specs.Results.{names_of_sources, Refuses as RefusesRule, Spells}
use Rattle.mix_place.specs.Causes.{IsNoRule, IsRead}
use Rattle.mix_place.specs.declared.refusal.FileFault.TheVariants.{View}
use Rattle.refusal_words.specs.View.{ExplainsView}
use Rattle.xmas_rule.specs.RuleMade.{rule_of}
use Rattle.mix_explain.proofs.Explaining.{explained_for, read_of, unread_explained}
use Rattle.mix_explain.proofs.reading.read_view_file.Goals as goal

pub returns-in-Err-clause-ok : goal.returns-in-Err-clause-ok
returns-in-Err-clause-ok g c =
    let is = c.in-Err.ensures in
    unread_explained (IsNoRule (names_of_sources c.args.catalog.now)) (names_of_sources c.args.catalog.now) (g.F.Files.view c.args.files.now) (g.F.Files.view c.read_whole.new.files) c.args.path.now c.in-Err.fault
    c.in_ok-unread-in-Err.field-0 (λ e. is.failed (ap Err e))
    (λ e. record { unfailed = is.long_steady (ap Err e) c.args.path.now; long = is.long (ap Err e); far = is.far (ap Err e) }) c.in_ok-unread-in-Err.ensures

pub returns-in-Ok-read_rule-clause-ok : goal.returns-in-Ok-read_rule-clause-ok
returns-in-Ok-read_rule-clause-ok g c =
    let bytes = c.in-Ok.bytes.items in
    let short : length bytes ≤ 67108864 = search arith in
    let read : IsRead (g.F.Files.view c.args.files.now) c.args.path.now bytes = read_of (g.F.Files.view c.args.files.now) c.args.path.now bytes c.in-Ok.ensures.ok short in
    let names = names_of_sources c.args.catalog.now in
    (record { text = bytes; read = read; spelled = subst (λ (text : List ℕ). Spells text names (rule_of c.in-Ok-read_rule.rule)) c.deref.ensures.value c.in-Ok-read_rule.ensures.answers }, c.in-Ok-read_rule.ensures.accepted)

pub returns-clause-ok : goal.returns-clause-ok
returns-clause-ok g c =
    let bytes = c.in-Ok.bytes.items in
    let short : length bytes ≤ 67108864 = search arith in
    let read : IsRead (g.F.Files.view c.args.files.now) c.args.path.now bytes = read_of (g.F.Files.view c.args.files.now) c.args.path.now bytes c.in-Ok.ensures.ok short in
    let names = names_of_sources c.args.catalog.now in
    let fault = c.in-Err-read_rule.fault in
    explained_for (IsNoRule names) names (g.F.Files.view c.args.files.now) (g.F.Files.view c.read_whole.new.files) c.args.path.now (View fault)
    c.deref-in-Err-read_rule-2.result.now c.in_ok-explained-in-Err-read_rule.explained
    (bytes, read, (fault, refl, subst (λ (text : List ℕ). RefusesRule text names fault) c.deref.ensures.value c.in-Err-read_rule.ensures.answers)) (
      bytes,
      read,
      subst (λ (words : List ℕ). ExplainsView bytes names fault words) (sym c.deref-in-Err-read_rule-2.ensures.value)
          (subst (λ (text : List ℕ). ExplainsView text names fault c.in_ok-words-in-Err-read_rule.words.items) c.deref-in-Err-read_rule.ensures.value c.in_ok-words-in-Err-read_rule.ensures),
    )
    c.in_ok-explained-in-Err-read_rule.ensures
