use Rattle.std.proofs.Common.{◌≡◌, ◌∙◌, true, false, Bool, IfNone, sym, subst}
use Rattle.plan_core.specs.Valid.{kinds, is_single_at}
use Rattle.plan_read.specs.Checks.{ops_of, AreNumbered, AreShort, AreSound, AreUsed}
use Rattle.plan_read.specs.Drafts.{all_numbered, lines_of}
use Rattle.plan_read.specs.Scopes.{AreScopes}
use Rattle.plan_read.specs.Stops.{StopsIn}
use Rattle.plan_read.proofs.Checked.{of_all, stops_line}
use Rattle.plan_read.proofs.Ended.{ends_sound, ends_test}
use Rattle.plan_read.proofs.Stopping.{many_numbered}
use Rattle.plan_read.proofs.checks.check_whole.Goals as goal

-- true is not false
true_false : ◌≡◌ {A = Bool} true false → ⊥
true_false h = cc

pub returns-in-Some : goal.returns-in-Some
returns-in-Some c = λ names specs lines drafts plain.
    (let ds = c.args.drafts.now in
    let ns = all_numbered ds in
    let numbered = subst (AreNumbered ns) (many_numbered ds) plain.numbered in
    let short = subst (AreShort ns) (many_numbered ds) plain.short in
    let stops = c.in_ok-line.ensures.stops numbered short (c.new-scopes.ensures (kinds (ops_of ns))) in
    (plain, stops_line names specs lines ds drafts (AreSound ns) c.in-Some.line (subst (StopsIn (AreSound ns) (lines_of ds)) c.in-Some.is stops)))

pub returns-then-not-ends : goal.returns-then-not-ends
returns-then-not-ends c = λ names specs lines drafts plain.
    (let ds = c.args.drafts.now in
    let ns = all_numbered ds in
    let numbered = subst (AreNumbered ns) (many_numbered ds) plain.numbered in
    let short = subst (AreShort ns) (many_numbered ds) plain.short in
    let stops = c.in_ok-line.ensures.stops numbered short (c.new-scopes.ensures (kinds (ops_of ns))) in (
      plain,
      of_all (AreSound ns) ds (subst (StopsIn (AreSound ns) (lines_of ds)) c.in_default.is stops),
      λ ends. true_false (sym (ends_test (λ n. true) (ops_of ns) ends) ∙ sym c.ends.ensures ∙ c.if-not-ends.true),
    ))

pub returns-in-Some-unused : goal.returns-in-Some-unused
returns-in-Some-unused c = λ names specs lines drafts plain.
    (let ds = c.args.drafts.now in
    let ns = all_numbered ds in
    let numbered = subst (AreNumbered ns) (many_numbered ds) plain.numbered in
    let short = subst (AreShort ns) (many_numbered ds) plain.short in
    let empty = c.new-scopes.ensures (kinds (ops_of ns)) in
    let stops = c.in_ok-line.ensures.stops numbered short empty in
    let scopes = subst (λ o. IfNone o (AreScopes c.unsound.new.scopes (ops_of ns) (kinds (ops_of ns)))) c.in_default.is (c.in_ok-line.ensures.scopes numbered short empty) in (
      plain,
      of_all (AreSound ns) ds (subst (StopsIn (AreSound ns) (lines_of ds)) c.in_default.is stops),
      ends_sound (λ n. true) (ops_of ns) (sym c.ends.ensures ∙ c.if-not-ends.false),
      stops_line names specs lines ds drafts (AreUsed ns) c.in-Some-unused.line (c.in-Some-unused.ensures (kinds (ops_of ns)) scopes),
    ))

pub returns-then-not-branch : goal.returns-then-not-branch
returns-then-not-branch c = λ names specs lines drafts plain.
    (let ds = c.args.drafts.now in
    let ns = all_numbered ds in
    let numbered = subst (AreNumbered ns) (many_numbered ds) plain.numbered in
    let short = subst (AreShort ns) (many_numbered ds) plain.short in
    let empty = c.new-scopes.ensures (kinds (ops_of ns)) in
    let stops = c.in_ok-line.ensures.stops numbered short empty in
    let scopes = subst (λ o. IfNone o (AreScopes c.unsound.new.scopes (ops_of ns) (kinds (ops_of ns)))) c.in_default.is (c.in_ok-line.ensures.scopes numbered short empty) in (
      plain,
      of_all (AreSound ns) ds (subst (StopsIn (AreSound ns) (lines_of ds)) c.in_default.is stops),
      ends_sound (λ n. true) (ops_of ns) (sym c.ends.ensures ∙ c.if-not-ends.false),
      of_all (AreUsed ns) ds (c.in_default-unused.ensures (kinds (ops_of ns)) scopes),
      λ single. true_false (sym (ends_test (is_single_at (ops_of ns)) (ops_of ns) single) ∙ sym (c.in_ok-ends_single.ensures numbered) ∙ c.if-not-branch.true),
    ))

pub returns : goal.returns
returns c = λ names specs lines drafts plain.
    (let ds = c.args.drafts.now in
    let ns = all_numbered ds in
    let numbered = subst (AreNumbered ns) (many_numbered ds) plain.numbered in
    let short = subst (AreShort ns) (many_numbered ds) plain.short in
    let empty = c.new-scopes.ensures (kinds (ops_of ns)) in
    let stops = c.in_ok-line.ensures.stops numbered short empty in
    let scopes = subst (λ o. IfNone o (AreScopes c.unsound.new.scopes (ops_of ns) (kinds (ops_of ns)))) c.in_default.is (c.in_ok-line.ensures.scopes numbered short empty) in
    record {
      sound = of_all (AreSound ns) ds (subst (StopsIn (AreSound ns) (lines_of ds)) c.in_default.is stops);
      ends = ends_sound (λ n. true) (ops_of ns) (sym c.ends.ensures ∙ c.if-not-ends.false);
      used = of_all (AreUsed ns) ds (c.in_default-unused.ensures (kinds (ops_of ns)) scopes);
      single = ends_sound (is_single_at (ops_of ns)) (ops_of ns) (sym (c.in_ok-ends_single.ensures numbered) ∙ c.if-not-branch.false);
    })
