use Rattle.std.proofs.Common.{◌≡◌, ◌∙◌, sym, subst, refl, arith, length}
use Rattle.xmas_text.specs.Building.{build_in}
use Rattle.xmas_text.specs.Drafts.{draft_in}
use Rattle.xmas_text.proofs.Builds.{Standing, Finishes, can_build, standing_start, standing_next, ended_here, last_utf8, last_order, finishes}
use Rattle.xmas_text.proofs.build.build_rule.Goals as goal

pub loop-at-init : goal.loop-at-init
loop-at-init c = standing_start c.args.text.now (build_in record { scan = c.new.result; from = 0; draft = c.new-2.result }) c.new.ensures refl c.new-2.ensures

pub build_byte-requires : goal.build_byte-requires
build_byte-requires c = can_build c.args.text.now c.loop-at.at (build_in c.loop-at.build) c.requires.utf8 c.requires.rule c.loop-at-test.true (omega arith) c.loop-at.invariant

pub loop-at-preserved : goal.loop-at-preserved
loop-at-preserved c =
    standing_next c.args.text.now c.loop-at.at (build_in c.loop-at.build) (build_in c.in_ok-build.build) c.requires.utf8 c.loop-at-test.true c.loop-at.invariant c.in_ok-build.ensures

pub end_build-requires-clause-order : goal.end_build-requires-clause-order
end_build-requires-clause-order c =
    let end : c.loop-at.at ≡ length c.args.text.now = omega arith in
    last_order c.args.text.now (build_in c.loop-at.build) (subst (λ n. Standing c.args.text.now n (build_in c.loop-at.build)) end c.loop-at.invariant)

pub end_build-requires-clause-utf8 : goal.end_build-requires-clause-utf8
end_build-requires-clause-utf8 c =
    let end : c.loop-at.at ≡ length c.args.text.now = omega arith in
    last_utf8 c.args.text.now (build_in c.loop-at.build) c.requires.utf8 (subst (λ n. Standing c.args.text.now n (build_in c.loop-at.build)) end c.loop-at.invariant)

pub end_build-requires-clause-ended : goal.end_build-requires-clause-ended
end_build-requires-clause-ended c =
    let end : c.loop-at.at ≡ length c.args.text.now = omega arith in
    ended_here c.args.text.now (length c.args.text.now) (build_in c.loop-at.build) (omega arith) (subst (λ n. Standing c.args.text.now n (build_in c.loop-at.build)) end c.loop-at.invariant)

pub finish-requires : goal.finish-requires
finish-requires c =
    let end : c.loop-at.at ≡ length c.args.text.now = omega arith in
    let done : Finishes c.args.text.now (draft_in c.in_ok-draft.draft) =
    finishes c.args.text.now (build_in c.loop-at.build) (draft_in c.in_ok-draft.draft) c.requires.rule
    (subst (λ n. Standing c.args.text.now n (build_in c.loop-at.build)) end c.loop-at.invariant)
    c.in_ok-draft.ensures in
    done.one

pub returns : goal.returns
returns c =
    let end : c.loop-at.at ≡ length c.args.text.now = omega arith in
    let done : Finishes c.args.text.now (draft_in c.in_ok-draft.draft) =
    finishes c.args.text.now (build_in c.loop-at.build) (draft_in c.in_ok-draft.draft) c.requires.rule
    (subst (λ n. Standing c.args.text.now n (build_in c.loop-at.build)) end c.loop-at.invariant)
    c.in_ok-draft.ensures in
    (done.rule, done.writes, done.tree ∙ sym c.finish.ensures)
