use Rattle.xmas_rule.specs.RuleMade.{rule_of}
use Rattle.source_checks.specs.Checks.{moment}
use Rattle.mix_explain.proofs.Viewing.{ok_by_both, reads_all, view_accepted, view_refused}
use Rattle.mix_explain.proofs.view.explained.Goals as goal

pub returns-in-Accepted-2-clause-ok : goal.returns-in-Accepted-2-clause-ok
returns-in-Accepted-2-clause-ok g c =
    let view = g.F.Files.view in
    let tables = g.T.Tables.view in
    let sources = rw c.in-Accepted.is at c.in_ok-catalog.ensures.ok in
    let rule = rw c.in-Accepted-2.is at c.in_ok-rule.ensures.ok in
    ok_by_both c.report.result _ _ _
    (λ e status lines. view_accepted (view c.args.files.now) (view c.read_catalog_file.new.files) (view c.read_view_file.new.files) (tables c.args.tables.now)
    (moment (view c.report.new.files) (tables c.report.new.tables)) c.args.asked.now.view.now c.args.asked.now.catalog.now
    c.in-Accepted.catalog (rule_of c.in-Accepted-2.rule) e.status e.lines.items c.in_ok-catalog.ensures.keeps c.in_ok-rule.ensures.keeps sources.0 rule.0 status lines)
    c.report.ensures.status c.report.ensures.lines

pub returns-clause-ok : goal.returns-clause-ok
returns-clause-ok g c =
    let view = g.F.Files.view in
    let tables = g.T.Tables.view in
    let sources = rw c.in-Accepted.is at c.in_ok-catalog.ensures.ok in
    view_refused (moment (view c.args.files.now) (tables c.args.tables.now)) (view c.read_catalog_file.new.files)
    (moment (view c.read_view_file.new.files) (tables c.args.tables.now)) c.args.asked.now.view.now c.args.asked.now.catalog.now
    c.in-Accepted.catalog c.in-Refused-2.explained.status c.in-Refused-2.explained.lines.items c.in_ok-catalog.ensures.keeps sources.1 sources.0
    (rw c.in-Refused-2.is at c.in_ok-rule.ensures.ok)

pub returns-in-Accepted-2-clause-reads : goal.returns-in-Accepted-2-clause-reads
returns-in-Accepted-2-clause-reads g c =
    let view = g.F.Files.view in
    let sources = rw c.in-Accepted.is at c.in_ok-catalog.ensures.ok in
    let rule = rw c.in-Accepted-2.is at c.in_ok-rule.ensures.ok in
    reads_all (view c.args.files.now) (view c.read_catalog_file.new.files) (view c.read_view_file.new.files) (view c.report.new.files)
    c.args.asked.now.view.now c.args.asked.now.catalog.now c.in-Accepted.catalog (rule_of c.in-Accepted-2.rule)
    c.in_ok-catalog.ensures.keeps sources.0 rule.0 c.in_ok-catalog.ensures.others c.in_ok-rule.ensures.others c.report.ensures.reads
