use Rattle.std.proofs.Common.{◌≡◌, ◌∙◌, refl, arith}
use Rattle.std.proofs.lemmas.List.{get_or_default}
use Rattle.lxp_core.proofs.Fills.{refused_at_once}
use Rattle.mix_mount.specs.declared.mount.Mount.TheVariants.{Absent}
use Rattle.mix_mount.specs.Mounts.{docs_of, mount_at}
use Rattle.mix_mount.proofs.Rows.{came_by_fill}
use Rattle.mix_mount.proofs.mounted.MountedSources.fill.Goals as goal

pub returns-clause-came : goal.returns-clause-came
returns-clause-came g c =
    let docs = docs_of c.args.self.now in
    let is : c.index.result.now ≡ mount_at docs c.args.s = c.index.ensures ∙ get_or_default docs c.args.s c.index.result.now Absent c.requires in
    came_by_fill _ _ c.args.s refl c.give-answer.ensures.keeps (omega arith) (omega arith) (rw is at c.give-answer.ensures.paged)

pub returns-clause-answers : goal.returns-clause-answers
returns-clause-answers g c =
    let docs = docs_of c.args.self.now in
    let is : c.index.result.now ≡ mount_at docs c.args.s = c.index.ensures ∙ get_or_default docs c.args.s c.index.result.now Absent c.requires in
    rw is at c.give-answer.ensures.answers

pub returns-clause-refused : goal.returns-clause-refused
returns-clause-refused g c =
    let docs = docs_of c.args.self.now in
    let is : c.index.result.now ≡ mount_at docs c.args.s = c.index.ensures ∙ get_or_default docs c.args.s c.index.result.now Absent c.requires in
    refused_at_once _ _ _ c.args.hole c.give-answer.result (rw is at c.give-answer.ensures.refused)
