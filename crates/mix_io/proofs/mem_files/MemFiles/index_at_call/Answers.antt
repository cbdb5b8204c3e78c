use Rattle.std.proofs.Common.{◌∙◌, sym, ap, None, if◌then◌else◌}
use Rattle.std.specs.List.{position}
use Rattle.mix_io.specs.Memory.{is_at}
use Rattle.mix_io.proofs.mem_files.MemFiles.index_at_call.Goals as goal

pub returns-then-contains : goal.returns-then-contains
returns-then-contains c =
    let found = position (is_at c.args.path.now) c.args.self.now.files.items in
    ap (λ fails. if fails then None else found) (sym c.if-contains.true ∙ c.contains.ensures)

pub returns : goal.returns
returns c =
    let found = position (is_at c.args.path.now) c.args.self.now.files.items in
    c.index_of.ensures
    ∙ ap (position (is_at c.args.path.now)) c.deref.ensures.value
    ∙ ap (λ fails. if fails then None else found) (sym c.if-contains.false ∙ c.contains.ensures)
