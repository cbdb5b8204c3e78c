use Rattle.std.proofs.Common.{rules, ◌≡◌, ◌∙◌, Some, IfSome, get_or, ap, sym, subst}
use Rattle.mix_io.specs.Contents.{GivesFrom}
use Rattle.mix_io.specs.Memory.{contents_at, next_read}
use Rattle.mix_base.proofs.Choices.{none_some}
use Rattle.mix_io.specs.declared.mem_files.MemFile.{MemFile}
use Rattle.mix_io.proofs.Indices.{index_read, contents_found, next_nothing, next_something, end_kept}
use Rattle.mix_io.proofs.mem_files.MemFilesFiles.read_at.Goals as goal

pub returns-in_default-clause-named : goal.returns-in_default-clause-named
returns-in_default-clause-named c =
    let next : c.saturating_add-self.result ≡ next_read c.args.self.now = search rules in
    next_nothing c.args.self.now _ c.args.path.now next c.in_default.ensures

pub returns-clause-bytes : goal.returns-clause-bytes
returns-clause-bytes c =
    let files = c.args.self.now.files.items in
    let file = c.index.result.now in
    let found = index_read _ files c.args.path.now c.in-Some.index c.in-Some.ensures in
    let read : get_or files c.in-Some.index file ≡ file = search rules in
    let told : contents_at files c.args.path.now ≡ Some c.deref.result.now =
    contents_found files c.args.path.now c.in-Some.index file found.1 ∙ ap (λ (f : MemFile). Some f.bytes.items) read ∙ ap Some (sym c.deref.ensures.value) in
    subst (λ t. IfSome t (λ contents. GivesFrom contents c.args.from c.copy_from-count.result c.copy_from-count.new.room)) (sym told) c.copy_from-count.ensures.gives

pub returns-clause-others : goal.returns-clause-others
returns-clause-others c = λ other apart.
    let files = c.args.self.now.files.items in
    let found = index_read _ files c.args.path.now c.in-Some.index c.in-Some.ensures in
    end_kept files c.args.self.now.ends.items c.args.path.now other c.in-Some.index c.furthest_after.result c.index.result.now found.1 apart

pub returns-clause-fails : goal.returns-clause-fails
returns-clause-fails c =
    let next : c.saturating_add-self.result ≡ next_read c.args.self.now = search rules in
    let read = next_something c.args.self.now _ c.args.path.now c.in-Some.index c.index.result.now next c.in-Some.ensures in
    λ none. none_some _ (sym none ∙ read)
