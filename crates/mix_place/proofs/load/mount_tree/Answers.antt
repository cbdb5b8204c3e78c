use Rattle.std.proofs.Common.{List, ℕ, refl, subst}
use Rattle.std.proofs.lemmas.Result.{err_from_is_err_and}
use Rattle.bracket_text.specs.Results.{Refuses}
use Rattle.bracket_text.specs.Stands.{SpellsTree}
use Rattle.mix_place.specs.Causes.{IsNoTree}
use Rattle.mix_place.specs.declared.refusal.FileFault.TheVariants.{Document}
use Rattle.mix_place.proofs.LoadLaws.{load_stop, load_stop_unread}
use Rattle.mix_place.proofs.load.mount_tree.Goals as goal

pub returns-in_err-bytes-clause-err : goal.returns-in_err-bytes-clause-err
returns-in_err-bytes-clause-err g c =
    let p = err_from_is_err_and c.from_residual.result c.from_residual.ensures.1 in
    rw (p.1, p.2) (load_stop_unread IsNoTree (g.F.Files.view c.args.files.now) (g.F.Files.view c.load.new.files) c.args.path.now _ c.in_err-bytes.ensures.err)

pub open-requires-clause-shallow : goal.open-requires-clause-shallow
open-requires-clause-shallow g c = c.in-Ok.ensures.shallow

pub returns-in-Ok-clause-ok : goal.returns-in-Ok-clause-ok
returns-in-Ok-clause-ok g c =
    let a = c.in-Ok.ensures.answers in
    record {
      tree = a.0;
      document_is = record {
        text = c.in_ok-bytes.bytes.items;
        read = c.in_ok-bytes.ensures.ok;
        stands = subst (λ (text : List ℕ). SpellsTree text a.0) c.deref.ensures.value (a.2, a.3);
      };
      in_memory = refl;
      told = λ v. refl;
      given = λ v. c.open.ensures.document a.0 a.1;
      given_by = (c.open.ensures.chunk, c.open.ensures.deep);
    }

pub returns-clause-err : goal.returns-clause-err
returns-clause-err g c =
    load_stop IsNoTree (g.F.Files.view c.args.files.now) (g.F.Files.view c.load.new.files) c.args.path.now (Document c.in-Err.fault) _ c.refused.ensures
    (c.in_ok-bytes.bytes.items, c.in_ok-bytes.ensures.ok, (c.in-Err.fault, refl, subst (λ (text : List ℕ). Refuses text c.in-Err.fault) c.deref.ensures.value c.in-Err.ensures.answers))
