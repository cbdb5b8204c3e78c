use Rattle.std.proofs.Common.{List, ℕ, Err, refl, ap, subst}
use Rattle.std.proofs.lemmas.Result.{err_from_is_err_and}
use Rattle.mix_place.specs.Causes.{IsNoScript, RefusesScript}
use Rattle.mix_place.specs.declared.refusal.FileFault.TheVariants.{Script}
use Rattle.mix_place.proofs.LoadLaws.{load_stop, load_stop_unread, script_refused}
use Rattle.mix_place.proofs.load.load_script.Goals as goal

pub returns-in_err-bytes-clause-err : goal.returns-in_err-bytes-clause-err
returns-in_err-bytes-clause-err g c =
    let p = err_from_is_err_and c.from_residual.result c.from_residual.ensures.1 in
    rw (p.1, p.2) (load_stop_unread (IsNoScript c.args.forms) (g.F.Files.view c.args.files.now) (g.F.Files.view c.load.new.files) c.args.path.now _ c.in_err-bytes.ensures.err)

pub returns-clause-err : goal.returns-clause-err
returns-clause-err g c =
    load_stop (IsNoScript c.args.forms) (g.F.Files.view c.args.files.now) (g.F.Files.view c.load.new.files) c.args.path.now (Script c.in-Err.fault) _ c.refused.ensures (
      c.in_ok-bytes.bytes.items,
      c.in_ok-bytes.ensures.ok,
      (
        c.in-Err.fault,
        refl,
        subst (λ (text : List ℕ). RefusesScript c.args.forms text c.in-Err.fault) c.deref.ensures.value
            (script_refused c.args.forms c.deref.result.now c.in-Err.fault (λ n e. c.in-Err.ensures.line n (ap Err e))),
      ),
    )
