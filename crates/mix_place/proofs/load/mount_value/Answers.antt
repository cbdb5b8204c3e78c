use Rattle.std.proofs.Common.{◌≡◌, List, ℕ, Some, refl, subst}
use Rattle.std.proofs.lemmas.Result.{err_from_is_err_and}
use Rattle.std.specs.Str.{IsUtf8}
use Rattle.json.specs.Json.{document}
use Rattle.json_text.specs.Answers.{Refuses}
use Rattle.json_text.specs.Trees.{value_tree}
use Rattle.mix_place.specs.Causes.{IsNoJson}
use Rattle.mix_place.specs.declared.refusal.FileFault.TheVariants.{Json}
use Rattle.mix_place.proofs.LoadLaws.{load_stop, load_stop_unread}
use Rattle.mix_place.proofs.load.mount_value.Goals as goal

pub returns-in_err-bytes-clause-err : goal.returns-in_err-bytes-clause-err
returns-in_err-bytes-clause-err g c =
    let p = err_from_is_err_and c.from_residual.result c.from_residual.ensures.1 in
    rw (p.1, p.2) (load_stop_unread IsNoJson (g.F.Files.view c.args.files.now) (g.F.Files.view c.load.new.files) c.args.path.now _ c.in_err-bytes.ensures.err)

pub open-requires-clause-shallow : goal.open-requires-clause-shallow
open-requires-clause-shallow g c = c.in-Ok.ensures.shallow

pub returns-in-Ok-clause-ok : goal.returns-in-Ok-clause-ok
returns-in-Ok-clause-ok g c =
    let a = c.in-Ok.ensures.answers in
    let tree = value_tree c.args.source.now.name a.0 in
    record {
      tree = tree;
      document_is = record {
        text = c.in_ok-bytes.bytes.items;
        read = c.in_ok-bytes.ensures.ok;
        stands = (a.0, subst IsUtf8 c.deref.ensures.value a.1, subst (λ (text : List ℕ). document text ≡ Some a.0) c.deref.ensures.value a.2, refl);
      };
      in_memory = refl;
      told = λ v. refl;
      given = λ v. c.open.ensures.document tree a.3;
      given_by = (c.open.ensures.chunk, c.open.ensures.deep);
    }

pub returns-clause-err : goal.returns-clause-err
returns-clause-err g c =
    load_stop IsNoJson (g.F.Files.view c.args.files.now) (g.F.Files.view c.load.new.files) c.args.path.now (Json c.in-Err.fault) _ c.refused.ensures
    (c.in_ok-bytes.bytes.items, c.in_ok-bytes.ensures.ok, (c.in-Err.fault, refl, subst (λ (text : List ℕ). Refuses text c.in-Err.fault) c.deref.ensures.value c.in-Err.ensures.answers))
