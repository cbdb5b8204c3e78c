use Rattle.std.proofs.Common.{◌≡◌, ◌∙◌, ap, sym, subst, map, length, nat_lt, IfOk}
use Rattle.std.specs.Str.{bytes_eq}
use Rattle.mix_base.specs.Groups.{firsts}
use Rattle.xmas_text.specs.declared.var.VarText.{VarText}
use Rattle.xmas_read.proofs.Naming.{names_of}
use Rattle.xmas_read.proofs.sizes.has_many_vars.Goals as goal

pub returns : goal.returns
returns c =
    let names = names_of c.deref.result.now ∙ ap (map (λ (v : VarText). v.name)) (ap (map (λ v. v.now)) c.deref.ensures.value ∙ c.in_ok-vars.ensures) in
    subst (λ ns. IfOk c.have_many_names.result (λ is. is ≡ nat_lt 60 (length (firsts bytes_eq ns)))) names c.have_many_names.ensures
