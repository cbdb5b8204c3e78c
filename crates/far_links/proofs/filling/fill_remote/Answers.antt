use Rattle.std.proofs.Common.{◌∙◌, ap, sym}
use Rattle.lxp_core.specs.Plain.{plain}
use Rattle.far_links.specs.Holes.{names_root}
use Rattle.far_links.proofs.Naming.{all_below}
use Rattle.far_links.proofs.filling.fill_remote.Goals as goal

pub returns-clause-below : goal.returns-clause-below
returns-clause-below g c =
    all_below (plain c.in-Ok.list.items)
    (sym (ap (λ ts. names_root (plain ts)) c.deref.ensures.value) ∙ sym c.list_names_root.ensures ∙ c.if-list_names_root.false)
