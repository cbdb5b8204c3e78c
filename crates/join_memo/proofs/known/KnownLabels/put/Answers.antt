use Rattle.std.proofs.Common.{◌∙◌, ap, subst}
use Rattle.std.specs.Prelude.{not}
use Rattle.std.specs.List.{list_any, position_or_len}
use Rattle.std.specs.Str.{bytes_eq}
use Rattle.indexmap.specs.IndexSet.{insert_key}
use Rattle.join_memo.specs.Places.{IsPut}
use Rattle.join_memo.proofs.Numbers.{put_is}
use Rattle.join_memo.proofs.known.KnownLabels.put.Goals as goal

pub returns-clause-ok : goal.returns-clause-ok
returns-clause-ok c =
    let known = c.self.inside.labels.keys in
    let r = c.in_ok-insert_full.field-0 in
    let new = c.in_ok-insert_full.ensures.added ∙ ap (λ key. not (list_any (bytes_eq key) known)) c.in_ok-copy.ensures in
    let number = c.in_ok-insert_full.ensures.index ∙ ap (λ key. position_or_len (bytes_eq key) known) c.in_ok-copy.ensures in
    let after = c.in_ok-insert_full.ensures.keys ∙ ap (insert_key bytes_eq known) c.in_ok-copy.ensures in
    subst (λ ks. IsPut ks c.args.key.now r.0 r.1 c.insert_full.new.self.keys) c.self.view_is (put_is c.args.key.now known c.insert_full.new.self.keys r.0 r.1 new number after)
