use Rattle.std.proofs.Common.{sym, subst}
use Rattle.std.specs.Str.{IsValidUpTo}
use Rattle.wire_text.proofs.Ended.{cut_text, none_after, wrong_label, cut_label}
use Rattle.wire_text.proofs.utf8.label_end.Goals as goal

pub returns-in-Ok-2 : goal.returns-in-Ok-2
returns-in-Ok-2 c = cut_text c.args.text.now c.split_at.result.0.now c.args.len c.min.result c.split_at.ensures.front c.min.ensures c.if-prefix-len.false c.in-Ok.ensures.cases.1

pub character_fault-requires-clause-none : goal.character_fault-requires-clause-none
character_fault-requires-clause-none c =
    let prefix = c.split_at.result.0.now in
    let v : IsValidUpTo prefix c.valid_up_to-at.result = subst (IsValidUpTo prefix) (sym c.valid_up_to-at.ensures) c.in-Err.ensures.cases.1 in
    none_after prefix c.split_at-2.result.1.now c.valid_up_to-at.result v c.split_at-2.ensures.back

pub returns-in-Some : goal.returns-in-Some
returns-in-Some c =
    let prefix = c.split_at.result.0.now in
    let v : IsValidUpTo prefix c.valid_up_to-at.result = subst (IsValidUpTo prefix) (sym c.valid_up_to-at.ensures) c.in-Err.ensures.cases.1 in
    wrong_label c.args.text.now prefix c.split_at-2.result.1.now c.args.len c.min.result c.valid_up_to-at.result c.split_at.ensures.front c.min.ensures v c.split_at-2.ensures.back c.in-Some.fault c.in-Some.ensures

pub returns-in-None : goal.returns-in-None
returns-in-None c =
    let prefix = c.split_at.result.0.now in
    let v : IsValidUpTo prefix c.valid_up_to-at.result = subst (IsValidUpTo prefix) (sym c.valid_up_to-at.ensures) c.in-Err.ensures.cases.1 in
    cut_label c.args.text.now prefix c.split_at-2.result.1.now c.args.len c.min.result c.valid_up_to-at.result c.split_at.ensures.front c.min.ensures v c.split_at-2.ensures.back c.in-None.ensures
