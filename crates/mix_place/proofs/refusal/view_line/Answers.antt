use Rattle.std.proofs.Common.{rules, sym, append_assoc}
use Rattle.mix_place.proofs.refusal.view_line.Goals as goal

pub returns-in-NotUtf8 : goal.returns-in-NotUtf8
returns-in-NotUtf8 c = rw c.in-NotUtf8.is (search (rules, append_assoc))

pub returns-in-Unexpected : goal.returns-in-Unexpected
returns-in-Unexpected c = rw c.in-Unexpected.is (search (rules, append_assoc))

pub returns-in-TagDiffers : goal.returns-in-TagDiffers
returns-in-TagDiffers c = rw c.in-TagDiffers.is (search (rules, append_assoc))

pub returns-in-UnknownSource : goal.returns-in-UnknownSource
returns-in-UnknownSource c = rw c.in-UnknownSource.is (search (rules, append_assoc))

pub returns-in-BoundTwice : goal.returns-in-BoundTwice
returns-in-BoundTwice c = rw c.in-BoundTwice.is (search (rules, append_assoc))

pub returns-in-Unbound : goal.returns-in-Unbound
returns-in-Unbound c = rw c.in-Unbound.is (search (rules, append_assoc))

pub returns-in-OuterGroup : goal.returns-in-OuterGroup
returns-in-OuterGroup c = rw c.in-OuterGroup.is (search (rules, append_assoc))

pub returns-in-Loose : goal.returns-in-Loose
returns-in-Loose c = rw c.in-Loose.is (search (rules, append_assoc))

pub returns-in-TooLarge : goal.returns-in-TooLarge
returns-in-TooLarge c = rw c.in-TooLarge.is (rw (sym c.large_name-name.ensures) (search (rules, append_assoc)))
