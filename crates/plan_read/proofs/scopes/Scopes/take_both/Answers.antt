use Rattle.std.proofs.Common.{[], ◌∷◌, Some}
use Rattle.plan_read.specs.Scopes.{used_more}
use Rattle.plan_read.proofs.Slotted.{below_one, below_both}
use Rattle.plan_read.proofs.scopes.Scopes.take_both.Goals as goal

pub returns-clause-below : goal.returns-clause-below
returns-clause-below c = λ count uses of h l r.
    (let left = c.args.left in
    let right = c.args.right in
    let one = c.take.new.self.slots.items in
    let two = c.take-2.new.self.slots.items in
    let a = below_one c.args.self.now.slots.items one count uses of left (Some c.in-Some.first) h l c.in-Some.ensures.scope c.take.ensures.slots in
    let b = below_one one two count (used_more uses (left ∷ [])) of right (Some c.in-Some-take.second) a.2 r c.in-Some-take.ensures.scope c.take-2.ensures.slots in
    below_both one two count uses of left right c.in-Some.first c.in-Some-take.second c.in_ok-joined.field-0 a b c.in_ok-joined.ensures)
