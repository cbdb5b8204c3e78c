use Rattle.std.proofs.Common.{◌≡◌, ◌++◌, ◌∷◌, [], OnOk, cond, subst}
use Rattle.std.specs.Str.{bytes_eq}
use Rattle.plan_read.proofs.NameSteps.{found_any}
use Rattle.plan_read.proofs.naming.add_name.Goals as goal

pub returns-clause-all : goal.returns-clause-all
returns-clause-all c =
    subst (λ b. OnOk c.add.result (c.add.new.self ≡ cond b c.args.names.now (c.args.names.now ++ c.args.name.now ∷ []))) (found_any (bytes_eq c.args.name.now) c.args.names.now) c.add.ensures
