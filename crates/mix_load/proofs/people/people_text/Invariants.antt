use Rattle.std.proofs.Common.{◌≡◌}
use Rattle.mix_load.specs.People.{people_text}
use Rattle.mix_load.proofs.people.people_text.Given as goal

abbrev pub invariant-people : goal.invariant-people
invariant-people l = l.text.items ≡ people_text l.number
