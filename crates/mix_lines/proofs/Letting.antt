-- What a course that goes on, or any course, lets be answered.
use Rattle.std.proofs.Common.{List, [], ◌∷◌, ◌++◌, IsTrue}
use Rattle.mix_script.specs.Steps.{ArePlain, is_plain}
use Rattle.mix_script.specs.declared.step.Act.{Act}
use Rattle.mix_script.specs.declared.step.Act.TheVariants.{Root, Move, Select, Fetch, Print, Id, At}
use Rattle.mix_script.specs.declared.step.Step.{Step}
use Rattle.mix_session.specs.Meaning.{Course, GoesOn}
use Rattle.mix_session.specs.Stepped.{Lets, LetsAll}

module _ {W : Type 0} (c d : Course W) (goes : GoesOn c d) where
  -- an act that a course lets be answered is let be answered where it goes on
  pub lets_on : (act : Act) → Lets c act → Lets d act
  lets_on (Root name) lets = tt
  lets_on (Move way name from) lets = tt
  lets_on (Select name from label) lets = tt
  lets_on (Fetch from) lets = tt
  lets_on (Print from) lets = tt
  lets_on (Id from) lets = goes.tells lets
  lets_on (At name node) lets = goes.follows lets

  -- steps that a course lets be answered are let be answered where it goes on
  pub lets_all_on : (steps : List Step) → LetsAll c steps → LetsAll d steps
  lets_all_on [] lets = tt
  lets_all_on (step ∷ steps) lets = (lets_on step.act lets.0, lets_all_on steps lets.1)

module _ {W : Type 0} (c : Course W) where
  -- where steps and those after them are let be answered, those after them are
  pub lets_later : (first later : List Step) → LetsAll c (first ++ later) → LetsAll c later
  lets_later [] later lets = lets
  lets_later (step ∷ first) later lets = lets_later first later lets.1

  -- a course that tells texts and follows them lets each act be answered
  pub lets_any : (act : Act) → c.Tells → c.Follows → Lets c act
  lets_any (Root name) tells follows = tt
  lets_any (Move way name from) tells follows = tt
  lets_any (Select name from label) tells follows = tt
  lets_any (Fetch from) tells follows = tt
  lets_any (Print from) tells follows = tt
  lets_any (Id from) tells follows = tells
  lets_any (At name node) tells follows = follows

  -- a course that tells texts and follows them lets all steps be answered
  pub lets_any_steps : (steps : List Step) → c.Tells → c.Follows → LetsAll c steps
  lets_any_steps [] tells follows = tt
  lets_any_steps (step ∷ steps) tells follows = (lets_any step.act tells follows, lets_any_steps steps tells follows)

  -- each course lets an act be answered that is of none of the forms of identifiers
  lets_act : (act : Act) → IsTrue (is_plain act) → Lets c act
  lets_act (Root name) plain = tt
  lets_act (Move way name from) plain = tt
  lets_act (Select name from label) plain = tt
  lets_act (Fetch from) plain = tt
  lets_act (Print from) plain = tt
  lets_act (Id from) plain = cc
  lets_act (At name node) plain = cc

  -- each course lets steps be answered of which none is of a form of identifiers
  pub lets_plain : (steps : List Step) → ArePlain steps → LetsAll c steps
  lets_plain [] plain = tt
  lets_plain (step ∷ steps) plain = (lets_act step.act plain.0, lets_plain steps plain.1)
