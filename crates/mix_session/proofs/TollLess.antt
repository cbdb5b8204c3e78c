-- Tolls on a course that goes on did not rise.
use Rattle.std.proofs.Common.{◌≤◌, ℕ, List, Option, Some, None, arith}
use Rattle.mix_tree.specs.Forest.{LabelledTree, alone, first_kids, after_first}
use Rattle.mix_tree.specs.Place.{trees_at, child_place}
use Rattle.mix_script.specs.Names.{NamesOf}
use Rattle.mix_script.specs.Transcript.{Names}
use Rattle.mix_script.specs.declared.step.Act.{Act}
use Rattle.mix_script.specs.declared.step.Act.TheVariants.{Root, Move, Select, Fetch, Print, Id, At}
use Rattle.mix_script.specs.declared.step.Way.TheVariants.{Down}
use Rattle.mix_session.specs.Meaning.{Course, GoesOn}
use Rattle.mix_session.specs.Printing.{place_toll}
use Rattle.mix_session.specs.Stepped.{act_toll, tree_toll}
use Rattle.mix_session.specs.Tolls.{toll_from, select_toll, print_toll}
use Rattle.mix_session.proofs.Prints.{trees_less}
use Rattle.mix_session.proofs.Searches.{search_less}
use Rattle.mix_session.proofs.Walking.{place_toll_less}

-- the toll of what a name holds did not rise where no toll did
from_less : {W : Type 0} (toll toll' : W → ℕ) → ((x : W) → toll' x ≤ toll x) → (o : Option W) → toll_from toll' o ≤ toll_from toll o
from_less toll toll' less None = omega arith
from_less toll toll' less (Some x) = less x

module _ {W : Type 0} (c d : Course W) (goes : GoesOn c d) where
  -- the toll of an act of at most one way did not rise
  pub act_toll_less : (xs : NamesOf W) (client : List ℕ) (act : Act) → act_toll d xs client act ≤ act_toll c xs client act
  act_toll_less xs client (Root name) = goes.root_toll
  act_toll_less xs client (Move way name from) = from_less (c.toll way) (d.toll way) (λ x. goes.toll way x) (xs client from)
  act_toll_less xs client (Select name from label) = omega arith
  act_toll_less xs client (Fetch from) = omega arith
  act_toll_less xs client (Print from) = omega arith
  act_toll_less xs client (Id from) = omega arith
  act_toll_less xs client (At name node) = omega arith

  -- the toll of a search did not rise
  select_toll_less : (t : LabelledTree) (label p : List ℕ) → select_toll (place_toll d) t label p ≤ select_toll (place_toll c) t label p
  select_toll_less t label p = search_less (place_toll c) (place_toll d) (place_toll_less c d goes) label (after_first (trees_at (alone t) p)) p

  -- the toll of a subtree's text did not rise
  print_toll_less : (t : LabelledTree) (p : List ℕ) → print_toll (place_toll d) t p ≤ print_toll (place_toll c) t p
  print_toll_less t p =
      let own = place_toll_less c d goes Down p in
      let below = trees_less (place_toll c) (place_toll d) (place_toll_less c d goes) (first_kids (trees_at (alone t) p)) (child_place p) in
      omega (arith, own, below)

  -- the toll of an act on a tree did not rise
  pub tree_toll_less : (t : LabelledTree) (places : Names) (client : List ℕ) (act : Act) → tree_toll d t places client act ≤ tree_toll c t places client act
  tree_toll_less t places client (Root name) = goes.root_toll
  tree_toll_less t places client (Move way name from) = from_less (place_toll c way) (place_toll d way) (place_toll_less c d goes way) (places client from)
  tree_toll_less t places client (Select name from label) = from_less (select_toll (place_toll c) t label) (select_toll (place_toll d) t label) (select_toll_less t label) (places client from)
  tree_toll_less t places client (Fetch from) = omega arith
  tree_toll_less t places client (Print from) = from_less (print_toll (place_toll c) t) (print_toll (place_toll d) t) (print_toll_less t) (places client from)
  tree_toll_less t places client (Id from) = omega arith
  tree_toll_less t places client (At name node) = goes.reach node
