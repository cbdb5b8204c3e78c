-- What nodes that texts named may cost, as a run comes further.
use Rattle.std.proofs.Common.{◌≡◌, ◌⊎◌, ◌∙◌, inl, inr, ℕ, ◌+◌, ◌≤◌, Bool, true, false, cond, ◌&&◌, List, [], ◌∷◌, Option, Some, None, refl, ap, subst, arith}
use Rattle.std.proofs.lemmas.Slice.Eq.{bytes_eq-Decides}
use Rattle.std.specs.Str.{bytes_eq}
use Rattle.mix_script.specs.Names.{NamesOf, with_name}
use Rattle.mix_script.specs.Trails.{with_named}
use Rattle.mix_script.specs.Transcript.{Names}
use Rattle.mix_script.specs.Holding.{Both, HoldBoth}
use Rattle.mix_script.specs.declared.step.Act.{Act}
use Rattle.mix_script.specs.declared.step.Act.TheVariants.{Root, Move, Select, Fetch, Print, Id, At}
use Rattle.mix_script.proofs.Holding.{hold_weaker}
use Rattle.mix_session.specs.Meaning.{Course, Meaning, GoesOn, Stays}
use Rattle.mix_session.specs.Held.{HoldPlaces}
use Rattle.mix_session.specs.Stepped.{owed_for, owed_before}
use Rattle.mix_lines.specs.Written.{AreAt, IsAmong, IsHeldFor, sum_over}

module _ {V : Type 0} where
  -- where no number of a node at its place is greater, neither is the sum
  sum_less : (Is : V → List ℕ → Type 0) (most number : V → List ℕ → ℕ) → ((n : V) (p : List ℕ) → Is n p → number n p ≤ most n p) → (handed : List (V × List ℕ)) → AreAt Is handed
      → sum_over number handed ≤ sum_over most handed
  sum_less Is most number less [] at = omega arith
  sum_less Is most number less (one ∷ more) at =
      let first = less one.0 one.1 at.0 in let later = sum_less Is most number less more at.1 in omega (arith, first, later)

  -- the number of a node of a list is at most the sum
  among_sum : (number : V → List ℕ → ℕ) (n : V) (p : List ℕ) (handed : List (V × List ℕ)) → IsAmong n p handed → number n p ≤ sum_over number handed
  among_sum number n p [] among = absurd among
  among_sum number n p (one ∷ more) (inl same) = let is : number n p ≡ number one.0 one.1 = ap (λ m. number m p) same.0 ∙ ap (number one.0) same.1 in omega (arith, is)
  among_sum number n p (one ∷ more) (inr among) = let later = among_sum number n p more among in omega (arith, later)

  -- where the number of a node of a list has become nothing, and no other one rose, the sum fell by it
  among_paid : (Is : V → List ℕ → Type 0) (before after : V → List ℕ → ℕ) → ((n : V) (p : List ℕ) → Is n p → after n p ≤ before n p) → (n : V) (p : List ℕ) → after n p ≡ 0
      → (handed : List (V × List ℕ)) → AreAt Is handed → IsAmong n p handed → before n p + sum_over after handed ≤ sum_over before handed
  among_paid Is before after less n p paid [] at among = absurd among
  among_paid Is before after less n p paid (one ∷ more) at (inl same) =
      let was : before n p ≡ before one.0 one.1 = ap (λ m. before m p) same.0 ∙ ap (before one.0) same.1 in
      let is : after n p ≡ after one.0 one.1 = ap (λ m. after m p) same.0 ∙ ap (after one.0) same.1 in
      let later = sum_less Is before after less more at.1 in
      omega (arith, was, is, paid, later)
  among_paid Is before after less n p paid (one ∷ more) at (inr among) =
      let first = less one.0 one.1 at.0 in let later = among_paid Is before after less n p paid more at.1 among in omega (arith, first, later)

  -- where each node of a list is at its place in one way, it is in another
  are_at_more : (Is Is' : V → List ℕ → Type 0) → ((n : V) (p : List ℕ) → Is n p → Is' n p) → (handed : List (V × List ℕ)) → AreAt Is handed → AreAt Is' handed
  are_at_more Is Is' more [] at = tt
  are_at_more Is Is' more (one ∷ handed) at = (more one.0 one.1 at.0, are_at_more Is Is' more handed at.1)

  -- a name that is given a value and a place holds them
  pub given_both : (With : V → List ℕ → Type 0) (values : NamesOf V) (places : Names) (client name : List ℕ) (v : Option V) (p : Option (List ℕ))
      → HoldBoth With (with_name values client name v) (with_name places client name p) → Both With v p
  given_both With values places client name v p hold = subst (λ b. Both With (cond b v (values client name)) (cond b p (places client name))) same (hold client name)
    where
      two : (a b : Bool) → a ≡ true → b ≡ true → (a && b) ≡ true
      two true b e k = k
      two false b e k = cc

      same : (bytes_eq client client && bytes_eq name name) ≡ true
      same = two (bytes_eq client client) (bytes_eq name name) ((bytes_eq-Decides client client).1 refl) ((bytes_eq-Decides name name).1 refl)

-- what names hold from the nodes that texts named
module _ {V W : Type 0} (m : Meaning V W) (handed : List (V × List ℕ)) (values : NamesOf V) (places : Names) where
  -- where names hold nodes for which nothing is owed unless texts named them, they hold nodes at their places
  pub held_places : HoldBoth (IsHeldFor m handed) values places → HoldPlaces m values places
  held_places hold = hold_weaker (IsHeldFor m handed) m.IsAt values places (λ n p h. h.0) hold

  -- names that hold nodes at their places hold so those for which nothing is owed unless texts named them, where the given name does
  pub held_given : (client : List ℕ) (act : Act) (v : Option V) (p : Option (List ℕ)) → HoldBoth (IsHeldFor m handed) values places
      → HoldPlaces m (with_named values client act v) (with_named places client act p)
      → ((n : V) (q : List ℕ) → v ≡ Some n → p ≡ Some q → (m.owes n q ≡ 0) ⊎ IsAmong n q handed)
      → HoldBoth (IsHeldFor m handed) (with_named values client act v) (with_named places client act p)
  held_given client act v p hold all own = by_act act all
    where
      both : (v : Option V) (p : Option (List ℕ)) → Both m.IsAt v p → ((n : V) (q : List ℕ) → v ≡ Some n → p ≡ Some q → (m.owes n q ≡ 0) ⊎ IsAmong n q handed) → Both (IsHeldFor m handed) v p
      both None None h own = tt
      both None (Some q) h own = h
      both (Some n) None h own = h
      both (Some n) (Some q) h own = (h, own n q refl refl)

      by_name : (name : List ℕ) → HoldPlaces m (with_name values client name v) (with_name places client name p) → HoldBoth (IsHeldFor m handed) (with_name values client name v) (with_name places client name p)
      by_name name all c n = of (bytes_eq client c && bytes_eq name n) (all c n)
        where
          of : (b : Bool) → Both m.IsAt (cond b v (values c n)) (cond b p (places c n)) → Both (IsHeldFor m handed) (cond b v (values c n)) (cond b p (places c n))
          of true h = both v p h own
          of false h = hold c n

      by_act : (act : Act) → HoldPlaces m (with_named values client act v) (with_named places client act p) → HoldBoth (IsHeldFor m handed) (with_named values client act v) (with_named places client act p)
      by_act (Root name) all = by_name name all
      by_act (Move way name from) all = by_name name all
      by_act (Select name from label) all = by_name name all
      by_act (Fetch from) all = hold
      by_act (Print from) all = hold
      by_act (Id from) all = hold
      by_act (At name node) all = by_name name all

module _ {V W : Type 0} (c : Course W) (m m' : Meaning V W) (goes : GoesOn c m.course) (stays : Stays m m') (handed : List (V × List ℕ)) (at : AreAt m.IsAt handed) (values : NamesOf V) (places : Names)
    (hold : HoldBoth (IsHeldFor m handed) values places) where
  -- the nodes that texts named are still at their places
  pub still_at : AreAt m'.IsAt handed
  still_at = are_at_more m.IsAt m'.IsAt (λ n p h. stays.place n p h) handed at

  -- the sum of what is owed for the nodes that texts named did not rise
  pub owed_less : sum_over m'.owes handed ≤ sum_over m.owes handed
  owed_less = sum_less m.IsAt m.owes m'.owes (λ n p h. stays.owes n p h) handed at

  -- what names held they hold still, and nothing is owed for it unless texts named it
  pub still_held : HoldBoth (IsHeldFor m' handed) values places
  still_held = hold_weaker (IsHeldFor m handed) (IsHeldFor m' handed) values places (λ n p h. (stays.place n p h.0, still n p h.0 h.1)) hold
    where
      still : (n : V) (p : List ℕ) → m.IsAt n p → (m.owes n p ≡ 0) ⊎ IsAmong n p handed → (m'.owes n p ≡ 0) ⊎ IsAmong n p handed
      still n p there (inl none) = let less = stays.owes n p there in inl (omega (arith, less, none))
      still n p there (inr among) = inr among

  -- what is owed for what a name holds is no more than what is owed for all nodes that texts named
  for_sum : (o : Option V) (q : Option (List ℕ)) → Both (IsHeldFor m handed) o q → owed_for m o q ≤ sum_over m.owes handed
  for_sum None q both = omega arith
  for_sum (Some n) None both = absurd both
  for_sum (Some n) (Some p) (there, inl none) = omega (arith, none)
  for_sum (Some n) (Some p) (there, inr among) = among_sum m.owes n p handed among

  -- what is owed for what a name holds is no more than what the walks to all nodes that texts named may cost
  for_charge : (o : Option V) (q : Option (List ℕ)) → Both (IsHeldFor m handed) o q → owed_for m o q ≤ sum_over (λ n. c.charge) handed
  for_charge None q both = omega arith
  for_charge (Some n) None both = absurd both
  for_charge (Some n) (Some p) (there, inl none) = omega (arith, none)
  for_charge (Some n) (Some p) (there, inr among) =
      let walk = m.owes_walk n p in let fell = goes.charge p in let all = among_sum (λ n. c.charge) n p handed among in omega (arith, walk, fell, all)

  -- where nothing is owed any more for what a name holds, the sum of what is owed fell by what was
  for_paid : (o : Option V) (q : Option (List ℕ)) → Both (IsHeldFor m handed) o q → owed_for m' o q ≡ 0 → owed_for m o q + sum_over m'.owes handed ≤ sum_over m.owes handed
  for_paid None q both paid = omega (arith, owed_less)
  for_paid (Some n) None both paid = absurd both
  for_paid (Some n) (Some p) (there, inl none) paid = omega (arith, none, owed_less)
  for_paid (Some n) (Some p) (there, inr among) paid = among_paid m.IsAt m.owes m'.owes (λ n p h. stays.owes n p h) n p paid handed at among

  -- what is owed before an act is no more than what is owed for all nodes that texts named
  pub before_sum : (client : List ℕ) (act : Act) → owed_before m values places client act ≤ sum_over m.owes handed
  before_sum client (Root name) = omega arith
  before_sum client (Move way name from) = for_sum (values client from) (places client from) (hold client from)
  before_sum client (Select name from label) = for_sum (values client from) (places client from) (hold client from)
  before_sum client (Fetch from) = omega arith
  before_sum client (Print from) = for_sum (values client from) (places client from) (hold client from)
  before_sum client (Id from) = omega arith
  before_sum client (At name node) = omega arith

  -- what is owed before an act is no more than what the walks to all nodes that texts named may cost
  pub before_charge : (client : List ℕ) (act : Act) → owed_before m values places client act ≤ sum_over (λ n. c.charge) handed
  before_charge client (Root name) = omega arith
  before_charge client (Move way name from) = for_charge (values client from) (places client from) (hold client from)
  before_charge client (Select name from label) = for_charge (values client from) (places client from) (hold client from)
  before_charge client (Fetch from) = omega arith
  before_charge client (Print from) = for_charge (values client from) (places client from) (hold client from)
  before_charge client (Id from) = omega arith
  before_charge client (At name node) = omega arith

  -- where nothing is owed any more for the node of which an act was asked, the sum of what is owed fell by what was
  pub before_paid : (client : List ℕ) (act : Act) → owed_before m' values places client act ≡ 0 → owed_before m values places client act + sum_over m'.owes handed ≤ sum_over m.owes handed
  before_paid client (Root name) paid = omega (arith, owed_less)
  before_paid client (Move way name from) paid = for_paid (values client from) (places client from) (hold client from) paid
  before_paid client (Select name from label) paid = for_paid (values client from) (places client from) (hold client from) paid
  before_paid client (Fetch from) paid = omega (arith, owed_less)
  before_paid client (Print from) paid = for_paid (values client from) (places client from) (hold client from) paid
  before_paid client (Id from) paid = omega (arith, owed_less)
  before_paid client (At name node) paid = omega (arith, owed_less)
