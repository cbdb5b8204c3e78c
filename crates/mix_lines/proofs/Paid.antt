-- A run pays for the nodes that texts named: as it begins, comes one step further, and ends.
use Rattle.std.proofs.Common.{◌≡◌, ◌⊎◌, inl, inr, ℕ, ◌+◌, ◌≤◌, List, [], ◌∷◌, ◌++◌, cond, Option, Some, None, refl, ap, sym, subst, arith, append_assoc}
use Rattle.mix_base.proofs.Lists.{append_nil}
use Rattle.node_text.specs.Node.{NodeValue}
use Rattle.mix_script.specs.Names.{NamesOf, no_names, with_name}
use Rattle.mix_script.specs.Trails.{with_named}
use Rattle.mix_script.specs.Transcript.{Finished, Names, goal_of, names_after}
use Rattle.mix_script.specs.Allowed.{begun, charge_of, is_fault, mark_of, walks_owed}
use Rattle.mix_script.specs.Holding.{HoldBoth}
use Rattle.mix_script.specs.declared.step.Act.{Act}
use Rattle.mix_script.specs.declared.step.Act.TheVariants.{Root, Move, Select, Fetch, Print, Id, At}
use Rattle.mix_script.specs.declared.step.Step.{Step}
use Rattle.mix_script.specs.declared.answer.Answer.{Answer}
use Rattle.mix_script.specs.declared.answer.Answer.TheVariants as answer
use Rattle.mix_script.proofs.Holding.{hold_none, hold_weaker}
use Rattle.mix_session.specs.Meaning.{Course, Meaning, GoesOn, Stays}
use Rattle.mix_session.specs.Held.{HoldPlaces}
use Rattle.mix_session.specs.Stepped.{IsLedTo, NamesGiven, owed_before, tree_toll}
use Rattle.mix_session.specs.Tolls.{toll_from}
use Rattle.mix_session.proofs.Walking.{goes_on_twice}
use Rattle.mix_lines.specs.Ends.{charge_named}
use Rattle.mix_lines.specs.Written.{AreAt, IsAmong, IsHeldFor, IsPaidSoFar, sum_over}
use Rattle.mix_lines.proofs.Paying.{given_both, held_given, still_at, owed_less, still_held, before_sum, before_charge, before_paid}

-- only a node to which a text was followed adds its walk charge
no_charge : (charge : NodeValue → ℕ) (act : Act) (a : Answer) → (answer.Node ≡ a → ⊥) → charge_of charge act a ≡ 0
no_charge charge (Root name) a other = refl
no_charge charge (Move way name from) a other = refl
no_charge charge (Select name from label) a other = refl
no_charge charge (Fetch from) a other = refl
no_charge charge (Print from) a other = refl
no_charge charge (Id from) a other = refl
no_charge charge (At name node) answer.Node other = absurd (other refl)
no_charge charge (At name node) answer.None other = refl
no_charge charge (At name node) (answer.Label l) other = refl
no_charge charge (At name node) (answer.Text x) other = refl
no_charge charge (At name node) answer.NoNode other = refl
no_charge charge (At name node) (answer.Fault s) other = refl
no_charge charge (At name node) (answer.Id x) other = refl
no_charge charge (At name node) answer.Foreign other = refl

-- before any step nothing is asked, and no text has named a node
pub paid_start : {V W : Type 0} (m : Meaning V W) (f : Finished) (asked : ℕ) (values : NamesOf V) (steps : List Step) → values ≡ no_names → IsPaidSoFar m.course m f asked asked values steps steps []
paid_start {V} m f asked values steps none = record {
  places = no_names;
  handed = [];
  at = tt;
  hold = subst (λ (s : NamesOf V). HoldBoth (IsHeldFor m []) s no_names) (sym none) (hold_none (IsHeldFor m []));
  spent = λ more. omega arith;
}

-- what was asked for the steps that were answered is no more than they may cost
pub paid_whole : {V W : Type 0} (c : Course W) (m : Meaning V W) (f : Finished) (first asked : ℕ) (values : NamesOf V) (steps later : List Step) (answers : List Answer)
    → IsPaidSoFar c m f first asked values steps later answers → asked ≤ first + (begun (tree_toll c f.tree) (names_after f) no_names answers steps + walks_owed (charge_named c f) 0 answers steps)
paid_whole c m f first asked values steps later answers so =
    let h = so.spent [] in
    let tolls = ap (λ xs. begun (tree_toll c f.tree) (names_after f) no_names xs steps) (append_nil answers) in
    let walks = ap (λ xs. walks_owed (charge_named c f) 0 xs steps) (append_nil answers) in
    omega (arith, h, tolls, walks)

module _ {V W : Type 0} (c : Course W) (m m' : Meaning V W) (goes : GoesOn c m.course) (stays : Stays m m') (f : Finished) (client : List ℕ) (values : NamesOf V) (places : Names)
    (handed : List (V × List ℕ)) (at : AreAt m.IsAt handed) (hold : HoldBoth (IsHeldFor m handed) values places) (n : V) where
  -- the nodes that texts named after an act has found a node, at the place that it asked for, and what that one adds to their walk charges
  abbrev Handed : Act → Option (List ℕ) → ℕ → Type 0
  Handed act goal own =
      (all : List (V × List ℕ)) × AreAt m'.IsAt all × HoldBoth (IsHeldFor m' all) (with_named values client act (Some n)) (with_named places client act goal)
      × (sum_over (λ n. c.charge) all ≡ sum_over (λ n. c.charge) handed + own) × (sum_over m'.owes all ≤ sum_over m'.owes handed + own)

  -- where a walk led to the node, the nodes that texts named are the same
  walked_to : (act : Act) (goal : Option (List ℕ)) → m'.IsWalked n → HoldPlaces m' (with_named values client act (Some n)) (with_named places client act goal) → Handed act goal 0
  walked_to act goal walked placed = (
    handed,
    still_at c m m' goes stays handed at values places hold,
    held_given m' handed values places client act (Some n) goal (still_held c m m' goes stays handed at values places hold) placed (λ k q is there. let same : n ≡ k = cc in inl (subst (λ x. m'.owes x q ≡ 0) same (m'.walked_owes n q walked))),
    omega arith,
    omega arith,
  )

  -- where names hold what they held, the nodes that texts named are the same
  left : (act : Act) (goal : Option (List ℕ)) → HoldBoth (IsHeldFor m' handed) (with_named values client act (Some n)) (with_named places client act goal) → Handed act goal 0
  left act goal held = (handed, still_at c m m' goes stays handed at values places hold, held, omega arith, omega arith)

  -- where a text was followed to the node, it is one more that texts named
  followed : (name : List ℕ) (node : NodeValue) (goal : Option (List ℕ)) → HoldPlaces m' (with_name values client name (Some n)) (with_name places client name goal) → Handed (At name node) goal (toll_from c.charge goal)
  followed name node None placed = absurd (given_both m'.IsAt values places client name (Some n) None placed)
  followed name node (Some p) placed =
      let there : m'.IsAt n p = given_both m'.IsAt values places client name (Some n) (Some p) placed in
      let all : List (V × List ℕ) = (n, p) ∷ handed in
      let walk = m'.owes_walk n p in
      let fell = (goes_on_twice goes stays.course).charge p in (
        all,
        (there, still_at c m m' goes stays handed at values places hold),
        held_given m' all values places client (At name node) (Some n) (Some p) (more p) placed (λ k q is where_it. let same : k ≡ n = cc in let there : q ≡ p = cc in inr (inl (same, there))),
        omega arith,
        omega (arith, walk, fell),
      )
    where
      more : (p : List ℕ) → HoldBoth (IsHeldFor m' ((n, p) ∷ handed)) values places
      more p = hold_weaker (IsHeldFor m' handed) (IsHeldFor m' ((n, p) ∷ handed)) values places (λ k q h. (h.0, one_more k q h.1)) (still_held c m m' goes stays handed at values places hold)
        where
          one_more : (k : V) (q : List ℕ) → (m'.owes k q ≡ 0) ⊎ IsAmong k q handed → (m'.owes k q ≡ 0) ⊎ IsAmong k q ((n, p) ∷ handed)
          one_more k q (inl none) = inl none
          one_more k q (inr among) = inr (inr among)

  -- after any act has found the node, these are the nodes that texts named
  found : (act : Act) → IsLedTo m' act n → HoldPlaces m' (with_named values client act (Some n)) (with_named places client act (goal_of f places client act))
      → Handed act (goal_of f places client act) (charge_of (charge_named c f) act answer.Node)
  found (Root name) led placed = walked_to (Root name) _ led placed
  found (Move way name from) led placed = walked_to (Move way name from) _ led placed
  found (Select name from label) led placed = walked_to (Select name from label) _ led placed
  found (Fetch from) led placed = left (Fetch from) None (still_held c m m' goes stays handed at values places hold)
  found (Print from) led placed = left (Print from) None (still_held c m m' goes stays handed at values places hold)
  found (Id from) led placed = left (Id from) None (still_held c m m' goes stays handed at values places hold)
  found (At name node) led placed = followed name node (f.named node) placed

-- answers with one more at their end before others are the answers before that one and the others
pushed : (answers : List Answer) (a : Answer) (more : List Answer) → (answers ++ a ∷ []) ++ more ≡ answers ++ a ∷ more
pushed answers a more = append_assoc answers (a ∷ []) more

module _ {V W : Type 0} (c : Course W) (m m' : Meaning V W) (goes : GoesOn c m.course) (stays : Stays m m') (f : Finished) (first asked asked' : ℕ) (values values' : NamesOf V)
    (steps : List Step) (step : Step) (later : List Step) (answers : List Answer) (so : IsPaidSoFar c m f first asked values steps (step ∷ later) answers)
    (cost : asked' ≤ asked + (owed_before m values so.places step.client step.act + tree_toll c f.tree so.places step.client step.act)) where
  -- what was asked up to a step that was begun is no more than the begun steps may cost
  pub paid_begun : asked' ≤ first + (begun (tree_toll c f.tree) (names_after f) no_names answers steps + walks_owed (charge_named c f) 0 answers steps)
  paid_begun =
      let h = so.spent [] in
      let tolls = ap (λ xs. begun (tree_toll c f.tree) (names_after f) no_names xs steps) (append_nil answers) in
      let walks = ap (λ xs. walks_owed (charge_named c f) 0 xs steps) (append_nil answers) in
      let owed = before_sum c m m' goes stays so.handed so.at values so.places so.hold step.client step.act in
      omega (arith, h, tolls, walks, owed, cost)

  -- a step was paid for where what was asked and is owed rose by no more than its toll, its node's walk charge, and at a fault those of the nodes before it
  step_paid : (a : Answer) (handed : List (V × List ℕ)) → AreAt m'.IsAt handed → HoldBoth (IsHeldFor m' handed) values' (names_after f so.places step.client step.act a)
      → sum_over (λ n. c.charge) handed ≡ sum_over (λ n. c.charge) so.handed + charge_of (charge_named c f) step.act a
      → asked' + sum_over m'.owes handed
      ≤ asked + (sum_over m.owes so.handed + (tree_toll c f.tree so.places step.client step.act
      + (charge_of (charge_named c f) step.act a + cond (is_fault a) (sum_over (λ n. c.charge) so.handed) 0)))
      → IsPaidSoFar c m' f first asked' values' steps later (answers ++ a ∷ [])
  step_paid a handed at hold same less = record {
    places = names_after f so.places step.client step.act a;
    handed = handed;
    at = at;
    hold = hold;
    spent = λ more.
        let h = so.spent (a ∷ more) in
        let tolls = ap (λ xs. begun (tree_toll c f.tree) (names_after f) no_names xs steps) (pushed answers a more) in
        let walks = ap (λ xs. walks_owed (charge_named c f) 0 xs steps) (pushed answers a more) in
        let charges = ap (λ s. walks_owed (charge_named c f) s more later) same in
        omega (arith, h, tolls, walks, charges, less);
  }

  -- a step without a fault, after which the nodes that texts named are the same, was paid for
  same_paid : (a : Answer) → HoldBoth (IsHeldFor m' so.handed) values' (names_after f so.places step.client step.act a) → charge_of (charge_named c f) step.act a ≡ 0
      → owed_before m' values so.places step.client step.act ≡ 0 → IsPaidSoFar c m' f first asked' values' steps later (answers ++ a ∷ [])
  same_paid a hold none paid =
      let fell = before_paid c m m' goes stays so.handed so.at values so.places so.hold step.client step.act paid in
      step_paid a so.handed (still_at c m m' goes stays so.handed so.at values so.places so.hold) hold (omega (arith, none)) (omega (arith, cost, fell))

  -- what names held they hold still, where they are the same
  same_held : values' ≡ values → HoldBoth (IsHeldFor m' so.handed) values' so.places
  same_held same = subst (λ (vs : NamesOf V). HoldBoth (IsHeldFor m' so.handed) vs so.places) (sym same) (still_held c m m' goes stays so.handed so.at values so.places so.hold)

  -- a step that was answered was paid for
  pub paid_next : (a : Answer) → NamesGiven m' values values' step.client step.act a → HoldPlaces m' values' (names_after f so.places step.client step.act a)
      → (mark_of a ≡ None → owed_before m' values so.places step.client step.act ≡ 0) → IsPaidSoFar c m' f first asked' values' steps later (answers ++ a ∷ [])
  paid_next answer.Node given placed paid =
      let Placed : NamesOf V → Type 0 = λ vs. HoldPlaces m' vs (names_after f so.places step.client step.act answer.Node) in
      let now = found c m m' goes stays f step.client values so.places so.handed so.at so.hold given.0 step.act given.1 (subst Placed given.2 placed) in
      let Held : NamesOf V → Type 0 = λ vs. HoldBoth (IsHeldFor m' now.0) vs (names_after f so.places step.client step.act answer.Node) in
      let fell = before_paid c m m' goes stays so.handed so.at values so.places so.hold step.client step.act (paid refl) in
      let rose = now.4 in
      step_paid answer.Node now.0 now.1 (subst Held (sym given.2) now.2) now.3 (omega (arith, cost, fell, rose))
  paid_next answer.None given placed paid =
      let Placed : NamesOf V → Type 0 = λ vs. HoldPlaces m' vs (names_after f so.places step.client step.act answer.None) in
      let Held : NamesOf V → Type 0 = λ vs. HoldBoth (IsHeldFor m' so.handed) vs (names_after f so.places step.client step.act answer.None) in
      let held = held_given m' so.handed values so.places step.client step.act None None (still_held c m m' goes stays so.handed so.at values so.places so.hold) (subst Placed given placed) (λ k q is there. cc) in
      same_paid answer.None (subst Held (sym given) held) (no_charge (charge_named c f) step.act answer.None (λ e. cc)) (paid refl)
  paid_next (answer.Label l) given placed paid = same_paid (answer.Label l) (same_held given) (no_charge (charge_named c f) step.act (answer.Label l) (λ e. cc)) (paid refl)
  paid_next (answer.Text x) given placed paid = same_paid (answer.Text x) (same_held given) (no_charge (charge_named c f) step.act (answer.Text x) (λ e. cc)) (paid refl)
  paid_next answer.NoNode given placed paid = same_paid answer.NoNode (same_held given) (no_charge (charge_named c f) step.act answer.NoNode (λ e. cc)) (paid refl)
  paid_next (answer.Fault s) given placed paid =
      let none = no_charge (charge_named c f) step.act (answer.Fault s) (λ e. cc) in
      let walks = before_charge c m m' goes stays so.handed so.at values so.places so.hold step.client step.act in
      let less = owed_less c m m' goes stays so.handed so.at values so.places so.hold in
      step_paid (answer.Fault s) so.handed (still_at c m m' goes stays so.handed so.at values so.places so.hold) (same_held given) (omega (arith, none)) (omega (arith, cost, walks, less))
  paid_next (answer.Id x) given placed paid = same_paid (answer.Id x) (same_held given) (no_charge (charge_named c f) step.act (answer.Id x) (λ e. cc)) (paid refl)
  paid_next answer.Foreign given placed paid = same_paid answer.Foreign (same_held given) (no_charge (charge_named c f) step.act answer.Foreign (λ e. cc)) (paid refl)
