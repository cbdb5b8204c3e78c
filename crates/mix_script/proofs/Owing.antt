-- What nodes that texts named may cost, and what steps cost that were begun, as answers become more.
use Rattle.std.proofs.Common.{◌≡◌, ◌∙◌, ◌+◌, ◌≤◌, ℕ, Bool, true, false, cond, IsTrue, List, [], ◌∷◌, ◌++◌, refl, ap, arith, length, drop}
use Rattle.node_text.specs.Node.{NodeValue}
use Rattle.mix_script.specs.Names.{NamesOf}
use Rattle.mix_script.specs.Allowed.{is_fault, begun, charge_of, walks_owed}
use Rattle.mix_script.specs.Steps.{is_plain, ArePlain}
use Rattle.mix_script.specs.declared.step.Act.{Act}
use Rattle.mix_script.specs.declared.step.Act.TheVariants.{Root, Move, Select, Fetch, Print, Id, At}
use Rattle.mix_script.specs.declared.step.Step.{Step}
use Rattle.mix_script.specs.declared.answer.Answer.{Answer}
use Rattle.mix_script.specs.declared.answer.Answer.TheVariants as answer

-- PLAIN STEPS

-- a plain act's text names no node
plain_charge : (charge : NodeValue → ℕ) (act : Act) (a : Answer) → IsTrue (is_plain act) → charge_of charge act a ≡ 0
plain_charge charge (Root name) a p = refl
plain_charge charge (Move way name from) a p = refl
plain_charge charge (Select name from label) a p = refl
plain_charge charge (Fetch from) a p = refl
plain_charge charge (Print from) a p = refl
plain_charge charge (Id from) a p = refl
plain_charge charge (At name node) a p = cc

-- a choice between nothing and nothing is nothing
nothing_either : (b : Bool) → ◌≡◌ {A = ℕ} (cond b 0 0) 0
nothing_either true = refl
nothing_either false = refl

-- where no text named a node before, plain steps owe no walks
pub plain_owes : (charge : NodeValue → ℕ) (before : ℕ) (answers : List Answer) (steps : List Step) → before ≡ 0 → ArePlain steps → walks_owed charge before answers steps ≡ 0
plain_owes charge before [] steps e p = refl
plain_owes charge before (a ∷ answers) [] e p = refl
plain_owes charge before (a ∷ answers) (step ∷ steps) e p =
    let own = plain_charge charge step.act a p.0 in
    let fault = ap (λ n. cond (is_fault a) n 0) e ∙ nothing_either (is_fault a) in
    let later = plain_owes charge (before + charge_of charge step.act a) answers steps (omega (arith, e, own)) p.1 in
    omega (arith, own, fault, later)

-- ONE ANSWER MORE

-- the sum of the walk charges of the nodes that texts named, after answers to the first of these steps, where those named before have this sum
abbrev pub charged : (NodeValue → ℕ) → ℕ → List Answer → List Step → ℕ
charged charge before [] steps = before
charged charge before (a ∷ answers) [] = before
charged charge before (a ∷ answers) (step ∷ steps) = charged charge (before + charge_of charge step.act a) answers steps

-- no step owes no walks
no_steps_owe : (charge : NodeValue → ℕ) (before : ℕ) (answers : List Answer) → walks_owed charge before answers [] ≡ 0
no_steps_owe charge before [] = refl
no_steps_owe charge before (a ∷ answers) = refl

-- what is owed for walks by answers and more of them is what the answers owe, and what the others owe after them
pub owed_split : (charge : NodeValue → ℕ) (before : ℕ) (answers more : List Answer) (steps : List Step)
    → walks_owed charge before (answers ++ more) steps
    ≡ walks_owed charge before answers steps + walks_owed charge (charged charge before answers steps) more (drop (length answers) steps)
owed_split charge before [] more steps = omega arith
owed_split charge before (a ∷ answers) more [] = let e = no_steps_owe charge before more in omega (arith, e)
owed_split charge before (a ∷ answers) more (step ∷ steps) =
    let later = owed_split charge (before + charge_of charge step.act a) answers more steps in omega (arith, later)

-- with one answer more no less is owed for walks
pub owed_push : (charge : NodeValue → ℕ) (before : ℕ) (answers : List Answer) (a : Answer) (steps : List Step) → walks_owed charge before answers steps ≤ walks_owed charge before (answers ++ a ∷ []) steps
owed_push charge before answers a steps = let e = owed_split charge before answers (a ∷ []) steps in omega (arith, e)

-- with one answer more no less was begun
pub begun_push : {V : Type 0} (cost : NamesOf V → List ℕ → Act → ℕ) (after : NamesOf V → List ℕ → Act → Answer → NamesOf V) (names : NamesOf V) (answers : List Answer) (a : Answer) (steps : List Step)
    → begun cost after names answers steps ≤ begun cost after names (answers ++ a ∷ []) steps
begun_push cost after names [] a [] = omega arith
begun_push cost after names [] a (step ∷ steps) = omega arith
begun_push cost after names (b ∷ answers) a [] = omega arith
begun_push cost after names (b ∷ answers) a (step ∷ steps) =
    let later = begun_push cost after (after names step.client step.act b) answers a steps in omega (arith, later)

-- SMALLER CHARGES

-- where each node has no greater walk charge, nor has one that an answer names
charge_less : (charge charge' : NodeValue → ℕ) → ((node : NodeValue) → charge node ≤ charge' node) → (act : Act) (a : Answer) → charge_of charge act a ≤ charge_of charge' act a
charge_less charge charge' less (Root name) a = omega arith
charge_less charge charge' less (Move way name from) a = omega arith
charge_less charge charge' less (Select name from label) a = omega arith
charge_less charge charge' less (Fetch from) a = omega arith
charge_less charge charge' less (Print from) a = omega arith
charge_less charge charge' less (Id from) a = omega arith
charge_less charge charge' less (At name node) answer.Node = less node
charge_less charge charge' less (At name node) answer.None = omega arith
charge_less charge charge' less (At name node) (answer.Label l) = omega arith
charge_less charge charge' less (At name node) (answer.Text x) = omega arith
charge_less charge charge' less (At name node) answer.NoNode = omega arith
charge_less charge charge' less (At name node) (answer.Fault s) = omega arith
charge_less charge charge' less (At name node) (answer.Id x) = omega arith
charge_less charge charge' less (At name node) answer.Foreign = omega arith

-- a choice of a smaller number or nothing is no greater
choice_less : (b : Bool) (m n : ℕ) → m ≤ n → cond b m 0 ≤ cond b n 0
choice_less true m n h = h
choice_less false m n h = omega arith

-- where no walk charge is greater, and that of the nodes named before neither, no more is owed for walks
pub owed_less : (charge charge' : NodeValue → ℕ) → ((node : NodeValue) → charge node ≤ charge' node) → (before before' : ℕ) → before ≤ before' → (answers : List Answer) (steps : List Step)
    → walks_owed charge before answers steps ≤ walks_owed charge' before' answers steps
owed_less charge charge' less before before' h [] steps = omega arith
owed_less charge charge' less before before' h (a ∷ answers) [] = omega arith
owed_less charge charge' less before before' h (a ∷ answers) (step ∷ steps) =
    let own = charge_less charge charge' less step.act a in
    let fault = choice_less (is_fault a) before before' h in
    let later = owed_less charge charge' less (before + charge_of charge step.act a) (before' + charge_of charge' step.act a) (omega (arith, h, own)) answers steps in
    omega (arith, own, fault, later)
