-- Faults among answers: which may be given, and how they count.
use Rattle.std.proofs.Common.{◌≡◌, ◌∙◌, ℕ, ◌+◌, ◌<◌, ◌≤◌, ◌==◌, Bool, true, false, cond, ◌||◌, List, [], ◌∷◌, ◌++◌, Option, Some, None, refl, sym, ap, subst, arith}
use Rattle.std.proofs.lemmas.Bool.Decides.{nat_tests}
use Rattle.std.proofs.lemmas.Bool.{false≢true}
use Rattle.mix_base.specs.Counts.{HasRisen, HasRisenBy}
use Rattle.mix_script.specs.Answers.{IsNamed}
use Rattle.mix_script.specs.Allowed.{Nodes, MayFind, MayFindRoot, MayRead, MayPrint, MaySpell, WhereHeld, MayAnswer, nodes_after, AreAnswers, mark_of, is_fault, has_fault, is_mark_of, faults_of}
use Rattle.mix_script.specs.declared.step.Act.{Act}
use Rattle.mix_script.specs.declared.step.Act.TheVariants.{Root, Move, Select, Fetch, Print, Id, At}
use Rattle.mix_script.specs.declared.step.Step.{Step}
use Rattle.mix_script.specs.declared.answer.Answer.{Answer}
use Rattle.mix_script.specs.declared.answer.Answer.TheVariants as answer

module _ (roots : Bool) (MayFail : ℕ → Type 0) where
  -- a fault where the root is sought
  root_fault : (b : Bool) (s : ℕ) → MayFindRoot b MayFail (answer.Fault s) → MayFail s
  root_fault true s h = h
  root_fault false s h = cc

  -- a fault where a node is sought from what a name holds
  sought_fault : (s : ℕ) (o : Option (Unit {0})) → WhereHeld o (MayFind MayFail) (answer.Fault s) → MayFail s
  sought_fault s None h = cc
  sought_fault s (Some node) h = h

  -- no fault is answered where a label is read
  read_fault : (s : ℕ) (o : Option (Unit {0})) → WhereHeld o MayRead (answer.Fault s) → MayFail s
  read_fault s None h = cc
  read_fault s (Some node) h = absurd h

  -- a fault where a subtree is printed
  printed_fault : (s : ℕ) (o : Option (Unit {0})) → WhereHeld o (MayPrint MayFail) (answer.Fault s) → MayFail s
  printed_fault s None h = cc
  printed_fault s (Some node) h = h

  -- no fault is answered where an identifier is written down
  spelled_fault : (s : ℕ) (o : Option (Unit {0})) → WhereHeld o MaySpell (answer.Fault s) → MayFail s
  spelled_fault s None h = cc
  spelled_fault s (Some node) h = absurd h

  -- the source of a fault that may be answered is one that may fail
  pub fault_may : (nodes : Nodes) (client : List ℕ) (act : Act) (s : ℕ) → MayAnswer roots MayFail nodes client act (answer.Fault s) → MayFail s
  fault_may nodes client (Root name) s h = root_fault roots s h
  fault_may nodes client (Move way name from) s h = sought_fault s (nodes client from) h
  fault_may nodes client (Select name from label) s h = sought_fault s (nodes client from) h
  fault_may nodes client (Fetch from) s h = read_fault s (nodes client from) h
  fault_may nodes client (Print from) s h = printed_fault s (nodes client from) h
  fault_may nodes client (Id from) s h = spelled_fault s (nodes client from) h
  fault_may nodes client (At name node) s h = h

  -- an answer that may be given has a name for its source
  pub may_named : (count : ℕ) (nodes : Nodes) (client : List ℕ) (act : Act) (a : Answer) → ((s : ℕ) → MayFail s → s < count) → MayAnswer roots MayFail nodes client act a → IsNamed count a
  may_named count nodes client act answer.Node h may = tt
  may_named count nodes client act answer.None h may = tt
  may_named count nodes client act (answer.Label l) h may = tt
  may_named count nodes client act (answer.Text x) h may = tt
  may_named count nodes client act answer.NoNode h may = tt
  may_named count nodes client act (answer.Fault s) h may = h s (fault_may nodes client act s may)
  may_named count nodes client act (answer.Id x) h may = tt
  may_named count nodes client act answer.Foreign h may = tt

  -- an answer is no fault where no source that may fail has one among them
  unmarked_answer : (nodes : Nodes) (client : List ℕ) (act : Act) (a : Answer) (answers : List Answer) → MayAnswer roots MayFail nodes client act a → ((s : ℕ) → MayFail s → faults_of s (a ∷ answers) ≡ 0) → mark_of a ≡ None
  unmarked_answer nodes client act answer.Node answers may none = refl
  unmarked_answer nodes client act answer.None answers may none = refl
  unmarked_answer nodes client act (answer.Label l) answers may none = refl
  unmarked_answer nodes client act (answer.Text x) answers may none = refl
  unmarked_answer nodes client act answer.NoNode answers may none = refl
  unmarked_answer nodes client act (answer.Id x) answers may none = refl
  unmarked_answer nodes client act answer.Foreign answers may none = refl
  unmarked_answer nodes client act (answer.Fault s) answers may none = absurd (let h = none s (fault_may nodes client act s may) in itself (s == s) (own s) (faults_of s answers) h)
    where
      own : (n : ℕ) → (n == n) ≡ true
      own n = grind (arith, nat_tests)

      itself : (b : Bool) → b ≡ true → (more : ℕ) → cond b 1 0 + more ≡ 0 → ⊥
      itself true e more h = omega (arith, h)
      itself false e more h = absurd (false≢true e)

  -- there is no fault among answers where no source that may fail has one
  pub unmarked : (nodes : Nodes) (answers : List Answer) (steps : List Step) → AreAnswers roots MayFail nodes answers steps → ((s : ℕ) → MayFail s → faults_of s answers ≡ 0) → has_fault answers ≡ false
  unmarked nodes [] steps h none = refl
  unmarked nodes (a ∷ answers) [] h none = absurd h
  unmarked nodes (a ∷ answers) (step ∷ steps) h none =
      let first = unmarked_answer nodes step.client step.act a answers h.0 none in
      let later = unmarked (nodes_after nodes step.client step.act a) answers steps h.1 (λ s may. after (is_mark_of s (mark_of a)) (faults_of s answers) (none s may)) in
      ap (λ m. elim m as (λ _. Bool) [ None ↦ false | Some n ↦ true ] || has_fault answers) first ∙ later
    where
      after : (b : Bool) (more : ℕ) → cond b 1 0 + more ≡ 0 → more ≡ 0
      after b more e = omega (arith, e)

-- a count that rose where a test holds has risen by one where it holds, and else by nothing
counted_first : (b : Bool) (before now : ℕ) → before ≤ now → (b ≡ true → HasRisen before now) → HasRisenBy (cond b 1 0 + 0) before now
counted_first true before now h rose = let risen : HasRisen before now = rose refl in omega (arith, risen)
counted_first false before now h rose = omega arith

-- an answer's fault is counted where the count of its source rose
pub counted_answer : (before now : ℕ → ℕ) (a : Answer) → ((s : ℕ) → before s ≤ now s) → ((s : ℕ) → a ≡ answer.Fault s → HasRisen (before s) (now s)) → (s : ℕ) → HasRisenBy (faults_of s (a ∷ [])) (before s) (now s)
counted_answer before now answer.Node h rose s = let k = h s in omega (arith, k)
counted_answer before now answer.None h rose s = let k = h s in omega (arith, k)
counted_answer before now (answer.Label l) h rose s = let k = h s in omega (arith, k)
counted_answer before now (answer.Text x) h rose s = let k = h s in omega (arith, k)
counted_answer before now answer.NoNode h rose s = let k = h s in omega (arith, k)
counted_answer before now (answer.Id x) h rose s = let k = h s in omega (arith, k)
counted_answer before now answer.Foreign h rose s = let k = h s in omega (arith, k)
counted_answer before now (answer.Fault n) h rose s = counted_first (n == s) (before s) (now s) (h s) (λ e. subst (λ m. HasRisen (before m) (now m)) (same e) (rose n refl))
  where
    same : (n == s) ≡ true → n ≡ s
    same e = grind (arith, nat_tests)

-- answers with one more have as many faults of a source as they had, and that one's
pub faults_push : (s : ℕ) (answers : List Answer) (a : Answer) → faults_of s (answers ++ a ∷ []) ≡ faults_of s answers + faults_of s (a ∷ [])
faults_push s [] a = omega arith
faults_push s (x ∷ answers) a = omega (arith, faults_push s answers a)

-- there is a fault among answers with one more where there is one among them or that one is a fault
pub has_fault_push : (answers : List Answer) (a : Answer) → has_fault (answers ++ a ∷ []) ≡ has_fault answers || is_fault a
has_fault_push [] a = last (is_fault a)
  where
    last : (b : Bool) → b || false ≡ b
    last true = refl
    last false = refl
has_fault_push (x ∷ answers) a = ap (λ b. is_fault x || b) (has_fault_push answers a) ∙ sym (again (is_fault x) (has_fault answers) (is_fault a))
  where
    again : (x y z : Bool) → (x || y) || z ≡ x || (y || z)
    again true y z = refl
    again false y z = refl
