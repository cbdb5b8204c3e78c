-- Two answers of one text are the same, or one of them is want of memory.
use Rattle.std.proofs.Common.{◌≡◌, ◌⊎◌, inl, inr, ◌∙◌, ℕ, suc, List, [], ◌∷◌, Ok, Err, refl, sym, ap, subst, map, length}
use Rattle.std.specs.Str.{IsUtf8}
use Rattle.std.specs.Str.Lossy.{utf8_valid_len}
use Rattle.mix_base.proofs.Choices.{some_is}
use Rattle.mix_catalog.specs.declared.source.SourceSpec.{SourceSpec}
use Rattle.plan_core.specs.Plans.{Operator, PlanValue}
use Rattle.plan_core.specs.Valid.{IsValid}
use Rattle.plan_read.specs.Checks.{ops_of, AreSpelled, AreFew, AreNumbered, AreKnown, AreShort, AreRanged, AreSound, Ends, AreUsed, IsSingle, ArePlain, AreWhole}
use Rattle.plan_read.specs.Grammar.{SpellsLine, SpellLines}
use Rattle.plan_read.specs.Lines.{Line, operator_lines}
use Rattle.plan_read.specs.Reading.{Numbered}
use Rattle.plan_read.specs.Results.{numbers_of, Spells, RefusesOps, Refuses, IsTextOf, Answers, IsWantOfMemory, SameAnswer}
use Rattle.plan_read.specs.Variables.{names_of}
use Rattle.plan_read.specs.declared.fault.PlanFault.{PlanFault}
use Rattle.plan_read.specs.declared.fault.PlanFault.TheVariants.{NotUtf8, TooMany, Number, UnknownSource, Positions, Variable, Invalid, End, Unused, NotSingle, OutOfMemory}
use Rattle.plan_read.specs.declared.fault.PlanFault.TheVariants as fault
use Rattle.plan_read.proofs.Fewer.{spelled_closed, few_closed, numbered_closed, known_closed, short_closed, ranged_closed, sound_closed, used_closed}
use Rattle.plan_read.proofs.Outcomes.{Outcome, IsOne, Each, Whole, one_each, one_whole}
use Rattle.plan_read.proofs.ReadLines.{spelled_reads}
use Rattle.plan_read.proofs.Whole.{whole_is_valid}

-- the outcome is a plan of these operators, names and sources
abbrev IsPlan : List (List ℕ) → List SourceSpec → List Numbered → Outcome → Type 0
IsPlan names sources ns a = a ≡ Ok (record { ops = ops_of ns; names = names; sources = map (λ (s : SourceSpec). s.name) sources })

-- a plan of one list of operators is one
one_plan : (names : List (List ℕ)) (sources : List SourceSpec) (ns : List Numbered) → IsOne (IsPlan names sources ns)
one_plan names sources ns a b e f = e ∙ sym f

module _ (names : List (List ℕ)) (sources : List SourceSpec) (lines : List Line) where
  -- what the checks of all operators together come to
  abbrev TogetherTo : List Numbered → Outcome → Type 0
  TogetherTo ns =
      Each (AreSound ns) (numbers_of lines) Invalid
      (Whole (Ends ns) End (Each (AreUsed ns) (numbers_of lines) Unused (Whole (IsSingle ns) NotSingle (IsPlan names sources ns))))

  -- what all checks of operators come to
  abbrev ComeTo : List Numbered → Outcome → Type 0
  ComeTo ns =
      Each AreFew (numbers_of lines) TooMany
      (Each (AreNumbered ns) (numbers_of lines) Number
      (Each (AreKnown (length sources) ns) (numbers_of lines) UnknownSource
      (Each (AreShort ns) (numbers_of lines) Positions (Each (AreRanged (length names) lines) (numbers_of lines) Variable (TogetherTo ns)))))

  -- the checks of operators come to one outcome
  one_come : (ns : List Numbered) → IsOne (ComeTo ns)
  one_come ns =
      let numbers = numbers_of lines in
      let single = one_whole (IsSingle ns) NotSingle (IsPlan names sources ns) (one_plan names sources ns) in
      let used = one_each (AreUsed ns) numbers Unused _ (used_closed ns) single in
      let ends = one_whole (Ends ns) End _ used in
      let sound = one_each (AreSound ns) numbers Invalid _ (sound_closed ns) ends in
      let ranged = one_each (AreRanged (length names) lines) numbers Variable _ (ranged_closed (length names) lines) sound in
      let short = one_each (AreShort ns) numbers Positions _ (short_closed ns) ranged in
      let known = one_each (AreKnown (length sources) ns) numbers UnknownSource _ (known_closed (length sources) ns) short in
      let numbered = one_each (AreNumbered ns) numbers Number _ (numbered_closed ns) known in
      one_each AreFew numbers TooMany _ few_closed numbered

  -- a line spells one operator
  one_line : (l : Line) (m n : Numbered) → SpellsLine names sources l.text m → SpellsLine names sources l.text n → m ≡ n
  one_line l m n s t = some_is m n (sym (spelled_reads names sources l.text m s) ∙ spelled_reads names sources l.text n t)

  -- lines spell one list of operators
  one_spelled : (ls : List Line) (ms ns : List Numbered) → SpellLines names sources ls ms → SpellLines names sources ls ns → ms ≡ ns
  one_spelled [] [] [] s t = refl
  one_spelled [] [] (n ∷ ns) s t = absurd t
  one_spelled [] (m ∷ ms) ns s t = absurd s
  one_spelled (l ∷ ls) [] ns s t = absurd s
  one_spelled (l ∷ ls) (m ∷ ms) [] s t = absurd t
  one_spelled (l ∷ ls) (m ∷ ms) (n ∷ ns) s t = ap (λ k. k ∷ ms) (one_line l m n s.0 t.0) ∙ ap (λ ks. n ∷ ks) (one_spelled ls ms ns s.1 t.1)

  -- what lines come to by the operators that they spell
  abbrev LinesTo : Outcome → Type 0
  LinesTo a = (ns : List Numbered) × SpellLines names sources lines ns × ComeTo ns a

  -- by the operators that they spell, lines come to one outcome
  one_lines : IsOne LinesTo
  one_lines a b s t = one_come t.0 a b (subst (λ ns. ComeTo ns a) (one_spelled lines s.0 t.0 s.1 t.1) s.2) t.2

  -- there are as many lines as operators that they spell
  many_spelled : (ls : List Line) (ns : List Numbered) → SpellLines names sources ls ns → length ns ≡ length (numbers_of ls)
  many_spelled [] [] s = refl
  many_spelled [] (n ∷ ns) s = absurd s
  many_spelled (l ∷ ls) [] s = absurd s
  many_spelled (l ∷ ls) (n ∷ ns) s = ap suc (many_spelled ls ns s.1)

  -- lines that spell operators spell one each
  each_spelled : (ls : List Line) (ns : List Numbered) → SpellLines names sources ls ns → AreSpelled names sources ls (length (numbers_of ls))
  each_spelled [] ns s = tt
  each_spelled (l ∷ ls) [] s = absurd s
  each_spelled (l ∷ ls) (n ∷ ns) s = ((n, s.0), each_spelled ls ns s.1)

  module _ (ns : List Numbered) (many : length ns ≡ length (numbers_of lines)) where
    -- what holds of all operators holds of as many as there are lines
    all : (P : ℕ → Type 0) → P (length ns) → P (length (numbers_of lines))
    all P h = subst P many h

    -- operators that pass the checks of their lines come to what the other checks do
    past_plain : (a : Outcome) → ArePlain names sources lines ns → TogetherTo ns a → ComeTo ns a
    past_plain a p r =
        inr (
          all AreFew p.few,
          inr (
            all (AreNumbered ns) p.numbered,
            inr (
              all (AreKnown (length sources) ns) p.known,
              inr (all (AreShort ns) p.short, inr (all (AreRanged (length names) lines) p.ranged, r)),
            ),
          ),
        )

    -- why operators are refused is what the checks come to
    refused_come : (e : PlanFault) → RefusesOps names sources lines ns e → IsWantOfMemory e ⊎ ComeTo ns (Err e)
    refused_come (NotUtf8 at) r = absurd r
    refused_come (fault.Line n) r = absurd r
    refused_come (TooMany n) r = inr (inl (n, r, refl))
    refused_come (Number n) r = inr (inr (all AreFew r.0, inl (n, r.1, refl)))
    refused_come (UnknownSource n) r = inr (inr (all AreFew r.0, inr (all (AreNumbered ns) r.1, inl (n, r.2, refl))))
    refused_come (Positions n) r =
        inr (inr (all AreFew r.0, inr (all (AreNumbered ns) r.1, inr (all (AreKnown (length sources) ns) r.2, inl (n, r.3, refl)))))
    refused_come (Variable n) r =
        inr (inr (
          all AreFew r.0,
          inr (
            all (AreNumbered ns) r.1,
            inr (
              all (AreKnown (length sources) ns) r.2,
              inr (all (AreShort ns) r.3, inl (n, r.4, refl)),
            ),
          ),
        ))
    refused_come (Invalid n) r = inr (past_plain (Err (Invalid n)) r.0 (inl (n, r.1, refl)))
    refused_come End r = inr (past_plain (Err End) r.0 (inr (all (AreSound ns) r.1, inl (r.2, refl))))
    refused_come (Unused n) r = inr (past_plain (Err (Unused n)) r.0 (inr (all (AreSound ns) r.1, inr (r.2, inl (n, r.3, refl)))))
    refused_come NotSingle r = inr (past_plain (Err NotSingle) r.0 (inr (all (AreSound ns) r.1, inr (r.2, inr (all (AreUsed ns) r.3, inl (r.4, refl))))))
    refused_come OutOfMemory r = inl tt

    -- a plan of operators that are plain and whole is what the checks come to
    plan_come : (p : PlanValue) → ArePlain names sources lines ns → AreWhole ns → p ≡ record { ops = ops_of ns; names = names; sources = map (λ (s : SourceSpec). s.name) sources } → ComeTo ns (Ok p)
    plan_come p plain whole e = past_plain (Ok p) plain (inr (all (AreSound ns) whole.sound, inr (whole.ends, inr (all (AreUsed ns) whole.used, inr (whole.single, ap Ok e)))))

module _ (text : List ℕ) (sources : List SourceSpec) where
  -- the names of the text
  abbrev names : List (List ℕ)
  names = names_of text

  -- the lines of the text that have operators
  abbrev lines : List Line
  lines = operator_lines text

  -- what a text comes to
  abbrev TextTo : Outcome → Type 0
  TextTo = Whole (IsUtf8 text) (NotUtf8 (utf8_valid_len text)) (Each (AreSpelled names sources lines) (numbers_of lines) fault.Line (LinesTo names sources lines))

  -- a text comes to one outcome
  one_text : IsOne TextTo
  one_text =
      one_whole (IsUtf8 text) (NotUtf8 (utf8_valid_len text)) _
      (one_each (AreSpelled names sources lines) (numbers_of lines) fault.Line _ (spelled_closed names sources lines) (one_lines names sources lines))

  -- a text whose lines spell operators comes to what these come to
  spelled_text : (a : Outcome) (ns : List Numbered) → Spells text sources ns → ComeTo names sources lines ns a → TextTo a
  spelled_text a ns s c = inr (s.0, inr (each_spelled names sources lines lines ns s.1, (ns, s.1, c)))

  -- why a text is refused by its operators is what it comes to
  refused_spelled : (e : PlanFault) (ns : List Numbered) → Spells text sources ns → RefusesOps names sources lines ns e → IsWantOfMemory e ⊎ TextTo (Err e)
  refused_spelled e ns s r = elim (refused_come names sources lines ns (many_spelled names sources lines lines ns s.1) e r) [
    | inl m ↦ inl m
    | inr c ↦ inr (spelled_text (Err e) ns s c)
  ]

  -- why a text is refused is what it comes to
  refused_text : (e : PlanFault) → Refuses text sources e → IsWantOfMemory e ⊎ TextTo (Err e)
  refused_text (NotUtf8 at) r = inr (inl (r.0, ap (λ n. Err (NotUtf8 n)) r.1))
  refused_text (fault.Line n) r = inr (inr (r.0, inl (n, r.1, refl)))
  refused_text (TooMany n) r = refused_spelled (TooMany n) r.0 r.1 r.2
  refused_text (Number n) r = refused_spelled (Number n) r.0 r.1 r.2
  refused_text (UnknownSource n) r = refused_spelled (UnknownSource n) r.0 r.1 r.2
  refused_text (Positions n) r = refused_spelled (Positions n) r.0 r.1 r.2
  refused_text (Variable n) r = refused_spelled (Variable n) r.0 r.1 r.2
  refused_text (Invalid n) r = refused_spelled (Invalid n) r.0 r.1 r.2
  refused_text End r = refused_spelled End r.0 r.1 r.2
  refused_text (Unused n) r = refused_spelled (Unused n) r.0 r.1 r.2
  refused_text NotSingle r = refused_spelled NotSingle r.0 r.1 r.2
  refused_text OutOfMemory r = inl tt

  -- a valid plan of a text is what it comes to
  plan_text : (p : PlanValue) → IsTextOf text sources p → IsValid p → TextTo (Ok p)
  plan_text p t v =
      let ns = t.operators in
      let parts : p ≡ record { ops = ops_of ns; names = names; sources = map (λ (s : SourceSpec). s.name) sources } = plan_is p.ops (ops_of ns) p.names names p.sources _ t.ops t.names t.of_catalog in
      spelled_text (Ok p) ns t.spelled
      (plan_come names sources lines ns (many_spelled names sources lines lines ns t.spelled.1) p t.plain (whole_is_valid.complete ns p t.ops v) parts)
    where
      plan_is : (ops ops' : List Operator) (ns ns' ss ss' : List (List ℕ)) → ops ≡ ops' → ns ≡ ns' → ss ≡ ss'
          → ◌≡◌ {A = PlanValue} (record { ops = ops; names = ns; sources = ss }) (record { ops = ops'; names = ns'; sources = ss' })
      plan_is ops ops' ns ns' ss ss' e f g =
          ap (λ o. record { ops = o; names = ns; sources = ss }) e ∙ ap (λ n. record { ops = ops'; names = n; sources = ss }) f ∙ ap (λ s. record { ops = ops'; names = ns'; sources = s }) g

  -- the outcome is want of memory
  abbrev IsWant : Outcome → Type 0
  IsWant (Ok p) = ⊥
  IsWant (Err e) = IsWantOfMemory e

  -- what is answered for a text is what it comes to, or want of memory
  answer_text : (a : Outcome) → Answers text sources a → IsWant a ⊎ TextTo a
  answer_text (Ok p) (t, v) = inr (plan_text p t v)
  answer_text (Err e) r = refused_text e r

  -- an answer is the same as itself
  same_self : (a : Outcome) → SameAnswer a a
  same_self (Ok p) = refl
  same_self (Err e) = inl refl

  -- want of memory agrees with any other answer
  first_wants : (a b : Outcome) → IsWant a → SameAnswer a b
  first_wants (Ok p) b h = absurd h
  first_wants (Err e) (Ok q) h = h
  first_wants (Err e) (Err f) h = inr (inl h)

  -- any answer agrees with want of memory
  second_wants : (a b : Outcome) → IsWant b → SameAnswer a b
  second_wants a (Ok q) h = absurd h
  second_wants (Ok p) (Err f) h = h
  second_wants (Err e) (Err f) h = inr (inr h)

  -- two answers of a text are the same, or one of them is want of memory
  pub same_answers : (a b : Outcome) → Answers text sources a → Answers text sources b → SameAnswer a b
  same_answers a b x y = elim (answer_text a x) [
    | inl m ↦ first_wants a b m
    | inr s ↦ elim (answer_text b y) [
      | inl m ↦ second_wants a b m
      | inr t ↦ subst (SameAnswer a) (one_text a b s t) (same_self a)
    ]
  ]
