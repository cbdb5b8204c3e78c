-- What reading a plan answers: the plan that the text spells, where it is valid, or the first refusal.
use Rattle.std.specs.Prelude.{◌≡◌, ◌⊎◌, ℕ, List, map, length, Result, Ok, Err}
use Rattle.std.specs.Str.{IsUtf8}
use Rattle.std.specs.Str.Lossy.{utf8_valid_len}
use Rattle.mix_catalog.specs.declared.source.SourceSpec.{SourceSpec}
use Rattle.plan_core.specs.Plans.{PlanValue}
use Rattle.plan_core.specs.PlanMade.{plan_value}
use Rattle.plan_core.specs.Valid.{IsValid}
use Rattle.plan_core.specs.declared.plan.Plan.{Plan}
use Rattle.plan_read.specs.Checks.{ops_of, AreSpelled, AreFew, AreNumbered, AreKnown, AreShort, AreRanged, AreSound, Ends, AreUsed, IsSingle, ArePlain, AreWhole}
use Rattle.plan_read.specs.Grammar.{SpellLines}
use Rattle.plan_read.specs.Lines.{Line, operator_lines}
use Rattle.plan_read.specs.Reading.{Numbered}
use Rattle.plan_read.specs.Stops.{StopsAt}
use Rattle.plan_read.specs.Variables.{names_of}
use Rattle.plan_read.specs.declared.fault.PlanFault.{PlanFault}
use Rattle.plan_read.specs.declared.fault.PlanFault.TheVariants.{NotUtf8, TooMany, Number, UnknownSource, Positions, Variable, Invalid, End, Unused, NotSingle, OutOfMemory}
use Rattle.plan_read.specs.declared.fault.PlanFault.TheVariants as fault

-- the numbers of lines
abbrev pub numbers_of : List Line → List ℕ
numbers_of lines = map (λ (l : Line). l.number) lines

-- the text is UTF-8, and its lines that have operators spell these, one each
abbrev pub Spells : List ℕ → List SourceSpec → List Numbered → Type 0
Spells text sources ns = IsUtf8 text × SpellLines (names_of text) sources (operator_lines text) ns

-- why lines are refused one by one: the first that spells no operator
abbrev pub RefusesLine : List (List ℕ) → List SourceSpec → List Line → PlanFault → Type 0
RefusesLine names sources lines (fault.Line n) = StopsAt (AreSpelled names sources lines) (numbers_of lines) n
RefusesLine names sources lines OutOfMemory = Unit {0}
RefusesLine names sources lines e = ⊥

-- why operators that lines spell are refused: the first of these checks that they don't pass, with the first line at which they don't
abbrev pub RefusesOps : List (List ℕ) → List SourceSpec → List Line → List Numbered → PlanFault → Type 0
RefusesOps names sources lines ns (NotUtf8 at) = ⊥
RefusesOps names sources lines ns (fault.Line n) = ⊥
RefusesOps names sources lines ns (TooMany n) = StopsAt AreFew (numbers_of lines) n
RefusesOps names sources lines ns (Number n) = AreFew (length ns) × StopsAt (AreNumbered ns) (numbers_of lines) n
RefusesOps names sources lines ns (UnknownSource n) =
    AreFew (length ns) × AreNumbered ns (length ns) × StopsAt (AreKnown (length sources) ns) (numbers_of lines) n
RefusesOps names sources lines ns (Positions n) =
    AreFew (length ns) × AreNumbered ns (length ns) × AreKnown (length sources) ns (length ns) × StopsAt (AreShort ns) (numbers_of lines) n
RefusesOps names sources lines ns (Variable n) =
    AreFew (length ns) × AreNumbered ns (length ns) × AreKnown (length sources) ns (length ns) × AreShort ns (length ns)
    × StopsAt (AreRanged (length names) lines) (numbers_of lines) n
RefusesOps names sources lines ns (Invalid n) = ArePlain names sources lines ns × StopsAt (AreSound ns) (numbers_of lines) n
RefusesOps names sources lines ns End = ArePlain names sources lines ns × AreSound ns (length ns) × (Ends ns → ⊥)
RefusesOps names sources lines ns (Unused n) =
    ArePlain names sources lines ns × AreSound ns (length ns) × Ends ns × StopsAt (AreUsed ns) (numbers_of lines) n
RefusesOps names sources lines ns NotSingle =
    ArePlain names sources lines ns × AreSound ns (length ns) × Ends ns × AreUsed ns (length ns) × (IsSingle ns → ⊥)
RefusesOps names sources lines ns OutOfMemory = Unit {0}

-- operators that lines spell pass the checks of their lines alone, or it is said which check refuses them
abbrev pub LineChecks : List (List ℕ) → List SourceSpec → List Line → List Numbered → Result (Unit {0}) PlanFault → Type 0
LineChecks names sources lines ns (Ok u) = ArePlain names sources lines ns
LineChecks names sources lines ns (Err e) = RefusesOps names sources lines ns e

-- operators pass the checks of all lines together, or it is said which check refuses them
abbrev pub WholeChecks : List (List ℕ) → List SourceSpec → List Line → List Numbered → Result (Unit {0}) PlanFault → Type 0
WholeChecks names sources lines ns (Ok u) = AreWhole ns
WholeChecks names sources lines ns (Err e) = RefusesOps names sources lines ns e

-- operators that lines spell pass all checks, or it is said which check refuses them
abbrev pub Checks : List (List ℕ) → List SourceSpec → List Line → List Numbered → Result (Unit {0}) PlanFault → Type 0
Checks names sources lines ns (Ok u) = ArePlain names sources lines ns × AreWhole ns
Checks names sources lines ns (Err e) = RefusesOps names sources lines ns e

-- the lines that have operators spell some that are refused so
abbrev pub RefusesSpelled : List ℕ → List SourceSpec → PlanFault → Type 0
RefusesSpelled text sources e = (ns : List Numbered) × Spells text sources ns × RefusesOps (names_of text) sources (operator_lines text) ns e

-- why the text is no plan's
abbrev pub Refuses : List ℕ → List SourceSpec → PlanFault → Type 0
Refuses text sources (NotUtf8 at) = (¬ IsUtf8 text) × (at ≡ utf8_valid_len text)
Refuses text sources (fault.Line n) = IsUtf8 text × RefusesLine (names_of text) sources (operator_lines text) (fault.Line n)
Refuses text sources (TooMany n) = RefusesSpelled text sources (TooMany n)
Refuses text sources (Number n) = RefusesSpelled text sources (Number n)
Refuses text sources (UnknownSource n) = RefusesSpelled text sources (UnknownSource n)
Refuses text sources (Positions n) = RefusesSpelled text sources (Positions n)
Refuses text sources (Variable n) = RefusesSpelled text sources (Variable n)
Refuses text sources (Invalid n) = RefusesSpelled text sources (Invalid n)
Refuses text sources End = RefusesSpelled text sources End
Refuses text sources (Unused n) = RefusesSpelled text sources (Unused n)
Refuses text sources NotSingle = RefusesSpelled text sources NotSingle
Refuses text sources OutOfMemory = Unit {0}

-- the text is that of the plan over the sources of a catalog
pub record IsTextOf (text : List ℕ) (sources : List SourceSpec) (p : PlanValue) : Type 0 where
  pub operators : List Numbered
  pub spelled : Spells text sources operators
  pub plain : ArePlain (names_of text) sources (operator_lines text) operators
  pub ops : p.ops ≡ ops_of operators
  pub names : p.names ≡ names_of text
  pub of_catalog : p.sources ≡ map (λ (s : SourceSpec). s.name) sources

-- the plan of the text, which is valid, or why the text is no plan's
abbrev pub Answers : List ℕ → List SourceSpec → Result PlanValue PlanFault → Type 0
Answers text sources (Ok p) = IsTextOf text sources p × IsValid p
Answers text sources (Err e) = Refuses text sources e

-- the answer with the value of the plan
abbrev pub answer_of : Result Plan PlanFault → Result PlanValue PlanFault
answer_of (Ok p) = Ok (plan_value p)
answer_of (Err e) = Err e

-- the fault is want of memory
abbrev pub IsWantOfMemory : PlanFault → Type 0
IsWantOfMemory OutOfMemory = Unit {0}
IsWantOfMemory e = ⊥

-- the answers are the same, or one of them is want of memory
abbrev pub SameAnswer : Result PlanValue PlanFault → Result PlanValue PlanFault → Type 0
SameAnswer (Ok p) (Ok q) = p ≡ q
SameAnswer (Ok p) (Err f) = IsWantOfMemory f
SameAnswer (Err e) (Ok q) = IsWantOfMemory e
SameAnswer (Err e) (Err f) = (e ≡ f) ⊎ (IsWantOfMemory e ⊎ IsWantOfMemory f)
