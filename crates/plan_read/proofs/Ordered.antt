-- A written plan whose names stand in the order in which its text first has them is read as itself.
use Rattle.std.proofs.Common.{◌≡◌, ◌<◌, ◌≤◌, ◌+◌, ◌^◌, ◌∙◌, ℕ, suc, List, [], ◌∷◌, refl, sym, ap, subst, arith, length, map, filter, take}
use Rattle.std.specs.Prelude.{Ok}
use Rattle.std.specs.List.{AllByRecursion}
use Rattle.std.specs.Str.{IsUtf8}
use Rattle.std.proofs.lemmas.List.{length-map, take_all}
use Rattle.mix_base.proofs.Firsts.{each_weaker}
use Rattle.mix_words.specs.Words.{is_name}
use Rattle.mix_catalog.specs.Sources.{AreNumbered}
use Rattle.mix_catalog.specs.declared.source.SourceSpec.{SourceSpec}
use Rattle.plan_core.specs.PlanText as plan_text
use Rattle.plan_core.specs.Plans.{Operator, PlanValue}
use Rattle.plan_core.specs.Shapes.{shape_of}
use Rattle.plan_core.specs.Valid.{kinds, IsFit, HaveSmallerInputs, inputs_of, HasSource, IsValid}
use Rattle.plan_read.specs.Checks.{ops_of, CountFrom, IsShort, IsRanged, AreRanged}
use Rattle.plan_read.specs.Grammar.{SpellLines, op_parts}
use Rattle.plan_read.specs.Lines.{Line, operator_lines}
use Rattle.plan_read.specs.Reading.{Numbered}
use Rattle.plan_read.specs.Results.{Answers}
use Rattle.plan_read.specs.Variables.{with_new, names_in, names_of}
use Rattle.plan_read.specs.Writable.{op_vars, vars_of, IsWritten, AreNames, names_said}
use Rattle.plan_read.proofs.Decided.{fit_is_decided}
use Rattle.plan_read.proofs.KnownParts.{each_first, each_second, op_known, all_good}
use Rattle.plan_read.proofs.Revalid.{inside_all}
use Rattle.plan_read.proofs.WrittenLines.{numbered_from, laid, AllGood, text_laid, laid_spelled, laid_read, laid_ranged, text_utf8, names_read}

-- operators with their numbers are as many as without
numbered_many : (n : ℕ) (ops : List Operator) → length (numbered_from n ops) ≡ length ops
numbered_many n [] = refl
numbered_many n (op ∷ ops) = ap suc (numbered_many (suc n) ops)

-- operators with their numbers are those operators
numbered_ops : (n : ℕ) (ops : List Operator) → ops_of (numbered_from n ops) ≡ ops
numbered_ops n [] = refl
numbered_ops n (op ∷ ops) = ap (λ os. op ∷ os) (numbered_ops (suc n) ops)

-- operators with their numbers count up
numbered_count : (n : ℕ) (ops : List Operator) → CountFrom n (numbered_from n ops)
numbered_count n [] = tt
numbered_count n (op ∷ ops) = (refl, numbered_count (suc n) ops)

-- what holds of each variable of operators holds of each one's
split_vars : (ops : List Operator) → AllByRecursion (λ v. v < 2 ^ 32) (vars_of ops) → AllByRecursion (λ op. AllByRecursion (λ v. v < 2 ^ 32) (op_vars op)) ops
split_vars [] h = tt
split_vars (op ∷ ops) h = (each_first (λ v. v < 2 ^ 32) (op_vars op) (vars_of ops) h, split_vars ops (each_second (λ v. v < 2 ^ 32) (op_vars op) (vars_of ops) h))

module _ (sources : List SourceSpec) (catalog : AreNumbered sources) (p : PlanValue) (are : AreNames p.names) (of : p.sources ≡ map (λ (s : SourceSpec). s.name) sources) (vars : AllByRecursion (λ v. v < 2 ^ 32) (vars_of p.ops)) (parts : AllByRecursion (λ op. AllByRecursion IsWritten (op_parts op)) p.ops) (valid : IsValid p) (few : length p.ops ≤ 10000) where
  -- the names of the sources of the catalog
  abbrev spec_names : List (List ℕ)
  spec_names = map (λ (s : SourceSpec). s.name) sources

  -- the operators of the plan with their numbers
  abbrev ns : List Numbered
  ns = numbered_from 0 p.ops

  -- the lines of the operators, the first in line 1
  abbrev lines : List Line
  lines = laid sources catalog p.names are 1 0 p.ops

  -- the plan has as many sources as the catalog
  many_sources : length p.sources ≡ length sources
  many_sources = ap length of ∙ length-map sources (λ (s : SourceSpec). s.name)

  -- each source is one of the catalog's
  known : AllByRecursion (HasSource (length sources)) p.ops
  known = subst (λ n. AllByRecursion (HasSource n) p.ops) many_sources valid.sources

  -- each input is small
  small : AllByRecursion (λ op. AllByRecursion (λ i. i < 4294967295) (inputs_of op)) p.ops
  small =
      each_weaker (λ op. AllByRecursion (λ i. i < length p.ops) (inputs_of op)) (λ op. AllByRecursion (λ i. i < 4294967295) (inputs_of op))
      (λ op h. each_weaker (λ i. i < length p.ops) (λ i. i < 4294967295) (λ i l. wide i (length p.ops) l few) (inputs_of op) h) p.ops (inside_all p.ops 0 (length p.ops) (omega arith) valid.smaller)
    where
      wide : (i n : ℕ) → i < n → n ≤ 10000 → i < 4294967295
      wide i n l h = omega (arith, l, h)

  -- operators with small inputs, known sources, parts that are written and variables of 32 bits have parts that words spell
  good_all : (ops : List Operator) → AllByRecursion (λ op. AllByRecursion (λ i. i < 4294967295) (inputs_of op)) ops → AllByRecursion (HasSource (length sources)) ops
      → AllByRecursion (λ op. AllByRecursion IsWritten (op_parts op)) ops → AllByRecursion (λ op. AllByRecursion (λ v. v < 2 ^ 32) (op_vars op)) ops → AllGood sources catalog p.names are ops
  good_all [] s k w v = tt
  good_all (op ∷ ops) s k w v = (all_good sources catalog p.names are (op_parts op) (op_known sources catalog p.names are op s.0 k.0) w.0 v.0, good_all ops s.1 k.1 w.1 v.1)

  -- the operators of the plan have parts that words spell
  good : AllGood sources catalog p.names are p.ops
  good = good_all p.ops small known parts (split_vars p.ops vars)

  -- the text by the names of the catalog
  text_is : plan_text.plan_text p ≡ plan_text.lines_from p.names spec_names 0 p.ops
  text_is = ap (λ ss. plan_text.lines_from p.names ss 0 p.ops) of

  -- the operators from number 0 on are at most 10,000
  inside : 0 + length p.ops ≤ 10000
  inside = omega (arith, few)

  -- the lines of the text
  text_lines : operator_lines (plan_text.plan_text p) ≡ lines
  text_lines = ap operator_lines text_is ∙ text_laid sources catalog p.names are p.ops few good

  -- the names of the text are those that are said, in order
  pub text_names : names_of (plan_text.plan_text p) ≡ names_said p
  text_names =
      ap names_in text_lines ∙ ap (λ xs. with_new [] (filter is_name xs)) (laid_read sources catalog p.names are 1 0 p.ops inside good)
      ∙ ap (with_new []) (names_read sources catalog p.names are (vars_of p.ops) vars)

  -- as many operators with their numbers as there are, are all
  take_ns : take (length ns) ns ≡ ns
  take_ns = take_all (length ns) ns (omega arith)

  -- as many operators as there are, are all
  take_ops : take (length ns) (ops_of ns) ≡ p.ops
  take_ops = ap (λ os. take (length ns) os) (numbered_ops 0 p.ops) ∙ take_all (length ns) p.ops (let m = numbered_many 0 p.ops in omega (arith, m))

  -- each path of the plan is short
  short : AllByRecursion (λ op. IsShort (shape_of op)) p.ops
  short = each_weaker (λ op. IsFit op (kinds p.ops)) (λ op. IsShort (shape_of op)) (λ op h. (fit_is_decided.complete op (kinds p.ops) h).0) p.ops valid.fit

  -- of lines whose variables are in range, the first ones have theirs in range
  ranged_few : (n : ℕ) (ls : List Line) → AllByRecursion (IsRanged (length p.names)) ls → AllByRecursion (IsRanged (length p.names)) (take n ls)
  ranged_few ℕ.zero ls h = tt
  ranged_few (suc n) [] h = tt
  ranged_few (suc n) (l ∷ ls) h = (h.0, ranged_few n ls h.1)

  -- a plan whose names are said in their order is read as it is
  pub read_ordered : names_said p ≡ p.names → Answers (plan_text.plan_text p) sources (Ok p)
  read_ordered ordered =
      let names = text_names ∙ ordered in (
        record {
          operators = ns;
          spelled = (
            subst IsUtf8 (sym text_is) (text_utf8 sources catalog p.names are 0 p.ops inside good),
            subst (λ xs. SpellLines xs sources (operator_lines (plan_text.plan_text p)) ns) (sym names)
                (subst (λ ls. SpellLines p.names sources ls ns) (sym text_lines) (laid_spelled sources catalog p.names are 1 0 p.ops inside good)),
          );
          plain = record {
            few = (let m = numbered_many 0 p.ops in omega (arith, m, few));
            numbered = record { counted = subst (CountFrom 0) (sym take_ns) (numbered_count 0 p.ops); smaller = subst (HaveSmallerInputs 0) (sym take_ops) valid.smaller };
            known = subst (AllByRecursion (HasSource (length sources))) (sym take_ops) known;
            short = subst (AllByRecursion (λ op. IsShort (shape_of op))) (sym take_ops) short;
            ranged =
                subst (λ xs. AreRanged (length xs) (operator_lines (plan_text.plan_text p)) (length ns)) (sym names)
                (subst (λ ls. AreRanged (length p.names) ls (length ns)) (sym text_lines)
                (ranged_few (length ns) lines (laid_ranged sources catalog p.names are 1 0 p.ops inside good (split_vars p.ops vars))));
          };
          ops = sym (numbered_ops 0 p.ops);
          names = sym names;
          of_catalog = of;
        },
        valid,
      )
