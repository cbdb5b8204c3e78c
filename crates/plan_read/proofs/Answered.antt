-- The answer of a text, from what its lines read as.
use Rattle.std.proofs.Common.{◌≡◌, ◌∙◌, ℕ, List, map, length, ap, subst}
use Rattle.std.specs.Str.{IsUtf8}
use Rattle.std.proofs.lemmas.List.{length-map}
use Rattle.mix_catalog.specs.declared.source.SourceSpec.{SourceSpec}
use Rattle.plan_core.specs.Plans.{PlanValue}
use Rattle.plan_core.specs.Valid.{IsValid}
use Rattle.plan_read.specs.Checks.{ops_of, ArePlain, AreWhole}
use Rattle.plan_read.specs.Drafts.{all_numbered, AreDrafts}
use Rattle.plan_read.specs.Lines.{Line, operator_lines}
use Rattle.plan_read.specs.Results.{RefusesOps, Refuses, IsTextOf}
use Rattle.plan_read.specs.Variables.{names_in, names_of}
use Rattle.plan_read.specs.declared.draft.Draft.{Draft}
use Rattle.plan_read.specs.declared.fault.PlanFault.{PlanFault}
use Rattle.plan_read.specs.declared.fault.PlanFault.TheVariants.{NotUtf8, TooMany, Number, UnknownSource, Positions, Variable, Invalid, End, Unused, NotSingle, OutOfMemory}
use Rattle.plan_read.specs.declared.fault.PlanFault.TheVariants as fault
use Rattle.plan_read.proofs.Drafted.{drafts_spelled}
use Rattle.plan_read.proofs.Whole.{whole_is_valid}

-- drafts of the lines of a text over its names
pub drafts_of : (text : List ℕ) (sources : List SourceSpec) (names : List (List ℕ)) (ls more : List Line) (ds : List Draft) → ls ≡ operator_lines text → names ≡ names_in ls → more ≡ operator_lines text
    → AreDrafts names sources more ds → AreDrafts (names_of text) sources (operator_lines text) ds
drafts_of text sources names ls more ds e n f a =
    subst (λ (ns : List (List ℕ)). AreDrafts ns sources (operator_lines text) ds) (n ∙ ap names_in e) (subst (λ (ms : List Line). AreDrafts names sources ms ds) f a)

module _ (text : List ℕ) (sources : List SourceSpec) (ds : List Draft) (utf8 : IsUtf8 text) (drafts : AreDrafts (names_of text) sources (operator_lines text) ds) where
  -- why operators are refused is why the text is
  pub refused_ops : (e : PlanFault) → RefusesOps (names_of text) sources (operator_lines text) (all_numbered ds) e → Refuses text sources e
  refused_ops (NotUtf8 at) r = absurd r
  refused_ops (fault.Line n) r = absurd r
  refused_ops (TooMany n) r = (all_numbered ds, (utf8, drafts_spelled (names_of text) sources (operator_lines text) ds drafts), r)
  refused_ops (Number n) r = (all_numbered ds, (utf8, drafts_spelled (names_of text) sources (operator_lines text) ds drafts), r)
  refused_ops (UnknownSource n) r = (all_numbered ds, (utf8, drafts_spelled (names_of text) sources (operator_lines text) ds drafts), r)
  refused_ops (Positions n) r = (all_numbered ds, (utf8, drafts_spelled (names_of text) sources (operator_lines text) ds drafts), r)
  refused_ops (Variable n) r = (all_numbered ds, (utf8, drafts_spelled (names_of text) sources (operator_lines text) ds drafts), r)
  refused_ops (Invalid n) r = (all_numbered ds, (utf8, drafts_spelled (names_of text) sources (operator_lines text) ds drafts), r)
  refused_ops End r = (all_numbered ds, (utf8, drafts_spelled (names_of text) sources (operator_lines text) ds drafts), r)
  refused_ops (Unused n) r = (all_numbered ds, (utf8, drafts_spelled (names_of text) sources (operator_lines text) ds drafts), r)
  refused_ops NotSingle r = (all_numbered ds, (utf8, drafts_spelled (names_of text) sources (operator_lines text) ds drafts), r)
  refused_ops OutOfMemory r = tt

  -- operators that pass all checks are those of a valid plan of the text
  pub read_whole : (p : PlanValue) → ArePlain (names_of text) sources (operator_lines text) (all_numbered ds) → AreWhole (all_numbered ds) → p.ops ≡ ops_of (all_numbered ds) → p.names ≡ names_of text
      → p.sources ≡ map (λ (s : SourceSpec). s.name) sources → IsTextOf text sources p × IsValid p
  read_whole p plain whole ops names of = (
    record {
      operators = all_numbered ds;
      spelled = (utf8, drafts_spelled (names_of text) sources (operator_lines text) ds drafts);
      plain = plain;
      ops = ops;
      names = names;
      of_catalog = of;
    },
    whole_is_valid.sound (names_of text) sources (operator_lines text) (all_numbered ds) p ops (ap length of ∙ length-map sources (λ (s : SourceSpec). s.name)) plain whole,
  )
