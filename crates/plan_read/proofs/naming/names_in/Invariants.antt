use Rattle.std.proofs.Common.{◌≡◌, ◌<◌, ◌^◌, length, map, drop, filter, flat_map}
use Rattle.mix_words.specs.Words.{is_name}
use Rattle.plan_read.specs.Lines.{line_of}
use Rattle.plan_read.specs.Variables.{line_vars, with_new, names_in}
use Rattle.plan_read.proofs.naming.names_in.Given as goal

abbrev pub invariant-lines : goal.invariant-lines
invariant-lines l = record {
  few : length l.names < 2 ^ 32;
  all : with_new l.names (filter is_name (flat_map (λ x. line_vars x.text) (drop l.line-index (map line_of l.lines)))) ≡ names_in (map line_of l.lines);
}
