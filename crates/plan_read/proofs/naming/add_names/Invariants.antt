use Rattle.std.proofs.Common.{◌≡◌, ◌<◌, ◌^◌, length, map, drop, filter}
use Rattle.mix_words.specs.Words.{is_name}
use Rattle.plan_read.specs.Variables.{line_vars, with_new}
use Rattle.plan_read.proofs.naming.add_names.Given as goal

abbrev pub invariant-vars : goal.invariant-vars
invariant-vars l = record {
  few : length l.names < 2 ^ 32;
  all : with_new l.names (filter is_name (drop l.var-index (map (λ x. x.now) l.var-items))) ≡ with_new l.fn.names (filter is_name (line_vars l.line));
}
