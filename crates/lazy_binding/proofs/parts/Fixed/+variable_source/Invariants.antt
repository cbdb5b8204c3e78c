use Rattle.lazy_binding.proofs.parts.Fixed.+variable_source.Given as goal

abbrev pub decreases-variable_source : goal.decreases-variable_source
decreases-variable_source l = l.n
