use Rattle.plan_forms.proofs.variables.+binds.Given as goal

abbrev pub decreases-binds : goal.decreases-binds
decreases-binds l = l.n
