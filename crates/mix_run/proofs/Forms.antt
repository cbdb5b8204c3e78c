-- What is so of the forms of a run is so of one of them.
use Rattle.std.proofs.Common.{◌≡◌, ◌⊎◌, inl, inr, sym, subst}
use Rattle.mix_run.specs.declared.running.RunForm.{RunForm}
use Rattle.mix_run.specs.declared.running.RunForm.TheVariants.{Answers, Counts, Looped}

-- what is so of two forms is so of a form that is one of them
pub of_either : (P : RunForm → Type 0) (form one other : RunForm) → (form ≡ one) ⊎ (form ≡ other) → P one → P other → P form
of_either P form one other (inl e) a b = subst P (sym e) a
of_either P form one other (inr e) a b = subst P (sym e) b

-- what is so of the three forms of a run of a view is so of a form that is one of them
pub of_views : (P : RunForm → Type 0) (form : RunForm) → (form ≡ Answers) ⊎ ((form ≡ Counts) ⊎ (form ≡ Looped)) → P Answers → P Counts → P Looped → P form
of_views P form (inl e) a b c = subst P (sym e) a
of_views P form (inr (inl e)) a b c = subst P (sym e) b
of_views P form (inr (inr e)) a b c = subst P (sym e) c
