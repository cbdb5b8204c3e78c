use Rattle.lazy_site.proofs.Having.{valid_document}
use Rattle.lazy_walk.proofs.law.valid_plans_have_documents.Goals as goal

pub returns : goal.returns
returns c = λ p valid docs. valid_document p (c.valid_plans_are_typed.ensures p valid) (c.tolled_is_document.ensures p) valid docs
