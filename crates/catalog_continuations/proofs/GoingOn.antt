-- A line that is tried goes on behind its front.
use Rattle.std.proofs.Common.{ℕ, List, ◌++◌, refl, inl, inr, codes, drop}
use Rattle.catalog_continuations.specs.declared.line_form.LineForm.{LineForm}
use Rattle.catalog_continuations.specs.Forms.{words_in}
use Rattle.catalog_continuations.specs.GoesOn.{FittingGoOn, GoesOn, GoesOnWith, spelled}

-- some line begins with a front with which the last words of a form are a line
pub fitting_go_on : FittingGoOn
fitting_go_on = λ front h. by_line front h.0 h.1.0 h.1.2
  where
    by_line : (front : List ℕ) (form : LineForm) (passed : ℕ) → GoesOnWith front (drop passed (words_in form)) → GoesOn front
    by_line front form passed (inl line) = record { rest = codes " " ++ spelled (drop passed (words_in form)); apart = refl; line = line }
    by_line front form passed (inr line) = record { rest = codes " \" " ++ spelled (drop passed (words_in form)); apart = refl; line = line }
