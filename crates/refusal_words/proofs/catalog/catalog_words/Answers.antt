use Rattle.std.proofs.Common.{◌≡◌, ◌≤◌, ◌+◌, ◌∙◌, ◌⊎◌, length, ℕ, inl, inr, subst, sym, arith}
use Rattle.std.proofs.lemmas.Grind.{common_steps}
use Rattle.mix_catalog.specs.declared.fault.CatalogFault.{CatalogFault}
use Rattle.refusal_words.specs.Catalog.{BeginsLine, IsFaultPlace, LacksLine, line_at, line_of}
use Rattle.refusal_words.proofs.Counted.{front_one_line, line_further}
use Rattle.refusal_words.proofs.catalog.catalog_words.Goals as goal

pub returns : goal.returns
returns c =
    let text = c.args.text.now in
    let begin = c.line_begin-begin.result in
    let at = c.in_ok-at.at in
    let n = c.in-Line.field-0 in
    let within : at ≤ length c.first_line-line.result.now = c.in_ok-at.ensures.inside in
    let inside : begin + at ≤ length text = grind (arith, common_steps, within, c.first_line-line.ensures.within, c.line_begin-begin.ensures.within) in
    let further : line_at text (begin + at) ≡ line_at text begin =
    line_further text begin at inside (λ k from to. c.first_line-line.ensures.alone k from (omega (arith, to, within))) in
    let named : c.line_number.result ≡ n = rw c.in-Line.is at c.line_number.ensures in
    let begins : LacksLine text n ⊎ BeginsLine text n begin =
    subst (λ (m : ℕ). LacksLine text m ⊎ BeginsLine text m begin) named c.line_begin-begin.ensures.line in
    let place : LacksLine text n ⊎ (line_at text (begin + at) ≡ n) = elim begins [
      | inl none ↦ inl none
      | inr is ↦ inr (further ∙ is.0)
    ] in
    let fault = subst (λ (e : CatalogFault). LacksLine text (line_of e) ⊎ IsFaultPlace text e (begin + at)) (sym c.in-Line.is) place in
    (begin + at, fault, c.in_ok-words-2.words.items, c.in_ok-words-2.ensures, c.deref.result.now, c.in_ok-extend_from_slice-2.ensures.items)

pub next_lines-requires : goal.next_lines-requires
next_lines-requires c = front_one_line c.in_ok-at.at c.first_line-line.result.now c.in_ok-at.ensures.inside c.first_line-line.ensures.one
