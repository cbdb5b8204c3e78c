use Rattle.std.proofs.Common.{◌≡◌, ◌∙◌, sym, ap, subst, get_or, arith}
use Rattle.std.proofs.lemmas.List.{length-map}
use Rattle.join_memo.specs.Kept.{labels_of}
use Rattle.join_memo.proofs.Searches.{label_there, last_has, last_lacks}
use Rattle.join_memo.proofs.memo.Memo.find_last.Goals as goal

pub returns-in-Some : goal.returns-in-Some
returns-in-Some g c =
    let pairs : c.deref.result.now ≡ c.args.self.now.pairs = c.deref.ensures.value ∙ ap (λ v. v.pairs) c.self.view_is in
    let has = label_there c.args.self.now.pairs c.args.last c.in-Some.pair.now (omega (arith, c.requires)) (subst (λ ps. c.in-Some.pair.now ≡ get_or ps c.args.last c.in-Some.pair.now) pairs c.in-Some.ensures.lookup.1) in
    last_has (labels_of c.args.self.now.pairs) c.in-Some.pair.now.0 c.args.key.now c.args.last has (sym c.if-same_label.ensures)

pub returns-in_default : goal.returns-in_default
returns-in_default g c =
    let pairs : c.deref.result.now ≡ c.args.self.now.pairs = c.deref.ensures.value ∙ ap (λ v. v.pairs) c.self.view_is in
    let has = label_there c.args.self.now.pairs c.args.last c.in-Some.pair.now (omega (arith, c.requires)) (subst (λ ps. c.in-Some.pair.now ≡ get_or ps c.args.last c.in-Some.pair.now) pairs c.in-Some.ensures.lookup.1) in
    last_lacks (labels_of c.args.self.now.pairs) c.in-Some.pair.now.0 c.args.key.now c.args.last (omega (arith, c.requires, length-map c.args.self.now.pairs (λ p. p.0))) has (sym c.if-same_label.ensures)
