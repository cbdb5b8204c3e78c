use Rattle.std.proofs.Common.{◌≡◌, ◌∙◌, List, ℕ, sym, subst}
use Rattle.csv_wrap.specs.Csv.{IsFile}
use Rattle.mix_load.specs.People.{people, people_columns}
use Rattle.mix_load.proofs.Opened.{refused_by}
use Rattle.mix_load.proofs.source.people_document.Goals as goal

pub returns-clause-refused : goal.returns-clause-refused
returns-clause-refused c =
    let rows = people c.args.count in
    let columns : c.deref-2.result.now ≡ people_columns = c.deref-2.ensures.value ∙ c.in_ok-columns.ensures in
    let text = subst (λ (x : List ℕ). IsFile x people_columns rows) (sym c.deref.ensures.value) c.in_ok-text.ensures.file in
    let file = subst (λ (cs : List (List ℕ)). IsFile c.deref.result.now cs rows) (sym columns) text in
    refused_by c.deref.result.now c.deref-2.result.now rows file c.open.result c.open.ensures.refused
