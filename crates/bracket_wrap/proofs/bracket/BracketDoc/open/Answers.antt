use Rattle.document_store.proofs.Nested.{document_some, low, nested}
use Rattle.document_store.proofs.Reading.{read_root}
use Rattle.bracket_wrap.proofs.bracket.BracketDoc.open.Goals as goal

pub invariant_of-result : goal.invariant_of-result
invariant_of-result c =
    let t = c.requires.shallow in
    record {
      some = c.requires.some;
      rooted = document_some c.args.nodes t.0 t.1;
      givable = record {
        nested = nested c.args.nodes t.0 t.1;
        low = low c.args.nodes t.0 t.1 t.2;
        bounded = c.bounds.ensures;
      };
    }

pub returns-clause-document : goal.returns-clause-document
returns-clause-document c = λ root e. read_root c.args.nodes root e
