use Rattle.std.proofs.Common.{◌≡◌, ◌∙◌, ◌-◌, ap, sym, subst, arith, length, min, take, drop, ◌++◌}
use Rattle.std.proofs.lemmas.Grind.{common_steps}
use Rattle.std.proofs.lemmas.List.{take-append-drop}
use Rattle.mix_lines.specs.Reading.{IsPart}
use Rattle.mix_lines.proofs.Parts.{kept_of}
use Rattle.mix_lines.proofs.reader.move_line.Goals as goal

pub returns : goal.returns
returns c =
    let page = c.args.page.now in
    let line = c.args.line.now.items in
    let count = c.line_part-count.result.0 in
    let least : c.min-kept.result ≡ min count (1048578 - length line) = grind (arith, common_steps) in
    let more : c.extend_from_slice.new.self.items ≡ line ++ take (min count (1048578 - length line)) page = grind (arith, common_steps, least) in
    record {
      part = take count page;
      cut = sym (take-append-drop count page) ∙ ap (λ rest. take count page ++ rest) (sym c.drop_prefix.ensures);
      is = subst (λ rest. IsPart (take count page) rest c.line_part-count.result.1) (sym c.drop_prefix.ensures)
          (subst (λ bytes. IsPart (take count bytes) (drop count bytes) c.line_part-count.result.1) c.bytes-bytes.ensures c.line_part-count.ensures.part);
      kept = more ∙ kept_of line page count 1048578 c.requires;
    }
