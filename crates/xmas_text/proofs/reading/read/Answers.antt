use Rattle.xmas_text.specs.Results.{form_of}
use Rattle.xmas_text.proofs.Answering.{within}
use Rattle.xmas_text.proofs.reading.read.Goals as goal

pub returns : goal.returns
returns c = (c.requires, within c.args.text.now (form_of c.in_ok-build_rule.field-0) c.in_ok-scan_rule.ensures c.in_ok-build_rule.ensures)
