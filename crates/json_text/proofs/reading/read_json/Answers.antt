use Rattle.json_text.proofs.Levels.{shallow}
use Rattle.json_text.proofs.reading.read_json.Goals as goal

pub returns-in-Ok-clause-shallow : goal.returns-in-Ok-clause-shallow
returns-in-Ok-clause-shallow c = shallow c.in-Ok.text.now c.args.name.now c.read.result c.read.ensures
