use Rattle.std.proofs.Common.{arith}
use Rattle.mix_words.proofs.WordPlaces.{boundary_after_blank}
use Rattle.mix_catalog.proofs.after.read_csv.Goals as goal

pub read_columns-requires-clause-boundary : goal.read_columns-requires-clause-boundary
read_columns-requires-clause-boundary c = boundary_after_blank c.args.after.now c.in-Some.at c.requires (omega (arith, c.in-Some.ensures.inside)) c.in-Some.ensures.apart
