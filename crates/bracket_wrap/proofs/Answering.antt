-- The list that a bracket document gives for a hole answers a fill of it.
use Rattle.std.proofs.Common.{◌≡◌, true, slice_index}
use Rattle.lxp_core.specs.declared.open_tree.HoleId.{HoleId}
use Rattle.lxp_core.specs.Fill.{Answers}
use Rattle.source_document.specs.Meaning.{without_tables}
use Rattle.bracket_wrap.specs.declared.bracket.BracketDoc.{BracketDoc}
use Rattle.bracket_wrap.specs.Bracket.{given, knows, means}
use Rattle.bracket_wrap.proofs.Given.{closed-given, forward-given, known-given, known-parts, lighter-given, progress-given}
use Rattle.bracket_wrap.proofs.SmallLists.{small-given}

-- what is given for a known hole answers a fill of it
pub answers-given : (d : BracketDoc) (h : HoleId) → knows d h ≡ true → Answers (without_tables (means d)) (without_tables (means d)) h (given d h)
answers-given d h known =
    let i = slice_index h.words 0 in
    let to = slice_index h.words 1 in
    let there = known-parts d.nodes h known in
    record {
      closes = λ told. closed-given d.nodes d.deep i d.chunk to;
      progress = progress-given d.nodes d.deep i d.chunk to d.some;
      known = known-given d.nodes d.deep i d.chunk to there.0 there.1 there.2;
      lighter = lighter-given d.nodes d.deep i d.chunk to;
      forward = λ told. forward-given d.nodes d.deep i d.chunk to d.some;
      small = λ told. small-given d.nodes d.givable d.deep i d.chunk to there.0 there.2;
    }
