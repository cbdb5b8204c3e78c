-- The sources of a catalog that is spelled have names, all different.
use Rattle.std.proofs.Common.{ℕ, List, [], ◌∷◌, sym, subst, inl, inr}
use Rattle.mix_words.specs.Lines.{lines_of}
use Rattle.mix_catalog.specs.Sources.{AreNumbered, Adds, Accepts, IsCatalog}
use Rattle.mix_catalog.specs.declared.source.SourceSpec.{SourceSpec}
use Rattle.mix_catalog.proofs.Numbered.{AreNumbered-push}

-- sources that are found by their names at their own places are so after one line more
line_numbered : (before after : List SourceSpec) (line : List ℕ) → AreNumbered before → Adds before line after → AreNumbered after
line_numbered before after line h (inl p) = subst AreNumbered (sym p.1) h
line_numbered before after line h (inr p) = subst AreNumbered (sym p.4) (AreNumbered-push before p.1 h p.2.0.1.0 p.3.name)

-- sources that are found by their names at their own places are so after more lines
lines_numbered : (lines : List (List ℕ)) (before sources : List SourceSpec) → AreNumbered before → Accepts before lines sources → AreNumbered sources
lines_numbered [] before sources h e = subst AreNumbered (sym e) h
lines_numbered (line ∷ lines) before sources h (after, a, rest) = lines_numbered lines after sources (line_numbered before after line h a) rest

-- no sources are found by their names at their own places
none_numbered : AreNumbered []
none_numbered i s e = cc

-- the sources of a catalog that a text spells are found by their names at their own places
pub catalog_numbered : (text : List ℕ) (sources : List SourceSpec) → IsCatalog text sources → AreNumbered sources
catalog_numbered text sources h = lines_numbered (lines_of text) [] sources none_numbered h
