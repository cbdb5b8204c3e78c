-- Building the tree of a rule byte by byte.
use Rattle.std.specs.Prelude.{◌≡◌, ◌+◌, ◌<◌, ◌≤◌, ◌^◌, ℕ, List, [], ◌∷◌, length, slice_index, slice_range, Option, Some, None}
use Rattle.std.specs.Str.{IsUtf8}
use Rattle.xmas_text.specs.declared.element.ItemText.{ItemText}
use Rattle.xmas_text.specs.declared.element.ItemText.TheVariants as item
use Rattle.xmas_tokens.specs.declared.token.Kind.{Kind}
use Rattle.xmas_tokens.specs.declared.lexer.Part.{Part}
use Rattle.xmas_tokens.specs.declared.lexer.Part.TheVariants as part
use Rattle.xmas_text.specs.declared.scan.Scan.{Scan}
use Rattle.xmas_tokens.specs.declared.lexeme.Lexeme.{Lexeme}
use Rattle.xmas_text.specs.declared.build.Build.{Build}
use Rattle.xmas_text.specs.Contents.{ElementForm}
use Rattle.xmas_tokens.specs.Parts.{part_step, kind_in, part_depth}
use Rattle.xmas_text.specs.Scans.{scan_step}
use Rattle.xmas_text.specs.Parsed.{RuleForm}
use Rattle.xmas_text.specs.Drafts.{DraftForm, draft_in}
use Rattle.xmas_text.specs.Shifted.{shifted}
use Rattle.xmas_tokens.specs.Lexemes.{IsWritten, IsLexeme}

-- what is kept of a text: the scan, where the token at hand begins, and the draft of what stands before it
pub record BuildForm : Type 0 where
  pub scan : Scan
  pub from : ℕ
  pub draft : DraftForm

-- what the code keeps of a text that is being built, as a value
abbrev pub build_in : Build → BuildForm
build_in b = record { scan = b.scan; from = b.from; draft = draft_in b.draft }

-- the text is that of the token that ends, where one of a kind does
abbrev pub IsEndedBy : Option Kind → List ℕ → Type 0
IsEndedBy None x = Unit {0}
IsEndedBy (Some k) x = IsWritten k x

-- the text is that of the token that ends here
abbrev pub IsEnded : Part → List ℕ → Type 0
IsEnded p x = IsEndedBy (kind_in p) x

-- the draft after the token that ends, where one of a kind does
abbrev pub EndsTokenBy : Option Kind → List ℕ → ℕ → DraftForm → DraftForm → Type 0
EndsTokenBy None x from before after = after ≡ before
EndsTokenBy (Some k) x from before after = (w : Lexeme) × IsLexeme k x w × (after ≡ shifted before from w)

-- the draft after the token that ends here
abbrev pub EndsToken : Part → List ℕ → ℕ → DraftForm → DraftForm → Type 0
EndsToken p x from before after = EndsTokenBy (kind_in p) x from before after

-- where the token at hand begins, after a byte at a place
abbrev pub place_after : ℕ → Part → ℕ
place_after at part.Between = at + 1
place_after at p = at

-- what has to hold of the text and of what is kept, that the byte at a place can be added
pub record CanBuild (text : List ℕ) (at : ℕ) (b : BuildForm) : Type 0 where
  pub inside : at < length text
  pub order : b.from ≤ at
  pub depth : b.scan.depth ≤ at
  pub part : part_depth b.scan.part ≤ at
  pub short : length text < 2 ^ 64
  pub goes_on : (next : Scan) × (scan_step b.scan (slice_index text at) ≡ Some next)
  pub utf8 : part_step b.scan.part (slice_index text at) ≡ None → IsUtf8 (slice_range text b.from at)
  pub ended : part_step b.scan.part (slice_index text at) ≡ None → IsEnded b.scan.part (slice_range text b.from at)

-- what a byte changes, by whether the token at hand goes on
abbrev pub BuildsBy : Option Part → List ℕ → ℕ → BuildForm → BuildForm → Type 0
BuildsBy (Some p) text at b next = (next.from ≡ b.from) × (next.draft ≡ b.draft)
BuildsBy None text at b next = (next.from ≡ place_after at next.scan.part) × EndsToken b.scan.part (slice_range text b.from at) b.from b.draft next.draft

-- what the byte at a place changes
pub record Builds (text : List ℕ) (at : ℕ) (b next : BuildForm) : Type 0 where
  pub scan : scan_step b.scan (slice_index text at) ≡ Some next.scan
  pub depth : next.scan.depth ≤ at + 1
  pub part : part_depth next.scan.part ≤ at + 1
  pub token : BuildsBy (part_step b.scan.part (slice_index text at)) text at b next

-- the items are one element
abbrev pub IsOneElement : List ItemText → Type 0
IsOneElement is = (e : ElementForm) × (is ≡ item.Element e ∷ [])

-- the tree of the rule that a draft has built
abbrev pub tree_of : DraftForm → RuleForm
tree_of d = record { template = d.built.items; conds = d.built.conds; order = d.built.order }
