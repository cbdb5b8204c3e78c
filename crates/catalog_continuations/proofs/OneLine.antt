-- A text without LF is one line, and a catalog of that text tells whether it is a line that a catalog may have.
use Rattle.std.proofs.Common.{◌≡◌, ◌≢◌, ◌<◌, ◌+◌, ◌==◌, ◌&&◌, ◌||◌, ℕ, zero, suc, Bool, true, false, List, [], ◌∷◌, inl, inr, refl, ap, sym, subst, take, get_or, arith}
use Rattle.std.proofs.lemmas.Bool.Decides.{nat_tests}
use Rattle.mix_words.specs.Words.{with_first}
use Rattle.mix_words.specs.Lines.{is_passed, lines_of}
use Rattle.mix_catalog.specs.declared.source.SourceSpec.{SourceSpec}
use Rattle.mix_catalog.specs.declared.fault.CatalogFault.{CatalogFault}
use Rattle.mix_catalog.specs.declared.fault.CatalogFault.TheVariants.{Line}
use Rattle.mix_catalog.specs.Grammar.{is_view}
use Rattle.mix_catalog.specs.Sources.{Accepts, Adds, FitsNone, IsCatalog, IsFault, IsFirstFault, IsInPlace, IsNotTaken}
use Rattle.catalog_continuations.specs.GoesOn.{IsLine, IsOneLine}

-- a byte that is no LF
no_lf : (b : ℕ) → b ≢ 10 → b == 10 ≡ false
no_lf b h = grind (arith, nat_tests, h)

-- a claim and a false one is false
and_false : (t : Bool) → (t && false) ≡ false
and_false true = refl
and_false false = refl

-- a text that begins with a byte and has no LF is one line
pub one_line : (b : ℕ) (bs : List ℕ) → IsOneLine (b ∷ bs) → lines_of (b ∷ bs) ≡ (b ∷ bs) ∷ []
one_line b [] h = rw (no_lf b (h 0 (omega arith)), and_false (b == 13)) refl
one_line b (c ∷ bs) h =
    let first : b == 10 ≡ false = no_lf b (h 0 (omega arith)) in
    let second : c == 10 ≡ false = no_lf c (h 1 (omega arith)) in
    let more : lines_of (c ∷ bs) ≡ (c ∷ bs) ∷ [] = one_line c bs (λ k less. h (suc k) (omega (arith, less))) in
    whole first second more
  where
    whole : b == 10 ≡ false → c == 10 ≡ false → lines_of (c ∷ bs) ≡ (c ∷ bs) ∷ [] → lines_of (b ∷ c ∷ bs) ≡ (b ∷ c ∷ bs) ∷ []
    whole first second more = rw (first, second, and_false (b == 13)) (rw second at (ap (with_first b) more))

-- a line that adds to sources is one that a catalog may have
adding_line : (line : List ℕ) (before after : List SourceSpec) → Adds before line after → IsLine line
adding_line line before after (inl (passed, same)) = inl passed
adding_line line before after (inr (other, s, fits, taken, same)) = inr (s, fits.0)

-- an accepted text without LF is a line that a catalog may have
pub accepted_line : (text : List ℕ) (sources : List SourceSpec) → IsOneLine text → IsCatalog text sources → IsLine text
accepted_line [] sources one h = inl refl
accepted_line (b ∷ bs) sources one h =
    let accepts : Accepts [] ((b ∷ bs) ∷ []) sources = subst (λ ls. Accepts [] ls sources) (one_line b bs one) h in
    adding_line (b ∷ bs) [] accepts.0 accepts.1

-- any source may stand first
stands_first : (s : SourceSpec) → IsInPlace [] s
stands_first s = either (is_view s.kind)
  where
    either : (t : Bool) → (t || true) ≡ true
    either true = refl
    either false = refl

-- a line that fits no form at the beginning is none that a catalog may have
no_line : (line : List ℕ) (before : List SourceSpec) → before ≡ [] → is_passed line ≡ false → FitsNone before line → ¬ IsLine line
no_line line before first other none (inl passed) = cc (other, passed)
no_line line before first other none (inr (s, spells)) = none s (spells, subst (λ b. IsInPlace b s) (sym first) (stands_first s))

-- the only line that a text has is its first, before which no source stands
record IsAlone (line : List ℕ) (e : CatalogFault) : Type 0 where
  before : List SourceSpec
  number : ℕ
  first : before ≡ []
  fault : IsFault before line number e

-- the first fault of a line alone is a fault of it
alone_fault : (line : List ℕ) (e : CatalogFault) → IsFirstFault (line ∷ []) e → IsAlone line e
alone_fault line e f = at f.place f.before f.inside f.accepted f.fault
  where
    at : (place : ℕ) (before : List SourceSpec) → place < 1 → Accepts [] (take place (line ∷ [])) before → IsFault before (get_or (line ∷ []) place []) (place + 1) e → IsAlone line e
    at zero before inside accepted fault = record { before = before; number = 1; first = accepted; fault = fault }
    at (suc place) before inside accepted fault = absurd (omega (arith, inside))

-- the fault of a text without LF is a fault of it as a line
line_fault : (text : List ℕ) (e : CatalogFault) → IsOneLine text → IsFirstFault (lines_of text) e → IsAlone text e
line_fault [] e one f = absurd (let inside : f.place < 0 = f.inside in omega arith)
line_fault (b ∷ bs) e one f = alone_fault (b ∷ bs) e (subst (λ ls. IsFirstFault ls e) (one_line b bs one) f)

-- a text without LF that fits no form is no line that a catalog may have
pub refused_line : (text : List ℕ) (n : ℕ) → IsOneLine text → IsFirstFault (lines_of text) (Line n) → ¬ IsLine text
refused_line text n one f = let a = line_fault text (Line n) one f in no_line text a.before a.first a.fault.1 a.fault.2

-- a text without LF whose source isn't taken is a line that a catalog may have
pub untaken_line :
    (text : List ℕ) (e : CatalogFault) → ((before : List SourceSpec) (number : ℕ) → IsFault before text number e → IsNotTaken before text number e) → IsOneLine text
    → IsFirstFault (lines_of text) e → IsLine text
untaken_line text e says one f = let a = line_fault text e one f in let t = says a.before a.number a.fault in inr (t.1, t.2.0)
