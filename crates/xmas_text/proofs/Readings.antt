-- Tokens of each kind are read, byte by byte.
use Rattle.std.proofs.Common.{◌≡◌, ◌∙◌, ℕ, Bool, true, false, ◌&&◌, ◌||◌, IsTrue, List, [], ◌∷◌, ◌++◌, Option, Some, None, option_and_then, refl, ap, arith}
use Rattle.std.specs.List.{list_all}
use Rattle.mix_base.proofs.Choices.{and_parts, some_is, none_some}
use Rattle.mix_tree.specs.LabelGrammar.{Piece, ArePieces, inside_quotes}
use Rattle.mix_tree.specs.Names.{is_name_byte, IsName}
use Rattle.xmas_tokens.specs.Lexer.{marking, angle, naming, dollar, varying, quoting, pathing, ready, map_path, as_path, begin}
use Rattle.xmas_tokens.specs.Lexical.{is_blank, IsVar}
use Rattle.xmas_text.specs.Spots.{Spot, has_blank, takes, shift}
use Rattle.xmas_tokens.specs.Tokens.{fixed, open_tag, close_tag, word, var, quoted, path, mark_first, mark_rest}
use Rattle.xmas_tokens.specs.declared.token.Mark.{Mark}
use Rattle.path_expr.specs.Grammar as paths
use Rattle.path_expr.specs.Machine as pathing_
use Rattle.path_expr.proofs.Complete as path_complete
use Rattle.xmas_text.proofs.Lexes.{open_read, close_read, name_read, var_read, quote_read, mark_read, path_run}
use Rattle.xmas_text.proofs.Tokens.{is_fixed, no_equal, follows, Reading}
use Rattle.xmas_tokens.proofs.Apart.{is_apart, mark_solid, apart_not_name, varying_quiet, naming_quiet, name_solid, apart_marks, repeat_quiet, path_solid}

-- a gap that has a blank is not empty
pub no_gap : (h : List ℕ) (c : Bool) → IsTrue (has_blank h) → h ≡ [] → IsTrue c
no_gap [] c k e = cc
no_gap (b ∷ h) c k e = cc

-- a token that is always the same is read, where its first byte may begin it
pub mark_reading : (s : Spot) (h : List ℕ) (m : Mark) → begin (takes s h) (mark_first m) ≡ Some (marking m (mark_first m ∷ []) (mark_rest m)) → (h ≡ [] → IsTrue (follows s (mark_first m))) → Reading s h (fixed m)
mark_reading s h m b f = record {
  first = mark_first m;
  rest = mark_rest m;
  text = refl;
  solid = mark_solid m;
  may = f;
  lex = marking m (mark_first m ∷ []) (mark_rest m);
  begins = b;
  last = marking m (mark_first m ∷ mark_rest m) [];
  reads = mark_read s h m (mark_first m ∷ []) (mark_rest m);
  ends = refl;
  quiet = λ c g. refl;
}

-- an opening tag is read, where its bracket may begin one
pub open_reading : (s : Spot) (h l : List ℕ) (q : Bool) → IsName l → begin (takes s h) 60 ≡ Some (angle true q) → (h ≡ [] → IsTrue (follows s 60)) → Reading s h (open_tag l)
open_reading s h l q n b f = record {
  first = 60;
  rest = l ++ 62 ∷ [];
  text = refl;
  solid = refl;
  may = f;
  lex = angle true q;
  begins = b;
  last = ready (open_tag l);
  reads = open_read q s h l n;
  ends = refl;
  quiet = λ c g. refl;
}

-- a closing tag is read, where its bracket may begin one
pub close_reading : (s : Spot) (h l : List ℕ) (p : Bool) → IsName l → begin (takes s h) 60 ≡ Some (angle p true) → (h ≡ [] → IsTrue (follows s 60)) → Reading s h (close_tag l)
close_reading s h l p n b f = record {
  first = 60;
  rest = 47 ∷ (l ++ 62 ∷ []);
  text = refl;
  solid = refl;
  may = f;
  lex = angle p true;
  begins = b;
  last = ready (close_tag l);
  reads = close_read p s h l n;
  ends = refl;
  quiet = λ c g. refl;
}

-- a quoted label is read, where its quote may begin one
pub quoted_reading : (s : Spot) (h : List ℕ) (ps : List Piece) → ArePieces ps → begin (takes s h) 34 ≡ Some (quoting []) → (h ≡ [] → IsTrue (follows s 34)) → Reading s h (quoted ps)
quoted_reading s h ps q b f = record {
  first = 34;
  rest = inside_quotes ps ++ 34 ∷ [];
  text = refl;
  solid = refl;
  may = f;
  lex = quoting [];
  begins = b;
  last = ready (quoted ps);
  reads = quote_read s h ps q;
  ends = refl;
  quiet = λ c g. refl;
}

-- what follows a spot that is not fixed is apart
pub unfixed : (q c e : Bool) → q ≡ false → IsTrue (q || (c && e)) → IsTrue c
unfixed true c e n h = cc
unfixed false true e n h = refl
unfixed false false e n h = cc

-- a variable is read, where $ may begin one
pub var_reading : (s : Spot) (h v : List ℕ) → IsVar v → is_fixed (shift s h (var v)) ≡ false → begin (takes s h) 36 ≡ Some dollar → (h ≡ [] → IsTrue (follows s 36)) → Reading s h (var v)
var_reading s h v i n b f = record {
  first = 36;
  rest = v;
  text = refl;
  solid = refl;
  may = f;
  lex = dollar;
  begins = b;
  last = varying v;
  reads = var_read s h v i;
  ends = refl;
  quiet = λ c g. varying_quiet v c (unfixed (is_fixed (shift s h (var v))) (is_apart c) (no_equal (shift s h (var v)) c) n g);
}

-- a name is read, where its first byte may begin one and a blank stands before it
pub word_reading : (s : Spot) (h l : List ℕ) → IsName l → is_fixed (shift s h (word l)) ≡ false → ((b : ℕ) → IsTrue (is_name_byte b) → begin (takes s h) b ≡ Some (naming (b ∷ []))) → IsTrue (has_blank h) → Reading s h (word l)
word_reading s h [] i n b f = absurd (omega arith)
word_reading s h (c ∷ l) i n b f =
    let parts = and_parts (is_name_byte c) (list_all is_name_byte l) i.0 in record {
      first = c;
      rest = l;
      text = refl;
      solid = name_solid c parts.0;
      may = no_gap h (follows s c) f;
      lex = naming (c ∷ []);
      begins = b c parts.0;
      last = naming (c ∷ l);
      reads = name_read s h c l parts.1;
      ends = refl;
      quiet = λ d g. naming_quiet (c ∷ l) d (unfixed (is_fixed (shift s h (word (c ∷ l)))) (is_apart d) (no_equal (shift s h (word (c ∷ l))) d) n g);
    }

-- a path is read, where its first byte may begin one and a blank stands before it, by what its machine does with that byte
path_reading_at : (s : Spot) (h : List ℕ) (p : paths.Spelled) (b : ℕ) (y : List ℕ) (o : Option pathing_.State) (g : pathing_.Frame) (m : pathing_.Mode) (q : paths.Spelled) → pathing_.step pathing_.first b ≡ o
    → paths.text_of p ≡ b ∷ y → option_and_then (λ u. pathing_.run u y) o ≡ Some (pathing_.at g [] m) → pathing_.repeat_in m ≡ Some q → pathing_.path_in g q ≡ p
    → is_fixed (shift s h (path p)) ≡ false → ((u : pathing_.State) → pathing_.step pathing_.first b ≡ Some u → begin (takes s h) b ≡ Some (pathing u)) → IsTrue (has_blank h) → Reading s h (path p)
path_reading_at s h p b y None g m q o t r i j n k f = none_some _ r
path_reading_at s h p b y (Some u) g m q o t r i j n k f = record {
  first = b;
  rest = y;
  text = t;
  solid = path_solid b (is_blank b) u refl o;
  may = no_gap h (follows s b) f;
  lex = pathing u;
  begins = k u o;
  last = pathing (pathing_.at g [] m);
  reads = path_run s h y u (pathing_.at g [] m) r;
  ends = ap as_path (path_complete.whole_at g m q i ∙ ap Some j);
  quiet = λ c e.
      let a : IsTrue (is_apart c) = unfixed (is_fixed (shift s h (path p))) (is_apart c) (no_equal (shift s h (path p)) c) n e in
      ap map_path (path_complete.ends_by c g [] m q (apart_not_name c a) (apart_marks c a) i ∙ repeat_quiet g q c a);
}

-- a path is read, by its text
path_reading_of : (s : Spot) (h : List ℕ) (p : paths.Spelled) (x : List ℕ) (g : pathing_.Frame) (m : pathing_.Mode) (q : paths.Spelled) → paths.text_of p ≡ x → pathing_.run pathing_.first x ≡ Some (pathing_.at g [] m)
    → pathing_.repeat_in m ≡ Some q → pathing_.path_in g q ≡ p → is_fixed (shift s h (path p)) ≡ false → ((b : ℕ) (u : pathing_.State) → pathing_.step pathing_.first b ≡ Some u → begin (takes s h) b ≡ Some (pathing u)) → IsTrue (has_blank h) → Reading s h (path p)
path_reading_of s h p [] g m q t r i j n k f = none_some q (ap (λ z. pathing_.repeat_in z.mode) (some_is _ _ r) ∙ i)
path_reading_of s h p (b ∷ y) g m q t r i j n k f = path_reading_at s h p b y (pathing_.step pathing_.first b) g m q refl t r i j n (k b) f

-- a path is read, where its first byte may begin one and a blank stands before it
pub path_reading : (s : Spot) (h : List ℕ) (p : paths.Spelled) → paths.Is p paths.a_path → is_fixed (shift s h (path p)) ≡ false → ((b : ℕ) (u : pathing_.State) → pathing_.step pathing_.first b ≡ Some u → begin (takes s h) b ≡ Some (pathing u)) → IsTrue (has_blank h) → Reading s h (path p)
path_reading s h p is n k f =
    let r = path_complete.reads p paths.a_path is [] in
    path_reading_of s h p (paths.text_of p) r.0 r.1 r.2 refl r.3 r.4 r.5 n k f
