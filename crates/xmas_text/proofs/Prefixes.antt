-- What a run has read goes on to a text of the grammar; where it stops, no text goes on.
use Rattle.std.proofs.Common.{◌≡◌, ◌∙◌, ℕ, Bool, true, false, ◌||◌, IsTrue, List, [], ◌∷◌, ◌++◌, Option, Some, None, option_and_then, refl, sym, ap, subst, append_assoc, arith, zero, suc}
use Rattle.std.specs.Str.{IsUtf8, IsAscii}
use Rattle.std.specs.List.{list_all}
use Rattle.std.proofs.lemmas.Str.{IsUtf8-nil, IsUtf8-append, IsUtf8-from_ascii}
use Rattle.mix_base.proofs.Runs.{run_append, run_then}
use Rattle.mix_base.specs.Reading.{IsPrefix}
use Rattle.xmas_text.specs.Parsed.{parsed}
use Rattle.xmas_text.specs.Results.{Spells}
use Rattle.mix_base.proofs.Choices.{and_parts, and_both, list_all-push, some_is, none_some, Gives}
use Rattle.mix_tree.specs.LabelGrammar.{Piece, escape}
use Rattle.mix_tree.specs.Names.{IsName}
use Rattle.xmas_text.specs.Grammar.{Keys, Group, absent, Items, nothing, variable, literal, element, Conds, Order, unordered, ordered, descending, Rule, Writes}
use Rattle.xmas_tokens.specs.Lexer.{Lex, between, marking, angle, opening, slash, closing, naming, dollar, varying, quoting, escaping, pathing, ready, comparing, map_path, as_path, lex_step, token_in}
use Rattle.xmas_tokens.specs.Lexical.{is_blank, IsBlanks}
use Rattle.xmas_text.specs.Machine.{State, at, step, run, rule_at, whole, start}
use Rattle.xmas_text.specs.Spots.{Frame, Head, Before, Start, Spot, beginning, items, labelled, keys, key_comma, key_label, cond_start, cond_from, cond_path, cond_done, compared, ordering, ordering_by, sorted, has_blank, takes, shift}
use Rattle.xmas_tokens.specs.Tokens.{Token, fixed, open_tag, close_tag, word, var, quoted, path, comparison, kind_of, with_equal, token_text, IsToken}
use Rattle.xmas_tokens.specs.declared.token.Mark.{Mark}
use Rattle.xmas_tokens.specs.declared.token.Mark.TheVariants as mark
use Rattle.xmas_tokens.specs.declared.token.Kind.TheVariants as kind
use Rattle.path_expr.specs.Grammar as paths
use Rattle.path_expr.specs.Machine as pathing_
use Rattle.path_expr.proofs.Prefixes as path_prefixes
use Rattle.xmas_tokens.proofs.Texts.{IsLex}
use Rattle.xmas_text.proofs.Lexes.{mark_read, path_run}
use Rattle.xmas_text.proofs.Tokens.{is_fixed, no_equal, follows, IsAt, at_start, gap_run, last_step, last_whole}
use Rattle.xmas_tokens.proofs.Apart.{is_apart, varying_quiet, naming_quiet, whole_quiet}
use Rattle.xmas_text.proofs.Readings.{unfixed}
use Rattle.xmas_text.proofs.Takes.{push_unfixed}
use Rattle.xmas_text.proofs.Complete.{Reads, stays, then, token}
use Rattle.xmas_text.proofs.Runs.{Stands, run_stands, start_stands, read_writes}
use Rattle.xmas_text.proofs.Complete as complete
use Rattle.xmas_tokens.proofs.Quotes.{is_low, low_byte, mark_low}

-- some text leads from the spot to one where a rule may end
pub record On (s : Spot) : Type 0 where
  pub text : List ℕ
  pub goal : Spot
  pub rule : Rule
  pub whole : rule_at goal [] ≡ Some rule
  pub utf8 : IsUtf8 text
  pub reads : Reads s text goal

-- a list of bytes below 128 is ASCII
low_ascii : (x : List ℕ) → IsTrue (list_all is_low x) → IsAscii x
low_ascii [] h i = omega arith
low_ascii (b ∷ x) h zero = low_byte b (and_parts (is_low b) (list_all is_low x) h).0
low_ascii (b ∷ x) h (suc i) = low_ascii x (and_parts (is_low b) (list_all is_low x) h).1 i

-- a list of bytes below 128 is UTF-8
low_utf8 : (x : List ℕ) → IsTrue (list_all is_low x) → IsUtf8 x
low_utf8 x h = IsUtf8-from_ascii x (low_ascii x h)

-- a rule may end after a condition
on_done : (r : Head) (cs : Conds) → On (cond_done r cs)
on_done r cs = record { text = []; goal = cond_done r cs; rule = _; whole = refl; utf8 = IsUtf8-nil; reads = stays (cond_done r cs) }

-- a rule may end after an order
on_sorted : (r : Head) (cs : Conds) (o : Order) → On (sorted r cs o)
on_sorted r cs o = record { text = []; goal = sorted r cs o; rule = _; whole = refl; utf8 = IsUtf8-nil; reads = stays (sorted r cs o) }

-- a spot goes on where the one after a token does
on_token : (s : Spot) (h : List ℕ) (t : Token) → IsBlanks h → IsToken t → IsTrue (takes s h (kind_of t)) → IsTrue (list_all is_low (h ++ token_text t)) → On (shift s h t) → On s
on_token s h t b i k l n = record {
  text = (h ++ token_text t) ++ n.text;
  goal = n.goal;
  rule = n.rule;
  whole = n.whole;
  utf8 = IsUtf8-append (h ++ token_text t) n.text (low_utf8 (h ++ token_text t) l) n.utf8;
  reads = then s (shift s h t) n.goal (h ++ token_text t) n.text (token s h t b i k) n.reads;
}

-- the name a
abbrev one_name : List ℕ
one_name = 97 ∷ []

-- the gap of one blank
abbrev gap : List ℕ
gap = 32 ∷ []

-- the name a is one of the grammar
name_is : IsName one_name
name_is = (refl, omega arith)

-- some text leads from a spot after a path to a rule's end
path_on : (r : Head) (b : Before) (g : List ℕ) (s : Start) (h : List ℕ) (p : paths.Spelled) → On (cond_path r b g s h p)
path_on r b g s h p = on_token (cond_path r b g s h p) gap (var one_name) refl (refl, refl) refl refl (on_done r _)

-- some text leads from a spot after the first word of a condition to a rule's end
from_on : (r : Head) (b : Before) (g : List ℕ) (s : Start) → On (cond_from r b g s)
from_on r b g s = on_token (cond_from r b g s) gap (path (paths.word one_name)) refl name_is refl refl (path_on r b g s gap (paths.word one_name))

-- some text leads from where a condition begins to a rule's end
start_on : (r : Head) (b : Before) → On (cond_start r b)
start_on r b = on_token (cond_start r b) gap (word one_name) refl name_is refl refl (from_on r b gap _)

-- some text leads from after the template to a rule's end
element_on : (lead : List ℕ) (b : Items) (f n : List ℕ) (i : Items) (h c : List ℕ) (e : Group) → On (items lead [] (element b f n i h c e))
element_on lead b f n i h c e = on_token (items lead [] (element b f n i h c e)) gap (fixed mark.Where) refl tt refl refl (start_on _ _)

-- some text leads from a spot outside all elements to a rule's end
top_on : (lead : List ℕ) (xs : Items) → On (items lead [] xs)
top_on lead nothing =
    on_token (items lead [] nothing) gap (open_tag one_name) refl name_is refl refl
    (on_token (items lead (record { before = nothing; gap = gap; name = one_name } ∷ []) nothing) [] (close_tag one_name) refl name_is refl refl (element_on lead nothing gap one_name nothing [] one_name absent))
top_on lead (variable b g k e) = on_token (items lead [] (variable b g k e)) gap (fixed mark.Where) refl tt refl refl (start_on _ _)
top_on lead (literal b g ps) = on_token (items lead [] (literal b g ps)) gap (fixed mark.Where) refl tt refl refl (start_on _ _)
top_on lead (element b f n i h c e) = element_on lead b f n i h c e

-- some text leads from inside elements to a rule's end
items_on : (o : List Frame) (lead : List ℕ) (xs : Items) → On (items lead o xs)
items_on [] lead xs = top_on lead xs
items_on (f ∷ o) lead xs = on_token (items lead (f ∷ o) xs) [] (close_tag one_name) refl name_is refl refl (items_on o lead (element f.before f.gap f.name xs [] one_name absent))

-- some text leads from inside a group label to a rule's end
keys_on : (lead : List ℕ) (o : List Frame) (xs : Items) (g : List ℕ) (ks : Keys) → On (keys lead o xs g ks)
keys_on lead o xs g ks = on_token (keys lead o xs g ks) [] (fixed mark.CloseBrace) refl tt refl refl (items_on o lead _)

-- some text leads from after BY to a rule's end
by_on : (r : Head) (cs : Conds) (g h : List ℕ) → On (ordering_by r cs g h)
by_on r cs g h = on_token (ordering_by r cs g h) gap (var one_name) refl (refl, refl) refl refl (on_sorted r cs _)

-- from each spot some text leads to a rule's end
pub spot_on : (s : Spot) → On s
spot_on beginning = on_token beginning [] (fixed mark.Construct) refl tt refl refl (items_on [] [] nothing)
spot_on (items lead o xs) = items_on o lead xs
spot_on (labelled lead o xs g) = on_token (labelled lead o xs g) gap (var one_name) refl (refl, refl) refl refl (items_on o lead _)
spot_on (keys lead o xs g ks) = keys_on lead o xs g ks
spot_on (key_comma lead o xs g ks h) = on_token (key_comma lead o xs g ks h) [] (var one_name) refl (refl, refl) refl refl (keys_on lead o xs g _)
spot_on (key_label lead o xs g ks p h) = on_token (key_label lead o xs g ks p h) gap (var one_name) refl (refl, refl) refl refl (keys_on lead o xs g _)
spot_on (cond_start r b) = start_on r b
spot_on (cond_from r b g s) = from_on r b g s
spot_on (cond_path r b g s h p) = path_on r b g s h p
spot_on (cond_done r cs) = on_done r cs
spot_on (compared r b g v h o) = on_token (compared r b g v h o) gap (var one_name) refl (refl, refl) refl refl (on_done r _)
spot_on (ordering r cs g) = on_token (ordering r cs g) gap (fixed mark.By) refl tt refl refl (by_on r cs g gap)
spot_on (ordering_by r cs g h) = by_on r cs g h
spot_on (sorted r cs o) = on_sorted r cs o

-- ASCII bytes lead from the state to a whole rule
pub record GoesOn (s : State) : Type 0 where
  pub bytes : List ℕ
  pub utf8 : IsUtf8 bytes
  pub rule : Rule
  pub read : option_and_then whole (run s bytes) ≡ Some rule

-- a state goes on where the state after some text does
text_on : (x : List ℕ) (s t : State) → IsUtf8 x → run s x ≡ Some t → GoesOn t → GoesOn s
text_on x s t u e h = record {
  bytes = x ++ h.bytes;
  utf8 = IsUtf8-append x h.bytes u h.utf8;
  rule = h.rule;
  read = ap (option_and_then whole) (run_then step x h.bytes s t e) ∙ h.read;
}

-- a state goes on where the next one does
byte_on : (b : ℕ) (s t : State) → IsTrue (is_low b) → step s b ≡ Some t → GoesOn t → GoesOn s
byte_on b s t l e h = text_on (b ∷ []) s t (low_utf8 (b ∷ []) (and_both (is_low b) true l refl)) (ap (option_and_then (λ u. run u [])) e) h

-- each state that stands at a spot goes on
pub at_on : (s : Spot) (t : State) → IsAt s t → GoesOn t
at_on s t h =
    let n = spot_on s in
    let b = n.reads t h in
    record { bytes = n.text; utf8 = n.utf8; rule = n.rule; read = ap (option_and_then whole) b.runs ∙ b.is.ends ∙ n.whole }

-- a state whose token ends before each byte that may follow goes on
last_on : (s : Spot) (g : List ℕ) (l : Lex) (t : Token) → token_in l ≡ Some t → ((b : ℕ) → IsTrue (follows (shift s g t) b) → lex_step l b ≡ None) → GoesOn (at s g l)
last_on s g l t e q = at_on (shift s g t) (at s g l) (record { steps = λ b f. last_step s g l t b e (q b f); ends = last_whole s g l t e })

-- a token that has ended goes on
ready_on : (s : Spot) (g : List ℕ) (t : Token) → GoesOn (at s g (ready t))
ready_on s g t = last_on s g (ready t) t refl (λ b f. refl)

-- no token that needs an apart byte after it leads to a fixed spot
var_unfixed : (s : Spot) (g v : List ℕ) → IsTrue (takes s g kind.Var) → is_fixed (shift s g (var v)) ≡ false
var_unfixed beginning g v h = cc
var_unfixed (items lead [] xs) g v h = cc
var_unfixed (items lead (f ∷ o) xs) g v h = refl
var_unfixed (labelled lead o xs e) g v h = refl
var_unfixed (keys lead o xs e ks) g v h = refl
var_unfixed (key_comma lead o xs e ks f) g v h = refl
var_unfixed (key_label lead o xs e ks p f) g v h = push_unfixed ks p f _
var_unfixed (cond_start r b) g v h = refl
var_unfixed (cond_from r b e s) g v h = cc
var_unfixed (cond_path r b e s f p) g v h = refl
var_unfixed (cond_done r cs) g v h = cc
var_unfixed (compared r b e f i o) g v h = refl
var_unfixed (ordering r cs e) g v h = cc
var_unfixed (ordering_by r cs e f) g v h = refl
var_unfixed (sorted r cs unordered) g v h = cc
var_unfixed (sorted r cs (ordered e f i j)) g v h = cc
var_unfixed (sorted r cs (descending e f i j k)) g v h = cc

-- no name leads to a fixed spot
word_unfixed : (s : Spot) (g l : List ℕ) → IsTrue (takes s g kind.Name) → is_fixed (shift s g (word l)) ≡ false
word_unfixed beginning g l h = cc
word_unfixed (items lead [] xs) g l h = cc
word_unfixed (items lead (f ∷ o) xs) g l h = cc
word_unfixed (labelled lead o xs e) g l h = cc
word_unfixed (keys lead o xs e ks) g l h = cc
word_unfixed (key_comma lead o xs e ks f) g l h = cc
word_unfixed (key_label lead o xs e ks p f) g l h = cc
word_unfixed (cond_start r b) g l h = refl
word_unfixed (cond_from r b e s) g l h = cc
word_unfixed (cond_path r b e s f p) g l h = cc
word_unfixed (cond_done r cs) g l h = cc
word_unfixed (compared r b e f i o) g l h = cc
word_unfixed (ordering r cs e) g l h = cc
word_unfixed (ordering_by r cs e f) g l h = cc
word_unfixed (sorted r cs unordered) g l h = cc
word_unfixed (sorted r cs (ordered e f i j)) g l h = cc
word_unfixed (sorted r cs (descending e f i j k)) g l h = cc

-- a variable that is being read where one may come goes on to a whole rule
var_on : (s : Spot) (g v : List ℕ) → IsTrue (takes s g kind.Var) → GoesOn (at s g (varying v))
var_on s g v h = last_on s g (varying v) (var v) refl (λ b f. varying_quiet v b (unfixed (is_fixed (shift s g (var v))) (is_apart b) (no_equal (shift s g (var v)) b) (var_unfixed s g v h) f))

-- a name that is being read where one may come goes on to a whole rule
word_on : (s : Spot) (g l : List ℕ) → IsTrue (takes s g kind.Name) → GoesOn (at s g (naming l))
word_on s g l h = last_on s g (naming l) (word l) refl (λ b f. naming_quiet l b (unfixed (is_fixed (shift s g (word l))) (is_apart b) (no_equal (shift s g (word l)) b) (word_unfixed s g l h) f))

-- no path leads to a fixed spot
path_unfixed : (s : Spot) (g : List ℕ) (p : paths.Spelled) → IsTrue (takes s g kind.Path) → is_fixed (shift s g (path p)) ≡ false
path_unfixed beginning g p h = cc
path_unfixed (items lead [] xs) g p h = cc
path_unfixed (items lead (f ∷ o) xs) g p h = cc
path_unfixed (labelled lead o xs e) g p h = cc
path_unfixed (keys lead o xs e ks) g p h = cc
path_unfixed (key_comma lead o xs e ks f) g p h = cc
path_unfixed (key_label lead o xs e ks q f) g p h = cc
path_unfixed (cond_start r b) g p h = cc
path_unfixed (cond_from r b e s) g p h = refl
path_unfixed (cond_path r b e s f q) g p h = cc
path_unfixed (cond_done r cs) g p h = cc
path_unfixed (compared r b e f i o) g p h = cc
path_unfixed (ordering r cs e) g p h = cc
path_unfixed (ordering_by r cs e f) g p h = cc
path_unfixed (sorted r cs unordered) g p h = cc
path_unfixed (sorted r cs (ordered e f i j)) g p h = cc
path_unfixed (sorted r cs (descending e f i j k)) g p h = cc

-- a path that is whole goes on
path_last : (s : Spot) (g : List ℕ) (t : pathing_.State) (q : paths.Spelled) → IsTrue (takes s g kind.Path) → pathing_.whole t ≡ Some q → GoesOn (at s g (pathing t))
path_last s g t q h w =
    last_on s g (pathing t) (path q) (ap as_path w)
    (λ b f. ap map_path (whole_quiet t.here t.outer t.mode (pathing_.repeat_in t.mode) q b refl w (unfixed (is_fixed (shift s g (path q))) (is_apart b) (no_equal (shift s g (path q)) b) (path_unfixed s g q h) f)))

-- a path goes on by what makes it whole
path_end : (s : Spot) (g y : List ℕ) (p : pathing_.State) (o : Option pathing_.State) (q : paths.Spelled) → IsUtf8 y → IsTrue (takes s g kind.Path) → pathing_.run p y ≡ o → option_and_then pathing_.whole o ≡ Some q → GoesOn (at s g (pathing p))
path_end s g y p None q l h r w = none_some q w
path_end s g y p (Some t) q l h r w = text_on y (at s g (pathing p)) (at s g (pathing t)) l (path_run s g y p t r) (path_last s g t q h w)

-- a path that is being read where one may come goes on to a whole rule
path_goes : (s : Spot) (g : List ℕ) (p : pathing_.State) → IsTrue (takes s g kind.Path) → GoesOn (at s g (pathing p))
path_goes s g p h = let on = path_prefixes.mode_on p.here p.outer p.mode in path_end s g on.bytes p (pathing_.run p on.bytes) on.spelled on.utf8 h refl on.read

-- what holds of all of two lists together holds of all of the second
all_after : (x y : List ℕ) → IsTrue (list_all is_low (x ++ y)) → IsTrue (list_all is_low y)
all_after [] y h = h
all_after (b ∷ x) y h = all_after x y (and_parts (is_low b) (list_all is_low (x ++ y)) h).1

-- a token that is always the same goes on with its other bytes
mark_goes : (s : Spot) (g : List ℕ) (m : Mark) (done rest : List ℕ) → IsLex (marking m done rest) → GoesOn (at s g (marking m done rest))
mark_goes s g m done rest h =
    text_on rest (at s g (marking m done rest)) (at s g (marking m (done ++ rest) [])) (low_utf8 rest (all_after done rest (subst (λ x. IsTrue (list_all is_low x)) (sym h) (mark_low m)))) (mark_read s g m done rest) (last_on s g (marking m (done ++ rest) []) (fixed m) refl (λ b f. refl))

-- an opening tag goes on
opening_on : (s : Spot) (g l : List ℕ) → GoesOn (at s g (opening l))
opening_on s g l = byte_on 62 (at s g (opening l)) (at s g (ready (open_tag l))) refl refl (ready_on s g (open_tag l))

-- a closing tag goes on
closing_on : (s : Spot) (g l : List ℕ) → GoesOn (at s g (closing l))
closing_on s g l = byte_on 62 (at s g (closing l)) (at s g (ready (close_tag l))) refl refl (ready_on s g (close_tag l))

-- a closing tag without a name so far goes on
slash_on : (s : Spot) (g : List ℕ) → GoesOn (at s g slash)
slash_on s g = byte_on 97 (at s g slash) (at s g (closing one_name)) refl refl (closing_on s g one_name)

-- an opened bracket after which a name or a slash may come goes on to a whole rule
angle_on : (s : Spot) (g : List ℕ) (p q : Bool) → IsTrue (p || q) → GoesOn (at s g (angle p q))
angle_on s g true true h = byte_on 47 (at s g (angle true true)) (at s g slash) refl refl (slash_on s g)
angle_on s g true false h = byte_on 97 (at s g (angle true false)) (at s g (opening one_name)) refl refl (opening_on s g one_name)
angle_on s g false true h = byte_on 47 (at s g (angle false true)) (at s g slash) refl refl (slash_on s g)
angle_on s g false false h = cc

-- a quoted label goes on
quoting_on : (s : Spot) (g : List ℕ) (ps : List Piece) → GoesOn (at s g (quoting ps))
quoting_on s g ps = byte_on 34 (at s g (quoting ps)) (at s g (ready (quoted ps))) refl refl (ready_on s g (quoted ps))

-- between tokens a state goes on to a whole rule by one more blank and a token that may come
gap_on : (s : Spot) (g : List ℕ) (t : Token) → IsBlanks g → IsBlanks (g ++ gap) → IsToken t → IsTrue (takes s (g ++ gap) (kind_of t)) → IsTrue (list_all is_low (gap ++ token_text t)) → GoesOn (at s g between)
gap_on s g t b c i k l =
    let n = token s (g ++ gap) t c i k (at s [] between) (at_start s) in
    text_on (gap ++ token_text t) (at s g between) n.state (low_utf8 (gap ++ token_text t) l)
    (sym (run_then step g (gap ++ token_text t) (at s [] between) (at s g between) (gap_run s [] g b)) ∙ ap (run (at s [] between)) (sym (append_assoc g gap (token_text t))) ∙ n.runs)
    (at_on (shift s (g ++ gap) t) n.state n.is)

-- a gap to which a blank is added has a blank
has_gap : (g : List ℕ) → IsTrue (has_blank (g ++ gap))
has_gap [] = refl
has_gap (b ∷ g) = refl

-- between tokens the state goes on
between_on : (s : Spot) (g : List ℕ) → IsBlanks g → IsBlanks (g ++ gap) → GoesOn (at s g between)
between_on beginning g b c = gap_on beginning g (fixed mark.Construct) b c tt refl refl
between_on (items lead [] nothing) g b c = gap_on (items lead [] nothing) g (open_tag one_name) b c name_is (has_gap g) refl
between_on (items lead [] (variable x h k e)) g b c = gap_on (items lead [] (variable x h k e)) g (fixed mark.Where) b c tt (has_gap g) refl
between_on (items lead [] (literal x h ps)) g b c = gap_on (items lead [] (literal x h ps)) g (fixed mark.Where) b c tt (has_gap g) refl
between_on (items lead [] (element x f n i h d e)) g b c = gap_on (items lead [] (element x f n i h d e)) g (fixed mark.Where) b c tt (has_gap g) refl
between_on (items lead (f ∷ o) xs) g b c = gap_on (items lead (f ∷ o) xs) g (close_tag one_name) b c name_is refl refl
between_on (labelled lead o xs e) g b c = gap_on (labelled lead o xs e) g (var one_name) b c (refl, refl) (has_gap g) refl
between_on (keys lead o xs e ks) g b c = gap_on (keys lead o xs e ks) g (fixed mark.CloseBrace) b c tt refl refl
between_on (key_comma lead o xs e ks f) g b c = gap_on (key_comma lead o xs e ks f) g (var one_name) b c (refl, refl) refl refl
between_on (key_label lead o xs e ks p f) g b c = gap_on (key_label lead o xs e ks p f) g (var one_name) b c (refl, refl) (has_gap g) refl
between_on (cond_start r k) g b c = gap_on (cond_start r k) g (word one_name) b c name_is (has_gap g) refl
between_on (cond_from r k e s) g b c = gap_on (cond_from r k e s) g (path (paths.word one_name)) b c name_is (has_gap g) refl
between_on (cond_path r k e s f p) g b c = gap_on (cond_path r k e s f p) g (var one_name) b c (refl, refl) (has_gap g) refl
between_on (cond_done r cs) g b c = record { bytes = []; utf8 = IsUtf8-nil; rule = _; read = refl }
between_on (compared r k e v f o) g b c = gap_on (compared r k e v f o) g (var one_name) b c (refl, refl) refl refl
between_on (ordering r cs e) g b c = gap_on (ordering r cs e) g (fixed mark.By) b c tt (has_gap g) refl
between_on (ordering_by r cs e f) g b c = gap_on (ordering_by r cs e f) g (var one_name) b c (refl, refl) (has_gap g) refl
between_on (sorted r cs o) g b c = record { bytes = []; utf8 = IsUtf8-nil; rule = _; read = refl }

-- from each state that a run reaches, some text leads to a whole rule
state_on : (x : List ℕ) (s : Spot) (g : List ℕ) (l : Lex) → Stands x (at s g l) → GoesOn (at s g l)
state_on x s g between h = between_on s g h.gap (list_all-push is_blank g 32 h.gap refl)
state_on x s g (marking m done rest) h = mark_goes s g m done rest h.lex
state_on x s g (angle p q) h = angle_on s g p q h.offered.2
state_on x s g (opening l) h = opening_on s g l
state_on x s g slash h = slash_on s g
state_on x s g (closing l) h = closing_on s g l
state_on x s g (naming l) h = word_on s g l h.offered
state_on x s g dollar h = byte_on 97 (at s g dollar) (at s g (varying one_name)) refl refl (var_on s g one_name h.offered)
state_on x s g (varying v) h = var_on s g v h.offered
state_on x s g (quoting ps) h = quoting_on s g ps
state_on x s g (escaping ps) h = byte_on 110 (at s g (escaping ps)) (at s g (quoting (ps ++ escape 110 ∷ []))) refl refl (quoting_on s g (ps ++ escape 110 ∷ []))
state_on x s g (pathing p) h = path_goes s g p h.offered
state_on x s g (comparing k) h = byte_on 61 (at s g (comparing k)) (at s g (ready (comparison (with_equal k)))) refl refl (ready_on s g (comparison (with_equal k)))
state_on x s g (ready t) h = ready_on s g t

-- the state after a text is well formed
pub stood_at : (x : List ℕ) (o : Option State) (t : State) → Gives (Stands x) o → o ≡ Some t → Stands x t
stood_at x None t h e = none_some t e
stood_at x (Some s) t h e = subst (Stands x) (some_is _ _ e) h

-- what a run has read is a prefix
pub run_prefix : (x : List ℕ) (t : State) → IsUtf8 x → run start x ≡ Some t → IsPrefix Spells x
run_prefix x t u e =
    let stands = stood_at x (run start x) t (run_stands x [] start start_stands) e in
    let on = state_on x t.spot t.gap t.lex stands in
    let writes = read_writes (x ++ on.bytes) on.rule (ap (option_and_then whole) (run_then step x on.bytes start t e) ∙ on.read) in
    (on.bytes, parsed on.rule, IsUtf8-append x on.bytes u on.utf8, (on.rule, writes, refl))

-- where a run has stopped, no text goes on
pub stopped_writes : (x y : List ℕ) (r : Rule) → run start x ≡ None → Writes (x ++ y) r → ⊥
stopped_writes x y r e h = none_some r (sym (ap (option_and_then whole) (run_append step x y start ∙ ap (option_and_then (λ u. run u y)) e)) ∙ complete.writes_read (x ++ y) r h)

-- a text where a run has stopped is no prefix of a rule's text
pub stopped_prefix : (x : List ℕ) → run start x ≡ None → IsPrefix Spells x → ⊥
stopped_prefix x e (y, v, u, (r, h, k)) = stopped_writes x y r e h
