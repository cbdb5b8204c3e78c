-- What a scan keeps of a spot goes as the spot does.
use Rattle.std.proofs.Common.{◌≡◌, ◌∙◌, ◌+◌, ◌-◌, ◌||◌, ℕ, suc, false, IsTrue, List, [], ◌∷◌, refl, ap, arith, length, nat_lt, max}
use Rattle.xmas_tokens.specs.declared.token.Mark.TheVariants as mark
use Rattle.xmas_text.specs.declared.stage.Last.TheVariants as last
use Rattle.xmas_text.specs.declared.stage.Stage.TheVariants as stage
use Rattle.path_expr.specs.Grammar.{Spelled}
use Rattle.xmas_tokens.specs.declared.lexeme.Comparison.{Comparison}
use Rattle.xmas_text.specs.Grammar.{Conds, braced, Items, nothing, variable, literal, element, Keys, Key, Order, ordered}
use Rattle.xmas_text.specs.Levels.{levels}
use Rattle.xmas_tokens.specs.Tokens.{Token, fixed, open_tag, close_tag, word, var, quoted, path, comparison, kind_of}
use Rattle.xmas_text.specs.Stages.{stage_after, depth_after}
use Rattle.xmas_text.specs.Spots.{Frame, Head, Place, at_first, at_more, Before, Start, Spot, beginning, items, labelled, keys, key_comma, key_label, cond_start, cond_from, cond_path, cond_done, compared, ordering, ordering_by, sorted, last_of, may_group, is_none, push_key, with_group, stage_of, frames_of, takes, shift}
use Rattle.xmas_text.specs.Scans.{levels_around, levels_at, deep_after}
use Rattle.xmas_text.proofs.Texts.{IsSpot}
use Rattle.xmas_text.proofs.Levels.{around_more, lt_max, with_group_levels}

-- the stage, the open elements and the levels after a token
pub record Moves (s : Spot) (g : List ℕ) (t : Token) : Type 0 where
  pub stage : stage_of (shift s g t) ≡ stage_after (stage_of s) (kind_of t)
  pub depth : length (frames_of (shift s g t)) ≡ depth_after (length (frames_of s)) (kind_of t)
  pub deep : nat_lt 20 (levels_at (shift s g t)) ≡ deep_after (nat_lt 20 (levels_at s)) (length (frames_of s)) (kind_of t)

-- the number after another one is one more
one_more : (n : ℕ) → suc n ≡ n + 1
one_more n = omega arith

-- a number is one less than the number after it
one_less : (n : ℕ) → n ≡ suc n - 1
one_less n = omega arith

-- the levels after an opening tag
opened : (o : List Frame) (n : ℕ) → nat_lt 20 (levels_around o (max n (1 + 0))) ≡ (nat_lt 20 (levels_around o n) || nat_lt 20 (length o + 1))
opened o n = ap (λ m. nat_lt 20 m) (around_more o n 1) ∙ lt_max (levels_around o n) (length o + 1)

-- after items whose last one got a group label, no group label may come
with_group_last : (xs : Items) (g : List ℕ) (ks : Keys) (h : List ℕ) → IsTrue (may_group xs) → last_of (with_group xs (braced g ks h)) ≡ last.Item false
with_group_last nothing g ks h m = cc
with_group_last (variable b f k e) g ks h m = refl
with_group_last (literal b f ps) g ks h m = cc
with_group_last (element b f n i j c e) g ks h m = refl

-- keys to which one is added are not none
push_some : (ks : Keys) (p : Place) (g : List ℕ) (k : Key) → is_none (push_key ks p g k) ≡ false
push_some ks at_first g k = refl
push_some ks (at_more h) g k = refl

-- outside all elements, a scan goes with a token as the spot does
outer_moves : (lead : List ℕ) (xs : Items) (g : List ℕ) (t : Token) → IsTrue (takes (items lead [] xs) g (kind_of t)) → Moves (items lead [] xs) g t
outer_moves lead xs g (open_tag l) h = record { stage = refl; depth = one_more 0; deep = opened [] (levels xs) }
outer_moves lead xs g (fixed mark.OpenBrace) h = record { stage = refl; depth = refl; deep = refl }
outer_moves lead xs g (fixed mark.Where) h = record { stage = refl; depth = refl; deep = refl }
outer_moves lead xs g t h = cc

-- inside an element, a scan goes with a token as the spot does
inner_moves : (lead : List ℕ) (f : Frame) (o : List Frame) (xs : Items) (g : List ℕ) (t : Token) → IsTrue (takes (items lead (f ∷ o) xs) g (kind_of t)) → Moves (items lead (f ∷ o) xs) g t
inner_moves lead f o xs g (open_tag l) h = record { stage = refl; depth = one_more (length (f ∷ o)); deep = opened (f ∷ o) (levels xs) }
inner_moves lead f o xs g (close_tag l) h = record { stage = refl; depth = one_less (length o); deep = refl }
inner_moves lead f o xs g (var v) h = record { stage = refl; depth = refl; deep = refl }
inner_moves lead f o xs g (quoted ps) h = record { stage = refl; depth = refl; deep = refl }
inner_moves lead f o xs g (fixed mark.LabelWord) h = record { stage = refl; depth = refl; deep = refl }
inner_moves lead f o xs g (fixed mark.OpenBrace) h = record { stage = refl; depth = refl; deep = refl }
inner_moves lead f o xs g t h = cc

-- before CONSTRUCT, a scan goes with a token as the spot does
beginning_moves : (g : List ℕ) (t : Token) → IsTrue (takes beginning g (kind_of t)) → Moves beginning g t
beginning_moves g (fixed mark.Construct) h = record { stage = refl; depth = refl; deep = refl }
beginning_moves g t h = cc

-- after `label` as an item, a scan goes with a token as the spot does
labelled_moves : (lead : List ℕ) (o : List Frame) (xs : Items) (e g : List ℕ) (t : Token) → IsTrue (takes (labelled lead o xs e) g (kind_of t)) → Moves (labelled lead o xs e) g t
labelled_moves lead o xs e g (var v) h = record { stage = refl; depth = refl; deep = refl }
labelled_moves lead o xs e g t h = cc

-- inside a group label, a scan goes with a token as the spot does
keys_moves : (lead : List ℕ) (o : List Frame) (xs : Items) (e : List ℕ) (ks : Keys) (g : List ℕ) (t : Token) → IsTrue (may_group xs) → IsTrue (takes (keys lead o xs e ks) g (kind_of t)) → Moves (keys lead o xs e ks) g t
keys_moves lead o xs e ks g (var v) m h = record { stage = refl; depth = refl; deep = refl }
keys_moves lead o xs e ks g (fixed mark.LabelWord) m h = record { stage = refl; depth = refl; deep = refl }
keys_moves lead o xs e ks g (fixed mark.Comma) m h = record { stage = refl; depth = refl; deep = refl }
keys_moves lead o xs e ks g (fixed mark.CloseBrace) m h = record {
  stage = ap stage.Items (with_group_last xs e ks g m);
  depth = refl;
  deep = ap (λ n. nat_lt 20 (levels_around o n)) (with_group_levels xs (braced e ks g));
}
keys_moves lead o xs e ks g t m h = cc

-- after a comma, a scan goes with a token as the spot does
comma_moves : (lead : List ℕ) (o : List Frame) (xs : Items) (e : List ℕ) (ks : Keys) (f g : List ℕ) (t : Token) → IsTrue (takes (key_comma lead o xs e ks f) g (kind_of t)) → Moves (key_comma lead o xs e ks f) g t
comma_moves lead o xs e ks f g (var v) h = record { stage = refl; depth = refl; deep = refl }
comma_moves lead o xs e ks f g (fixed mark.LabelWord) h = record { stage = refl; depth = refl; deep = refl }
comma_moves lead o xs e ks f g t h = cc

-- after `label` as a key, a scan goes with a token as the spot does
key_label_moves : (lead : List ℕ) (o : List Frame) (xs : Items) (e : List ℕ) (ks : Keys) (p : Place) (f g : List ℕ) (t : Token) → IsTrue (takes (key_label lead o xs e ks p f) g (kind_of t)) → Moves (key_label lead o xs e ks p f) g t
key_label_moves lead o xs e ks p f g (var v) h = record { stage = ap stage.Keys (push_some ks p f _); depth = refl; deep = refl }
key_label_moves lead o xs e ks p f g t h = cc

-- where a condition begins, a scan goes with a token as the spot does
start_moves : (r : Head) (b : Before) (g : List ℕ) (t : Token) → IsTrue (takes (cond_start r b) g (kind_of t)) → Moves (cond_start r b) g t
start_moves r b g (word n) h = record { stage = refl; depth = refl; deep = refl }
start_moves r b g (var v) h = record { stage = refl; depth = refl; deep = refl }
start_moves r b g t h = cc

-- after the first word of a condition, a scan goes with a token as the spot does
from_moves : (r : Head) (b : Before) (e : List ℕ) (s : Start) (g : List ℕ) (t : Token) → IsTrue (takes (cond_from r b e s) g (kind_of t)) → Moves (cond_from r b e s) g t
from_moves r b e s g (path p) h = record { stage = refl; depth = refl; deep = refl }
from_moves r b e s g (comparison o) h = record { stage = refl; depth = refl; deep = refl }
from_moves r b e s g t h = cc

-- after a path, a scan goes with a token as the spot does
path_moves : (r : Head) (b : Before) (e : List ℕ) (s : Start) (f : List ℕ) (p : Spelled) (g : List ℕ) (t : Token) → IsTrue (takes (cond_path r b e s f p) g (kind_of t)) → Moves (cond_path r b e s f p) g t
path_moves r b e s f p g (var v) h = record { stage = refl; depth = refl; deep = refl }
path_moves r b e s f p g t h = cc

-- after an operator, a scan goes with a token as the spot does
compared_moves : (r : Head) (b : Before) (e v f : List ℕ) (o : Comparison) (g : List ℕ) (t : Token) → IsTrue (takes (compared r b e v f o) g (kind_of t)) → Moves (compared r b e v f o) g t
compared_moves r b e v f o g (var u) h = record { stage = refl; depth = refl; deep = refl }
compared_moves r b e v f o g (quoted ps) h = record { stage = refl; depth = refl; deep = refl }
compared_moves r b e v f o g t h = cc

-- after a condition, a scan goes with a token as the spot does
done_moves : (r : Head) (cs : Conds) (g : List ℕ) (t : Token) → IsTrue (takes (cond_done r cs) g (kind_of t)) → Moves (cond_done r cs) g t
done_moves r cs g (fixed mark.And) h = record { stage = refl; depth = refl; deep = refl }
done_moves r cs g (fixed mark.Order) h = record { stage = refl; depth = refl; deep = refl }
done_moves r cs g t h = cc

-- after ORDER, a scan goes with a token as the spot does
ordering_moves : (r : Head) (cs : Conds) (e g : List ℕ) (t : Token) → IsTrue (takes (ordering r cs e) g (kind_of t)) → Moves (ordering r cs e) g t
ordering_moves r cs e g (fixed mark.By) h = record { stage = refl; depth = refl; deep = refl }
ordering_moves r cs e g t h = cc

-- after BY, a scan goes with a token as the spot does
by_moves : (r : Head) (cs : Conds) (e f g : List ℕ) (t : Token) → IsTrue (takes (ordering_by r cs e f) g (kind_of t)) → Moves (ordering_by r cs e f) g t
by_moves r cs e f g (var v) h = record { stage = refl; depth = refl; deep = refl }
by_moves r cs e f g t h = cc

-- after the variable that orders, a scan goes with a token as the spot does
sorted_moves : (r : Head) (cs : Conds) (o : Order) (g : List ℕ) (t : Token) → IsTrue (takes (sorted r cs o) g (kind_of t)) → Moves (sorted r cs o) g t
sorted_moves r cs (ordered e f j v) g (fixed mark.Desc) h = record { stage = refl; depth = refl; deep = refl }
sorted_moves r cs o g t h = cc

-- a group label stands after an item that may have one
abbrev pub MayGroup : Spot → Type 0
MayGroup (keys lead o xs g ks) = IsTrue (may_group xs)
MayGroup s = Unit {0}

-- at each spot, a scan goes with a token that may come as the spot does
pub moves : (s : Spot) (g : List ℕ) (t : Token) → MayGroup s → IsTrue (takes s g (kind_of t)) → Moves s g t
moves beginning g t m h = beginning_moves g t h
moves (items lead [] xs) g t m h = outer_moves lead xs g t h
moves (items lead (f ∷ o) xs) g t m h = inner_moves lead f o xs g t h
moves (labelled lead o xs e) g t m h = labelled_moves lead o xs e g t h
moves (keys lead o xs e ks) g t m h = keys_moves lead o xs e ks g t m h
moves (key_comma lead o xs e ks f) g t m h = comma_moves lead o xs e ks f g t h
moves (key_label lead o xs e ks p f) g t m h = key_label_moves lead o xs e ks p f g t h
moves (cond_start r c) g t m h = start_moves r c g t h
moves (cond_from r c e a) g t m h = from_moves r c e a g t h
moves (cond_path r c e a f p) g t m h = path_moves r c e a f p g t h
moves (cond_done r cs) g t m h = done_moves r cs g t h
moves (compared r c e v f o) g t m h = compared_moves r c e v f o g t h
moves (ordering r cs e) g t m h = ordering_moves r cs e g t h
moves (ordering_by r cs e f) g t m h = by_moves r cs e f g t h
moves (sorted r cs o) g t m h = sorted_moves r cs o g t h

-- a spot that is well formed has a group label only after an item that may have one
pub may_group_of : (s : Spot) → IsSpot s → MayGroup s
may_group_of beginning h = tt
may_group_of (items lead o xs) h = tt
may_group_of (labelled lead o xs e) h = tt
may_group_of (keys lead o xs e ks) h = h.2
may_group_of (key_comma lead o xs e ks f) h = tt
may_group_of (key_label lead o xs e ks p f) h = tt
may_group_of (cond_start r c) h = tt
may_group_of (cond_from r c e a) h = tt
may_group_of (cond_path r c e a f p) h = tt
may_group_of (cond_done r cs) h = tt
may_group_of (compared r c e v f o) h = tt
may_group_of (ordering r cs e) h = tt
may_group_of (ordering_by r cs e f) h = tt
may_group_of (sorted r cs o) h = tt
