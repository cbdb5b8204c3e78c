-- What a fill makes of a list that begins with a hole.
use Rattle.std.proofs.Common.{◌≡◌, ℕ, ◌+◌, ◌≤◌, ◌<◌, Bool, true, false, refl, ap, ◌∙◌, arith}
use Rattle.lxp_core.specs.declared.open_tree.HoleId.{HoleId}
use Rattle.mix_tree.specs.Forest.{followed}
use Rattle.lxp_core.specs.Open.{Open, nil, node, hole, closed, weight_of, AllHoles, IsApart, begins_with_hole, has_node, is_nil, open_followed, IsProgress}
use Rattle.lxp_core.specs.View.{View, Keeps}
use Rattle.lxp_core.proofs.Opens.{closed-open_followed, weight_of-open_followed, AllHoles-open_followed, IsApart-open_followed, begins_with_hole-open_followed, closed-same, weight_of-same, AllHoles-weaker}
use Rattle.tree_buffer.specs.Fills.{hole_first, holes_weight, fills_left, IsRefined, IsLazy}

-- a list that no fill touched is refined to itself
pub stays : (old new : View) (n : ℕ) (o : Open) → Keeps old new → AllHoles (old.knows n) o → IsApart o → IsRefined old new n o o
stays old new n o keeps known apart = record {
  known = AllHoles-weaker (old.knows n) (new.knows n) (keeps.knows n) o known;
  apart = apart;
  lighter = omega (arith, weight_of-same (old.knows n) (old.weight n) (new.weight n) (keeps.weight n) o known);
  closes = λ _. closed-same (old.knows n) (old.forest n) (new.forest n) (keeps.forest n) o known;
  whole = λ e. e;
}

-- a list that is refined and refined again is refined from the first to the last
pub refined_again : (a b c : View) (n : ℕ) (o p q : Open) → Keeps a b → IsRefined a b n o p → IsRefined b c n p q → IsRefined a c n o q
refined_again a b c n o p q keeps first second = record {
  known = second.known;
  apart = second.apart;
  lighter = omega (arith, first.lighter, second.lighter);
  closes = λ told. second.closes (keeps.told n ∙ told) ∙ first.closes told;
  whole = λ e. second.whole (first.whole e);
}

-- the holes of two lists add up
holes_weight-open_followed : (w : HoleId → ℕ) (a b : Open) → holes_weight w (open_followed a b) ≡ holes_weight w a + holes_weight w b
holes_weight-open_followed w nil b = omega arith
holes_weight-open_followed w (node l ks rest) b = omega (arith, holes_weight-open_followed w rest b)
holes_weight-open_followed w (hole h rest) b = omega (arith, holes_weight-open_followed w rest b)

-- holes weigh the same where those that pass do
holes_weight-same : (known : HoleId → Bool) (w v : HoleId → ℕ) → ((h : HoleId) → known h ≡ true → v h ≡ w h) → (o : Open) → AllHoles known o → holes_weight v o ≡ holes_weight w o
holes_weight-same known w v e nil p = refl
holes_weight-same known w v e (node l ks rest) p = omega (arith, holes_weight-same known w v e ks p.0, holes_weight-same known w v e rest p.1)
holes_weight-same known w v e (hole h rest) p = omega (arith, e h p.0, holes_weight-same known w v e rest p.1)

-- the holes of a list weigh at most what the list does
holes_weight-le : (w : HoleId → ℕ) (o : Open) → holes_weight w o ≤ weight_of w o
holes_weight-le w nil = omega arith
holes_weight-le w (node l ks rest) = omega (arith, holes_weight-le w ks, holes_weight-le w rest)
holes_weight-le w (hole h rest) = omega (arith, holes_weight-le w rest)

-- a list with a tree at its top has a node
holes_weight-lt : (w : HoleId → ℕ) (o : Open) → has_node o ≡ true → holes_weight w o < weight_of w o
holes_weight-lt w nil e = cc
holes_weight-lt w (node l ks rest) e = omega (arith, holes_weight-le w ks, holes_weight-le w rest)
holes_weight-lt w (hole h rest) e = omega (arith, holes_weight-lt w rest e)

-- what a hole at the beginning of a list counts for is at most 1
pub hole_first-le : (o : Open) → hole_first o ≤ 1
hole_first-le nil = omega arith
hole_first-le (node l ks rest) = omega arith
hole_first-le (hole h rest) = omega arith

-- no hole stands at the beginning of a list that begins with none
pub hole_first-zero : (o : Open) → begins_with_hole o ≡ false → hole_first o ≡ 0
hole_first-zero o e = rw e refl

module _ (old new : View) (n : ℕ) (h : HoleId) (tail list : Open) (keeps : Keeps old new)
    (known : AllHoles (old.knows n) (hole h tail)) (apart : IsApart (hole h tail)) (progress : IsProgress list)
    (list_known : AllHoles (new.knows n) list) (lighter : weight_of (new.weight n) list ≤ old.weight n h) where
  -- the list in which the first hole is replaced by an answer
  pub filled : (old.told n ≡ true → closed (new.forest n) list ≡ old.forest n h) → IsRefined old new n (hole h tail) (open_followed list tail)
  filled closes = record {
    known = AllHoles-open_followed (new.knows n) list tail list_known (AllHoles-weaker (old.knows n) (new.knows n) (keeps.knows n) tail known.1);
    apart = IsApart-open_followed list tail progress.apart apart.1 apart.0;
    lighter =
        omega (
          arith,
          lighter,
          weight_of-open_followed (new.weight n) list tail,
          weight_of-same (old.knows n) (old.weight n) (new.weight n) (keeps.weight n) tail known.1,
        );
    closes = λ told.
        closed-open_followed (new.forest n) list tail ∙ ap (λ f. followed f (closed (new.forest n) tail)) (closes told)
        ∙ ap (followed (old.forest n h)) (closed-same (old.knows n) (old.forest n) (new.forest n) (keeps.forest n) tail known.1);
    whole = λ e. cc;
  }

  -- a list in which a fill has put its answer needs fewer fills
  pub falls : fills_left (new.weight n) (open_followed list tail) < fills_left (old.weight n) (hole h tail)
  falls = fewer list refl progress lighter
    where
      tail_same : holes_weight (new.weight n) tail ≡ holes_weight (old.weight n) tail
      tail_same = holes_weight-same (old.knows n) (old.weight n) (new.weight n) (keeps.weight n) tail known.1

      some : (xs : Open) → is_nil xs ≡ false → IsProgress xs → weight_of (new.weight n) xs ≤ old.weight n h → fills_left (new.weight n) (open_followed xs tail) < fills_left (old.weight n) (hole h tail)
      some xs e pr le =
          omega (arith, tail_same, holes_weight-open_followed (new.weight n) xs tail, holes_weight-lt (new.weight n) xs (pr.top e), hole_first-le (open_followed xs tail), le)

      fewer : (xs : Open) → list ≡ xs → IsProgress xs → weight_of (new.weight n) xs ≤ old.weight n h → fills_left (new.weight n) (open_followed xs tail) < fills_left (old.weight n) (hole h tail)
      fewer nil e pr le = omega (arith, tail_same, hole_first-zero tail apart.0)
      fewer (node l ks rest) e pr le = some (node l ks rest) refl pr le
      fewer (hole g rest) e pr le = some (hole g rest) refl pr le

  -- over a forward source, a list whose first hole was replaced by one fill begins with none, so it was asked for lazily
  pub lazily : (old.forward n ≡ true → begins_with_hole list ≡ false) → new.fills ≤ old.fills + 1 → IsLazy old new n (hole h tail) (open_followed list tail)
  lazily forward one told = omega (arith, one, hole_first-zero (open_followed list tail) (begins_with_hole-open_followed list tail (forward told) apart.0))
