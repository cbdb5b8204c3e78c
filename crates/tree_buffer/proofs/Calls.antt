-- What parts of calls leave together, and what callers read of it.
use Rattle.std.proofs.lemmas.Bool.{cases_eq}
use Rattle.std.proofs.Common.{◌≡◌, ℕ, ◌+◌, ◌⊎◌, inl, inr, ◌<◌, ◌≤◌, [], ◌∷◌, ◌++◌, length, refl, ap, sym, subst, ◌∙◌, arith}
use Rattle.mix_tree.specs.Forest.{none, tree}
use Rattle.lxp_core.specs.View.{View, Keeps}
use Rattle.tree_buffer.specs.declared.buffer.Buffer.{Buffer}
use Rattle.tree_buffer.specs.declared.spot.Spot.{Spot}
use Rattle.tree_buffer.specs.Document.{document_node}
use Rattle.tree_buffer.specs.Nodes.{places, parent}
use Rattle.tree_buffer.specs.Sourced.{Sourced}
use Rattle.tree_buffer.specs.Weights.{below_node}
use Rattle.tree_buffer.specs.Buffer.{nodes_of, number_of, IsSpot, place_of, weigh, below, after, IsChildSpot, HasAllSiblings, IsSourcesOf, Goes, IsKept, Ran}
use Rattle.tree_buffer.specs.Advance.{Advances, Advanced}
use Rattle.tree_buffer.proofs.Refine.{moved_again, sourced_again, same_document, all_stay, moved_twice}
use Rattle.tree_buffer.proofs.Held.{held-from}
use Rattle.tree_buffer.proofs.Spots.{after_moved, below_top, child_at, child_lighter}

-- two parts of a call one after another are one part
pub advances_twice : {a b c : View} {x y z : Buffer} → Advances a x b y → Advances b y c z → Advances a x c z
advances_twice {a} {b} {c} {x} {y} {z} first second = record {
  number = second.number ∙ first.number;
  moved = moved_twice (weigh a x) (weigh b y) (weigh c z) (nodes_of x) (nodes_of y) (nodes_of z) first.moved second.moved;
}

-- a view that means the sources of a buffer's nodes, and what is so of its spots then
module _ (v : View) (b : Buffer) (s : Sourced v (number_of b) (nodes_of b)) where
  -- no spot has more below it than the source's root hole weighs
  below_root : (x : Spot) → IsSpot b x → below v b x ≤ v.weight (number_of b) (v.root (number_of b))
  below_root x spot = cases (cases_eq x.number 0)
    where
      cases : (x.number ≡ 0) ⊎ (x.number ≡ 0 → ⊥) → below v b x ≤ v.weight (number_of b) (v.root (number_of b))
      cases (inl e) = subst (λ i. below_node (weigh v b) (nodes_of b) i ≤ v.weight (number_of b) (v.root (number_of b))) (sym e) s.lighter
      cases (inr ne) = omega (arith, s.lighter, below_top (nodes_of b) b.linked (weigh v b) x.number s.rests (omega arith) spot)

  -- what lies below a spot weighs more than what lies below a child and after it
  child_weight : (p : Spot) → IsSpot b p → (k : ℕ) (c : Spot) → IsChildSpot b p k c → 1 + below v b c + after v b c ≤ below v b p
  child_weight p spot k c child =
      omega (
        arith,
        child_lighter (nodes_of b) b.linked (weigh v b) p.number k c.number s.rests (child_at (nodes_of b) b.linked p.number k c.number spot child.spot child.place),
        held-from (weigh v b) (place_of b p) k (places (nodes_of b).links) (nodes_of b).rests,
      )

  -- a view that means the sources of a buffer's nodes means the buffer's sources
  pub sources_from : IsSourcesOf v b
  sources_from = record { sourced = s; count = s.number; label = λ told x spot. s.stands told x.number spot; light = below_root; lighter = child_weight }

-- a buffer that goes on over a part of a call, and what stays of it then
module _ {v v' : View} {b b' : Buffer} (s : IsSourcesOf v b) (keeps : Keeps v v') (goes : Advances v b v' b') where
  -- a source that tells its document still does after a part of a call
  pub still_told : v'.told (number_of b') ≡ v.told (number_of b)
  still_told = ap v'.told goes.number ∙ keeps.told (number_of b)

  -- the document node of a buffer's source is the same
  pub still_node : document_node v' (number_of b') ≡ document_node v (number_of b)
  still_node =
      ap (document_node v') goes.number
      ∙ ap (λ f. tree [] f none) (same_document v v' b.number (nodes_of b) (nodes_of b).rests s.sourced keeps refl (all_stay v v' b.number (nodes_of b) s.sourced keeps))

  -- a spot whose siblings were all handed out has them all handed out after a part of a call
  siblings_stay : (x : Spot) → IsSpot b x → HasAllSiblings b x → HasAllSiblings b' x
  siblings_stay x spot all u k within child =
      let m = nodes_of b in
      let own = child_at (nodes_of b') b'.linked u.number k x.number within child.spot child.place in
      let up : parent m.links x.number ≡ u.number = ap (λ (l : ℕ × ℕ). l.0) (sym (goes.moved.links x.number spot)) ∙ own.parent in
      let inside : u.number < length (nodes_of b).links = omega (arith, spot, up, b.linked.back x.number own.after spot) in
      let at : place_of b x ≡ place_of b u ++ k ∷ [] =
      sym (goes.moved.places x.number spot) ∙ child.place ∙ ap (λ p. p ++ k ∷ []) (goes.moved.places u.number inside) in
      goes.moved.whole u.number inside (all u k inside (record { spot = spot; place = at }))

  -- a buffer that goes on over a part of a call goes on for its callers
  pub goes_from : Goes v b v' b'
  goes_from = record {
    number = goes.number;
    told = still_told;
    forward = ap v'.forward goes.number ∙ keeps.forward (number_of b);
    document = still_node;
    more = goes.moved.more;
    spot = λ x spot. omega (arith, goes.moved.more, spot);
    place = λ x spot. goes.moved.places x.number spot;
    label = λ x spot. goes.moved.labels x.number spot;
    below = λ x spot. goes.moved.lighter x.number 0 spot;
    after = λ x spot. after_moved (nodes_of b) b.linked (weigh v b) (weigh v' b') (nodes_of b') x.number spot goes.moved;
    children = λ x spot. goes.moved.whole x.number spot;
    siblings = siblings_stay;
  }

-- a buffer of sources that a call doesn't take is kept where the sources keep what every call keeps
pub kept : {v v' : View} {b : Buffer} → IsSourcesOf v b → Keeps v v' → IsKept v v' b
kept {v} {v'} {b} s keeps =
    let stay = all_stay v v' b.number (nodes_of b) s.sourced keeps in
    record {
      sources = sources_from v' b (sourced_again v v' b.number (nodes_of b) (nodes_of b).rests s.sourced keeps refl stay b.linked.some);
      goes = goes_from s keeps (record { number = refl; moved = moved_again v v' b.number (nodes_of b) (nodes_of b).rests s.sourced keeps refl stay });
    }

module _ {S : Type 0} {view : S → View} {came_from : S → S → Type 0} (keeps : (a b : S) → came_from a b → Keeps (view a) (view b)) where
  -- what the parts of a call leave together is what the call leaves
  pub ran_from : {s t : S} {b c : Buffer} → IsSourcesOf (view s) b → Advanced view came_from s b t c → Ran view came_from s b t c
  ran_from {s} {t} {b} {c} sources part = record {
    came = part.came;
    sources = part.sources;
    goes = goes_from sources (keeps s t part.came) part.advances;
    others = λ d of. kept of (keeps s t part.came);
  }
