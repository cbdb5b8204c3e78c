-- Steps that ask nothing: the document node of a source, and the only binding of a groupBy by no keys.
use Rattle.std.proofs.Common.{◌≡◌, ◌<◌, ℕ, suc, List, [], ◌∷◌, Some, length, refl, ◌∙◌, sym, ap, subst, arith}
use Rattle.std.specs.Prelude.{zero}
use Rattle.std.specs.List.{AllByRecursion}
use Rattle.std.proofs.Common.{get_or}
use Rattle.std.proofs.lemmas.Option.{slice_get_read}
use Rattle.tree_buffer.specs.declared.buffer.Buffer.{Buffer}
use Rattle.tree_buffer.specs.Buffer.{IsSpot, place_of}
use Rattle.mix_base.specs.Events.{nothing, finds, found}
use Rattle.tree_buffer.specs.declared.spot.Spot.{Spot}
use Rattle.plan_core.specs.declared.plan.Piece.{Piece}
use Rattle.plan_core.specs.Plans.{Operator}
use Rattle.plan_core.specs.Valid.{ReadsSource, HasSource}
use Rattle.plan_core.specs.ByNumber.{op_at}
use Rattle.plan_core.specs.Typed.{IsTyped}
use Rattle.plan_core.specs.TolledRows.{of_source}
use Rattle.plan_core.specs.Shapes.{Shape, one_source, visits_below, pairs_up, passes_on, no_events, one_group, shape_at}
use Rattle.lazy_binding.specs.declared.position.Position.{Position, Start, Top, Whole}
use Rattle.lazy_binding.specs.Bench.{IsBench}
use Rattle.lazy_binding.specs.World.{World, docs_of, place_in, of_buffer, IsSpotIn}
use Rattle.lazy_binding.specs.Cursors.{stands, weighs, source_number, IsRead, IsIn}
use Rattle.lazy_steps.specs.Steps.{Finds}
use Rattle.lazy_steps.proofs.Shapes.{events_at, size_at}

-- what is true of all operators is true of each
all_at : (P : Operator → Type 0) (ops : List Operator) (n : ℕ) → n < length ops → AllByRecursion P ops → P (op_at ops n)
all_at P [] n h all = absurd (omega (arith, h))
all_at P (o ∷ ops) zero h all = all.0
all_at P (o ∷ ops) (suc n) h all = all_at P ops n (omega (arith, h)) all.1

-- a source that an operator reads has a buffer
pub read_within : (w : World) (ops : List Operator) → IsBench w ops → (s : ℕ) → IsRead ops s → s < length w.buffers
read_within w ops bench s r = below (shape_at ops r.number) r.is (all_at (HasSource (length w.buffers)) ops r.number r.within bench.enough)
  where
    below : (f : Shape) → source_number f ≡ Some s → ReadsSource (length w.buffers) f → s < length w.buffers
    below (one_source t out) e h = (let same : t ≡ s = cc in subst (λ (m : ℕ). m < length w.buffers) same h)
    below (visits_below i start path out) e h = cc
    below (pairs_up l r tests) e h = cc
    below (passes_on i stage) e h = cc
    below (no_events i v) e h = cc

module _ (ops : List Operator) (typed : IsTyped ops) (n : ℕ) (within : n < length ops) where
  module _ (s out : ℕ) (e : shape_at ops n ≡ one_source s out) where
    -- the document node is the first binding of a source
    pub top_at : (w : World) (x : Spot) → IsSpotIn w s x → place_in w s x ≡ []
        → Finds w w ops n (one_source s out) (stands w ops n (one_source s out) Start).ahead (weighs w ops n (one_source s out) Start) (Top s x)
    top_at w x known place = record {
      cursor = (refl, known, place);
      row = refl;
      falls = (let z = size_at ops typed n within (one_source s out) e w in omega (arith, z));
      found = λ t.
          ap found (events_at ops typed n within (one_source s out) e (docs_of w))
          ∙ ap (λ (p : List ℕ). finds ((out, of_source (record { source = s; place = p })) ∷ []) []) (sym place);
    }

    -- no event comes after the document node of a source
    pub top_over : (w : World) (c : Position) → IsIn w ops n (one_source s out) c → (c ≡ Start → ⊥) → found (stands w ops n (one_source s out) c).ahead ≡ nothing
    top_over w Start h ne = absurd (ne refl)
    top_over w (Top t x) h ne = refl
    top_over w c h ne = absurd h

    -- a source that an operator reads has a buffer on the bench
    pub source_within : (w : World) → IsBench w ops → s < length w.buffers
    source_within w bench = subst (ReadsSource (length w.buffers)) e (all_at (HasSource (length w.buffers)) ops n within bench.enough)

  module _ (i : ℕ) (p : Piece) (out : ℕ) (e : shape_at ops n ≡ passes_on i (one_group p out)) where
    -- the only binding of a groupBy by no keys
    pub whole_at : (w : World) → Finds w w ops n (passes_on i (one_group p out)) (stands w ops n (passes_on i (one_group p out)) Start).ahead (weighs w ops n (passes_on i (one_group p out)) Start) Whole
    whole_at w = record {
      cursor = tt;
      row = refl;
      falls = (let z = size_at ops typed n within (passes_on i (one_group p out)) e w in omega (arith, z));
      found = λ t. ap found (events_at ops typed n within (passes_on i (one_group p out)) e (docs_of w));
    }

    -- no event comes after the only binding of a groupBy without keys
    pub whole_over : (w : World) (c : Position) → IsIn w ops n (passes_on i (one_group p out)) c → (c ≡ Start → ⊥) → found (stands w ops n (passes_on i (one_group p out)) c).ahead ≡ nothing
    whole_over w Start h ne = absurd (ne refl)
    whole_over w Whole h ne = refl
    whole_over w c h ne = absurd h

  -- an operator without events has nothing ahead
  pub end_over : (i v : ℕ) (e : shape_at ops n ≡ no_events i v) (w : World) (c : Position) → IsIn w ops n (no_events i v) c → found (stands w ops n (no_events i v) c).ahead ≡ nothing
  end_over i v e w Start h = ap found (events_at ops typed n within (no_events i v) e (docs_of w))
  end_over i v e w c h = absurd h

-- the top of a source's buffer
pub top_known : (w : World) (s : ℕ) (b : Buffer) (x : Spot) → s < length w.buffers → b ≡ get_or w.buffers s b → IsSpot b x → IsSpotIn w s x
top_known w s b x h e k = record { buffer = b; there = slice_get_read w.buffers (length w.buffers) s b refl h e; spot = k }

-- the root of a buffer stands at the document node
pub top_place : (w : World) (s : ℕ) (b : Buffer) (x : Spot) → s < length w.buffers → b ≡ get_or w.buffers s b → place_of b x ≡ [] → place_in w s x ≡ []
top_place w s b x h e k = ap (of_buffer [] (λ (z : Buffer). place_of z x)) (slice_get_read w.buffers (length w.buffers) s b refl h e) ∙ k
