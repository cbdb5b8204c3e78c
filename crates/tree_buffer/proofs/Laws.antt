-- What calls leave together, and what they leave of buffers that they don't take: for callers to cite.
use Rattle.std.proofs.Common.{◌≡◌, refl, ◌∙◌, arith}
use Rattle.lxp_core.specs.View.{View, Keeps}
use Rattle.tree_buffer.specs.declared.buffer.Buffer.{Buffer}
use Rattle.tree_buffer.specs.declared.spot.Spot.{Spot}
use Rattle.tree_buffer.specs.Buffer.{IsSpot, place_of, IsSourcesOf, Goes, IsKept, Ran}
use Rattle.tree_buffer.proofs.Calls.{kept}

-- a buffer to which nothing happened goes on
goes_same : (v : View) (b : Buffer) → Goes v b v b
goes_same v b = record {
  number = refl;
  told = refl;
  forward = refl;
  document = refl;
  more = omega arith;
  spot = λ x spot. spot;
  place = λ x spot. refl;
  label = λ x spot. refl;
  below = λ x spot. omega arith;
  after = λ x spot. omega arith;
  children = λ x spot all. all;
  siblings = λ x spot all. all;
}

-- a buffer that goes on and goes on again goes on from the first to the last
goes_twice : {a b c : View} {x y z : Buffer} → Goes a x b y → Goes b y c z → Goes a x c z
goes_twice first second = record {
  number = second.number ∙ first.number;
  told = second.told ∙ first.told;
  forward = second.forward ∙ first.forward;
  document = second.document ∙ first.document;
  more = omega (arith, second.more, first.more);
  spot = λ x spot. second.spot x (first.spot x spot);
  place = λ x spot. second.place x (first.spot x spot) ∙ first.place x spot;
  label = λ x spot. second.label x (first.spot x spot) ∙ first.label x spot;
  below = λ x spot. omega (arith, second.below x (first.spot x spot), first.below x spot);
  after = λ x spot. omega (arith, second.after x (first.spot x spot), first.after x spot);
  children = λ x spot all. second.children x (first.spot x spot) (first.children x spot all);
  siblings = λ x spot all. second.siblings x (first.spot x spot) (first.siblings x spot all);
}

module _ {S : Type 0} {view : S → View} {came_from : S → S → Type 0} where
  -- where no call was made, what calls leave is left
  pub ran_same : ((a : S) → came_from a a) → (s : S) (b : Buffer) → IsSourcesOf (view s) b → Ran view came_from s b s b
  ran_same same s b sources = record {
    came = same s;
    sources = sources;
    goes = goes_same (view s) b;
    others = λ c of. record { sources = of; goes = goes_same (view s) c };
  }

  -- what two calls leave one after another is what calls leave
  pub ran_twice : ((a b c : S) → came_from a b → came_from b c → came_from a c) → {s t u : S} {a b c : Buffer}
      → Ran view came_from s a t b → Ran view came_from t b u c → Ran view came_from s a u c
  ran_twice after {s} {t} {u} first second = record {
    came = after s t u first.came second.came;
    sources = second.sources;
    goes = goes_twice first.goes second.goes;
    others = λ d of.
        let once = first.others d of in
        let twice = second.others d once.sources in
        record { sources = twice.sources; goes = goes_twice once.goes twice.goes };
  }

-- a buffer of sources is kept by calls that don't take it, where the sources keep what every call keeps
pub keeps_buffers : {v v' : View} {b : Buffer} → IsSourcesOf v b → Keeps v v' → IsKept v v' b
keeps_buffers = kept

-- two spots of a buffer that stand for one place are one
pub one_spot : (b : Buffer) (x y : Spot) → IsSpot b x → IsSpot b y → place_of b x ≡ place_of b y → x.number ≡ y.number
one_spot b x y at_x at_y same = b.linked.distinct x.number y.number at_x at_y same
