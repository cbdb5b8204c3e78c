use Rattle.std.proofs.Common.{◌+◌, ◌++◌, ◌∙◌, ℕ, List, [], ◌∷◌, ap, sym, subst, drop}
use Rattle.std.proofs.lemmas.Option.{slice_get_within}
use Rattle.std.specs.declared.alloc.Global.{Global}
use Rattle.std.specs.declared.vec.Vec.{Vec}
use Rattle.mix_tree.specs.declared.place.Place.{Place}
use Rattle.tree_buffer.specs.declared.buffer.Buffer.{Buffer}
use Rattle.tree_buffer.specs.Buffer.{IsSpot, place_of}
use Rattle.lazy_binding.proofs.Labels.{read_is}
use Rattle.lazy_evidence.specs.Noted.{places_there}
use Rattle.lazy_evidence.proofs.Placed.{known_at, known_on, goes_by, goes_on}
use Rattle.lazy_evidence.proofs.visited.places.Goals.{in-Some+in_ok-place+in_ok-push, in_default}
use Rattle.lazy_evidence.proofs.visited.places.Goals as goal

pub bounds-buffers-source : goal.bounds-buffers-source
bounds-buffers-source c =
    let k = known_at c.args.buffers.now c.args.spots.now c.loop-spot.spot-index (c.in-Some.source, c.in-Some.spot) c.loop-spot.invariant.known c.in-Some.is in
    slice_get_within c.args.buffers.now c.in-Some.source k.0 k.1

pub place-requires : goal.place-requires
place-requires c =
    let k = known_at c.args.buffers.now c.args.spots.now c.loop-spot.spot-index (c.in-Some.source, c.in-Some.spot) c.loop-spot.invariant.known c.in-Some.is in
    subst (λ (b : Buffer). IsSpot b c.in-Some.spot) (sym (read_is c.args.buffers.now c.in-Some.source k.0 c.index-buffers-source.result k.1 c.index-buffers-source.is)) k.2

pub loop-spot-preserved : goal.loop-spot-preserved
loop-spot-preserved c = elim c.match-spot.branch [
  | in-Some+in_ok-place+in_ok-push w ↦
      (let k = known_at c.args.buffers.now c.args.spots.now c.loop-spot.spot-index (w.in-Some.source, w.in-Some.spot) c.loop-spot.invariant.known w.in-Some.is in
      let read = read_is c.args.buffers.now w.in-Some.source k.0 w.index-buffers-source.result k.1 w.index-buffers-source.is in record {
        known = known_on c.args.buffers.now c.args.spots.now c.loop-spot.spot-index c.loop-spot.invariant.known;
        places =
            ap (λ (v : Vec Place Global). v.items ++ places_there c.args.buffers.now (drop (c.loop-spot.spot-index + 1) c.args.spots.now)) w.places-is
            ∙ ap (λ (z : List (List ℕ)). z ++ places_there c.args.buffers.now (drop (c.loop-spot.spot-index + 1) c.args.spots.now))
            (w.in_ok-push.ensures.items ∙ ap (λ (z : List ℕ). c.loop-spot.places.items ++ z ∷ []) (w.in_ok-place.ensures ∙ ap (λ (b : Buffer). place_of b w.in-Some.spot) read))
            ∙ goes_on c.args.buffers.now c.args.spots.now c.loop-spot.spot-index (places_there c.args.buffers.now c.args.spots.now) c.loop-spot.places.items (w.in-Some.source, w.in-Some.spot) k.0 k.1 w.in-Some.is
            c.loop-spot.invariant.places;
      })
  | in_default w ↦ record {
    known = known_on c.args.buffers.now c.args.spots.now c.loop-spot.spot-index c.loop-spot.invariant.known;
    places =
        ap (λ (v : Vec Place Global). v.items ++ places_there c.args.buffers.now (drop (c.loop-spot.spot-index + 1) c.args.spots.now)) w.places-is
        ∙ goes_by c.args.buffers.now c.args.spots.now c.loop-spot.spot-index (places_there c.args.buffers.now c.args.spots.now) c.loop-spot.places.items w.in_default.is c.loop-spot.invariant.places;
  }
]
