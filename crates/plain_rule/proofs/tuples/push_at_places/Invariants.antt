use Rattle.std.proofs.Common.{◌≡◌, ◌++◌, ◌∷◌, [], drop, map}
use Rattle.plain_rule.proofs.tuples.push_at_places.Given as goal

abbrev pub invariant-loop-place : goal.invariant-loop-place
invariant-loop-place l =
    l.longer.items ++ map (λ q. l.binding ++ (l.at.var, record { source = l.at.source; place = q }) ∷ []) (drop l.place-index l.at.places.now)
    ≡ l.fn.longer.items ++ map (λ q. l.binding ++ (l.at.var, record { source = l.at.source; place = q }) ∷ []) l.at.places.now
