use Rattle.std.proofs.Common.{◌≡◌, ◌∙◌, ◌++◌, ℕ, List, IsUtf8, Vec, Global, sym, ap, subst, map}
use Rattle.std.specs.List.{AllByRecursion}
use Rattle.mix_base.proofs.Firsts.{map-map}
use Rattle.plan_read.proofs.names.Names.labels.Goals as goal

pub loop-name-init : goal.loop-name-init
loop-name-init c =
    let rest = c.into_iter-name-iterator.result in
    let keys_are : map (λ (k : Vec ℕ Global). k.items) rest ≡ c.args.self.now =
    ap (map (λ (k : Vec ℕ Global). k.items)) (c.into_iter-name-iterator.ensures.into_iter_gives ∙ c.keys-name-items.ensures.rest)
    ∙ map-map (λ (k : Vec ℕ Global). k.items) (λ (e : Vec ℕ Global × Unit {0}). e.0) c.self.inside.places.entries ∙ c.self.view_is in
    record {
      same = ap (λ (ls : List (List ℕ)). ls ++ map (λ (k : Vec ℕ Global). k.items) rest) c.new-labels.ensures.items ∙ keys_are;
      utf8 = subst (AllByRecursion IsUtf8) (sym keys_are) c.requires;
    }
