use Rattle.std.proofs.Common.{◌≡◌, ◌<◌, ◌∙◌, ◌++◌, ◌∷◌, [], ℕ, None, ap, arith, map, length, subst, sym, Vec, Global}
use Rattle.std.proofs.lemmas.List.{map-append, length-map}
use Rattle.mix_catalog.specs.declared.source.SourceSpec.{SourceSpec}
use Rattle.mix_catalog.specs.Kept.{IsKept}
use Rattle.mix_catalog.specs.Sources.{source_named, IsInPlace}
use Rattle.mix_catalog.proofs.Finds.{IsKept-push, new_last}
use Rattle.mix_catalog.proofs.catalog.Catalog.add.Goals as goal
use Rattle.mix_catalog.proofs.catalog.Catalog.add.Goals.{in-Ok-insert, in-Err}

-- the name under which the source is put
named : (c : goal.Joined-insert) → c.in-Ok.name.items ≡ c.args.spec.name
named c = c.in-Ok.ensures.items ∙ c.bytes.ensures.bytes

-- no source has the name of the new one yet
new : (c : goal.Joined-insert) → source_named (map (λ (e : Vec ℕ Global × SourceSpec). e.1) c.self.inside.sources.entries) c.args.spec.name ≡ None
new c = ap (λ sources. source_named sources c.args.spec.name) c.self.view_is ∙ c.requires.new

-- the entries are kept after one more
kept_more : (c : goal.Joined-insert) → c.insert.new.self.entries ≡ c.self.inside.sources.entries ++ (c.in-Ok.name, c.args.spec) ∷ [] → IsKept c.insert.new.self.entries
kept_more c e =
    let es = c.self.inside.sources.entries in
    let few : length es < 32 = omega (arith, c.requires.room, ap length c.self.view_is, length-map es (λ (e : Vec ℕ Global × SourceSpec). e.1)) in
    IsKept-push es c.insert.new.self.entries c.in-Ok.name c.args.spec e (named c) c.self.invariant few c.requires.named (new c) (subst (λ (sources : _). IsInPlace sources c.args.spec) (sym c.self.view_is) c.requires.place)

pub invariant_of-self : goal.invariant_of-self
invariant_of-self c = elim c.match-insert.branch [
  | in-Ok-insert w ↦ kept_more c (w.in-Ok-insert.ensures.entries ∙ new_last c.self.inside.sources.entries c.in-Ok.name c.args.spec c.self.invariant.keys (named c) (new c))
  | in-Err w ↦ subst IsKept (sym w.in-Err.ensures.err) c.self.invariant
]

-- the sources after one more entry
seen_more :
    (c : goal.Joined-insert) → c.insert.new.self.entries ≡ c.self.inside.sources.entries ++ (c.in-Ok.name, c.args.spec) ∷ []
    → map (λ (e : Vec ℕ Global × SourceSpec). e.1) c.insert.new.self.entries ≡ c.args.self.now ++ c.args.spec ∷ []
seen_more c e =
    ap (map (λ (e : Vec ℕ Global × SourceSpec). e.1)) e ∙ map-append (λ (e : Vec ℕ Global × SourceSpec). e.1) c.self.inside.sources.entries ((c.in-Ok.name, c.args.spec) ∷ [])
    ∙ ap (λ sources. sources ++ c.args.spec ∷ []) c.self.view_is

pub returns-clause-ok : goal.returns-clause-ok
returns-clause-ok c = elim c.match-insert.branch [
  | in-Ok-insert w ↦ rw w.result-is (seen_more c (w.in-Ok-insert.ensures.entries ∙ new_last c.self.inside.sources.entries c.in-Ok.name c.args.spec c.self.invariant.keys (named c) (new c)))
  | in-Err w ↦ rw w.result-is tt
]
