-- Where the sources of a catalog are, one after another.
use Rattle.std.proofs.Common.{◌≡◌, ◌∙◌, ◌+◌, ◌<◌, inl, inr, ℕ, Bool, cond, List, [], ◌∷◌, ◌++◌, Some, refl, sym, subst, arith, length, slice_get, get_or}
use Rattle.std.proofs.lemmas.Bool.{cases_lt}
use Rattle.std.proofs.lemmas.List.{get_or_append_left, length-append}
use Rattle.std.proofs.Math.Seq.{get_or-append_seam}
use Rattle.std.proofs.lemmas.Option.{same_Some, slice_get_within}
use Rattle.mix_catalog.specs.declared.source.SourceSpec.{SourceSpec}
use Rattle.mix_reach.specs.Reach.{site_at}
use Rattle.mix_reach.specs.declared.site.Site.{Site}
use Rattle.mix_reach.specs.declared.site.Site.TheVariants.{Here}
use Rattle.mix_place.specs.Documents.{far_in}
use Rattle.mix_place.specs.Mounting.{AreSites, site_by}

-- where a source is by a choice of sources: as its kind says where it is chosen, else here
abbrev pub site_for : (ℕ → Bool) → ℕ → SourceSpec → Site
site_for chosen s spec = cond (chosen s) (site_by (far_in spec.kind)) Here

-- where each of the first n sources is
pub record AreSitesTo (chosen : ℕ → Bool) (sources : List SourceSpec) (n : ℕ) (sites : List Site) : Type 0 where
  pub count : length sites ≡ n
  pub each : (s : ℕ) (spec : SourceSpec) → s < n → slice_get sources s ≡ Some spec → site_at sites s ≡ site_for chosen s spec

-- before the first source there is no site
pub no_sites : (chosen : ℕ → Bool) (sources : List SourceSpec) → AreSitesTo chosen sources 0 []
no_sites chosen sources = record { count = refl; each = λ s spec h. absurd (omega arith) }

-- with the site of the next source, there are those of the first n + 1 sources
pub sites_more : (chosen : ℕ → Bool) (sources : List SourceSpec) (n : ℕ) (sites : List Site) (spec : SourceSpec) (site : Site) → AreSitesTo chosen sources n sites → slice_get sources n ≡ Some spec
    → site ≡ site_for chosen n spec → AreSitesTo chosen sources (n + 1) (sites ++ site ∷ [])
sites_more chosen sources n sites spec site h there is = record {
  count = (let l = length-append sites (site ∷ []) in let c = h.count in omega (arith, l, c));
  each = λ s other less at.
      elim (cases_lt s n) as (λ _. site_at (sites ++ site ∷ []) s ≡ site_for chosen s other) [
        | inl low ↦ (
            let c = h.count in
            let inside : s < length sites = omega (arith, low, c) in
            get_or_append_left sites (site ∷ []) Here s inside ∙ h.each s other low at
            )
        | inr high ↦ (
            let e : n ≡ s = omega (arith, less, high) in
            subst (λ (k : ℕ). slice_get sources k ≡ Some other → site_at (sites ++ site ∷ []) k ≡ site_for chosen k other) e last at
            )
      ];
}
  where
    last : {other : SourceSpec} → slice_get sources n ≡ Some other → site_at (sites ++ site ∷ []) n ≡ site_for chosen n other
    last {other} at =
        subst (λ (k : ℕ). get_or (sites ++ site ∷ []) k Here ≡ site) h.count (get_or-append_seam sites site [] Here) ∙ is
        ∙ subst (λ (x : SourceSpec). site_for chosen n spec ≡ site_for chosen n x) (same_Some spec other (sym there ∙ at)) refl

-- where there are as many sites as sources, each source has one
pub all_sites : (chosen : ℕ → Bool) (sources : List SourceSpec) (n : ℕ) (sites : List Site) → n ≡ length sources → AreSitesTo chosen sources n sites → AreSites chosen sources sites
all_sites chosen sources n sites e h = λ s spec at. h.each s spec (let w = slice_get_within sources s spec at in omega (arith, w, e)) at
