-- Lists that grow by one shape at a time.
use Rattle.std.proofs.Common.{◌≡◌, ◌∙◌, ◌<◌, ◌≤◌, ◌+◌, inl, inr, ℕ, List, [], ◌∷◌, ◌++◌, Some, None, refl, sym, subst, ap, arith, length, slice_get, get_or}
use Rattle.std.proofs.lemmas.Bool.{cases_lt}
use Rattle.std.proofs.lemmas.List.{get_or_append_left, get_or_past, length-append}
use Rattle.std.proofs.Math.Seq.{get_or-append_seam}
use Rattle.std.proofs.lemmas.Option.{slice_get_cases}
use Rattle.std.proofs.Math.Path.{fun_ext}
use Rattle.mix_catalog.specs.declared.source.SourceSpec.{SourceSpec}
use Rattle.browse_visit.specs.declared.shape.Shape.{Shape}
use Rattle.browse_visit.specs.declared.shape.Shape.TheVariants.{Any}
use Rattle.browse_visit.specs.Shapes.{shape_at, shape_layout, shapes_of}
use Rattle.view_class.specs.Layouts.{layout_in, layout_there, spec_layout}

-- the shapes of the first n sources
pub record AreShapesTo (sources : List SourceSpec) (n : ℕ) (shapes : List Shape) : Type 0 where
  pub count : length shapes ≡ n
  pub each : (s : ℕ) → s < n → shapes_of shapes s ≡ layout_in sources s

-- the empty list holds the shapes of the first 0 sources
pub no_shapes : (sources : List SourceSpec) → AreShapesTo sources 0 []
no_shapes sources = record { count = refl; each = λ s h. absurd (omega (arith, h)) }

-- the shapes of the first sources, with that of the next source, are those of one source more
pub one_shape_more : (sources : List SourceSpec) (n : ℕ) (shapes : List Shape) (spec : SourceSpec) (shape : Shape) → AreShapesTo sources n shapes → slice_get sources n ≡ Some spec
    → shape_layout shape ≡ spec_layout spec → AreShapesTo sources (n + 1) (shapes ++ shape ∷ [])
one_shape_more sources n shapes spec shape h there new = record {
  count = (let l = length-append shapes (shape ∷ []) in let c = h.count in omega (arith, l, c));
  each = λ s less.
      elim (cases_lt s n) as (λ _. shapes_of (shapes ++ shape ∷ []) s ≡ layout_in sources s) [
        | inl low ↦ (
            let c = h.count in
            let inside : s < length shapes = omega (arith, low, c) in
            ap shape_layout (get_or_append_left shapes (shape ∷ []) Any s inside) ∙ h.each s low
            )
        | inr high ↦ (
            let e : n ≡ s = omega (arith, less, high) in
            subst (λ (k : ℕ). shapes_of (shapes ++ shape ∷ []) k ≡ layout_in sources k) e last
            )
      ];
}
  where
    last : shapes_of (shapes ++ shape ∷ []) n ≡ layout_in sources n
    last =
        let place : shape_at (shapes ++ shape ∷ []) n ≡ shape = subst (λ (k : ℕ). get_or (shapes ++ shape ∷ []) k Any ≡ shape) h.count (get_or-append_seam shapes shape [] Any) in
        ap shape_layout place ∙ new ∙ ap layout_there (sym there)

-- there is no source after the last
none_past : (sources : List SourceSpec) (s : ℕ) → length sources ≤ s → slice_get sources s ≡ None
none_past sources s h =
    elim (slice_get_cases sources s).1 as (λ _. slice_get sources s ≡ None) [
      | inl found ↦ absurd (let f = found.1 in omega (arith, f, h))
      | inr past ↦ past.1
    ]

-- the shapes of all sources tell the layout of each source
pub all_shapes : (sources : List SourceSpec) (n : ℕ) (shapes : List Shape) → n ≡ length sources → AreShapesTo sources n shapes → shapes_of shapes ≡ layout_in sources
all_shapes sources n shapes e h = fun_ext at
  where
    at : (s : ℕ) → shapes_of shapes s ≡ layout_in sources s
    at s =
        elim (cases_lt s n) as (λ _. shapes_of shapes s ≡ layout_in sources s) [
          | inl low ↦ h.each s low
          | inr high ↦ (
              let c = h.count in
              ap shape_layout (get_or_past shapes s Any (omega (arith, c, high))) ∙ ap layout_there (sym (none_past sources s (omega (arith, e, high))))
              )
        ]
