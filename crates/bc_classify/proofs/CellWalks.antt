-- A walk over the cells of a mesh: the two lists of the cells so far.
use Rattle.std.specs.Prelude.{◌≡◌, ℕ, ◌+◌, ◌<◌, true, false, not, List, [], ◌∷◌, ◌++◌, length, take}
use Rattle.std.proofs.Common.{get_or, sym, ap, ◌∙◌}
use Rattle.bc_solid.specs.Facets.{Facet}
use Rattle.bc_parity.specs.Faces.{is_odd3_at}
use Rattle.bc_classify.specs.declared.split3.Marked3.{Marked3}
use Rattle.bc_classify.specs.declared.split3.Split3.{Split3}
use Rattle.bc_cells.specs.Cells.{Cell3}
use Rattle.bc_classify.specs.CellSplits.{marked3, IsSplit3}
use Rattle.bc_classify.proofs.Walks.{put, left}

module _ (fs : List Facet) (all : List Cell3) (i : ℕ) (c : Cell3) (l : i < length all) (at : c ≡ get_or all i c) (old new : Split3) (h : IsSplit3 fs (take i all) old) where
  pub cell_inside : is_odd3_at fs c.inner ≡ true → new.inside ≡ old.inside ++ marked3 c ∷ [] → new.outside ≡ old.outside → IsSplit3 fs (take (i + 1) all) new
  cell_inside odd e f = record {
    inside = e ∙ ap (λ (ms : List Marked3). ms ++ marked3 c ∷ []) h.inside ∙ sym (put marked3 (λ (c : Cell3). is_odd3_at fs c.inner) all i c l at odd);
    outside = f ∙ h.outside ∙ sym (left marked3 (λ (c : Cell3). not (is_odd3_at fs c.inner)) all i c l at (ap not odd));
  }

  pub cell_outside : is_odd3_at fs c.inner ≡ false → new.inside ≡ old.inside → new.outside ≡ old.outside ++ marked3 c ∷ [] → IsSplit3 fs (take (i + 1) all) new
  cell_outside even e f = record {
    inside = e ∙ h.inside ∙ sym (left marked3 (λ (c : Cell3). is_odd3_at fs c.inner) all i c l at even);
    outside = f ∙ ap (λ (ms : List Marked3). ms ++ marked3 c ∷ []) h.outside ∙ sym (put marked3 (λ (c : Cell3). not (is_odd3_at fs c.inner)) all i c l at (ap not even));
  }
