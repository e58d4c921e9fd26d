-- The edges round a face, place by place.
use Rattle.std.proofs.Common.{◌≡◌, ℕ, zero, suc, ◌+◌, ◌<◌, ◌≤◌, List, [], ◌∷◌, length, get_or, add-one, arith, refl, sym, ap, ◌∙◌, subst}
use Rattle.std.specs.Prelude.{slice_get, Some}
use Rattle.bc_num.specs.declared.v3.V3.{V3}
use Rattle.bc_solid.specs.Meshes.{path, edges}

length-path : (a : V3) (cs : List V3) (z : V3) → length (path a cs z) ≡ suc (length cs)
length-path a [] z = refl
length-path a (b ∷ cs) z = ap suc (length-path b cs z)

-- a face has as many edges as corners
pub length-edges : (cs : List V3) → length (edges cs) ≡ length cs
length-edges [] = refl
length-edges (a ∷ cs) = length-path a cs a

inner : (a : V3) (cs : List V3) (z d : V3) (k : ℕ) → k < length cs → slice_get (path a cs z) k ≡ Some (record { from = get_or (a ∷ cs) k d; to = get_or cs k d })
inner a [] z d k h = absurd (omega arith)
inner a (b ∷ cs) z d zero h = refl
inner a (b ∷ cs) z d (suc k) h = inner b cs z d k (omega arith)

outer : (a : V3) (cs : List V3) (z d : V3) → slice_get (path a cs z) (length cs) ≡ Some (record { from = get_or (a ∷ cs) (length cs) d; to = z })
outer a [] z d = refl
outer a (b ∷ cs) z d = outer b cs z d

-- from a corner to the next
pub next_edge : (cs : List V3) (d : V3) (k : ℕ) → k + 1 < length cs → slice_get (edges cs) k ≡ Some (record { from = get_or cs k d; to = get_or cs (k + 1) d })
next_edge [] d k h = absurd (omega arith)
next_edge (a ∷ cs) d k h =
    inner a cs a d k (omega arith) ∙ ap (λ j. Some (record { from = get_or (a ∷ cs) k d; to = get_or (a ∷ cs) j d })) (sym (add-one k))

-- from the last to the first
pub last_edge : (cs : List V3) (d : V3) (k : ℕ) → k < length cs → length cs ≤ k + 1 → slice_get (edges cs) k ≡ Some (record { from = get_or cs k d; to = get_or cs 0 d })
last_edge [] d k h l = absurd (omega arith)
last_edge (a ∷ cs) d k h l =
    let e : k ≡ length cs = omega arith in
    subst (λ j. slice_get (path a cs a) j ≡ Some (record { from = get_or (a ∷ cs) j d; to = a })) (sym e) (outer a cs a d)
