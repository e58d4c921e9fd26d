-- The laws of closed meshes, for the faces of a solid.
use Rattle.std.proofs.Common.{◌≡◌, ◌≢◌, ℕ, zero, suc, ◌+◌, ◌-◌, ◌%◌, arith, zero-add, Bool, true, false, List, [], ◌∷◌, refl, ◌∙◌, ap}
use Rattle.std.specs.Prelude.{slice_index_or, count_by, cond}
use Rattle.std.proofs.lemmas.List.Sums.{sum_by-cons, length-filter}
use lib.IntN.{ℤ, pos, negsuc, ◌*ℤ◌}
use lib.Signed.{◌<ℤ◌}
use Rattle.std.proofs.lemmas.Int.{ints}
use Rattle.bc_space.specs.declared.side.Side.TheVariants.{Below, On, Above}
use Rattle.bc_space.specs.Planes.{plane_value}
use Rattle.bc_space.specs.Sides.{side_of_value}
use Rattle.bc_solid.specs.Meshes.{Edge3, all_edges, joins, occurrences}
use Rattle.bc_solid.specs.Facets.{Facet, outlines, IsSolid}
use Rattle.bc_parity.specs.Parity.{xor}
use Rattle.bc_parity.specs.Sums.{odd}
use Rattle.bc_parity.specs.FaceLaws.{CellLaw3, OutsideLaw3}
use Rattle.bc_parity.proofs.Signs.{one_side_above, one_side_below}
use Rattle.bc_parity.proofs.FaceCells.{IsFlatAndEven, same_parity}
use Rattle.bc_parity.proofs.FaceOutside.{outside_law}

-- ---- an even number is not odd

flip_mod : (n : ℕ) → (1 + n) % 2 ≡ 1 - n % 2
flip_mod n = omega arith

odd-count : {A : Type 0} (f : A → Bool) (xs : List A) → count_by f xs % 2 ≡ cond (odd f xs) 1 0
odd-count f [] = refl
odd-count f (x ∷ xs) = ap (λ k. k % 2) (sum_by-cons (λ y. cond (f y) 1 0) x xs) ∙ step (f x) (odd f xs) (count_by f xs) (odd-count f xs)
  where
    step : (a b : Bool) (n : ℕ) → n % 2 ≡ cond b 1 0 → (cond a 1 0 + n) % 2 ≡ cond (xor a b) 1 0
    step true true n h = flip_mod n ∙ ap (λ k. 1 - k) h
    step true false n h = flip_mod n ∙ ap (λ k. 1 - k) h
    step false b n h = ap (λ k. k % 2) (zero-add n) ∙ h

even_is : (k : Edge3) (es : List Edge3) → occurrences k es % 2 ≡ 0 → odd (joins k) es ≡ false
even_is k es h = on (odd (joins k) es) (occurrences k es % 2) (ap (λ n. n % 2) (length-filter (joins k) es) ∙ odd-count (joins k) es) h
  where
    on : (b : Bool) (n : ℕ) → n ≡ cond b 1 0 → n ≡ 0 → b ≡ false
    on true n e g = absurd (omega arith)
    on false n e g = refl

pub mesh_of : (fs : List Facet) → IsSolid fs → IsFlatAndEven fs
mesh_of fs h = record { flat = λ i d l. (h.facets i d l).flat; even = λ k. even_is k (all_edges (outlines fs)) (h.even k) }

-- ---- equal sides

one_side : (u v : ℤ) → u ≢ pos 0 → side_of_value u ≡ side_of_value v → pos 0 <ℤ (u *ℤ v)
one_side (pos zero) v n e = absurd (n refl)
one_side (pos (suc m)) (pos zero) n e = absurd (let q : Above ≡ On = e in cc)
one_side (pos (suc m)) (pos (suc k)) n e = one_side_above (pos (suc m)) (pos (suc k)) (omega (arith, ints)) (omega (arith, ints))
one_side (pos (suc m)) (negsuc k) n e = absurd (let q : Above ≡ Below = e in cc)
one_side (negsuc m) (pos zero) n e = absurd (let q : Below ≡ On = e in cc)
one_side (negsuc m) (pos (suc k)) n e = absurd (let q : Below ≡ Above = e in cc)
one_side (negsuc m) (negsuc k) n e = one_side_below (negsuc m) (negsuc k) (omega (arith, ints)) (omega (arith, ints))

pub cells : (fs : List Facet) → IsSolid fs → CellLaw3 fs
cells fs h p q off _ alike =
    same_parity fs p q (mesh_of fs h)
    (λ i d l. one_side (plane_value (slice_index_or fs i d).plane p) (plane_value (slice_index_or fs i d).plane q) (off i d l) (alike i d l))

pub outsides : (fs : List Facet) → IsSolid fs → OutsideLaw3 fs
outsides fs h = outside_law fs (mesh_of fs h)
