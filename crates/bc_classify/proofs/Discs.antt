-- The first disc of a list that is the same as another: as a walk finds it, and what it tells of a point.
use Rattle.std.specs.Prelude.{◌≡◌, ℕ, zero, suc, ◌+◌, ◌≤◌, Bool, true, false, ◌&&◌, List, [], ◌∷◌, length, drop, nat_eq, Some, slice_get, ℤ, int_lt, pos}
use Rattle.std.specs.List.{Contains}
use Rattle.std.specs.Int.{bit_at}
use Rattle.std.specs.Ordering.{int_eq}
use Rattle.std.proofs.Common.{refl, sym, ap, ◌∙◌, arith, inl, inr}
use Rattle.std.proofs.lemmas.List.{drop_more, drop_all}
use Rattle.std.proofs.lemmas.Option.{slice_get_within, get_or_from_slice_get, slice_get_read}
use Rattle.std.proofs.lemmas.Bool.{and_parts, and_from, both_ways, cases_Bool, cond-true, cond-false}
use Rattle.std.proofs.lemmas.Bool.Decides.{Decides-eqb, same_from_decides}
use Rattle.bc_num.specs.declared.v2.V2.{V2}
use Rattle.bc_num.specs.declared.p2.P2.{P2}
use Rattle.bc_num.specs.declared.disc2.Disc2.{Disc2}
use Rattle.bc_num.specs.Measures.{is_same}
use Rattle.bc_space.specs.Discs.{disc_value}
use Rattle.bc_solid.specs.HalfSpaces.{Disc, is_above}
use Rattle.bc_parity.proofs.Orders.{eq_yes, eq_is}
use Rattle.bc_parity.proofs.Segments.{same_yes, same_is}
use Rattle.bc_natural.specs.Curves.{Curves}
use Rattle.bc_natural.specs.Masks.{curve_mask}
use Rattle.bc_natural.proofs.Masks.{curve_bit_disc}
use Rattle.bc_classify.specs.OddMasks.{has_disc}
use Rattle.bc_classify.proofs.Halves.{above_is, disc_is_above}

-- the test of a walk: the disc has this centre and squared radius
abbrev fits : V2 → ℤ → Disc2 → Bool
fits c r2 d = is_same d.c c && int_eq d.r2 r2

bit_here : (mask i : ℕ) (d : Disc2) (ds : List Disc2) (c : V2) (r2 : ℤ) → fits c r2 d ≡ true → has_disc mask i (d ∷ ds) c r2 ≡ nat_eq (bit_at mask i) 1
bit_here mask i d ds c r2 h = cond-true (fits c r2 d) (nat_eq (bit_at mask i) 1) (has_disc mask (i + 1) ds c r2) h

bit_further : (mask i : ℕ) (d : Disc2) (ds : List Disc2) (c : V2) (r2 : ℤ) → fits c r2 d ≡ false → has_disc mask i (d ∷ ds) c r2 ≡ has_disc mask (i + 1) ds c r2
bit_further mask i d ds c r2 h = cond-false (fits c r2 d) (nat_eq (bit_at mask i) 1) (has_disc mask (i + 1) ds c r2) h

-- ---- a walk

-- none of the discs before the one at i is the same
abbrev pub IsNotBefore : ℕ → List Disc2 → V2 → ℤ → ℕ → Type 0
IsNotBefore lines ds c r2 i = (mask : ℕ) → has_disc mask (lines + i) (drop i ds) c r2 ≡ has_disc mask lines ds c r2

module _ (lines : ℕ) (ds : List Disc2) (c : V2) (r2 : ℤ) (i : ℕ) (inv : IsNotBefore lines ds c r2 i) (mask : ℕ) where
  next : (d : Disc2) → slice_get ds i ≡ Some d → has_disc mask (lines + i) (d ∷ drop (i + 1) ds) c r2 ≡ has_disc mask lines ds c r2
  next d e =
      let r : drop i ds ≡ d ∷ drop (i + 1) ds = drop_more ds i d (slice_get_within ds i d e) ∙ ap (λ x. x ∷ drop (i + 1) ds) (get_or_from_slice_get ds i d d e) in
      sym (ap (λ xs. has_disc mask (lines + i) xs c r2) r) ∙ inv mask

  pub found : (d : Disc2) → slice_get ds i ≡ Some d → fits c r2 d ≡ true → nat_eq (bit_at mask (lines + i)) 1 ≡ has_disc mask lines ds c r2
  found d e h = sym (bit_here mask (lines + i) d (drop (i + 1) ds) c r2 h) ∙ next d e

  pub missed : (d : Disc2) → slice_get ds i ≡ Some d → fits c r2 d ≡ false → has_disc mask (lines + (i + 1)) (drop (i + 1) ds) c r2 ≡ has_disc mask lines ds c r2
  missed d e h =
      ap (λ n. has_disc mask n (drop (i + 1) ds) c r2) (omega arith)
      ∙ sym (bit_further mask (lines + i) d (drop (i + 1) ds) c r2 h)
      ∙ next d e

  pub nowhere : length ds ≤ i → false ≡ has_disc mask lines ds c r2
  nowhere h = sym (ap (λ xs. has_disc mask (lines + i) xs c r2) (drop_all i ds h)) ∙ inv mask

-- ---- a disc that is in the list

fits_yes : (c : V2) (r2 : ℤ) (d : Disc2) → d.c ≡ c → d.r2 ≡ r2 → fits c r2 d ≡ true
fits_yes c r2 d ec er = and_from (is_same d.c c) (int_eq d.r2 r2) (same_yes d.c c ec) (eq_yes d.r2 r2 er)

fits_is : (c : V2) (r2 : ℤ) (d : Disc2) → fits c r2 d ≡ true → (d.c ≡ c) × (d.r2 ≡ r2)
fits_is c r2 d h =
    let r = and_parts (is_same d.c c) (int_eq d.r2 r2) h in
    (same_is d.c c r.0, eq_is d.r2 r2 r.1)

-- where the bits of all discs that are the same are b, the disc is in the set where b is true
has_is : (mask i : ℕ) (ds : List Disc2) (c : V2) (r2 : ℤ) (b : Bool) → ((j : ℕ) (d : Disc2) → slice_get ds j ≡ Some d → d.c ≡ c → d.r2 ≡ r2 → nat_eq (bit_at mask (i + j)) 1 ≡ b)
    → (k : ℕ) (d : Disc2) → slice_get ds k ≡ Some d → d.c ≡ c → d.r2 ≡ r2 → has_disc mask i ds c r2 ≡ b
has_is mask i [] c r2 b f k d e ec er = absurd (cc)
has_is mask i (g ∷ gs) c r2 b f k d e ec er =
    elim (cases_Bool (fits c r2 g)) [
      | inl h ↦
          let r = fits_is c r2 g h in
          bit_here mask i g gs c r2 h ∙ ap (λ n. nat_eq (bit_at mask n) 1) (omega arith) ∙ f 0 g refl r.0 r.1
      | inr h ↦
          bit_further mask i g gs c r2 h
          ∙ further k e h (λ k e. has_is mask (i + 1) gs c r2 b (λ j x s xc xr. ap (λ n. nat_eq (bit_at mask n) 1) (omega arith) ∙ f (suc j) x s xc xr) k d e ec er)
    ]
  where
    further : (k : ℕ) → slice_get (g ∷ gs) k ≡ Some d → fits c r2 g ≡ false → ((k : ℕ) → slice_get gs k ≡ Some d → has_disc mask (i + 1) gs c r2 ≡ b) → has_disc mask (i + 1) gs c r2 ≡ b
    further zero e h rest =
        let s : g ≡ d = cc in
        let y : fits c r2 g ≡ true = fits_yes c r2 g (ap (λ (x : Disc2). x.c) s ∙ ec) (ap (λ (x : Disc2). x.r2) s ∙ er) in
        absurd (both_ways (fits c r2 g) h y)
    further (suc k) e h rest = rest k e

-- ---- a point's mask

-- of the mask of p, a disc of the table is in the set where p is in the disc
pub has_where_in : (t : Curves) (p : P2) (c : V2) (r2 : ℤ) (d : Disc2) → Contains t.discs d → d.c ≡ c → d.r2 ≡ r2 → has_disc (curve_mask t p) (length t.lines) t.discs c r2 ≡ is_above (Disc c r2) p
has_where_in t p c r2 d m ec er =
    has_is (curve_mask t p) (length t.lines) t.discs c r2 (is_above (Disc c r2) p)
    (λ j g s gc gr. bit_is j g s ∙ sym (disc_is_above c r2 g gc gr p))
    m.0 d (slice_get_read t.discs (length t.discs) m.0 d refl m.1 (sym m.2)) ec er
  where
    bit_is : (j : ℕ) (g : Disc2) → slice_get t.discs j ≡ Some g → nat_eq (bit_at (curve_mask t p) (length t.lines + j)) 1 ≡ int_lt (pos 0) (disc_value g p)
    bit_is j g s =
        let b = curve_bit_disc t p j g s in
        let v = above_is (disc_value g p) in
        let n = Decides-eqb (bit_at (curve_mask t p) (length t.lines + j)) 1 in
        same_from_decides (nat_eq (bit_at (curve_mask t p) (length t.lines + j)) 1) (int_lt (pos 0) (disc_value g p)) (λ e. b.0 (n.0 e), λ e. n.1 (b.1 e)) (v.1, v.0)
