-- Elements are in the box of the input: their ends are, and the circles of arcs.
use Rattle.std.proofs.Common.{ℕ, zero, suc, ◌+◌, ◌*◌, ◌<◌, ◌≤◌, ◌⊎◌, inl, inr, List, [], ◌∷◌, length, arith, refl}
use Rattle.std.proofs.lemmas.Int.{ints, by_lt_z}
use Rattle.std.specs.Prelude.{All, Any}
use Rattle.std.proofs.lemmas.List.Elements.{All-cons, All-nil}
use lib.IntN.{ℤ, pos, negsuc, ◌+ℤ◌, ◌-ℤ◌, ◌*ℤ◌}
use lib.Signed.{◌≤ℤ◌, ◌<ℤ◌}
use Rattle.bc_algebra.proofs.Order.{nonneg-square, nonneg-add}
use Rattle.bc_num.specs.declared.v2.V2.{V2}
use Rattle.bc_num.specs.declared.box2.Box2.{Box2}
use Rattle.bc_num.specs.Measures.{square_between}
use Rattle.bc_solid.specs.declared.element.Element.{Element}
use Rattle.bc_solid.specs.declared.element.Element.TheVariants.{Edge, Arc}
use Rattle.bc_solid.specs.Boxes.{IsReach, IsXOf, IsYOf, IsBoxRound}

-- a circle of squared radius r2 reaches so far
pub record Reach (r2 : ℤ) : Type 0 where
  pub far : ℕ
  pub is : IsReach r2 far

-- the least number whose square is at least n
record Root (n : ℕ) : Type 0 where
  root : ℕ
  enough : n ≤ root * root
  least : (k : ℕ) → k < root → k * k < n

more_square : (m : ℕ) → m * m < (m + 1) * (m + 1)
more_square m = grind arith

lower_square : (m k : ℕ) → k < m + 1 → k * k ≤ m * m
lower_square m k h = grind arith

next : (n m : ℕ) → n ≤ m * m → m * m ≤ n → suc n ≤ (m + 1) * (m + 1)
next n m h k = let s = more_square m in omega arith

-- by counting up
root : (n : ℕ) → Root n
root zero = record { root = 0; enough = omega arith; least = λ k h. absurd (omega arith) }
root (suc n) =
    let r = root n in
    elim (total (suc n) (r.root * r.root)) [
      | inl l ↦ record { root = r.root; enough = l; least = λ k h. let s = r.least k h in omega arith }
      | inr l ↦ record { root = r.root + 1; enough = next n r.root r.enough (omega arith); least = λ k h. let s = lower_square r.root k h in omega arith }
    ]
  where
    total : (a b : ℕ) → (a ≤ b) ⊎ (b < a)
    total a b = by_lt_z (pos b) (pos a) (λ l. inr (omega (arith, ints))) (λ l. inl (omega (arith, ints)))

squared : (n m : ℕ) → n ≤ m * m → pos n ≤ℤ (pos m *ℤ pos m)
squared n m h = omega (arith, ints)

squared_less : (n m : ℕ) → m * m < n → (pos m *ℤ pos m) <ℤ pos n
squared_less n m h = omega (arith, ints)

pub reach_of : (r2 : ℤ) → pos 0 ≤ℤ r2 → Reach r2
reach_of (pos n) h =
    let r : Root n = root n in
    record { far = r.root; is = record { enough = squared n r.root r.enough; least = λ k l. squared_less n k (r.least k l) } }
reach_of (negsuc n) h = absurd (omega (arith, ints))

-- ---- an element of a list

pub any_head : {X : Type 0} (P : X → Type 0) (x : X) (xs : List X) → P x → Any P (x ∷ xs)
any_head P x xs h = (0, x, omega arith, refl, h)

pub any_tail : {X : Type 0} (P : X → Type 0) (x : X) (xs : List X) → Any P xs → Any P (x ∷ xs)
any_tail P x xs h = (suc h.0, h.1, longer h.0 (length xs) h.2, h.3, h.4)
  where
    longer : (k n : ℕ) → k < n → suc k < suc n
    longer k n l = omega arith

-- ---- what is in the box

-- a number from low to high
pub record IsFrom (low high z : ℤ) : Type 0 where
  pub low_is : low ≤ℤ z
  pub high_is : z ≤ℤ high

pub record IsIn (b : Box2) (v : V2) : Type 0 where
  pub x_in : IsFrom b.x0 b.x1 v.x
  pub y_in : IsFrom b.y0 b.y1 v.y

-- the circle is: the centre is, moved by a number that is at least the radius along each axis
pub record IsRoundIn (b : Box2) (c : V2) (r2 : ℤ) : Type 0 where
  pub size : ℕ
  pub enough : r2 ≤ℤ (pos size *ℤ pos size)
  pub x_low : b.x0 ≤ℤ (c.x -ℤ pos size)
  pub x_high : (c.x +ℤ pos size) ≤ℤ b.x1
  pub y_low : b.y0 ≤ℤ (c.y -ℤ pos size)
  pub y_high : (c.y +ℤ pos size) ≤ℤ b.y1

abbrev pub IsHeld : Box2 → Element → Type 0
IsHeld b (Edge s e) = IsIn b s × IsIn b e
IsHeld b (Arc s e c ccw) = (IsIn b s × IsIn b e) × IsRoundIn b c (square_between c s)

-- the box holds each coordinate that counts for it
pub record Holds (b : Box2) (es : List Element) : Type 0 where
  pub x_of : (z : ℤ) → Any (λ e. IsXOf e z) es → IsFrom b.x0 b.x1 z
  pub y_of : (z : ℤ) → Any (λ e. IsYOf e z) es → IsFrom b.y0 b.y1 z

pub below_next : (a z : ℤ) → (a +ℤ pos 1) ≤ℤ z → a ≤ℤ z
below_next a z h = omega (arith, ints)

pub above_last : (a z : ℤ) → z ≤ℤ (a -ℤ pos 1) → z ≤ℤ a
above_last a z h = omega (arith, ints)

pub round_holds : (b : Box2) (es : List Element) → IsBoxRound es b → Holds b es
round_holds b es h = record {
  x_of = λ z k. record { low_is = below_next b.x0 z (h.left.least z k); high_is = above_last b.x1 z (h.right.greatest z k) };
  y_of = λ z k. record { low_is = below_next b.y0 z (h.bottom.least z k); high_is = above_last b.y1 z (h.top.greatest z k) };
}

held : (b : Box2) (e : Element) → ((z : ℤ) → IsXOf e z → IsFrom b.x0 b.x1 z) → ((z : ℤ) → IsYOf e z → IsFrom b.y0 b.y1 z) → IsHeld b e
held b (Edge s e) f g = (record { x_in = f s.x (inl refl); y_in = g s.y (inl refl) }, record { x_in = f e.x (inr refl); y_in = g e.y (inr refl) })
held b (Arc s e c ccw) f g =
    let r : Reach (square_between c s) = reach_of (square_between c s) (nonneg-add _ _ (nonneg-square (s.x -ℤ c.x)) (nonneg-square (s.y -ℤ c.y))) in
    let xl = f (c.x -ℤ pos r.far) (inr (inr (r.far, r.is, inl refl))) in
    let xh = f (c.x +ℤ pos r.far) (inr (inr (r.far, r.is, inr refl))) in
    let yl = g (c.y -ℤ pos r.far) (inr (inr (r.far, r.is, inl refl))) in
    let yh = g (c.y +ℤ pos r.far) (inr (inr (r.far, r.is, inr refl))) in (
      (record { x_in = f s.x (inl refl); y_in = g s.y (inl refl) }, record { x_in = f e.x (inr (inl refl)); y_in = g e.y (inr (inl refl)) }),
      record { size = r.far; enough = r.is.enough; x_low = xl.low_is; x_high = xh.high_is; y_low = yl.low_is; y_high = yh.high_is },
    )

pub all_held : (b : Box2) (es : List Element) → Holds b es → All (IsHeld b) es
all_held b [] h = All-nil (IsHeld b)
all_held b (e ∷ es) h =
    All-cons (IsHeld b) e es
    (held b e (λ z k. h.x_of z (any_head (λ i. IsXOf i z) e es k)) (λ z k. h.y_of z (any_head (λ i. IsYOf i z) e es k)))
    (all_held b es (record { x_of = λ z k. h.x_of z (any_tail (λ i. IsXOf i z) e es k); y_of = λ z k. h.y_of z (any_tail (λ i. IsYOf i z) e es k) }))
