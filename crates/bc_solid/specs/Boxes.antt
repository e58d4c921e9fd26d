-- The box of an input, and the points inside and outside it.
use Rattle.std.specs.Prelude.{◌≡◌, ◌<◌, ◌⊎◌, ℕ, ℤ, pos, negsuc, ◌+ℤ◌, ◌-ℤ◌, ◌*ℤ◌, ◌≤ℤ◌, ◌<ℤ◌, List, [], ◌∷◌, Any}
use Rattle.bc_num.specs.declared.p2.P2.{P2}
use Rattle.bc_num.specs.declared.box2.Box2.{Box2}
use Rattle.bc_num.specs.Measures.{square_between}
use Rattle.bc_solid.specs.declared.element.Element.{Element}
use Rattle.bc_solid.specs.declared.element.Element.TheVariants.{Edge, Arc}

-- m is the least number whose square is at least r2
pub record IsReach (r2 : ℤ) (m : ℕ) : Type 0 where
  pub enough : r2 ≤ℤ (pos m *ℤ pos m)
  pub least : (k : ℕ) → k < m → (pos k *ℤ pos k) <ℤ r2

-- z is the coordinate c moved by how far a circle of squared radius r2 reaches, to either side
abbrev pub IsRim : ℤ → ℤ → ℤ → Type 0
IsRim r2 c z = (m : ℕ) × IsReach r2 m × ((z ≡ c -ℤ pos m) ⊎ (z ≡ c +ℤ pos m))

-- z is an x that counts for the box: of an end, or of the rim of an arc's circle
abbrev pub IsXOf : Element → ℤ → Type 0
IsXOf (Edge a b) z = (z ≡ a.x) ⊎ (z ≡ b.x)
IsXOf (Arc a b c ccw) z = (z ≡ a.x) ⊎ ((z ≡ b.x) ⊎ IsRim (square_between c a) c.x z)

-- the same along y
abbrev pub IsYOf : Element → ℤ → Type 0
IsYOf (Edge a b) z = (z ≡ a.y) ⊎ (z ≡ b.y)
IsYOf (Arc a b c ccw) z = (z ≡ a.y) ⊎ ((z ≡ b.y) ⊎ IsRim (square_between c a) c.y z)

pub record IsLeast (P : ℤ → Type 0) (z : ℤ) : Type 0 where
  pub is : P z
  pub least : (y : ℤ) → P y → z ≤ℤ y

pub record IsGreatest (P : ℤ → Type 0) (z : ℤ) : Type 0 where
  pub is : P z
  pub greatest : (y : ℤ) → P y → y ≤ℤ z

-- along each axis from the least coordinate minus 1 to the greatest plus 1
pub record IsBoxRound (es : List Element) (b : Box2) : Type 0 where
  pub left : IsLeast (λ z. Any (λ e. IsXOf e z) es) (b.x0 +ℤ pos 1)
  pub right : IsGreatest (λ z. Any (λ e. IsXOf e z) es) (b.x1 -ℤ pos 1)
  pub bottom : IsLeast (λ z. Any (λ e. IsYOf e z) es) (b.y0 +ℤ pos 1)
  pub top : IsGreatest (λ z. Any (λ e. IsYOf e z) es) (b.y1 -ℤ pos 1)

-- from -1 to 1 along each axis
pub record IsUnitBox (b : Box2) : Type 0 where
  pub left : b.x0 ≡ negsuc 0
  pub right : b.x1 ≡ pos 1
  pub bottom : b.y0 ≡ negsuc 0
  pub top : b.y1 ≡ pos 1

-- b is the box of the elements; without elements it goes from -1 to 1
abbrev pub IsBoxOf : List Element → Box2 → Type 0
IsBoxOf [] b = IsUnitBox b
IsBoxOf (e ∷ es) b = IsBoxRound (e ∷ es) b

-- p is strictly inside b
pub record IsInside (b : Box2) (p : P2) : Type 0 where
  pub left : (b.x0 *ℤ p.w) <ℤ p.x
  pub right : p.x <ℤ (b.x1 *ℤ p.w)
  pub bottom : (b.y0 *ℤ p.w) <ℤ p.y
  pub top : p.y <ℤ (b.y1 *ℤ p.w)

-- p is outside the closed box: past one of its sides
abbrev pub IsOutside : Box2 → P2 → Type 0
IsOutside b p = (p.x <ℤ (b.x0 *ℤ p.w)) ⊎ (((b.x1 *ℤ p.w) <ℤ p.x) ⊎ ((p.y <ℤ (b.y0 *ℤ p.w)) ⊎ ((b.y1 *ℤ p.w) <ℤ p.y)))
