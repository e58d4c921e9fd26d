-- Points, boxes and discs with equal numbers are equal: their ghost fields have one proof each.
use Rattle.std.proofs.Common.{◌≡◌, ℤ, pos, ap, ◌∙◌, subst}
use lib.Signed.{◌<ℤ◌}
use denote.Struct.Props.{props}
use Rattle.bc_num.specs.declared.v2.V2.{V2}
use Rattle.bc_num.specs.declared.p2.P2.{P2}
use Rattle.bc_num.specs.declared.box2.Box2.{Box2}
use Rattle.bc_num.specs.declared.disc2.Disc2.{Disc2}
use Rattle.bc_num.specs.declared.v3.V3.{V3}
use Rattle.bc_num.specs.declared.p3.P3.{P3}
use Rattle.bc_num.specs.declared.box3.Box3.{Box3}

-- an order of two numbers has one proof
below_prop : (a b : ℤ) → IsProp (a <ℤ b)
below_prop a b = hlevel props

-- ---- places

place : ℤ → ℤ → V2
place x y = record { x = x; y = y }

-- places of the plane with equal coordinates are equal
pub v2_same : (a b : V2) → a.x ≡ b.x → a.y ≡ b.y → a ≡ b
unfolding place
v2_same a b ex ey = ap (λ (x : ℤ). place x a.y) ex ∙ ap (λ (y : ℤ). place b.x y) ey

-- ---- points

point : (x y w : ℤ) → pos 0 <ℤ w → P2
point x y w h = record { x = x; y = y; w = w; positive = h }

-- points of the plane with equal numbers are equal
pub p2_same : (p q : P2) → p.x ≡ q.x → p.y ≡ q.y → p.w ≡ q.w → p ≡ q
unfolding point
p2_same p q ex ey ew =
    ap (λ (x : ℤ). point x p.y p.w p.positive) ex ∙ ap (λ (y : ℤ). point q.x y p.w p.positive) ey
    ∙ subst (λ (w : ℤ). (h : pos 0 <ℤ w) → point q.x q.y p.w p.positive ≡ point q.x q.y w h) ew (λ h. ap (point q.x q.y p.w) (below_prop (pos 0) p.w p.positive h)) q.positive

-- ---- discs

disc : (c : V2) (r2 : ℤ) → pos 0 <ℤ r2 → Disc2
disc c r2 h = record { c = c; r2 = r2; proper = h }

-- discs with equal centres and squared radii are equal
pub disc2_same : (d e : Disc2) → d.c ≡ e.c → d.r2 ≡ e.r2 → d ≡ e
unfolding disc
disc2_same d e ec er =
    ap (λ (c : V2). disc c d.r2 d.proper) ec
    ∙ subst (λ (r : ℤ). (h : pos 0 <ℤ r) → disc e.c d.r2 d.proper ≡ disc e.c r h) er (λ h. ap (disc e.c d.r2) (below_prop (pos 0) d.r2 d.proper h)) e.proper

-- ---- boxes

box : (x0 y0 x1 y1 : ℤ) → x0 <ℤ x1 → y0 <ℤ y1 → Box2
box x0 y0 x1 y1 h k = record { x0 = x0; y0 = y0; x1 = x1; y1 = y1; wide = h; high = k }

-- a family over two numbers, the first below the second, is the same at equal numbers
along : {A : Type 0} (f : (a b : ℤ) → a <ℤ b → A) (a b c d : ℤ) (h : a <ℤ b) (k : c <ℤ d) → a ≡ c → b ≡ d → f a b h ≡ f c d k
along f a b c d h k e e' =
    subst (λ (z : ℤ). (g : z <ℤ d) → f a b h ≡ f z d g) e (subst (λ (z : ℤ). (g : a <ℤ z) → f a b h ≡ f a z g) e' (λ g. ap (λ (l : a <ℤ b). f a b l) (below_prop a b h g))) k

-- rectangles with equal numbers are equal
pub box2_same : (a b : Box2) → a.x0 ≡ b.x0 → a.y0 ≡ b.y0 → a.x1 ≡ b.x1 → a.y1 ≡ b.y1 → a ≡ b
unfolding box
box2_same a b e0 f0 e1 f1 =
    along (λ x x' h. box x a.y0 x' a.y1 h a.high) a.x0 a.x1 b.x0 b.x1 a.wide b.wide e0 e1
    ∙ along (λ y y' h. box b.x0 y b.x1 y' b.wide h) a.y0 a.y1 b.y0 b.y1 a.high b.high f0 f1

-- ---- space

place3 : ℤ → ℤ → ℤ → V3
place3 x y z = record { x = x; y = y; z = z }

-- places of space with equal coordinates are equal
pub v3_same : (a b : V3) → a.x ≡ b.x → a.y ≡ b.y → a.z ≡ b.z → a ≡ b
unfolding place3
v3_same a b ex ey ez = ap (λ (x : ℤ). place3 x a.y a.z) ex ∙ ap (λ (y : ℤ). place3 b.x y a.z) ey ∙ ap (λ (z : ℤ). place3 b.x b.y z) ez

point3 : (x y z w : ℤ) → pos 0 <ℤ w → P3
point3 x y z w h = record { x = x; y = y; z = z; w = w; positive = h }

-- points of space with equal numbers are equal
pub p3_same : (p q : P3) → p.x ≡ q.x → p.y ≡ q.y → p.z ≡ q.z → p.w ≡ q.w → p ≡ q
unfolding point3
p3_same p q ex ey ez ew =
    ap (λ (x : ℤ). point3 x p.y p.z p.w p.positive) ex ∙ ap (λ (y : ℤ). point3 q.x y p.z p.w p.positive) ey ∙ ap (λ (z : ℤ). point3 q.x q.y z p.w p.positive) ez
    ∙ subst (λ (w : ℤ). (h : pos 0 <ℤ w) → point3 q.x q.y q.z p.w p.positive ≡ point3 q.x q.y q.z w h) ew (λ h. ap (point3 q.x q.y q.z p.w) (below_prop (pos 0) p.w p.positive h)) q.positive

box_of : (x0 y0 z0 x1 y1 z1 : ℤ) → x0 <ℤ x1 → y0 <ℤ y1 → z0 <ℤ z1 → Box3
box_of x0 y0 z0 x1 y1 z1 h k l = record { x0 = x0; y0 = y0; z0 = z0; x1 = x1; y1 = y1; z1 = z1; wide = h; deep = k; high = l }

-- boxes with equal numbers are equal
pub box3_same : (a b : Box3) → a.x0 ≡ b.x0 → a.y0 ≡ b.y0 → a.z0 ≡ b.z0 → a.x1 ≡ b.x1 → a.y1 ≡ b.y1 → a.z1 ≡ b.z1 → a ≡ b
unfolding box_of
box3_same a b ex ey ez fx fy fz =
    along (λ x x' h. box_of x a.y0 a.z0 x' a.y1 a.z1 h a.deep a.high) a.x0 a.x1 b.x0 b.x1 a.wide b.wide ex fx
    ∙ along (λ y y' h. box_of b.x0 y a.z0 b.x1 y' a.z1 b.wide h a.high) a.y0 a.y1 b.y0 b.y1 a.deep b.deep ey fy
    ∙ along (λ z z' h. box_of b.x0 b.y0 z b.x1 b.y1 z' b.wide b.deep h) a.z0 a.z1 b.z0 b.z1 a.high b.high ez fz
