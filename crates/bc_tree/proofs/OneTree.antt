-- A token sequence is that of one tree at most: what begins a node says which node it is, and the numbers of a leaf are
-- read back from their digits. The short form of an axis leaf is told from a block or tile by its sides.
use Rattle.std.proofs.Common.{◌≡◌, ◌<◌, ◌^◌, ℕ, ℤ, pos, negsuc, List, [], ◌∷◌, ◌++◌, codes, drop, refl, sym, ap, ◌∙◌, append_assoc, arith, Some, lit<, ◌≤◌, true, false, ◌||◌, nat_eq, subst, Bool, if◌then◌else◌, ◌⊎◌, inl, inr}
use lib.IntN.{nat_abs}
use lib.Signed.{mag}
use Rattle.std.specs.Prelude.{◌-ℤ◌}
use Rattle.std.specs.Fmt.{signed_decimal}
use Rattle.std.proofs.lemmas.Fmt.{signed_decimal_injective}
use Rattle.std.proofs.lemmas.Int.{ints}
use Rattle.bc_algebra.specs.Within.{IsWithin}
use Rattle.bc_num.specs.declared.v2.V2.{V2}
use Rattle.bc_num.specs.declared.v3.V3.{V3}
use Rattle.bc_num.specs.declared.disc2.Disc2.{Disc2}
use Rattle.bc_num.specs.declared.box2.Box2.{Box2}
use Rattle.bc_num.proofs.Same.{v2_same, v3_same, disc2_same, box2_same, box3_same}
use Rattle.bc_num.specs.declared.box3.Box3.{Box3}
use Rattle.bc_tree.specs.declared.frame.Frame2.{Frame2}
use Rattle.bc_tree.specs.declared.frame.Frame3.{Frame3}
use Rattle.bc_tree.specs.declared.tree.Leaf.{Leaf}
use Rattle.bc_tree.specs.declared.tree.Leaf.TheVariants.{Slab, Strip, Disc, Block, Tile}
use Rattle.bc_tree.specs.Shape.{Shape, leaf, union, meet, cut, Shapes, none, child, AllLeaves, EachLeaf}
use Rattle.bc_tree.specs.Leaves.{IsBetween, IsFrame2, IsFrame3, IsDisc, IsBlock, IsTile, IsLeaf}
use Rattle.std.specs.Ordering.{int_eq}
use Rattle.std.specs.Prelude.{neg_ℤ}
use Rattle.bc_tree.specs.Axis.{IsUnit, IsAxis, IsAxis2, IsAxis3, corner_at, side_at}
use Rattle.bc_tree.specs.Words.{long_words, short_words, IsLeafWords, IsWords, AreWords}
use Rattle.bc_tree.specs.Spells.{SpellsOneTree, WordsOfOneTree}

-- ---- parts of a token sequence

-- its first token
abbrev pub first : List (List ℕ) → List ℕ
first [] = []
first (t ∷ ts) = t

-- the byte that the sequence begins with
abbrev pub byte_of : List ℕ → ℕ
byte_of [] = 0
byte_of (b ∷ bs) = b

abbrev pub begins : List (List ℕ) → ℕ
begins ts = byte_of (first ts)

-- the token behind n others
abbrev nth : ℕ → List (List ℕ) → List ℕ
nth n ts = first (drop n ts)

given : (xs ys : List (List ℕ)) → Some xs ≡ Some ys → xs ≡ ys
given xs ys e = cc

-- ---- numbers

mag_le : (z : ℤ) → mag z ≤ nat_abs z
mag_le (pos n) = omega arith
mag_le (negsuc n) = omega arith

from_digits : (n : ℕ) (y z : ℤ) → n < 2 ^ 63 → IsWithin n y → IsWithin n z → signed_decimal y ≡ signed_decimal z → y ≡ z
from_digits n y z small h k e = signed_decimal_injective y z (omega (arith, h.within, mag_le y)) (omega (arith, k.within, mag_le z)) e

-- a number from low to high, which are not below 0, is within high
within_high : (z : ℤ) (n : ℕ) → IsBetween (pos 1) z (pos n) → IsWithin n z
within_high (pos m) n h = record { within = omega (arith, ints, h.most) }
within_high (negsuc m) n h = absurd (omega (arith, ints, h.least))

-- ---- leaves

pub record Same (s t : Shape) (r r' : List (List ℕ)) : Type 0 where
  pub shape : s ≡ t
  pub rest : r ≡ r'

same_disc : (d e : Disc2) → IsDisc d → IsDisc e → signed_decimal d.c.x ≡ signed_decimal e.c.x → signed_decimal d.c.y ≡ signed_decimal e.c.y → signed_decimal d.r2 ≡ signed_decimal e.r2 → d ≡ e
same_disc d e f g x y r =
    disc2_same d e (v2_same d.c e.c (from_digits 1023 d.c.x e.c.x (lit< tt) f.centre_x g.centre_x x) (from_digits 1023 d.c.y e.c.y (lit< tt) f.centre_y g.centre_y y))
    (from_digits 8372232 d.r2 e.r2 (lit< tt) (within_high d.r2 8372232 f.square) (within_high e.r2 8372232 g.square) r)

-- equal corners and sides give equal greatest corners
far_end : (x0 x1 y0 y1 : ℤ) → x0 ≡ y0 → x1 -ℤ x0 ≡ y1 -ℤ y0 → x1 ≡ y1
far_end x0 x1 y0 y1 e f = omega (arith, ints)

same_tile : (b c : Box2) → IsTile b → IsTile c → signed_decimal b.x0 ≡ signed_decimal c.x0 → signed_decimal b.y0 ≡ signed_decimal c.y0
    → signed_decimal (b.x1 -ℤ b.x0) ≡ signed_decimal (c.x1 -ℤ c.x0) → signed_decimal (b.y1 -ℤ b.y0) ≡ signed_decimal (c.y1 -ℤ c.y0) → b ≡ c
same_tile b c f g x y w h =
    let ex : b.x0 ≡ c.x0 = from_digits 4096 b.x0 c.x0 (lit< tt) f.corner_x g.corner_x x in
    let ey : b.y0 ≡ c.y0 = from_digits 4096 b.y0 c.y0 (lit< tt) f.corner_y g.corner_y y in
    let ew : b.x1 -ℤ b.x0 ≡ c.x1 -ℤ c.x0 = from_digits 8191 (b.x1 -ℤ b.x0) (c.x1 -ℤ c.x0) (lit< tt) (within_high (b.x1 -ℤ b.x0) 8191 f.side_x) (within_high (c.x1 -ℤ c.x0) 8191 g.side_x) w in
    let eh : b.y1 -ℤ b.y0 ≡ c.y1 -ℤ c.y0 = from_digits 8191 (b.y1 -ℤ b.y0) (c.y1 -ℤ c.y0) (lit< tt) (within_high (b.y1 -ℤ b.y0) 8191 f.side_y) (within_high (c.y1 -ℤ c.y0) 8191 g.side_y) h in
    box2_same b c ex ey (far_end b.x0 b.x1 c.x0 c.x1 ex ew) (far_end b.y0 b.y1 c.y0 c.y1 ey eh)

same_block : (b c : Box3) → IsBlock b → IsBlock c → signed_decimal b.x0 ≡ signed_decimal c.x0 → signed_decimal b.y0 ≡ signed_decimal c.y0 → signed_decimal b.z0 ≡ signed_decimal c.z0
    → signed_decimal (b.x1 -ℤ b.x0) ≡ signed_decimal (c.x1 -ℤ c.x0) → signed_decimal (b.y1 -ℤ b.y0) ≡ signed_decimal (c.y1 -ℤ c.y0)
    → signed_decimal (b.z1 -ℤ b.z0) ≡ signed_decimal (c.z1 -ℤ c.z0) → b ≡ c
same_block b c f g x y z w h l =
    let ex : b.x0 ≡ c.x0 = from_digits 4096 b.x0 c.x0 (lit< tt) f.corner_x g.corner_x x in
    let ey : b.y0 ≡ c.y0 = from_digits 4096 b.y0 c.y0 (lit< tt) f.corner_y g.corner_y y in
    let ez : b.z0 ≡ c.z0 = from_digits 4096 b.z0 c.z0 (lit< tt) f.corner_z g.corner_z z in
    let ew : b.x1 -ℤ b.x0 ≡ c.x1 -ℤ c.x0 = from_digits 8191 (b.x1 -ℤ b.x0) (c.x1 -ℤ c.x0) (lit< tt) (within_high (b.x1 -ℤ b.x0) 8191 f.side_x) (within_high (c.x1 -ℤ c.x0) 8191 g.side_x) w in
    let eh : b.y1 -ℤ b.y0 ≡ c.y1 -ℤ c.y0 = from_digits 8191 (b.y1 -ℤ b.y0) (c.y1 -ℤ c.y0) (lit< tt) (within_high (b.y1 -ℤ b.y0) 8191 f.side_y) (within_high (c.y1 -ℤ c.y0) 8191 g.side_y) h in
    let el : b.z1 -ℤ b.z0 ≡ c.z1 -ℤ c.z0 = from_digits 8191 (b.z1 -ℤ b.z0) (c.z1 -ℤ c.z0) (lit< tt) (within_high (b.z1 -ℤ b.z0) 8191 f.side_z) (within_high (c.z1 -ℤ c.z0) 8191 g.side_z) l in
    box3_same b c ex ey ez (far_end b.x0 b.x1 c.x0 c.x1 ex ew) (far_end b.y0 b.y1 c.y0 c.y1 ey eh) (far_end b.z0 b.z1 c.z0 c.z1 ez el)

frame3 : V3 → V3 → Frame3
frame3 o n = record { o = o; n = n }

same_frame3 : (f g : Frame3) → IsFrame3 f → IsFrame3 g → signed_decimal f.o.x ≡ signed_decimal g.o.x → signed_decimal f.o.y ≡ signed_decimal g.o.y → signed_decimal f.o.z ≡ signed_decimal g.o.z
    → signed_decimal f.n.x ≡ signed_decimal g.n.x → signed_decimal f.n.y ≡ signed_decimal g.n.y → signed_decimal f.n.z ≡ signed_decimal g.n.z → f ≡ g
unfolding frame3
same_frame3 f g h k x y z a b c =
    let eo : f.o ≡ g.o = v3_same f.o g.o (from_digits 1023 f.o.x g.o.x (lit< tt) h.origin_x k.origin_x x) (from_digits 1023 f.o.y g.o.y (lit< tt) h.origin_y k.origin_y y) (from_digits 1023 f.o.z g.o.z (lit< tt) h.origin_z k.origin_z z) in
    let en : f.n ≡ g.n = v3_same f.n g.n (from_digits 8388607 f.n.x g.n.x (lit< tt) h.normal_x k.normal_x a) (from_digits 8388607 f.n.y g.n.y (lit< tt) h.normal_y k.normal_y b) (from_digits 8388607 f.n.z g.n.z (lit< tt) h.normal_z k.normal_z c) in
    ap (λ (o : V3). frame3 o f.n) eo ∙ ap (frame3 g.o) en

frame2 : V2 → V2 → Frame2
frame2 o u = record { o = o; u = u }

same_frame2 : (f g : Frame2) → IsFrame2 f → IsFrame2 g → signed_decimal f.o.x ≡ signed_decimal g.o.x → signed_decimal f.o.y ≡ signed_decimal g.o.y
    → signed_decimal f.u.x ≡ signed_decimal g.u.x → signed_decimal f.u.y ≡ signed_decimal g.u.y → f ≡ g
unfolding frame2
same_frame2 f g h k x y a b =
    let eo : f.o ≡ g.o = v2_same f.o g.o (from_digits 1023 f.o.x g.o.x (lit< tt) h.origin_x k.origin_x x) (from_digits 1023 f.o.y g.o.y (lit< tt) h.origin_y k.origin_y y) in
    let eu : f.u ≡ g.u = v2_same f.u g.u (from_digits 2046 f.u.x g.u.x (lit< tt) h.along_x k.along_x a) (from_digits 2046 f.u.y g.u.y (lit< tt) h.along_y k.along_y b) in
    ap (λ (o : V2). frame2 o f.u) eo ∙ ap (frame2 g.o) eu

-- two numbers that are not the same
pub differ : {A : Type 0} (m n : ℕ) → m < n → m ≡ n → A
differ m n h e = absurd (omega arith)

-- the second byte of the token behind n others
abbrev second : ℕ → List (List ℕ) → ℕ
second n ts = byte_of (drop 1 (nth n ts))

-- a leaf's tokens with its `;`
abbrev semi : List (List ℕ) → List (List ℕ)
semi ws = ws ++ codes ";" ∷ []

-- multmatrix and translate are known by their first bytes, the name behind a leaf's translate by its first one or two
same_long : (l m : Leaf) (r r' : List (List ℕ)) → IsLeaf l → IsLeaf m → semi (long_words l) ++ r ≡ semi (long_words m) ++ r' → Same (leaf l) (leaf m) r r'
same_long (Slab f) (Slab g) r r' h k e = record {
  shape = ap (λ (f : Frame3). leaf (Slab f)) (same_frame3 f g h k (ap (nth 10) e) (ap (nth 20) e) (ap (nth 30) e) (ap (nth 8) e) (ap (nth 18) e) (ap (nth 28) e));
  rest = ap (drop 65) e;
}
same_long (Strip f) (Strip g) r r' h k e = record {
  shape = ap (λ (f : Frame2). leaf (Strip f)) (same_frame2 f g h k (ap (nth 10) e) (ap (nth 20) e) (ap (nth 4) e) (ap (nth 14) e));
  rest = ap (drop 63) e;
}
same_long (Disc d) (Disc e) r r' f g h = record {
  shape = ap (λ (d : Disc2). leaf (Disc d)) (same_disc d e f g (ap (nth 3) h) (ap (nth 5) h) (ap (nth 16) h));
  rest = ap (drop 20) h;
}
same_long (Block b) (Block c) r r' f g h = record {
  shape = ap (λ (b : Box3). leaf (Block b)) (same_block b c f g (ap (nth 3) h) (ap (nth 5) h) (ap (nth 7) h) (ap (nth 13) h) (ap (nth 15) h) (ap (nth 17) h));
  rest = ap (drop 21) h;
}
same_long (Tile b) (Tile c) r r' f g h = record {
  shape = ap (λ (b : Box2). leaf (Tile b)) (same_tile b c f g (ap (nth 3) h) (ap (nth 5) h) (ap (nth 13) h) (ap (nth 15) h));
  rest = ap (drop 19) h;
}
same_long (Slab f) (Strip g) r r' p q h = differ 99 115 (lit< tt) (ap (λ ts. begins (drop 54 ts)) h)
same_long (Slab f) (Disc e) r r' p q h = differ 109 116 (lit< tt) (ap begins h)
same_long (Slab f) (Block c) r r' p q h = differ 109 116 (lit< tt) (ap begins h)
same_long (Slab f) (Tile c) r r' p q h = differ 109 116 (lit< tt) (ap begins h)
same_long (Strip f) (Slab g) r r' p q h = differ 99 115 (lit< tt) (sym (ap (λ ts. begins (drop 54 ts)) h))
same_long (Strip f) (Disc e) r r' p q h = differ 109 116 (lit< tt) (ap begins h)
same_long (Strip f) (Block c) r r' p q h = differ 109 116 (lit< tt) (ap begins h)
same_long (Strip f) (Tile c) r r' p q h = differ 109 116 (lit< tt) (ap begins h)
same_long (Disc d) (Slab g) r r' p q h = differ 109 116 (lit< tt) (sym (ap begins h))
same_long (Disc d) (Strip g) r r' p q h = differ 109 116 (lit< tt) (sym (ap begins h))
same_long (Disc d) (Block c) r r' p q h = differ 105 117 (lit< tt) (ap (second 10) h)
same_long (Disc d) (Tile c) r r' p q h = differ 99 115 (lit< tt) (ap (λ ts. begins (drop 10 ts)) h)
same_long (Block b) (Slab g) r r' p q h = differ 109 116 (lit< tt) (sym (ap begins h))
same_long (Block b) (Strip g) r r' p q h = differ 109 116 (lit< tt) (sym (ap begins h))
same_long (Block b) (Disc e) r r' p q h = differ 105 117 (lit< tt) (sym (ap (second 10) h))
same_long (Block b) (Tile c) r r' p q h = differ 99 115 (lit< tt) (ap (λ ts. begins (drop 10 ts)) h)
same_long (Tile b) (Slab g) r r' p q h = differ 109 116 (lit< tt) (sym (ap begins h))
same_long (Tile b) (Strip g) r r' p q h = differ 109 116 (lit< tt) (sym (ap begins h))
same_long (Tile b) (Disc e) r r' p q h = differ 99 115 (lit< tt) (sym (ap (λ ts. begins (drop 10 ts)) h))
same_long (Tile b) (Block c) r r' p q h = differ 99 115 (lit< tt) (sym (ap (λ ts. begins (drop 10 ts)) h))

-- ---- short forms

-- of size 1, or 0
abbrev pub IsSign : ℤ → Type 0
IsSign n = IsUnit n ⊎ (n ≡ pos 0)

pub axis_signs3 : (n : V3) → IsAxis3 n → IsSign n.x × IsSign n.y × IsSign n.z
axis_signs3 n (inl h) = (inl h.0, inr h.1, inr h.2)
axis_signs3 n (inr (inl h)) = (inr h.1, inl h.0, inr h.2)
axis_signs3 n (inr (inr h)) = (inr h.1, inr h.2, inl h.0)

sign_neg : (z : ℤ) → IsSign z → IsSign (neg_ℤ z)
sign_neg z (inl (inl e)) = inl (inr (ap neg_ℤ e))
sign_neg z (inl (inr e)) = inl (inl (ap neg_ℤ e))
sign_neg z (inr e) = inr (ap neg_ℤ e)

pub axis_signs2 : (u : V2) → IsAxis2 u → IsSign (neg_ℤ u.y) × IsSign u.x
axis_signs2 u (inl h) = (sign_neg u.y (inr h.1), inl h.0)
axis_signs2 u (inr h) = (sign_neg u.y (inl h.0), inr h.1)

corner_by : (o : ℤ) → IsWithin 1023 o → (c : Bool) → IsWithin 9215 (if c then o else o -ℤ pos 8192)
corner_by o h true = let m = h.within in record { within = omega (arith, ints) }
corner_by o h false = let m = h.within in record { within = omega (arith, ints) }

pub corner_near : (o n : ℤ) → IsWithin 1023 o → IsWithin 9215 (corner_at o n)
corner_near o n h = corner_by o h (int_eq n (pos 1))

side_by : (c : Bool) → IsWithin 16384 (if c then pos 16384 else pos 8192)
side_by true = record { within = omega arith }
side_by false = record { within = omega arith }

pub side_near : (n : ℤ) → IsWithin 16384 (side_at n)
side_near n = side_by (int_eq n (pos 0))

pub long_by : {A : Type 0} (c : Bool) (z : ℤ) → (if c then pos 16384 else pos 8192) ≡ z → IsBetween (pos 1) z (pos 8191) → A
long_by true z e h = let m = h.most in absurd (omega (arith, ints))
long_by false z e h = let m = h.most in absurd (omega (arith, ints))

-- no side of a block or tile is one of a short form
longer : {A : Type 0} (n z : ℤ) → IsBetween (pos 1) z (pos 8191) → signed_decimal (side_at n) ≡ signed_decimal z → A
longer n z h e = long_by (int_eq n (pos 0)) z (from_digits 16384 (side_at n) z (lit< tt) (side_near n) (record { within = let m = (within_high z 8191 h).within in omega arith }) e) h

apart : {A : Type 0} (o p : ℤ) → IsWithin 1023 o → IsWithin 1023 p → o ≡ p -ℤ pos 8192 → A
apart o p h k e = let m = h.within in let n = k.within in absurd (omega (arith, ints))

back : (o p : ℤ) → o -ℤ pos 8192 ≡ p -ℤ pos 8192 → o ≡ p
back o p e = omega (arith, ints)

sides_differ : {A : Type 0} → pos 8192 ≡ pos 16384 → A
sides_differ e = absurd (omega (arith, ints))

-- the corner and the side along an axis say the origin and the normal's component there
pub same_axis : (o n p m : ℤ) → IsSign n → IsSign m → IsWithin 1023 o → IsWithin 1023 p → corner_at o n ≡ corner_at p m → side_at n ≡ side_at m → (o ≡ p) × (n ≡ m)
same_axis o n p m (inl (inl e)) (inl (inl f)) h k c s = (sym (ap (corner_at o) e) ∙ c ∙ ap (corner_at p) f, e ∙ sym f)
same_axis o n p m (inl (inl e)) (inl (inr f)) h k c s = apart o p h k (sym (ap (corner_at o) e) ∙ c ∙ ap (corner_at p) f)
same_axis o n p m (inl (inl e)) (inr f) h k c s = sides_differ (sym (ap side_at e) ∙ s ∙ ap side_at f)
same_axis o n p m (inl (inr e)) (inl (inl f)) h k c s = apart p o k h (sym (sym (ap (corner_at o) e) ∙ c ∙ ap (corner_at p) f))
same_axis o n p m (inl (inr e)) (inl (inr f)) h k c s = (back o p (sym (ap (corner_at o) e) ∙ c ∙ ap (corner_at p) f), e ∙ sym f)
same_axis o n p m (inl (inr e)) (inr f) h k c s = sides_differ (sym (ap side_at e) ∙ s ∙ ap side_at f)
same_axis o n p m (inr e) (inl (inl f)) h k c s = sides_differ (sym (sym (ap side_at e) ∙ s ∙ ap side_at f))
same_axis o n p m (inr e) (inl (inr f)) h k c s = sides_differ (sym (sym (ap side_at e) ∙ s ∙ ap side_at f))
same_axis o n p m (inr e) (inr f) h k c s = (back o p (sym (ap (corner_at o) e) ∙ c ∙ ap (corner_at p) f), e ∙ sym f)

axis_digits : (o n p m : ℤ) → IsSign n → IsSign m → IsWithin 1023 o → IsWithin 1023 p → signed_decimal (corner_at o n) ≡ signed_decimal (corner_at p m)
    → signed_decimal (side_at n) ≡ signed_decimal (side_at m) → (o ≡ p) × (n ≡ m)
axis_digits o n p m i j h k c s =
    same_axis o n p m i j h k (from_digits 9215 (corner_at o n) (corner_at p m) (lit< tt) (corner_near o n h) (corner_near p m k) c)
    (from_digits 16384 (side_at n) (side_at m) (lit< tt) (side_near n) (side_near m) s)

opposites : (a b : ℤ) → neg_ℤ a ≡ neg_ℤ b → a ≡ b
opposites a b e = omega (arith, ints)

-- two short forms
same_short : (l m : Leaf) (r r' : List (List ℕ)) → IsLeaf l → IsLeaf m → IsAxis l → IsAxis m → semi (short_words l) ++ r ≡ semi (short_words m) ++ r' → Same (leaf l) (leaf m) r r'
unfolding frame3 frame2
same_short (Slab f) (Slab g) r r' h k a b e =
    let i = axis_signs3 f.n a in
    let j = axis_signs3 g.n b in
    let x = axis_digits f.o.x f.n.x g.o.x g.n.x i.0 j.0 h.origin_x k.origin_x (ap (nth 3) e) (ap (nth 13) e) in
    let y = axis_digits f.o.y f.n.y g.o.y g.n.y i.1 j.1 h.origin_y k.origin_y (ap (nth 5) e) (ap (nth 15) e) in
    let z = axis_digits f.o.z f.n.z g.o.z g.n.z i.2 j.2 h.origin_z k.origin_z (ap (nth 7) e) (ap (nth 17) e) in
    let same : f ≡ g = ap (λ (o : V3). frame3 o f.n) (v3_same f.o g.o x.0 y.0 z.0) ∙ ap (frame3 g.o) (v3_same f.n g.n x.1 y.1 z.1) in
    record { shape = ap (λ (f : Frame3). leaf (Slab f)) same; rest = ap (drop 21) e }
same_short (Strip f) (Strip g) r r' h k a b e =
    let i = axis_signs2 f.u a in
    let j = axis_signs2 g.u b in
    let x = axis_digits f.o.x (neg_ℤ f.u.y) g.o.x (neg_ℤ g.u.y) i.0 j.0 h.origin_x k.origin_x (ap (nth 3) e) (ap (nth 13) e) in
    let y = axis_digits f.o.y f.u.x g.o.y g.u.x i.1 j.1 h.origin_y k.origin_y (ap (nth 5) e) (ap (nth 15) e) in
    let same : f ≡ g = ap (λ (o : V2). frame2 o f.u) (v2_same f.o g.o x.0 y.0) ∙ ap (frame2 g.o) (v2_same f.u g.u y.1 (opposites f.u.y g.u.y x.1)) in
    record { shape = ap (λ (f : Frame2). leaf (Strip f)) same; rest = ap (drop 19) e }
same_short (Slab f) (Strip g) r r' h k a b e = differ 99 115 (lit< tt) (ap (λ ts. begins (drop 10 ts)) e)
same_short (Strip f) (Slab g) r r' h k a b e = differ 99 115 (lit< tt) (sym (ap (λ ts. begins (drop 10 ts)) e))
same_short (Slab f) (Disc d) r r' h k a b e = absurd b
same_short (Slab f) (Block c) r r' h k a b e = absurd b
same_short (Slab f) (Tile c) r r' h k a b e = absurd b
same_short (Strip f) (Disc d) r r' h k a b e = absurd b
same_short (Strip f) (Block c) r r' h k a b e = absurd b
same_short (Strip f) (Tile c) r r' h k a b e = absurd b
same_short (Disc d) m r r' h k a b e = absurd a
same_short (Block c) m r r' h k a b e = absurd a
same_short (Tile c) m r r' h k a b e = absurd a

-- a short form is no long one
short_long : {A : Type 0} (l m : Leaf) (r r' : List (List ℕ)) → IsLeaf m → IsAxis l → semi (short_words l) ++ r ≡ semi (long_words m) ++ r' → A
short_long (Slab f) (Slab g) r r' k a e = differ 109 116 (lit< tt) (sym (ap begins e))
short_long (Slab f) (Strip g) r r' k a e = differ 109 116 (lit< tt) (sym (ap begins e))
short_long (Slab f) (Disc d) r r' k a e = differ 105 117 (lit< tt) (sym (ap (second 10) e))
short_long (Slab f) (Block b) r r' k a e = longer f.n.x (b.x1 -ℤ b.x0) k.side_x (ap (nth 13) e)
short_long (Slab f) (Tile b) r r' k a e = differ 99 115 (lit< tt) (ap (λ ts. begins (drop 10 ts)) e)
short_long (Strip f) (Slab g) r r' k a e = differ 109 116 (lit< tt) (sym (ap begins e))
short_long (Strip f) (Strip g) r r' k a e = differ 109 116 (lit< tt) (sym (ap begins e))
short_long (Strip f) (Disc d) r r' k a e = differ 99 115 (lit< tt) (sym (ap (λ ts. begins (drop 10 ts)) e))
short_long (Strip f) (Block b) r r' k a e = differ 99 115 (lit< tt) (sym (ap (λ ts. begins (drop 10 ts)) e))
short_long (Strip f) (Tile b) r r' k a e = longer (neg_ℤ f.u.y) (b.x1 -ℤ b.x0) k.side_x (ap (nth 13) e)
short_long (Disc d) m r r' k a e = absurd a
short_long (Block b) m r r' k a e = absurd a
short_long (Tile b) m r r' k a e = absurd a

-- ---- both forms

moved : {w v a b : List (List ℕ)} (r r' : List (List ℕ)) → w ≡ a → v ≡ b → w ++ r ≡ v ++ r' → a ++ r ≡ b ++ r'
moved r r' e f h = sym (ap (λ x. x ++ r) e) ∙ h ∙ ap (λ x. x ++ r') f

moved_leaf : {w v a b : List (List ℕ)} (r r' : List (List ℕ)) → w ≡ a → v ≡ b → semi w ++ r ≡ semi v ++ r' → semi a ++ r ≡ semi b ++ r'
moved_leaf r r' e f h = sym (ap (λ x. semi x ++ r) e) ∙ h ∙ ap (λ x. semi x ++ r') f

same_leaf : (l m : Leaf) (w v r r' : List (List ℕ)) → IsLeaf l → IsLeaf m → IsLeafWords l w → IsLeafWords m v → semi w ++ r ≡ semi v ++ r' → Same (leaf l) (leaf m) r r'
same_leaf l m w v r r' h k (inl e) (inl f) q = same_long l m r r' h k (moved_leaf r r' e f q)
same_leaf l m w v r r' h k (inr a) (inl f) q = short_long l m r r' k a.0 (moved_leaf r r' a.1 f q)
same_leaf l m w v r r' h k (inl e) (inr b) q = short_long m l r' r h b.0 (sym (moved_leaf r r' e b.1 q))
same_leaf l m w v r r' h k (inr a) (inr b) q = same_short l m r r' h k a.0 b.0 (moved_leaf r r' a.1 b.1 q)

-- a leaf begins with multmatrix or translate
abbrev is_first : ℕ → Bool
is_first n = nat_eq n 109 || nat_eq n 116

long_first : (l : Leaf) (r : List (List ℕ)) → is_first (begins (semi (long_words l) ++ r)) ≡ true
long_first (Slab f) r = refl
long_first (Strip f) r = refl
long_first (Disc d) r = refl
long_first (Block b) r = refl
long_first (Tile b) r = refl

short_first : (l : Leaf) (r : List (List ℕ)) → is_first (begins (semi (short_words l) ++ r)) ≡ true
short_first (Slab f) r = refl
short_first (Strip f) r = refl
short_first (Disc d) r = refl
short_first (Block b) r = refl
short_first (Tile b) r = refl

leaf_first : (l : Leaf) (w r : List (List ℕ)) → IsLeafWords l w → is_first (begins (semi w ++ r)) ≡ true
leaf_first l w r (inl e) = ap (λ x. is_first (begins (semi x ++ r))) e ∙ long_first l r
leaf_first l w r (inr a) = ap (λ x. is_first (begins (semi x ++ r))) a.1 ∙ short_first l r

other_leaf : {A : Type 0} (n : ℕ) (l : Leaf) (w r : List (List ℕ)) → IsLeafWords l w → is_first n ≡ false → n ≡ begins (semi w ++ r) → A
other_leaf n l w r p h e = let k : true ≡ false = sym (leaf_first l w r p) ∙ sym (ap is_first e) ∙ h in cc

-- ---- nodes

-- an operator's sequence is its opening, what stands inside, the closing bracket and what follows
inner : (inside r : List (List ℕ)) → (inside ++ codes "}" ∷ []) ++ r ≡ inside ++ (codes "}" ∷ r)
inner inside r = append_assoc inside (codes "}" ∷ []) r

between : (a b r r' : List (List ℕ)) → (a ++ codes "}" ∷ []) ++ r ≡ (b ++ codes "}" ∷ []) ++ r' → a ++ (codes "}" ∷ r) ≡ b ++ (codes "}" ∷ r')
between a b r r' e = sym (inner a r) ∙ e ∙ inner b r'

-- no node begins with a closing bracket
not_closed : {A : Type 0} (s : Shape) (w x r : List (List ℕ)) → IsWords s w → codes "}" ∷ r ≡ w ++ x → A
not_closed (leaf l) w x r p e = other_leaf 125 l p.0 x p.1 refl (ap begins (e ∙ ap (λ y. y ++ x) p.2))
not_closed (union kids) w x r p e = differ 117 125 (lit< tt) (sym (ap begins (e ∙ ap (λ y. y ++ x) p.2)))
not_closed (meet kids) w x r p e = differ 105 125 (lit< tt) (sym (ap begins (e ∙ ap (λ y. y ++ x) p.2)))
not_closed (cut s kids) w x r p e = differ 100 125 (lit< tt) (sym (ap begins (e ∙ ap (λ y. y ++ x) p.4)))

pub record SameAll (ss ts : Shapes) (r r' : List (List ℕ)) : Type 0 where
  pub shapes : ss ≡ ts
  pub rest : r ≡ r'

regroup : (a b r : List (List ℕ)) → (a ++ b) ++ r ≡ a ++ (b ++ r)
regroup a b r = append_assoc a b r

union_same : (ks ls : Shapes) (r r' : List (List ℕ)) → SameAll ks ls r r' → Same (union ks) (union ls) r r'
union_same ks ls r r' e = record { shape = ap union e.shapes; rest = e.rest }

meet_same : (ks ls : Shapes) (r r' : List (List ℕ)) → SameAll ks ls r r' → Same (meet ks) (meet ls) r r'
meet_same ks ls r r' e = record { shape = ap meet e.shapes; rest = e.rest }

cut_same : (s t : Shape) (ks ls : Shapes) (r r' : List (List ℕ)) → s ≡ t → SameAll ks ls r r' → Same (cut s ks) (cut t ls) r r'
cut_same s t ks ls r r' e f = record { shape = ap (λ (x : Shape). cut x ks) e ∙ ap (cut t) f.shapes; rest = f.rest }

child_same : (s t : Shape) (ss ts : Shapes) (r r' : List (List ℕ)) → s ≡ t → SameAll ss ts r r' → SameAll (child s ss) (child t ts) r r'
child_same s t ss ts r r' e f = record { shapes = ap (λ (x : Shape). child x ss) e ∙ ap (child t) f.shapes; rest = f.rest }

mutual
  pub one : (s t : Shape) (w v r r' : List (List ℕ)) → AllLeaves IsLeaf s → AllLeaves IsLeaf t → IsWords s w → IsWords t v → w ++ r ≡ v ++ r' → Same s t r r'
  one (leaf l) (leaf m) w v r r' f g p q e = same_leaf l m p.0 q.0 r r' f g p.1 q.1 (moved _ _ p.2 q.2 e)
  one (union ks) (union ls) w v r r' f g p q e =
      union_same ks ls r r' (all ks ls p.0 q.0 r r' f g p.1 q.1 (between p.0 q.0 r r' (ap (drop 4) (moved _ _ p.2 q.2 e))))
  one (meet ks) (meet ls) w v r r' f g p q e =
      meet_same ks ls r r' (all ks ls p.0 q.0 r r' f g p.1 q.1 (between p.0 q.0 r r' (ap (drop 4) (moved _ _ p.2 q.2 e))))
  one (cut s ks) (cut t ls) w v r r' f g p q e =
      let h : (p.0 ++ p.1) ++ (codes "}" ∷ r) ≡ (q.0 ++ q.1) ++ (codes "}" ∷ r') = between (p.0 ++ p.1) (q.0 ++ q.1) r r' (ap (drop 4) (moved _ _ p.4 q.4 e)) in
      let k : Same s t (p.1 ++ (codes "}" ∷ r)) (q.1 ++ (codes "}" ∷ r')) =
      one s t p.0 q.0 (p.1 ++ (codes "}" ∷ r)) (q.1 ++ (codes "}" ∷ r')) f.0 g.0 p.2 q.2 (sym (regroup p.0 p.1 (codes "}" ∷ r)) ∙ h ∙ regroup q.0 q.1 (codes "}" ∷ r')) in
      cut_same s t ks ls r r' k.shape (all ks ls p.1 q.1 r r' f.1 g.1 p.3 q.3 k.rest)
  one (leaf l) (union ls) w v r r' f g p q e = other_leaf 117 l p.0 r p.1 refl (sym (ap begins (moved _ _ p.2 q.2 e)))
  one (leaf l) (meet ls) w v r r' f g p q e = other_leaf 105 l p.0 r p.1 refl (sym (ap begins (moved _ _ p.2 q.2 e)))
  one (leaf l) (cut t ls) w v r r' f g p q e = other_leaf 100 l p.0 r p.1 refl (sym (ap begins (moved _ _ p.2 q.4 e)))
  one (union ks) (leaf m) w v r r' f g p q e = other_leaf 117 m q.0 r' q.1 refl (ap begins (moved _ _ p.2 q.2 e))
  one (union ks) (meet ls) w v r r' f g p q e = differ 105 117 (lit< tt) (sym (ap begins (moved _ _ p.2 q.2 e)))
  one (union ks) (cut t ls) w v r r' f g p q e = differ 100 117 (lit< tt) (sym (ap begins (moved _ _ p.2 q.4 e)))
  one (meet ks) (leaf m) w v r r' f g p q e = other_leaf 105 m q.0 r' q.1 refl (ap begins (moved _ _ p.2 q.2 e))
  one (meet ks) (union ls) w v r r' f g p q e = differ 105 117 (lit< tt) (ap begins (moved _ _ p.2 q.2 e))
  one (meet ks) (cut t ls) w v r r' f g p q e = differ 100 105 (lit< tt) (sym (ap begins (moved _ _ p.2 q.4 e)))
  one (cut s ks) (leaf m) w v r r' f g p q e = other_leaf 100 m q.0 r' q.1 refl (ap begins (moved _ _ p.4 q.2 e))
  one (cut s ks) (union ls) w v r r' f g p q e = differ 100 117 (lit< tt) (ap begins (moved _ _ p.4 q.2 e))
  one (cut s ks) (meet ls) w v r r' f g p q e = differ 100 105 (lit< tt) (ap begins (moved _ _ p.4 q.2 e))

  all : (ss ts : Shapes) (w v r r' : List (List ℕ)) → EachLeaf IsLeaf ss → EachLeaf IsLeaf ts → AreWords ss w → AreWords ts v → w ++ (codes "}" ∷ r) ≡ v ++ (codes "}" ∷ r') → SameAll ss ts r r'
  all none none w v r r' f g p q e = record { shapes = refl; rest = ap (drop 1) (moved _ _ p q e) }
  all none (child t ts) w v r r' f g p q e = not_closed t q.0 (q.1 ++ (codes "}" ∷ r')) r q.2 (moved _ _ p q.4 e ∙ regroup q.0 q.1 (codes "}" ∷ r'))
  all (child s ss) none w v r r' f g p q e = not_closed s p.0 (p.1 ++ (codes "}" ∷ r)) r' p.2 (sym (moved _ _ p.4 q e) ∙ regroup p.0 p.1 (codes "}" ∷ r))
  all (child s ss) (child t ts) w v r r' f g p q e =
      let k : Same s t (p.1 ++ (codes "}" ∷ r)) (q.1 ++ (codes "}" ∷ r')) =
      one s t p.0 q.0 (p.1 ++ (codes "}" ∷ r)) (q.1 ++ (codes "}" ∷ r')) f.0 g.0 p.2 q.2 (sym (regroup p.0 p.1 (codes "}" ∷ r)) ∙ moved _ _ p.4 q.4 e ∙ regroup q.0 q.1 (codes "}" ∷ r')) in
      child_same s t ss ts r r' k.shape (all ss ts p.1 q.1 r r' f.1 g.1 p.3 q.3 k.rest)

pub words_of_one_tree : WordsOfOneTree
words_of_one_tree ws s t h k p q = (one s t ws ws [] [] h.ranges k.ranges p q refl).shape

pub spells_one_tree : SpellsOneTree
spells_one_tree text s t h k =
    let same : h.words ≡ k.words = given h.words k.words (sym h.tokens ∙ k.tokens) in
    words_of_one_tree k.words s t h.allowed k.allowed (subst (IsWords s) same h.spelled) k.spelled
