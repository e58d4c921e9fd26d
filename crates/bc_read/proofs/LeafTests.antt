-- The tests of leaves decide their ranges, and the leaf that some numbers say is the only one.
use Rattle.std.proofs.Common.{◌≡◌, ◌<◌, ◌%◌, ℕ, zero, suc, Bool, true, false, ◌&&◌, nat_eq, List, [], ◌∷◌, Option, Some, None, refl, sym, ap, ◌∙◌, subst, arith, if◌then◌else◌, eqb-true, eq-eqb, mod-lt, get_or, length, ◌↔◌}
use Rattle.std.proofs.lemmas.Bool.Decides.{nat_tests, Decides-int_eq, Decides-and, Decides-like}
use Rattle.std.proofs.lemmas.Bool.{and_from}
use Rattle.std.proofs.lemmas.Int.{ints}
use Rattle.std.proofs.lemmas.Nat.Gcd.{IsGcd-from_zero, IsGcd-from_mod}
use Rattle.std.specs.Int.{IsGcd}
use Rattle.std.specs.Bool.{Decides}
use Rattle.std.specs.Ordering.{int_eq}
use Rattle.std.specs.Prelude.{IsSome, int_le, nat_abs, ℤ, pos, ◌+ℤ◌, ◌-ℤ◌, ◌<ℤ◌, ◌≤ℤ◌}
use lib.Signed.{lt_z}
use lib.Dec.{T}
use lib.Pointwise.{pointwise}
use Rattle.std.proofs.lemmas.Slice.Eq.{slice_eq-Decides}
use denote.Struct.Props.{props}
use Rattle.bc_algebra.specs.Within.{IsWithin}
use Rattle.bc_num.specs.declared.v2.V2.{V2}
use Rattle.bc_num.specs.declared.v3.V3.{V3}
use Rattle.bc_num.specs.declared.box2.Box2.{Box2}
use Rattle.bc_num.specs.declared.box3.Box3.{Box3}
use Rattle.bc_num.specs.Divides.{IsGcdOf}
use Rattle.bc_num.specs.Directions.{IsPrimitive2}
use Rattle.bc_num.proofs.Same.{box2_same, box3_same}
use Rattle.bc_num.proofs.Dividing.{Divides_trans, coprime_of-gcd, gcd_of-coprime, IsGcdOf_of-sizes}
use Rattle.bc_tree.specs.declared.tree.Leaf.{Leaf}
use Rattle.bc_tree.specs.declared.tree.Leaf.TheVariants as leaves
use Rattle.bc_tree.specs.declared.frame.Frame2.{Frame2}
use Rattle.bc_tree.specs.declared.frame.Frame3.{Frame3}
use Rattle.bc_num.specs.Directions3.{IsPrimitive3}
use Rattle.bc_tree.specs.Leaves.{IsBetween, IsFrame2, IsFrame3, IsLeaf}
use Rattle.bc_read.specs.declared.part.Form.{Form}
use Rattle.bc_read.specs.declared.part.Form.TheVariants.{Slab, Strip, Disc, Block, Tile}
use Rattle.bc_read.specs.Leaves.{form_of, numbers_of, LongSays, LongTells, is_near, is_between, gcd_within, gcd, is_primitive2, is_primitive3, is_leaf, less_by, where_less, disc_at, tile_at, block_at, candidate, checked, IsSideFrom, long_of}

-- ---- ranges

pub near : (n : ℕ) (z : ℤ) → Decides (is_near n z) (IsWithin n z)
near n z = (λ e. record { within = grind (arith, nat_tests) }, λ h. let k = h.within in grind (arith, nat_tests))

le-is : (a b : ℤ) → int_le a b ≡ true → a ≤ℤ b
le-is a b e = record { le = subst T (sym e) tt }

is-le : (c : Bool) → T c → c ≡ true
is-le true t = refl
is-le false t = absurd t

between : (low z high : ℤ) → Decides (is_between low z high) (IsBetween low z high)
between low z high =
    Decides-like (is_between low z high) (λ h. record { least = h.0; most = h.1 }) (λ h. (h.least, h.most))
    (Decides-and (int_le low z) (int_le z high) (le-is low z, λ h. is-le _ h.le) (le-is z high, λ h. is-le _ h.le))

-- ---- greatest common divisors

some : (b : ℕ) → nat_eq b 0 ≡ false → 0 < b
some b e = grind (arith, nat_tests)

gcd-step : (k a b : ℕ) → b < suc k → ((a b : ℕ) → b < k → IsGcd a b (gcd_within k a b)) → (c : Bool) → nat_eq b 0 ≡ c → IsGcd a b (if c then a else gcd_within k b (a % b))
gcd-step k a b h more true e = IsGcd-from_zero a b (eqb-true b 0 e)
gcd-step k a b h more false e = IsGcd-from_mod a b (gcd_within k b (a % b)) (more b (a % b) (let m : a % b < b = mod-lt a (some b e) in omega arith))

gcd-is : (k a b : ℕ) → b < k → IsGcd a b (gcd_within k a b)
gcd-is zero a b h = absurd (omega arith)
gcd-is (suc k) a b h = gcd-step k a b h (gcd-is k) (nat_eq b 0) refl

gcd-of : (x y : ℤ) → IsGcdOf x y (pos (gcd (nat_abs x) (nat_abs y)))
gcd-of x y = IsGcdOf_of-sizes x y (gcd (nat_abs x) (nat_abs y)) (gcd-is (suc (nat_abs y)) (nat_abs x) (nat_abs y) (omega arith))

pos-same : (m n : ℕ) → pos m ≡ pos n → m ≡ n
pos-same m n e = cc e

primitive2 : (v : V2) → Decides (is_primitive2 v) (IsPrimitive2 v)
primitive2 v =
    let g : ℕ = gcd (nat_abs v.x) (nat_abs v.y) in (
      λ e. record { coprime = coprime_of-gcd v.x v.y (subst (λ n. IsGcdOf v.x v.y (pos n)) (eqb-true g 1 e) (gcd-of v.x v.y)) },
      λ p. eq-eqb g 1 (pos-same g 1 (gcd_of-coprime v.x v.y (pos g) p.coprime (gcd-of v.x v.y))),
    )

primitive3 : (v : V3) → Decides (is_primitive3 v) (IsPrimitive3 v)
primitive3 v =
    let h : ℕ = gcd (nat_abs v.x) (nat_abs v.y) in
    let g : ℕ = gcd h (nat_abs v.z) in
    let k : IsGcdOf v.x v.y (pos h) = gcd-of v.x v.y in
    let l : IsGcdOf (pos h) v.z (pos g) = gcd-of (pos h) v.z in (
      λ e. record { coprime = λ d x y z. coprime_of-gcd (pos h) v.z (subst (λ n. IsGcdOf (pos h) v.z (pos n)) (eqb-true g 1 e) l) d (k.greatest (pos d) x y) z },
      λ p. eq-eqb g 1 (pos-same g 1 (gcd_of-coprime (pos h) v.z (pos g) (λ d a b. p.coprime d (Divides_trans (pos d) (pos h) v.x a k.left) (Divides_trans (pos d) (pos h) v.y a k.right) b) l)),
    )

-- ---- leaves

pub leaf-test : (l : Leaf) → Decides (is_leaf l) (IsLeaf l)
leaf-test (leaves.Slab f) =
    Decides-like (is_leaf (leaves.Slab f))
    (λ h. record { origin_x = h.0; origin_y = h.1.0; origin_z = h.1.1.0; normal_x = h.1.1.1.0; normal_y = h.1.1.1.1.0; normal_z = h.1.1.1.1.1.0; primitive = h.1.1.1.1.1.1 })
    (λ h. (h.origin_x, (h.origin_y, (h.origin_z, (h.normal_x, (h.normal_y, (h.normal_z, h.primitive)))))))
    (Decides-and (is_near 1023 f.o.x) _ (near 1023 f.o.x) (Decides-and (is_near 1023 f.o.y) _ (near 1023 f.o.y) (Decides-and (is_near 1023 f.o.z) _ (near 1023 f.o.z)
    (Decides-and (is_near 8388607 f.n.x) _ (near 8388607 f.n.x) (Decides-and (is_near 8388607 f.n.y) _ (near 8388607 f.n.y) (Decides-and (is_near 8388607 f.n.z) _ (near 8388607 f.n.z) (primitive3 f.n)))))))
leaf-test (leaves.Strip f) =
    Decides-like (is_leaf (leaves.Strip f))
    (λ h. record { origin_x = h.0; origin_y = h.1.0; along_x = h.1.1.0; along_y = h.1.1.1.0; primitive = h.1.1.1.1 })
    (λ h. (h.origin_x, (h.origin_y, (h.along_x, (h.along_y, h.primitive)))))
    (Decides-and (is_near 1023 f.o.x) _ (near 1023 f.o.x) (Decides-and (is_near 1023 f.o.y) _ (near 1023 f.o.y)
    (Decides-and (is_near 2046 f.u.x) _ (near 2046 f.u.x) (Decides-and (is_near 2046 f.u.y) _ (near 2046 f.u.y) (primitive2 f.u)))))
leaf-test (leaves.Disc d) =
    Decides-like (is_leaf (leaves.Disc d))
    (λ h. record { centre_x = h.0; centre_y = h.1.0; square = h.1.1 })
    (λ h. (h.centre_x, (h.centre_y, h.square)))
    (Decides-and (is_near 1023 d.c.x) _ (near 1023 d.c.x) (Decides-and (is_near 1023 d.c.y) _ (near 1023 d.c.y) (between (pos 1) d.r2 (pos 8372232))))
leaf-test (leaves.Block b) =
    Decides-like (is_leaf (leaves.Block b))
    (λ h. record { corner_x = h.0; corner_y = h.1.0; corner_z = h.1.1.0; side_x = h.1.1.1.0; side_y = h.1.1.1.1.0; side_z = h.1.1.1.1.1 })
    (λ h. (h.corner_x, (h.corner_y, (h.corner_z, (h.side_x, (h.side_y, h.side_z))))))
    (Decides-and (is_near 4096 b.x0) _ (near 4096 b.x0) (Decides-and (is_near 4096 b.y0) _ (near 4096 b.y0) (Decides-and (is_near 4096 b.z0) _ (near 4096 b.z0)
    (Decides-and (is_between (pos 1) (b.x1 -ℤ b.x0) (pos 8191)) _ (between (pos 1) (b.x1 -ℤ b.x0) (pos 8191))
    (Decides-and (is_between (pos 1) (b.y1 -ℤ b.y0) (pos 8191)) _ (between (pos 1) (b.y1 -ℤ b.y0) (pos 8191)) (between (pos 1) (b.z1 -ℤ b.z0) (pos 8191)))))))
leaf-test (leaves.Tile b) =
    Decides-like (is_leaf (leaves.Tile b))
    (λ h. record { corner_x = h.0; corner_y = h.1.0; side_x = h.1.1.0; side_y = h.1.1.1 })
    (λ h. (h.corner_x, (h.corner_y, (h.side_x, h.side_y))))
    (Decides-and (is_near 4096 b.x0) _ (near 4096 b.x0) (Decides-and (is_near 4096 b.y0) _ (near 4096 b.y0)
    (Decides-and (is_between (pos 1) (b.x1 -ℤ b.x0) (pos 8191)) _ (between (pos 1) (b.x1 -ℤ b.x0) (pos 8191)) (between (pos 1) (b.y1 -ℤ b.y0) (pos 8191)))))

-- ---- lists of numbers

pub alike : (ys zs : List ℤ) → Decides (pointwise int_eq ys zs) (ys ≡ zs)
alike ys zs = slice_eq-Decides Decides-int_eq ys zs (pointwise int_eq ys zs) refl

pub same-is : (ys zs : List ℤ) → pointwise int_eq ys zs ≡ true → ys ≡ zs
same-is ys zs e = (alike ys zs).0 e

pub is-same : (ys zs : List ℤ) → ys ≡ zs → pointwise int_eq ys zs ≡ true
is-same ys zs e = (alike ys zs).1 e

-- ---- candidates

below_prop : (a b : ℤ) → IsProp (a <ℤ b)
below_prop a b = hlevel props

less-is : {A : Type 0} (a b : ℤ) (c : Bool) (e : lt_z a b ≡ c) (f : a <ℤ b → Option A) (h : a <ℤ b) → less_by a b c e f ≡ f h
less-is a b true e f h = ap f (below_prop a b (record { lt = subst T (sym e) tt }) h)
less-is a b false e f h = absurd (subst T e h.lt)

less : {A : Type 0} (a b : ℤ) (f : a <ℤ b → Option A) (h : a <ℤ b) → where_less a b f ≡ f h
less a b f h = less-is a b (lt_z a b) refl f h

far-end : (x y : ℤ) → x +ℤ (y -ℤ x) ≡ y
far-end x y = omega (arith, ints)

far-less : (x y : ℤ) → x <ℤ y → x <ℤ (x +ℤ (y -ℤ x))
far-less x y h = subst (λ z. x <ℤ z) (sym (far-end x y)) h

candidate-is : (l : Leaf) → candidate (form_of l) (numbers_of l) ≡ Some l
candidate-is (leaves.Slab f) = refl
candidate-is (leaves.Strip f) = refl
candidate-is (leaves.Disc d) = less (pos 0) d.r2 _ d.proper
candidate-is (leaves.Block b) =
    less b.x0 (b.x0 +ℤ (b.x1 -ℤ b.x0)) _ (far-less b.x0 b.x1 b.wide)
    ∙ less b.y0 (b.y0 +ℤ (b.y1 -ℤ b.y0)) _ (far-less b.y0 b.y1 b.deep)
    ∙ less b.z0 (b.z0 +ℤ (b.z1 -ℤ b.z0)) _ (far-less b.z0 b.z1 b.high)
    ∙ ap (λ (b : Box3). Some (leaves.Block b)) (box3_same _ b refl refl refl (far-end b.x0 b.x1) (far-end b.y0 b.y1) (far-end b.z0 b.z1))
candidate-is (leaves.Tile b) =
    less b.x0 (b.x0 +ℤ (b.x1 -ℤ b.x0)) _ (far-less b.x0 b.x1 b.wide)
    ∙ less b.y0 (b.y0 +ℤ (b.y1 -ℤ b.y0)) _ (far-less b.y0 b.y1 b.high)
    ∙ ap (λ (b : Box2). Some (leaves.Tile b)) (box2_same _ b refl refl (far-end b.x0 b.x1) (far-end b.y0 b.y1))

said : (form : Form) (ns : List ℤ) (l : Leaf) → LongSays form ns l → candidate form ns ≡ Some l
said form ns l s = (λ i. candidate (s.form_is i) (s.numbers i)) ∙ candidate-is l

-- what comes is of this form
abbrev IsOf : Form → Option Leaf → Type 0
IsOf form o = (l : Leaf) → o ≡ Some l → form ≡ form_of l

one-of : (form : Form) (l : Leaf) → form ≡ form_of l → IsOf form (Some l)
one-of form l e m h = let same : l ≡ m = cc h in e ∙ ap form_of same

less-of : (form : Form) (a b : ℤ) (c : Bool) (e : lt_z a b ≡ c) (f : a <ℤ b → Option Leaf) → ((h : a <ℤ b) → IsOf form (f h)) → IsOf form (less_by a b c e f)
less-of form a b true e f g = g (record { lt = subst T (sym e) tt })
less-of form a b false e f g = λ l h. cc h

less-any : (form : Form) (a b : ℤ) (f : a <ℤ b → Option Leaf) → ((h : a <ℤ b) → IsOf form (f h)) → IsOf form (where_less a b f)
less-any form a b f g = less-of form a b (lt_z a b) refl f g

disc-of : (x y r2 : ℤ) → IsOf Disc (disc_at x y r2)
disc-of x y r2 = less-any Disc (pos 0) r2 (λ proper. Some (leaves.Disc (record { c = record { x = x; y = y }; r2 = r2; proper = proper }))) (λ h. one-of Disc (leaves.Disc (record { c = record { x = x; y = y }; r2 = r2; proper = h })) refl)

tile-of : (x y a b : ℤ) → IsOf Tile (tile_at x y a b)
tile-of x y a b =
    less-any Tile x (x +ℤ a) (λ wide. where_less y (y +ℤ b) (λ high. Some (leaves.Tile (record { x0 = x; y0 = y; x1 = x +ℤ a; y1 = y +ℤ b; wide = wide; high = high }))))
    (λ wide. less-any Tile y (y +ℤ b) (λ high. Some (leaves.Tile (record { x0 = x; y0 = y; x1 = x +ℤ a; y1 = y +ℤ b; wide = wide; high = high })))
    (λ high. one-of Tile (leaves.Tile (record { x0 = x; y0 = y; x1 = x +ℤ a; y1 = y +ℤ b; wide = wide; high = high })) refl))

block-of : (x y z a b c : ℤ) → IsOf Block (block_at x y z a b c)
block-of x y z a b c =
    less-any Block x (x +ℤ a) (λ wide. where_less y (y +ℤ b) (λ deep. where_less z (z +ℤ c) (λ high. Some (leaves.Block (record { x0 = x; y0 = y; z0 = z; x1 = x +ℤ a; y1 = y +ℤ b; z1 = z +ℤ c; wide = wide; deep = deep; high = high })))))
    (λ wide. less-any Block y (y +ℤ b) (λ deep. where_less z (z +ℤ c) (λ high. Some (leaves.Block (record { x0 = x; y0 = y; z0 = z; x1 = x +ℤ a; y1 = y +ℤ b; z1 = z +ℤ c; wide = wide; deep = deep; high = high }))))
    (λ deep. less-any Block z (z +ℤ c) (λ high. Some (leaves.Block (record { x0 = x; y0 = y; z0 = z; x1 = x +ℤ a; y1 = y +ℤ b; z1 = z +ℤ c; wide = wide; deep = deep; high = high })))
    (λ high. one-of Block (leaves.Block (record { x0 = x; y0 = y; z0 = z; x1 = x +ℤ a; y1 = y +ℤ b; z1 = z +ℤ c; wide = wide; deep = deep; high = high })) refl)))

candidate-of : (form : Form) (ns : List ℤ) → IsOf form (candidate form ns)
candidate-of Slab ns = one-of Slab (leaves.Slab (record { o = record { x = get_or ns 3 (pos 0); y = get_or ns 7 (pos 0); z = get_or ns 11 (pos 0) }; n = record { x = get_or ns 2 (pos 0); y = get_or ns 6 (pos 0); z = get_or ns 10 (pos 0) } })) refl
candidate-of Strip ns = one-of Strip (leaves.Strip (record { o = record { x = get_or ns 3 (pos 0); y = get_or ns 7 (pos 0) }; u = record { x = get_or ns 0 (pos 0); y = get_or ns 4 (pos 0) } })) refl
candidate-of Disc ns = disc-of (get_or ns 0 (pos 0)) (get_or ns 1 (pos 0)) (get_or ns 3 (pos 0))
candidate-of Block ns = block-of (get_or ns 0 (pos 0)) (get_or ns 1 (pos 0)) (get_or ns 2 (pos 0)) (get_or ns 3 (pos 0)) (get_or ns 4 (pos 0)) (get_or ns 5 (pos 0))
candidate-of Tile ns = tile-of (get_or ns 0 (pos 0)) (get_or ns 1 (pos 0)) (get_or ns 3 (pos 0)) (get_or ns 4 (pos 0))

-- ---- the leaf that is said

abbrev passes : List ℤ → Leaf → Bool
passes ns l = pointwise int_eq ns (numbers_of l) && is_leaf l

says-passes : (form : Form) (ns : List ℤ) (l : Leaf) → LongSays form ns l → passes ns l ≡ true
says-passes form ns l s = and_from (pointwise int_eq ns (numbers_of l)) (is_leaf l) (is-same ns (numbers_of l) s.numbers) ((leaf-test l).1 s.in_range)

-- numbers say one leaf at most, which is this
pub long_told : (form : Form) (ns : List ℤ) (l : Leaf) → LongSays form ns l → long_of form ns ≡ Some l
long_told form ns l s = ap (checked ns) (said form ns l s) ∙ ap (λ c. if c then Some l else None) (says-passes form ns l s)

tells-by : (form : Form) (ns : List ℤ) (l : Leaf) → candidate form ns ≡ Some l → (c d : Bool) → pointwise int_eq ns (numbers_of l) ≡ c → is_leaf l ≡ d → LongTells (if c && d then Some l else None) form ns
tells-by form ns l e true true f g = record { form_is = candidate-of form ns l e; numbers = same-is ns (numbers_of l) f; in_range = (leaf-test l).0 g }
tells-by form ns l e true false f g = λ m s.
    let same : l ≡ m = let h : Some l ≡ Some m = sym e ∙ said form ns m s in cc h in
    let yes : passes ns l ≡ true = ap (passes ns) same ∙ says-passes form ns m s in
    let not_so : passes ns l ≡ false = (λ i. f i && g i) in cc
tells-by form ns l e false d f g = λ m s.
    let same : l ≡ m = let h : Some l ≡ Some m = sym e ∙ said form ns m s in cc h in
    let yes : passes ns l ≡ true = ap (passes ns) same ∙ says-passes form ns m s in
    let not_so : passes ns l ≡ false = (λ i. f i && g i) in cc

tells-at : (form : Form) (ns : List ℤ) (o : Option Leaf) → candidate form ns ≡ o → LongTells (checked ns o) form ns
tells-at form ns None e = λ l s. let never : None ≡ Some l = sym e ∙ said form ns l s in cc never
tells-at form ns (Some l) e = tells-by form ns l e (pointwise int_eq ns (numbers_of l)) (is_leaf l) refl refl

pub long_tells : (form : Form) (ns : List ℤ) → LongTells (long_of form ns) form ns
long_tells form ns = tells-at form ns (candidate form ns) refl

none-is : (form : Form) (ns : List ℤ) (q : Option Leaf) → LongTells q form ns → LongTells None form ns → None ≡ q
none-is form ns None h n = refl
none-is form ns (Some l) h n = absurd (n l h)

pub same_long : (r : Option Leaf) (form : Form) (ns : List ℤ) → LongTells r form ns → r ≡ long_of form ns
same_long None form ns h = none-is form ns (long_of form ns) (long_tells form ns) h
same_long (Some l) form ns h = sym (long_told form ns l h)

-- ---- what is said by some numbers

abbrev pub at : ℕ → List ℤ → ℤ
at i ns = get_or ns i (pos 0)

side-from : (x a y b : ℤ) → x ≡ y → a ≡ b → IsWithin 4096 y → IsBetween (pos 1) b (pos 8191) → IsSideFrom x a
side-from x a y b e f h k = record { near = subst (IsWithin 4096) (sym e) h; side = subst (λ c. IsBetween (pos 1) c (pos 8191)) (sym f) k }

record TileSays (x y z a b : ℤ) : Type 0 where
  along_x : IsSideFrom x a
  along_y : IsSideFrom y b
  flat : z ≡ pos 0

tile-says : (x y z a b : ℤ) (l : Leaf) → LongSays Tile (x ∷ y ∷ z ∷ a ∷ b ∷ []) l → TileSays x y z a b
tile-says x y z a b (leaves.Slab f) s = cc s.form_is
tile-says x y z a b (leaves.Strip f) s = cc s.form_is
tile-says x y z a b (leaves.Disc d) s = cc s.form_is
tile-says x y z a b (leaves.Block c) s = cc s.form_is
tile-says x y z a b (leaves.Tile t) s =
    let r = s.in_range in
    let e = s.numbers in
    record {
      along_x = side-from x a t.x0 (t.x1 -ℤ t.x0) (ap (at 0) e) (ap (at 3) e) r.corner_x r.side_x;
      along_y = side-from y b t.y0 (t.y1 -ℤ t.y0) (ap (at 1) e) (ap (at 4) e) r.corner_y r.side_y;
      flat = ap (at 2) e;
    }

pub no-some : {A : Type 0} (o : Option A) → o ≡ None → IsSome o → ⊥
no-some None e h = cc h
no-some (Some x) e h = cc e

none-tells : (r : Option Leaf) (form : Form) (ns : List ℤ) → r ≡ None → ((l : Leaf) → LongSays form ns l → ⊥) → LongTells r form ns
none-tells r form ns e h = subst (λ r. LongTells r form ns) (sym e) h

pub tile-no-x : (r : Option Leaf) (o : Option ℤ) (x y z a b : ℤ) → r ≡ None → o ≡ None → (IsSome o ↔ IsSideFrom x a) → LongTells r Tile (x ∷ y ∷ z ∷ a ∷ b ∷ [])
tile-no-x r o x y z a b e f h = none-tells r Tile (x ∷ y ∷ z ∷ a ∷ b ∷ []) e (λ l s. no-some o f (h.1 (tile-says x y z a b l s).along_x))

pub tile-no-y : (r : Option Leaf) (o : Option ℤ) (x y z a b : ℤ) → r ≡ None → o ≡ None → (IsSome o ↔ IsSideFrom y b) → LongTells r Tile (x ∷ y ∷ z ∷ a ∷ b ∷ [])
tile-no-y r o x y z a b e f h = none-tells r Tile (x ∷ y ∷ z ∷ a ∷ b ∷ []) e (λ l s. no-some o f (h.1 (tile-says x y z a b l s).along_y))

pub tile-no-z : (x y z a b : ℤ) → (z ≡ pos 0 → ⊥) → LongTells None Tile (x ∷ y ∷ z ∷ a ∷ b ∷ [])
tile-no-z x y z a b n l s = n (tile-says x y z a b l s).flat

far-side : (x a e : ℤ) → e ≡ x +ℤ a → e -ℤ x ≡ a
far-side x a e h = omega (arith, ints)

pub tile-yes : (x y z a b : ℤ) (t : Box2) → t.x0 ≡ x → t.y0 ≡ y → t.x1 ≡ x +ℤ a → t.y1 ≡ y +ℤ b → IsSideFrom x a → IsSideFrom y b → z ≡ pos 0
    → LongSays Tile (x ∷ y ∷ z ∷ a ∷ b ∷ []) (leaves.Tile t)
tile-yes x y z a b t ex ey fx fy hx hy hz =
    let wx : t.x1 -ℤ t.x0 ≡ a = omega (arith, ints) in
    let wy : t.y1 -ℤ t.y0 ≡ b = omega (arith, ints) in
    record {
      form_is = refl;
      numbers = (λ i. sym ex i ∷ sym ey i ∷ hz i ∷ sym wx i ∷ sym wy i ∷ []);
      in_range = record {
        corner_x = subst (IsWithin 4096) (sym ex) hx.near;
        corner_y = subst (IsWithin 4096) (sym ey) hy.near;
        side_x = subst (λ c. IsBetween (pos 1) c (pos 8191)) (sym wx) hx.side;
        side_y = subst (λ c. IsBetween (pos 1) c (pos 8191)) (sym wy) hy.side;
      };
    }

record BlockSays (x y z a b c : ℤ) : Type 0 where
  along_x : IsSideFrom x a
  along_y : IsSideFrom y b
  along_z : IsSideFrom z c

block-says : (x y z a b c : ℤ) (l : Leaf) → LongSays Block (x ∷ y ∷ z ∷ a ∷ b ∷ c ∷ []) l → BlockSays x y z a b c
block-says x y z a b c (leaves.Slab f) s = cc s.form_is
block-says x y z a b c (leaves.Strip f) s = cc s.form_is
block-says x y z a b c (leaves.Disc d) s = cc s.form_is
block-says x y z a b c (leaves.Tile t) s = cc s.form_is
block-says x y z a b c (leaves.Block t) s =
    let r = s.in_range in
    let e = s.numbers in
    record {
      along_x = side-from x a t.x0 (t.x1 -ℤ t.x0) (ap (at 0) e) (ap (at 3) e) r.corner_x r.side_x;
      along_y = side-from y b t.y0 (t.y1 -ℤ t.y0) (ap (at 1) e) (ap (at 4) e) r.corner_y r.side_y;
      along_z = side-from z c t.z0 (t.z1 -ℤ t.z0) (ap (at 2) e) (ap (at 5) e) r.corner_z r.side_z;
    }

pub block-no-x : (r : Option Leaf) (o : Option ℤ) (x y z a b c : ℤ) → r ≡ None → o ≡ None → (IsSome o ↔ IsSideFrom x a) → LongTells r Block (x ∷ y ∷ z ∷ a ∷ b ∷ c ∷ [])
block-no-x r o x y z a b c e f h = none-tells r Block (x ∷ y ∷ z ∷ a ∷ b ∷ c ∷ []) e (λ l s. no-some o f (h.1 (block-says x y z a b c l s).along_x))

pub block-no-y : (r : Option Leaf) (o : Option ℤ) (x y z a b c : ℤ) → r ≡ None → o ≡ None → (IsSome o ↔ IsSideFrom y b) → LongTells r Block (x ∷ y ∷ z ∷ a ∷ b ∷ c ∷ [])
block-no-y r o x y z a b c e f h = none-tells r Block (x ∷ y ∷ z ∷ a ∷ b ∷ c ∷ []) e (λ l s. no-some o f (h.1 (block-says x y z a b c l s).along_y))

pub block-no-z : (r : Option Leaf) (o : Option ℤ) (x y z a b c : ℤ) → r ≡ None → o ≡ None → (IsSome o ↔ IsSideFrom z c) → LongTells r Block (x ∷ y ∷ z ∷ a ∷ b ∷ c ∷ [])
block-no-z r o x y z a b c e f h = none-tells r Block (x ∷ y ∷ z ∷ a ∷ b ∷ c ∷ []) e (λ l s. no-some o f (h.1 (block-says x y z a b c l s).along_z))

pub block-yes : (x y z a b c : ℤ) (t : Box3) → t.x0 ≡ x → t.y0 ≡ y → t.z0 ≡ z → t.x1 ≡ x +ℤ a → t.y1 ≡ y +ℤ b → t.z1 ≡ z +ℤ c → IsSideFrom x a → IsSideFrom y b → IsSideFrom z c
    → LongSays Block (x ∷ y ∷ z ∷ a ∷ b ∷ c ∷ []) (leaves.Block t)
block-yes x y z a b c t ex ey ez fx fy fz hx hy hz =
    let wx : t.x1 -ℤ t.x0 ≡ a = omega (arith, ints) in
    let wy : t.y1 -ℤ t.y0 ≡ b = omega (arith, ints) in
    let wz : t.z1 -ℤ t.z0 ≡ c = omega (arith, ints) in
    record {
      form_is = refl;
      numbers = (λ i. sym ex i ∷ sym ey i ∷ sym ez i ∷ sym wx i ∷ sym wy i ∷ sym wz i ∷ []);
      in_range = record {
        corner_x = subst (IsWithin 4096) (sym ex) hx.near;
        corner_y = subst (IsWithin 4096) (sym ey) hy.near;
        corner_z = subst (IsWithin 4096) (sym ez) hz.near;
        side_x = subst (λ c. IsBetween (pos 1) c (pos 8191)) (sym wx) hx.side;
        side_y = subst (λ c. IsBetween (pos 1) c (pos 8191)) (sym wy) hy.side;
        side_z = subst (λ c. IsBetween (pos 1) c (pos 8191)) (sym wz) hz.side;
      };
    }

-- ---- frames

frame3_of : List ℤ → Frame3
frame3_of ns = record { o = record { x = at 3 ns; y = at 7 ns; z = at 11 ns }; n = record { x = at 2 ns; y = at 6 ns; z = at 10 ns } }

frame2_of : List ℤ → Frame2
frame2_of ns = record { o = record { x = at 3 ns; y = at 7 ns }; u = record { x = at 0 ns; y = at 4 ns } }

slab-frame : (ns : List ℤ) (l : Leaf) → LongSays Slab ns l → (l ≡ leaves.Slab (frame3_of ns)) × IsFrame3 (frame3_of ns)
unfolding frame3_of
slab-frame ns (leaves.Slab f) s =
    let same : f ≡ frame3_of ns = sym (ap frame3_of s.numbers) in
    (ap (λ (f : Frame3). leaves.Slab f) same, subst IsFrame3 same s.in_range)
slab-frame ns (leaves.Strip f) s = cc s.form_is
slab-frame ns (leaves.Disc d) s = cc s.form_is
slab-frame ns (leaves.Block c) s = cc s.form_is
slab-frame ns (leaves.Tile t) s = cc s.form_is

strip-frame : (ns : List ℤ) (l : Leaf) → LongSays Strip ns l → (l ≡ leaves.Strip (frame2_of ns)) × IsFrame2 (frame2_of ns)
unfolding frame2_of
strip-frame ns (leaves.Strip f) s =
    let same : f ≡ frame2_of ns = sym (ap frame2_of s.numbers) in
    (ap (λ (f : Frame2). leaves.Strip f) same, subst IsFrame2 same s.in_range)
strip-frame ns (leaves.Slab f) s = cc s.form_is
strip-frame ns (leaves.Disc d) s = cc s.form_is
strip-frame ns (leaves.Block c) s = cc s.form_is
strip-frame ns (leaves.Tile t) s = cc s.form_is

pub slab-no-frame : (r : Option Leaf) (o : Option Frame3) (ns : List ℤ) → r ≡ None → o ≡ None
    → (IsSome o ↔ IsFrame3 (record { o = record { x = at 3 ns; y = at 7 ns; z = at 11 ns }; n = record { x = at 2 ns; y = at 6 ns; z = at 10 ns } })) → LongTells r Slab ns
unfolding frame3_of
slab-no-frame r o ns e f h = none-tells r Slab ns e (λ l s. no-some o f (h.1 (slab-frame ns l s).1))

pub strip-no-frame : (r : Option Leaf) (o : Option Frame2) (ns : List ℤ) → r ≡ None → o ≡ None
    → (IsSome o ↔ IsFrame2 (record { o = record { x = at 3 ns; y = at 7 ns }; u = record { x = at 0 ns; y = at 4 ns } })) → LongTells r Strip ns
unfolding frame2_of
strip-no-frame r o ns e f h = none-tells r Strip ns e (λ l s. no-some o f (h.1 (strip-frame ns l s).1))

pub slab-yes : (ns : List ℤ) (f : Frame3) → IsFrame3 f → pointwise int_eq ns (numbers_of (leaves.Slab f)) ≡ true → LongSays Slab ns (leaves.Slab f)
slab-yes ns f h e = record { form_is = refl; numbers = same-is ns (numbers_of (leaves.Slab f)) e; in_range = h }

pub strip-yes : (ns : List ℤ) (f : Frame2) → IsFrame2 f → pointwise int_eq ns (numbers_of (leaves.Strip f)) ≡ true → LongSays Strip ns (leaves.Strip f)
strip-yes ns f h e = record { form_is = refl; numbers = same-is ns (numbers_of (leaves.Strip f)) e; in_range = h }

pub slab-no : (ns : List ℤ) (f : Frame3) → f ≡ record { o = record { x = at 3 ns; y = at 7 ns; z = at 11 ns }; n = record { x = at 2 ns; y = at 6 ns; z = at 10 ns } }
    → pointwise int_eq ns (numbers_of (leaves.Slab f)) ≡ false → LongTells None Slab ns
unfolding frame3_of
slab-no ns f h e l s =
    let same : l ≡ leaves.Slab f = (slab-frame ns l s).0 ∙ ap (λ (f : Frame3). leaves.Slab f) (sym h) in
    let yes : pointwise int_eq ns (numbers_of (leaves.Slab f)) ≡ true = is-same ns (numbers_of (leaves.Slab f)) (s.numbers ∙ ap numbers_of same) in cc

pub strip-no : (ns : List ℤ) (f : Frame2) → f ≡ record { o = record { x = at 3 ns; y = at 7 ns }; u = record { x = at 0 ns; y = at 4 ns } }
    → pointwise int_eq ns (numbers_of (leaves.Strip f)) ≡ false → LongTells None Strip ns
unfolding frame2_of
strip-no ns f h e l s =
    let same : l ≡ leaves.Strip f = (strip-frame ns l s).0 ∙ ap (λ (f : Frame2). leaves.Strip f) (sym h) in
    let yes : pointwise int_eq ns (numbers_of (leaves.Strip f)) ≡ true = is-same ns (numbers_of (leaves.Strip f)) (s.numbers ∙ ap numbers_of same) in cc

-- lists of these lengths

pub five : (ns : List ℤ) → length ns ≡ 5 → ns ≡ at 0 ns ∷ at 1 ns ∷ at 2 ns ∷ at 3 ns ∷ at 4 ns ∷ []
five [] e = cc e
five (a ∷ []) e = cc e
five (a ∷ b ∷ []) e = cc e
five (a ∷ b ∷ c ∷ []) e = cc e
five (a ∷ b ∷ c ∷ d ∷ []) e = cc e
five (a ∷ b ∷ c ∷ d ∷ x ∷ []) e = refl
five (a ∷ b ∷ c ∷ d ∷ x ∷ f ∷ ns) e = cc e

pub six : (ns : List ℤ) → length ns ≡ 6 → ns ≡ at 0 ns ∷ at 1 ns ∷ at 2 ns ∷ at 3 ns ∷ at 4 ns ∷ at 5 ns ∷ []
six [] e = cc e
six (a ∷ []) e = cc e
six (a ∷ b ∷ []) e = cc e
six (a ∷ b ∷ c ∷ []) e = cc e
six (a ∷ b ∷ c ∷ d ∷ []) e = cc e
six (a ∷ b ∷ c ∷ d ∷ x ∷ []) e = cc e
six (a ∷ b ∷ c ∷ d ∷ x ∷ f ∷ []) e = refl
six (a ∷ b ∷ c ∷ d ∷ x ∷ f ∷ g ∷ ns) e = cc e
