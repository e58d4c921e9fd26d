-- The axis leaf that some numbers say in its short form is the only one, and no numbers say a leaf in both spellings.
use Rattle.std.proofs.Common.{◌≡◌, inl, inr, Bool, true, false, ◌&&◌, List, Option, Some, None, refl, sym, ap, ◌∙◌, subst, arith, if◌then◌else◌, ◌↔◌}
use Rattle.std.proofs.lemmas.Bool.Decides.{Decides-and}
use Rattle.std.proofs.lemmas.Int.{ints}
use Rattle.std.specs.Bool.{Decides}
use Rattle.std.specs.Option.{option_or}
use Rattle.std.specs.Ordering.{int_eq}
use Rattle.std.specs.Prelude.{IsSome, ℤ, pos, negsuc, neg_ℤ, ◌+ℤ◌, ◌-ℤ◌, ◌<ℤ◌}
use lib.Signed.{lt_z}
use lib.Dec.{T}
use lib.Pointwise.{pointwise}
use Rattle.bc_algebra.specs.Within.{IsWithin}
use Rattle.bc_num.specs.declared.v2.V2.{V2}
use Rattle.bc_num.specs.declared.v3.V3.{V3}
use Rattle.bc_tree.specs.declared.tree.Leaf.{Leaf}
use Rattle.bc_tree.specs.declared.tree.Leaf.TheVariants as leaves
use Rattle.bc_tree.specs.declared.frame.Frame2.{Frame2}
use Rattle.bc_tree.specs.declared.frame.Frame3.{Frame3}
use Rattle.bc_tree.specs.Leaves.{IsBetween, IsFrame2, IsFrame3, IsLeaf}
use Rattle.bc_tree.specs.Axis.{IsAxis, IsAxis2, IsAxis3, is_axis, is_axis2, is_axis3, corner_at, side_at}
use Rattle.bc_tree.proofs.OneTree.{IsSign, axis_signs2, axis_signs3, long_by}
use Rattle.bc_tree.proofs.AxisTests.{axis_test, axis2_test, axis3_test}
use Rattle.bc_read.specs.declared.part.Form.{Form}
use Rattle.bc_read.specs.declared.part.Form.TheVariants.{Slab, Strip, Disc, Block, Tile}
use Rattle.bc_read.specs.Leaves.{short_form, short_numbers, LongSays, ShortSays, Says, Tells, LongTells, ShortTells, is_near, is_leaf, long_of, component_of, origin_of, direction_of, short_candidate, short_checked, short_of, leaf_of}
use Rattle.bc_read.proofs.LeafTests.{near, alike, at, leaf-test, long_told, long_tells, same_long, same-is, is-same, no-some}

-- ---- along one axis: the corner and the side give the component and the origin back

near-is : (o : ℤ) → IsWithin 1023 o → is_near 1023 o ≡ true
near-is o h = (near 1023 o).1 h

far-by : (o : ℤ) → IsWithin 1023 o → (c : Bool) → is_near 1023 (o -ℤ pos 8192) ≡ c → is_near 1023 (o -ℤ pos 8192) ≡ false
far-by o h true e = let k = ((near 1023 (o -ℤ pos 8192)).0 e).within in let m = h.within in absurd (omega (arith, ints))
far-by o h false e = e

far-is : (o : ℤ) → IsWithin 1023 o → is_near 1023 (o -ℤ pos 8192) ≡ false
far-is o h = far-by o h (is_near 1023 (o -ℤ pos 8192)) refl

low-not : {A : Type 0} (o : ℤ) → IsWithin 1023 o → pos 0 <ℤ (o -ℤ pos 8192) → A
low-not o h k = let m = h.within in absurd (omega (arith, ints))

low-by : (o : ℤ) → IsWithin 1023 o → (c : Bool) → lt_z (pos 0) (o -ℤ pos 8192) ≡ c → lt_z (pos 0) (o -ℤ pos 8192) ≡ false
low-by o h true e = low-not o h (record { lt = subst T (sym e) tt })
low-by o h false e = e

low-is : (o : ℤ) → IsWithin 1023 o → lt_z (pos 0) (o -ℤ pos 8192) ≡ false
low-is o h = low-by o h (lt_z (pos 0) (o -ℤ pos 8192)) refl

abbrev Component : ℤ → ℤ → Type 0
Component o n = component_of (corner_at o n) (side_at n) ≡ n

component-is : (o n : ℤ) → IsSign n → IsWithin 1023 o → Component o n
component-is o n (inl (inl e)) h = subst (Component o) (sym e) (ap (λ c. if c then pos 1 else negsuc 0) (near-is o h))
component-is o n (inl (inr e)) h = subst (Component o) (sym e) (ap (λ c. if c then pos 1 else negsuc 0) (far-is o h))
component-is o n (inr e) h = subst (Component o) (sym e) refl

abbrev Origin : ℤ → ℤ → Type 0
Origin o n = origin_of (corner_at o n) n ≡ o

up-again : (o : ℤ) → o -ℤ pos 8192 +ℤ pos 8192 ≡ o
up-again o = omega (arith, ints)

origin-low : (o : ℤ) → IsWithin 1023 o → (if lt_z (pos 0) (o -ℤ pos 8192) then o -ℤ pos 8192 else o -ℤ pos 8192 +ℤ pos 8192) ≡ o
origin-low o h = ap (λ c. if c then o -ℤ pos 8192 else o -ℤ pos 8192 +ℤ pos 8192) (low-is o h) ∙ up-again o

origin-is : (o n : ℤ) → IsSign n → IsWithin 1023 o → Origin o n
origin-is o n (inl (inl e)) h = subst (Origin o) (sym e) refl
origin-is o n (inl (inr e)) h = subst (Origin o) (sym e) (origin-low o h)
origin-is o n (inr e) h = subst (Origin o) (sym e) (origin-low o h)

origin-again : (o n : ℤ) → IsSign n → IsWithin 1023 o → origin_of (corner_at o n) (component_of (corner_at o n) (side_at n)) ≡ o
origin-again o n s h = ap (origin_of (corner_at o n)) (component-is o n s h) ∙ origin-is o n s h

-- ---- candidates

-- the frames of some numbers
abbrev pub axis3_of : List ℤ → Frame3
axis3_of ns =
    let n : V3 = record { x = component_of (at 0 ns) (at 3 ns); y = component_of (at 1 ns) (at 4 ns); z = component_of (at 2 ns) (at 5 ns) } in
    record { o = record { x = origin_of (at 0 ns) n.x; y = origin_of (at 1 ns) n.y; z = origin_of (at 2 ns) n.z }; n = n }

abbrev pub axis2_of : List ℤ → Frame2
axis2_of ns =
    let n : V2 = record { x = component_of (at 0 ns) (at 3 ns); y = component_of (at 1 ns) (at 4 ns) } in
    record { o = record { x = origin_of (at 0 ns) n.x; y = origin_of (at 1 ns) n.y }; u = direction_of n }

twice-neg : (z w : ℤ) → w ≡ neg_ℤ z → neg_ℤ w ≡ z
twice-neg z w e = omega (arith, ints)

axis3-is : (f : Frame3) → IsAxis3 f.n → IsFrame3 f → axis3_of (short_numbers (leaves.Slab f)) ≡ f
axis3-is f a h =
    let s = axis_signs3 f.n a in (λ i. record {
      o = record { x = origin-again f.o.x f.n.x s.0 h.origin_x i; y = origin-again f.o.y f.n.y s.1 h.origin_y i; z = origin-again f.o.z f.n.z s.2 h.origin_z i };
      n = record { x = component-is f.o.x f.n.x s.0 h.origin_x i; y = component-is f.o.y f.n.y s.1 h.origin_y i; z = component-is f.o.z f.n.z s.2 h.origin_z i };
    })

axis2-is : (f : Frame2) → IsAxis2 f.u → IsFrame2 f → axis2_of (short_numbers (leaves.Strip f)) ≡ f
axis2-is f a h =
    let s = axis_signs2 f.u a in
    let nx = component-is f.o.x (neg_ℤ f.u.y) s.0 h.origin_x in
    let ny = component-is f.o.y f.u.x s.1 h.origin_y in (λ i. record {
      o = record { x = origin-again f.o.x (neg_ℤ f.u.y) s.0 h.origin_x i; y = origin-again f.o.y f.u.x s.1 h.origin_y i };
      u = record { x = ny i; y = twice-neg f.u.y _ nx i };
    })

short-candidate-is : (l : Leaf) → IsAxis l → IsLeaf l → short_candidate (short_form l) (short_numbers l) ≡ Some l
short-candidate-is (leaves.Slab f) a h = ap (λ (f : Frame3). Some (leaves.Slab f)) (axis3-is f a h)
short-candidate-is (leaves.Strip f) a h = ap (λ (f : Frame2). Some (leaves.Strip f)) (axis2-is f a h)
short-candidate-is (leaves.Disc d) a h = absurd a
short-candidate-is (leaves.Block b) a h = absurd a
short-candidate-is (leaves.Tile b) a h = absurd a

short-said : (form : Form) (ns : List ℤ) (l : Leaf) → ShortSays form ns l → short_candidate form ns ≡ Some l
short-said form ns l s = (λ i. short_candidate (s.form_is i) (s.numbers i)) ∙ short-candidate-is l s.axis s.in_range

short-form-of : (form : Form) (ns : List ℤ) (l : Leaf) → short_candidate form ns ≡ Some l → form ≡ short_form l
short-form-of Block ns l e = let same : leaves.Slab (axis3_of ns) ≡ l = cc e in ap short_form same
short-form-of Tile ns l e = let same : leaves.Strip (axis2_of ns) ≡ l = cc e in ap short_form same
short-form-of Slab ns l e = cc e
short-form-of Strip ns l e = cc e
short-form-of Disc ns l e = cc e

-- ---- the leaf that is said

abbrev short-passes : List ℤ → Leaf → Bool
short-passes ns l = is_axis l && (pointwise int_eq ns (short_numbers l) && is_leaf l)

passes-test : (ns : List ℤ) (l : Leaf) → Decides (short-passes ns l) (IsAxis l × ((ns ≡ short_numbers l) × IsLeaf l))
passes-test ns l = Decides-and (is_axis l) _ (axis_test l) (Decides-and (pointwise int_eq ns (short_numbers l)) (is_leaf l) (alike ns (short_numbers l)) (leaf-test l))

short-yes : (form : Form) (ns : List ℤ) (l : Leaf) → ShortSays form ns l → short-passes ns l ≡ true
short-yes form ns l s = (passes-test ns l).1 (s.axis, (s.numbers, s.in_range))

pub short_told : (form : Form) (ns : List ℤ) (l : Leaf) → ShortSays form ns l → short_of form ns ≡ Some l
short_told form ns l s = ap (short_checked ns) (short-said form ns l s) ∙ ap (λ c. if c then Some l else None) (short-yes form ns l s)

short-by : (form : Form) (ns : List ℤ) (l : Leaf) → short_candidate form ns ≡ Some l → (c : Bool) → short-passes ns l ≡ c → ShortTells (if c then Some l else None) form ns
short-by form ns l e true f =
    let h = (passes-test ns l).0 f in
    record { axis = h.0; form_is = short-form-of form ns l e; numbers = h.1.0; in_range = h.1.1 }
short-by form ns l e false f = λ m s.
    let same : l ≡ m = let h : Some l ≡ Some m = sym e ∙ short-said form ns m s in cc h in
    let yes : short-passes ns l ≡ true = ap (short-passes ns) same ∙ short-yes form ns m s in
    let never : true ≡ false = sym yes ∙ f in cc never

short-at : (form : Form) (ns : List ℤ) (o : Option Leaf) → short_candidate form ns ≡ o → ShortTells (short_checked ns o) form ns
short-at form ns None e = λ l s. let never : None ≡ Some l = sym e ∙ short-said form ns l s in cc never
short-at form ns (Some l) e = short-by form ns l e (short-passes ns l) refl

pub short_tells : (form : Form) (ns : List ℤ) → ShortTells (short_of form ns) form ns
short_tells form ns = short-at form ns (short_candidate form ns) refl

short-none : (form : Form) (ns : List ℤ) (q : Option Leaf) → ShortTells q form ns → ShortTells None form ns → None ≡ q
short-none form ns None h n = refl
short-none form ns (Some l) h n = absurd (n l h)

pub same_short : (r : Option Leaf) (form : Form) (ns : List ℤ) → ShortTells r form ns → r ≡ short_of form ns
same_short None form ns h = short-none form ns (short_of form ns) (short_tells form ns) h
same_short (Some l) form ns h = sym (short_told form ns l h)

-- ---- both spellings

-- no side of a block or tile is one of a short form
too-long : {A : Type 0} (n z : ℤ) → side_at n ≡ z → IsBetween (pos 1) z (pos 8191) → A
too-long n z e h = long_by (int_eq n (pos 0)) z e h

forms-apart : (l m : Leaf) (form : Form) (ns : List ℤ) → ShortSays form ns l → LongSays form ns m → ⊥
forms-apart (leaves.Slab f) (leaves.Block b) form ns s h = too-long f.n.x (b.x1 -ℤ b.x0) (ap (at 3) (sym s.numbers ∙ h.numbers)) h.in_range.side_x
forms-apart (leaves.Strip f) (leaves.Tile b) form ns s h = too-long (neg_ℤ f.u.y) (b.x1 -ℤ b.x0) (ap (at 3) (sym s.numbers ∙ h.numbers)) h.in_range.side_x
forms-apart (leaves.Slab f) (leaves.Slab g) form ns s h = let e : Block ≡ Slab = sym s.form_is ∙ h.form_is in cc e
forms-apart (leaves.Slab f) (leaves.Strip g) form ns s h = let e : Block ≡ Strip = sym s.form_is ∙ h.form_is in cc e
forms-apart (leaves.Slab f) (leaves.Disc d) form ns s h = let e : Block ≡ Disc = sym s.form_is ∙ h.form_is in cc e
forms-apart (leaves.Slab f) (leaves.Tile b) form ns s h = let e : Block ≡ Tile = sym s.form_is ∙ h.form_is in cc e
forms-apart (leaves.Strip f) (leaves.Slab g) form ns s h = let e : Tile ≡ Slab = sym s.form_is ∙ h.form_is in cc e
forms-apart (leaves.Strip f) (leaves.Strip g) form ns s h = let e : Tile ≡ Strip = sym s.form_is ∙ h.form_is in cc e
forms-apart (leaves.Strip f) (leaves.Disc d) form ns s h = let e : Tile ≡ Disc = sym s.form_is ∙ h.form_is in cc e
forms-apart (leaves.Strip f) (leaves.Block b) form ns s h = let e : Tile ≡ Block = sym s.form_is ∙ h.form_is in cc e
forms-apart (leaves.Disc d) m form ns s h = s.axis
forms-apart (leaves.Block b) m form ns s h = s.axis
forms-apart (leaves.Tile b) m form ns s h = s.axis

no-long : (form : Form) (ns : List ℤ) (l : Leaf) (q : Option Leaf) → ShortSays form ns l → LongTells q form ns → q ≡ None
no-long form ns l None s t = refl
no-long form ns l (Some m) s t = absurd (forms-apart l m form ns s t)

-- numbers say one leaf at most, which is this
pub told : (form : Form) (ns : List ℤ) (l : Leaf) → Says form ns l → leaf_of form ns ≡ Some l
told form ns l (inl s) = ap (λ o. option_or o (short_of form ns)) (long_told form ns l s)
told form ns l (inr s) = ap (λ o. option_or o (short_of form ns)) (no-long form ns l (long_of form ns) s (long_tells form ns)) ∙ short_told form ns l s

either-tells : (p q : Option Leaf) (form : Form) (ns : List ℤ) → LongTells p form ns → ShortTells q form ns → Tells (option_or p q) form ns
either-tells (Some l) q form ns h k = inl h
either-tells None (Some l) form ns h k = inr k
either-tells None None form ns h k = λ l s. elim s [
  | inl a ↦ h l a
  | inr b ↦ k l b
]

pub leaf_tells : (form : Form) (ns : List ℤ) → Tells (leaf_of form ns) form ns
leaf_tells form ns = either-tells (long_of form ns) (short_of form ns) form ns (long_tells form ns) (short_tells form ns)

pub same_either : (p q : Option Leaf) (form : Form) (ns : List ℤ) → LongTells p form ns → ShortTells q form ns → option_or p q ≡ leaf_of form ns
same_either p q form ns h k = (λ i. option_or (same_long p form ns h i) (same_short q form ns k i))

-- a form that no axis leaf has
alone : (p : Option Leaf) → option_or p None ≡ p
alone None = refl
alone (Some l) = refl

pub same_alone : (p : Option Leaf) (form : Form) (ns : List ℤ) → short_of form ns ≡ None → LongTells p form ns → p ≡ leaf_of form ns
same_alone p form ns e h = sym (alone p) ∙ ap (option_or p) (sym e) ∙ ap (λ q. option_or q (short_of form ns)) (same_long p form ns h)

-- ---- what the code finds

pub short-none-tells : (r : Option Leaf) (form : Form) (ns : List ℤ) → r ≡ None → ((l : Leaf) → ShortSays form ns l → ⊥) → ShortTells r form ns
short-none-tells r form ns e h = subst (λ r. ShortTells r form ns) (sym e) h

slab-says : (ns : List ℤ) (l : Leaf) → ShortSays Block ns l → (l ≡ leaves.Slab (axis3_of ns)) × IsFrame3 (axis3_of ns)
slab-says ns (leaves.Slab f) s =
    let same : f ≡ axis3_of ns = sym (axis3-is f s.axis s.in_range) ∙ sym (ap axis3_of s.numbers) in
    (ap (λ (f : Frame3). leaves.Slab f) same, subst IsFrame3 same s.in_range)
slab-says ns (leaves.Strip f) s = cc s.form_is
slab-says ns (leaves.Disc d) s = absurd s.axis
slab-says ns (leaves.Block b) s = absurd s.axis
slab-says ns (leaves.Tile b) s = absurd s.axis

strip-says : (ns : List ℤ) (l : Leaf) → ShortSays Tile ns l → (l ≡ leaves.Strip (axis2_of ns)) × IsFrame2 (axis2_of ns)
strip-says ns (leaves.Strip f) s =
    let same : f ≡ axis2_of ns = sym (axis2-is f s.axis s.in_range) ∙ sym (ap axis2_of s.numbers) in
    (ap (λ (f : Frame2). leaves.Strip f) same, subst IsFrame2 same s.in_range)
strip-says ns (leaves.Slab f) s = cc s.form_is
strip-says ns (leaves.Disc d) s = absurd s.axis
strip-says ns (leaves.Block b) s = absurd s.axis
strip-says ns (leaves.Tile b) s = absurd s.axis

-- the frames that the code makes of some numbers
pub frame3-as : (ns : List ℤ) (ox oy oz nx ny nz : ℤ) → nx ≡ component_of (at 0 ns) (at 3 ns) → ny ≡ component_of (at 1 ns) (at 4 ns) → nz ≡ component_of (at 2 ns) (at 5 ns)
    → ox ≡ origin_of (at 0 ns) nx → oy ≡ origin_of (at 1 ns) ny → oz ≡ origin_of (at 2 ns) nz
    → let f : Frame3 = record { o = record { x = ox; y = oy; z = oz }; n = record { x = nx; y = ny; z = nz } } in f ≡ axis3_of ns
frame3-as ns ox oy oz nx ny nz a b c d e f =
    let x = d ∙ ap (origin_of (at 0 ns)) a in
    let y = e ∙ ap (origin_of (at 1 ns)) b in
    let z = f ∙ ap (origin_of (at 2 ns)) c in
    (λ i. record { o = record { x = x i; y = y i; z = z i }; n = record { x = a i; y = b i; z = c i } })

pub frame2-as : (ns : List ℤ) (ox oy nx ny : ℤ) (u : V2) → nx ≡ component_of (at 0 ns) (at 3 ns) → ny ≡ component_of (at 1 ns) (at 4 ns) → ox ≡ origin_of (at 0 ns) nx → oy ≡ origin_of (at 1 ns) ny
    → u ≡ direction_of (record { x = nx; y = ny }) → let f : Frame2 = record { o = record { x = ox; y = oy }; u = u } in f ≡ axis2_of ns
frame2-as ns ox oy nx ny u a b d e h =
    let x = d ∙ ap (origin_of (at 0 ns)) a in
    let y = e ∙ ap (origin_of (at 1 ns)) b in
    let v : u ≡ direction_of (record { x = component_of (at 0 ns) (at 3 ns); y = component_of (at 1 ns) (at 4 ns) }) = h ∙ (λ i. direction_of (record { x = a i; y = b i })) in
    (λ i. record { o = record { x = x i; y = y i }; u = v i })

-- no frame
pub slab-frameless : (r : Option Leaf) (o : Option Frame3) (ns : List ℤ) → r ≡ None → o ≡ None → (IsSome o ↔ IsFrame3 (axis3_of ns)) → ShortTells r Block ns
slab-frameless r o ns e f h = short-none-tells r Block ns e (λ l s. no-some o f (h.1 (slab-says ns l s).1))

pub strip-frameless : (r : Option Leaf) (o : Option Frame2) (ns : List ℤ) → r ≡ None → o ≡ None → (IsSome o ↔ IsFrame2 (axis2_of ns)) → ShortTells r Tile ns
strip-frameless r o ns e f h = short-none-tells r Tile ns e (λ l s. no-some o f (h.1 (strip-says ns l s).1))

-- the frame, if it is that of an axis leaf with these numbers
pub slab-found : (ns : List ℤ) (f : Frame3) → IsFrame3 f → is_axis3 f.n ≡ true → pointwise int_eq ns (short_numbers (leaves.Slab f)) ≡ true → ShortSays Block ns (leaves.Slab f)
slab-found ns f h a e = record { axis = (axis3_test f.n).0 a; form_is = refl; numbers = same-is ns (short_numbers (leaves.Slab f)) e; in_range = h }

pub strip-found : (ns : List ℤ) (f : Frame2) → IsFrame2 f → is_axis2 f.u ≡ true → pointwise int_eq ns (short_numbers (leaves.Strip f)) ≡ true → ShortSays Tile ns (leaves.Strip f)
strip-found ns f h a e = record { axis = (axis2_test f.u).0 a; form_is = refl; numbers = same-is ns (short_numbers (leaves.Strip f)) e; in_range = h }

pub slab-crooked : (ns : List ℤ) (f : Frame3) → f ≡ axis3_of ns → is_axis3 f.n ≡ false → ShortTells None Block ns
slab-crooked ns f e a l s =
    let same : l ≡ leaves.Slab f = (slab-says ns l s).0 ∙ ap (λ (f : Frame3). leaves.Slab f) (sym e) in
    let yes : is_axis l ≡ true = (axis_test l).1 s.axis in
    let never : true ≡ false = sym yes ∙ ap is_axis same ∙ a in cc never

pub strip-crooked : (ns : List ℤ) (f : Frame2) → f ≡ axis2_of ns → is_axis2 f.u ≡ false → ShortTells None Tile ns
strip-crooked ns f e a l s =
    let same : l ≡ leaves.Strip f = (strip-says ns l s).0 ∙ ap (λ (f : Frame2). leaves.Strip f) (sym e) in
    let yes : is_axis l ≡ true = (axis_test l).1 s.axis in
    let never : true ≡ false = sym yes ∙ ap is_axis same ∙ a in cc never

pub slab-other : (ns : List ℤ) (f : Frame3) → f ≡ axis3_of ns → pointwise int_eq ns (short_numbers (leaves.Slab f)) ≡ false → ShortTells None Block ns
slab-other ns f e a l s =
    let same : l ≡ leaves.Slab f = (slab-says ns l s).0 ∙ ap (λ (f : Frame3). leaves.Slab f) (sym e) in
    let yes : pointwise int_eq ns (short_numbers (leaves.Slab f)) ≡ true = is-same ns (short_numbers (leaves.Slab f)) (s.numbers ∙ ap short_numbers same) in
    let never : true ≡ false = sym yes ∙ a in cc never

pub strip-other : (ns : List ℤ) (f : Frame2) → f ≡ axis2_of ns → pointwise int_eq ns (short_numbers (leaves.Strip f)) ≡ false → ShortTells None Tile ns
strip-other ns f e a l s =
    let same : l ≡ leaves.Strip f = (strip-says ns l s).0 ∙ ap (λ (f : Frame2). leaves.Strip f) (sym e) in
    let yes : pointwise int_eq ns (short_numbers (leaves.Strip f)) ≡ true = is-same ns (short_numbers (leaves.Strip f)) (s.numbers ∙ ap short_numbers same) in
    let never : true ≡ false = sym yes ∙ a in cc never
