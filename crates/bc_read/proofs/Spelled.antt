-- A text that spells a tree is read as this tree.
use Rattle.std.proofs.Common.{◌≡◌, ◌⊎◌, inl, inr, ◌+◌, ◌<◌, ◌≤◌, ℕ, zero, suc, Bool, true, false, List, [], ◌∷◌, ◌++◌, length, drop, Option, None, Some, Result, Ok, Err, codes, bytes_eq, refl, sym, ap, ◌∙◌, subst, append_assoc, append-nil, if◌then◌else◌, arith}
use Rattle.std.proofs.lemmas.Slice.Eq.{bytes_eq-Decides}
use Rattle.std.proofs.lemmas.Bool.{lt-ltb}
use Rattle.std.specs.Prelude.{ℤ, pos, negsuc, neg_ℤ, nat_abs, ◌-ℤ◌}
use Rattle.std.proofs.lemmas.Int.{ints}
use Rattle.std.specs.Fmt.{signed_decimal}
use Rattle.bc_algebra.specs.Within.{IsWithin}
use Rattle.bc_num.specs.Tokens.{cons}
use Rattle.bc_num.specs.declared.v3.V3.{V3}
use Rattle.bc_tree.specs.Decided.{is_solid_leaf}
use Rattle.bc_tree.specs.declared.tree.Leaf.{Leaf as ALeaf}
use Rattle.bc_tree.specs.declared.tree.Leaf.TheVariants as leaves
use Rattle.bc_tree.specs.declared.tree.Tree.{Tree}
use Rattle.bc_tree.specs.declared.tree.Tree.TheVariants as trees
use Rattle.bc_tree.specs.Leaves.{IsBetween, IsLeaf, IsFlat, IsSpaceLeaf, u_at, v_at, u_of, v_of, normal_of}
use Rattle.bc_tree.specs.Shape.{Shape, leaf, union, meet, cut, Shapes, none, child, shape, shapes, depth, depths, AllLeaves, EachLeaf}
use Rattle.bc_tree.specs.Axis.{IsAxis, corner_at, side_at}
use Rattle.bc_tree.specs.Words.{long_words, short_words, IsLeafWords, IsWords, AreWords}
use Rattle.bc_tree.proofs.OneTree.{corner_near, side_near}
use Rattle.bc_tree.specs.Spells.{HasChild, AllMeetsMeet, EachMeetMeets, Spells}
use Rattle.bc_lex.specs.Tokens.{AToken}
use Rattle.bc_lex.specs.Stream.{Stream, ended, broken, token, texts, stream}
use Rattle.bc_lex.proofs.TokenStreams.{stream_is_tokens}
use Rattle.bc_read.specs.declared.part.Op.{Op}
use Rattle.bc_read.specs.declared.part.Op.TheVariants.{Union, Meet, Cut}
use Rattle.bc_read.specs.declared.part.Form.TheVariants.{Slab, Strip, Disc, Block, Tile}
use Rattle.bc_read.specs.declared.part.Part.{Part}
use Rattle.bc_read.specs.declared.part.Part.TheVariants.{Opening, Moved, Placed, Closing}
use Rattle.bc_read.specs.declared.reading.Place.{Place}
use Rattle.bc_read.specs.declared.reading.Open.{Open}
use Rattle.bc_read.specs.declared.fault.CsgFault.{CsgFault}
use Rattle.bc_read.specs.declared.fault.CsgFault.TheVariants.{BadShape, Mixed, TooDeep}
use Rattle.bc_read.specs.Table.{pattern, is_number_place, word_of}
use Rattle.bc_read.specs.Numbers.{is_numeral, value_of}
use Rattle.bc_read.specs.declared.part.Form.{Form}
use Rattle.bc_read.specs.Leaves.{form_of, numbers_of, short_numbers, Says, leaf_of}
use Rattle.bc_read.specs.Machine.{node, inside, State, add, tree_of_kids, closed, place_of, mixes, with_leaf, ended_part, passed, at_number, step, run, reading_of, end_line, ◌>>=◌}
use Rattle.bc_read.specs.Laws.{SpelledIsRead, FaultSpellsNone, HasOneFault}
use Rattle.bc_read.proofs.ShortTests.{told}
use Rattle.bc_read.proofs.NumberLaws.{is-value, is-numeral}
use Rattle.bc_read.proofs.Patterns.{word_at, plain, plain-here, head_word, spelled, places}
use Rattle.bc_read.proofs.Seen.{shape-Leaf, shape-Union, shape-Meet, shape-Cut, KindOf, IsOk}

-- ---- tokens that are read

-- these tokens, and then the end
abbrev pub Comes : Stream → List (List ℕ) → Type 0
Comes (ended n) [] = Unit {0}
Comes (ended n) (w ∷ ws) = ⊥
Comes (broken line nth) ws = ⊥
Comes (token t rest) [] = ⊥
Comes (token t rest) (w ∷ ws) = (t.text ≡ w) × Comes rest ws

consed : (t : List ℕ) (o : Option (List (List ℕ))) (ws : List (List ℕ)) → cons t o ≡ Some ws → (us : List (List ℕ)) × (o ≡ Some us) × (ws ≡ t ∷ us)
consed t None ws e = cc e
consed t (Some us) ws e = (us, refl, cc e)

pub comes : (st : Stream) (ws : List (List ℕ)) → texts st ≡ Some ws → Comes st ws
comes (ended n) [] e = tt
comes (ended n) (w ∷ ws) e = cc e
comes (broken line nth) ws e = cc e
comes (token t rest) ws e =
    let h = consed t.text (texts rest) ws e in
    subst (Comes (token t rest)) (sym h.2) (refl, comes rest h.0 h.1)

-- some tokens lead from one state to another
pub record To (e : ℕ) (s : State) (st : Stream) (more : List (List ℕ)) (s' : State) : Type 0 where
  pub rest : Stream
  pub left : Comes rest more
  pub same : run e s st ≡ run e s' rest

pub stay : (e : ℕ) (s s' : State) (st : Stream) (more : List (List ℕ)) → s ≡ s' → Comes st more → To e s st more s'
stay e s s' st more h r = record { rest = st; left = r; same = ap (λ s. run e s st) h }

pub onward : {e : ℕ} {s s1 s2 : State} {st : Stream} {m1 m2 : List (List ℕ)} → (a : To e s st m1 s1) → To e s1 a.rest m2 s2 → To e s st m2 s2
onward a b = record { rest = b.rest; left = b.left; same = a.same ∙ b.same }

pub one : (e : ℕ) (s s' : State) (w : List ℕ) (more : List (List ℕ)) (st : Stream) → ((t : AToken) → t.text ≡ w → step s t ≡ Ok s') → Comes st (w ∷ more) → To e s st more s'
one e s s' w more (ended n) f r = absurd r
one e s s' w more (broken l n) f r = absurd r
one e s s' w more (token a rest) f r = record { rest = rest; left = r.1; same = ap (λ x. x >>= λ next. run e next rest) (f a r.0) }

-- ---- patterns

abbrev pub Near : List ℤ → Type 0
Near [] = Unit {0}
Near (z ∷ zs) = IsWithin 8388607 z × Near zs

abbrev pub nodes : List Open → Option Bool → State
nodes stack seen = record { stack = stack; seen = seen; at = node }

abbrev pub ins : Part → List ℕ → List ℤ → Place → List Open → Option Bool → State
ins p wants ns f stack seen = record { stack = stack; seen = seen; at = inside p wants ns f }

pub step-number : (p : Part) (b : ℕ) (wants : List ℕ) (ns : List ℤ) (f : Place) (stack : List Open) (seen : Option Bool) (t : AToken) (z : ℤ) → is_number_place b ≡ true → IsWithin 8388607 z → t.text ≡ signed_decimal z
    → step (ins p (b ∷ wants) ns f stack seen) t ≡ passed p wants (ns ++ z ∷ []) f stack seen
step-number p b wants ns f stack seen t z n h e =
    ap (λ c. if c then (if is_numeral t.text then at_number (value_of t.text) p wants ns f stack seen t else Err (BadShape t.line t.nth)) else (if bytes_eq t.text (word_of b) then passed p wants ns f stack seen else Err (BadShape t.line t.nth))) n
    ∙ ap (λ c. if c then at_number (value_of t.text) p wants ns f stack seen t else Err (BadShape t.line t.nth)) (ap is_numeral e ∙ is-numeral z h)
    ∙ ap (λ o. at_number o p wants ns f stack seen t) (ap value_of e ∙ is-value z h)

pub step-word : (p : Part) (b : ℕ) (wants : List ℕ) (ns : List ℤ) (f : Place) (stack : List Open) (seen : Option Bool) (t : AToken) → is_number_place b ≡ false → t.text ≡ word_of b
    → step (ins p (b ∷ wants) ns f stack seen) t ≡ passed p wants ns f stack seen
step-word p b wants ns f stack seen t n e =
    ap (λ c. if c then (if is_numeral t.text then at_number (value_of t.text) p wants ns f stack seen t else Err (BadShape t.line t.nth)) else (if bytes_eq t.text (word_of b) then passed p wants ns f stack seen else Err (BadShape t.line t.nth))) n
    ∙ ap (λ c. if c then passed p wants ns f stack seen else Err (BadShape t.line t.nth)) ((bytes_eq-Decides t.text (word_of b)).1 e)

-- what is left of a pattern leads to its end
record Through (p : Part) (wants : List ℕ) (ns ms : List ℤ) (f : Place) (stack : List Open) (seen : Option Bool) (s' : State) : Type 0 where
  first : State
  begins_so : passed p wants ns f stack seen ≡ Ok first
  to : (e : ℕ) (st : Stream) (more : List (List ℕ)) → Comes st (spelled wants ms ++ more) → To e first st more s'

abbrev AllThrough : List ℕ → Type 0
AllThrough wants =
    (p : Part) (ns ms : List ℤ) (f : Place) (stack : List Open) (seen : Option Bool) (s' : State) → Near ms → length ms ≡ places wants → plain wants ≡ true → ended_part p (ns ++ ms) f stack seen ≡ Ok s'
    → Through p wants ns ms f stack seen s'

through-by : (b : ℕ) (wants : List ℕ) → AllThrough wants → (c : Bool) → is_number_place b ≡ c → (p : Part) (ns ms : List ℤ) (f : Place) (stack : List Open) (seen : Option Bool) (s' : State) → Near ms
    → length ms ≡ (if c then suc (places wants) else places wants) → plain (b ∷ wants) ≡ true → ended_part p (ns ++ ms) f stack seen ≡ Ok s'
    → (e : ℕ) (st : Stream) (more : List (List ℕ)) → Comes st ((if c then head_word ms ∷ spelled wants (drop 1 ms) else word_at b ∷ spelled wants ms) ++ more) → To e (ins p (b ∷ wants) ns f stack seen) st more s'
through-by b wants h true n p ns [] f stack seen s' near count q end e st more r = cc count
through-by b wants h true n p ns (z ∷ ms) f stack seen s' near count q end e st more r =
    let pl = plain-here b wants _ _ refl refl q in
    let fewer : suc (length ms) ≡ suc (places wants) = count in
    let t = h p (ns ++ z ∷ []) ms f stack seen s' near.1 (omega arith) pl.1 (ap (λ l. ended_part p l f stack seen) (append_assoc ns (z ∷ []) ms) ∙ end) in
    let a = one e (ins p (b ∷ wants) ns f stack seen) t.first (signed_decimal z) (spelled wants ms ++ more) st (λ x k. step-number p b wants ns f stack seen x z n near.0 k ∙ t.begins_so) r in
    onward a (t.to e a.rest more a.left)
through-by b wants h false n p ns ms f stack seen s' near count q end e st more r =
    let pl = plain-here b wants _ _ refl refl q in
    let t = h p ns ms f stack seen s' near count pl.1 end in
    let a = one e (ins p (b ∷ wants) ns f stack seen) t.first (word_at b) (spelled wants ms ++ more) st (λ x k. step-word p b wants ns f stack seen x n (k ∙ pl.0) ∙ t.begins_so) r in
    onward a (t.to e a.rest more a.left)

through : (wants : List ℕ) → AllThrough wants
through [] p ns [] f stack seen s' near count q end = record {
  first = s';
  begins_so = ap (λ l. ended_part p l f stack seen) (sym (append-nil ns)) ∙ end;
  to = λ e st more r. stay e s' s' st more refl r;
}
through [] p ns (z ∷ ms) f stack seen s' near count q end = cc count
through (b ∷ wants) p ns ms f stack seen s' near count q end = record {
  first = ins p (b ∷ wants) ns f stack seen;
  begins_so = refl;
  to = through-by b wants (through wants) (is_number_place b) refl p ns ms f stack seen s' near count q end;
}

pattern-to : (p : Part) (b : ℕ) (wants : List ℕ) (ns ms : List ℤ) (f : Place) (stack : List Open) (seen : Option Bool) (s' : State) → Near ms → length ms ≡ places (b ∷ wants) → plain (b ∷ wants) ≡ true
    → ended_part p (ns ++ ms) f stack seen ≡ Ok s' → (e : ℕ) (st : Stream) (more : List (List ℕ)) → Comes st (spelled (b ∷ wants) ms ++ more) → To e (ins p (b ∷ wants) ns f stack seen) st more s'
pattern-to p b wants ns ms f stack seen s' near count q end = through-by b wants (through wants) (is_number_place b) refl p ns ms f stack seen s' near count q end

-- ---- leaves

-- the numbers before the name of the shape, and behind it
abbrev first : ALeaf → List ℤ
first (leaves.Slab f) =
    let u = u_of f.n in let v = v_of f.n in
    u.x ∷ v.x ∷ f.n.x ∷ f.o.x ∷ u.y ∷ v.y ∷ f.n.y ∷ f.o.y ∷ u.z ∷ v.z ∷ f.n.z ∷ f.o.z ∷ pos 0 ∷ pos 0 ∷ pos 0 ∷ pos 1 ∷ negsuc 8191 ∷ negsuc 8191 ∷ pos 0 ∷ []
first (leaves.Strip f) =
    let n = normal_of f.u in
    f.u.x ∷ n.x ∷ pos 0 ∷ f.o.x ∷ f.u.y ∷ n.y ∷ pos 0 ∷ f.o.y ∷ pos 0 ∷ pos 0 ∷ pos 1 ∷ pos 0 ∷ pos 0 ∷ pos 0 ∷ pos 0 ∷ pos 1 ∷ negsuc 8191 ∷ pos 0 ∷ pos 0 ∷ []
first (leaves.Disc d) = d.c.x ∷ d.c.y ∷ pos 0 ∷ []
first (leaves.Block b) = b.x0 ∷ b.y0 ∷ b.z0 ∷ []
first (leaves.Tile b) = b.x0 ∷ b.y0 ∷ pos 0 ∷ []

abbrev last : ALeaf → List ℤ
last (leaves.Slab f) = pos 16384 ∷ pos 16384 ∷ pos 8192 ∷ []
last (leaves.Strip f) = pos 16384 ∷ pos 8192 ∷ []
last (leaves.Disc d) = d.r2 ∷ []
last (leaves.Block b) = (b.x1 -ℤ b.x0) ∷ (b.y1 -ℤ b.y0) ∷ (b.z1 -ℤ b.z0) ∷ []
last (leaves.Tile b) = (b.x1 -ℤ b.x0) ∷ (b.y1 -ℤ b.y0) ∷ []

wider : (n : ℕ) (z : ℤ) → n ≤ 8388607 → IsWithin n z → IsWithin 8388607 z
wider n z h k = let m = k.within in record { within = omega arith }

side : (n : ℕ) (z : ℤ) → n ≤ 8388607 → IsBetween (pos 1) z (pos n) → IsWithin 8388607 z
side n (pos m) h k = let l = k.most in record { within = omega (arith, ints) }
side n (negsuc m) h k = absurd (omega (arith, ints, k.least))

fixed : (z : ℤ) → nat_abs z ≤ 8388607 → IsWithin 8388607 z
fixed z h = record { within = h }

opposite : (z : ℤ) → IsWithin 8388607 z → IsWithin 8388607 (neg_ℤ z)
opposite z h = let m = h.within in record { within = omega (arith, ints) }

record Near3 (v : V3) : Type 0 where
  x : IsWithin 8388607 v.x
  y : IsWithin 8388607 v.y
  z : IsWithin 8388607 v.z

pub near-0 : IsWithin 8388607 (pos 0)
near-0 = fixed (pos 0) (omega arith)

near-1 : IsWithin 8388607 (pos 1)
near-1 = fixed (pos 1) (omega arith)

near-low : IsWithin 8388607 (negsuc 8191)
near-low = fixed (negsuc 8191) (omega arith)

u-near : (a b c : ℤ) → IsWithin 8388607 a → IsWithin 8388607 b → IsWithin 8388607 c → Near3 (u_at a b c)
u-near (pos zero) b c ha hb hc = record { x = near-1; y = near-0; z = near-0 }
u-near (pos (suc a)) b c ha hb hc = record { x = hb; y = opposite (pos (suc a)) ha; z = near-0 }
u-near (negsuc a) b c ha hb hc = record { x = hb; y = opposite (negsuc a) ha; z = near-0 }

v-near : (a b c : ℤ) → IsWithin 8388607 a → IsWithin 8388607 b → IsWithin 8388607 c → Near3 (v_at a b c)
v-near (pos zero) (pos zero) c ha hb hc = record { x = near-0; y = near-1; z = near-0 }
v-near (pos zero) (pos (suc b)) c ha hb hc = record { x = near-0; y = hc; z = opposite (pos (suc b)) hb }
v-near (pos zero) (negsuc b) c ha hb hc = record { x = near-0; y = hc; z = opposite (negsuc b) hb }
v-near (pos (suc a)) b c ha hb hc = record { x = hc; y = near-0; z = opposite (pos (suc a)) ha }
v-near (negsuc a) b c ha hb hc = record { x = hc; y = near-0; z = opposite (negsuc a) ha }

first-near : (l : ALeaf) → IsLeaf l → Near (first l)
first-near (leaves.Slab f) h =
    let u = u-near f.n.x f.n.y f.n.z h.normal_x h.normal_y h.normal_z in
    let v = v-near f.n.x f.n.y f.n.z h.normal_x h.normal_y h.normal_z in
    let ox = wider 1023 f.o.x (omega arith) h.origin_x in
    let oy = wider 1023 f.o.y (omega arith) h.origin_y in
    let oz = wider 1023 f.o.z (omega arith) h.origin_z in
    (u.x, (v.x, (h.normal_x, (ox, (u.y, (v.y, (h.normal_y, (oy, (u.z, (v.z, (h.normal_z, (oz, (near-0, (near-0, (near-0, (near-1, (near-low, (near-low, (near-0, tt)))))))))))))))))))
first-near (leaves.Strip f) h =
    let ux = wider 2046 f.u.x (omega arith) h.along_x in
    let uy = wider 2046 f.u.y (omega arith) h.along_y in
    let ox = wider 1023 f.o.x (omega arith) h.origin_x in
    let oy = wider 1023 f.o.y (omega arith) h.origin_y in
    (ux, (opposite f.u.y uy, (near-0, (ox, (uy, (ux, (near-0, (oy, (near-0, (near-0, (near-1, (near-0, (near-0, (near-0, (near-0, (near-1, (near-low, (near-0, (near-0, tt)))))))))))))))))))
first-near (leaves.Disc d) h = (wider 1023 d.c.x (omega arith) h.centre_x, (wider 1023 d.c.y (omega arith) h.centre_y, (near-0, tt)))
first-near (leaves.Block b) h = (wider 4096 b.x0 (omega arith) h.corner_x, (wider 4096 b.y0 (omega arith) h.corner_y, (wider 4096 b.z0 (omega arith) h.corner_z, tt)))
first-near (leaves.Tile b) h = (wider 4096 b.x0 (omega arith) h.corner_x, (wider 4096 b.y0 (omega arith) h.corner_y, (near-0, tt)))

last-near : (l : ALeaf) → IsLeaf l → Near (last l)
last-near (leaves.Slab f) h = (fixed (pos 16384) (omega arith), (fixed (pos 16384) (omega arith), (fixed (pos 8192) (omega arith), tt)))
last-near (leaves.Strip f) h = (fixed (pos 16384) (omega arith), (fixed (pos 8192) (omega arith), tt))
last-near (leaves.Disc d) h = (side 8372232 d.r2 (omega arith) h.square, tt)
last-near (leaves.Block b) h = (side 8191 (b.x1 -ℤ b.x0) (omega arith) h.side_x, (side 8191 (b.y1 -ℤ b.y0) (omega arith) h.side_y, (side 8191 (b.z1 -ℤ b.z0) (omega arith) h.side_z, tt)))
last-near (leaves.Tile b) h = (side 8191 (b.x1 -ℤ b.x0) (omega arith) h.side_x, (side 8191 (b.y1 -ℤ b.y0) (omega arith) h.side_y, tt))

near-append : (xs ys : List ℤ) → Near xs → Near ys → Near (xs ++ ys)
near-append [] ys h k = k
near-append (x ∷ xs) ys h k = (h.0, near-append xs ys h.1 k)

-- all numbers of a leaf
numbers-near : (l : ALeaf) → IsLeaf l → Near (numbers_of l)
numbers-near (leaves.Slab f) h = near-append (first (leaves.Slab f)) (last (leaves.Slab f)) (first-near (leaves.Slab f) h) (last-near (leaves.Slab f) h)
numbers-near (leaves.Strip f) h = near-append (first (leaves.Strip f)) (last (leaves.Strip f)) (first-near (leaves.Strip f) h) (last-near (leaves.Strip f) h)
numbers-near (leaves.Disc d) h = near-append (first (leaves.Disc d)) (last (leaves.Disc d)) (first-near (leaves.Disc d) h) (last-near (leaves.Disc d) h)
numbers-near (leaves.Block b) h = near-append (first (leaves.Block b)) (last (leaves.Block b)) (first-near (leaves.Block b) h) (last-near (leaves.Block b) h)
numbers-near (leaves.Tile b) h = near-append (first (leaves.Tile b)) (last (leaves.Tile b)) (first-near (leaves.Tile b) h) (last-near (leaves.Tile b) h)

-- the same of the short form of an axis leaf
abbrev short_first : ALeaf → List ℤ
short_first (leaves.Slab f) = corner_at f.o.x f.n.x ∷ corner_at f.o.y f.n.y ∷ corner_at f.o.z f.n.z ∷ []
short_first (leaves.Strip f) = let n = normal_of f.u in corner_at f.o.x n.x ∷ corner_at f.o.y n.y ∷ pos 0 ∷ []
short_first l = []

abbrev short_last : ALeaf → List ℤ
short_last (leaves.Slab f) = side_at f.n.x ∷ side_at f.n.y ∷ side_at f.n.z ∷ []
short_last (leaves.Strip f) = let n = normal_of f.u in side_at n.x ∷ side_at n.y ∷ []
short_last l = []

corner-near : (o n : ℤ) → IsWithin 1023 o → IsWithin 8388607 (corner_at o n)
corner-near o n h = wider 9215 (corner_at o n) (omega arith) (corner_near o n h)

side-near : (n : ℤ) → IsWithin 8388607 (side_at n)
side-near n = wider 16384 (side_at n) (omega arith) (side_near n)

short-first-near : (l : ALeaf) → IsLeaf l → Near (short_first l)
short-first-near (leaves.Slab f) h = (corner-near f.o.x f.n.x h.origin_x, (corner-near f.o.y f.n.y h.origin_y, (corner-near f.o.z f.n.z h.origin_z, tt)))
short-first-near (leaves.Strip f) h = (corner-near f.o.x (neg_ℤ f.u.y) h.origin_x, (corner-near f.o.y f.u.x h.origin_y, (near-0, tt)))
short-first-near (leaves.Disc d) h = tt
short-first-near (leaves.Block b) h = tt
short-first-near (leaves.Tile b) h = tt

short-last-near : (l : ALeaf) → Near (short_last l)
short-last-near (leaves.Slab f) = (side-near f.n.x, (side-near f.n.y, (side-near f.n.z, tt)))
short-last-near (leaves.Strip f) = (side-near (neg_ℤ f.u.y), (side-near f.u.x, tt))
short-last-near (leaves.Disc d) = tt
short-last-near (leaves.Block b) = tt
short-last-near (leaves.Tile b) = tt

short-near : (l : ALeaf) → IsAxis l → IsLeaf l → Near (short_numbers l)
short-near (leaves.Slab f) a h = near-append (short_first (leaves.Slab f)) (short_last (leaves.Slab f)) (short-first-near (leaves.Slab f) h) (short-last-near (leaves.Slab f))
short-near (leaves.Strip f) a h = near-append (short_first (leaves.Strip f)) (short_last (leaves.Strip f)) (short-first-near (leaves.Strip f) h) (short-last-near (leaves.Strip f))
short-near (leaves.Disc d) a h = absurd a
short-near (leaves.Block b) a h = absurd a
short-near (leaves.Tile b) a h = absurd a

pub says-near : (form : Form) (ns : List ℤ) (l : ALeaf) → Says form ns l → Near ns
says-near form ns l (inl s) = subst Near (sym s.numbers) (numbers-near l s.in_range)
says-near form ns l (inr s) = subst Near (sym s.numbers) (short-near l s.axis s.in_range)

abbrev pub Ends : ALeaf → List Open → Option Bool → State
Ends l stack seen = add (trees.Leaf l) stack (Some (is_solid_leaf l))

-- the end of a leaf
pub leaf-ends : (l : ALeaf) (form : Form) (ns : List ℤ) (f : Place) (stack : List Open) (seen : Option Bool) → Says form ns l → mixes seen (is_solid_leaf l) ≡ false
    → with_leaf (leaf_of form ns) f stack seen ≡ Ok (Ends l stack seen)
leaf-ends l form ns f stack seen h m =
    ap (λ o. with_leaf o f stack seen) (told form ns l h)
    ∙ ap (λ c. if c then Err (Mixed f.line f.token) else Ok (Ends l stack seen)) m

-- behind a leaf's first name
abbrev Goes : ALeaf → Part → List (List ℕ) → Type 0
Goes l p tail =
    (f : Place) (stack : List Open) (seen : Option Bool) → mixes seen (is_solid_leaf l) ≡ false → (e : ℕ) (st : Stream) (more : List (List ℕ)) → Comes st (tail ++ more)
    → To e (ins p (pattern p) [] f stack seen) st more (Ends l stack seen)

-- the name of a shape, and what stands behind it
shape-to : (l : ALeaf) (form : Form) (p : Part) (name : List ℕ) (b : ℕ) (wants : List ℕ) (fs ls : List ℤ) (f : Place) (stack : List Open) (seen : Option Bool)
    → ((t : AToken) → t.text ≡ name → step (ins p [] fs f stack seen) t ≡ Ok (ins (Closing form) (b ∷ wants) fs f stack seen)) → Says form (fs ++ ls) l → Near ls → length ls ≡ places (b ∷ wants)
    → plain (b ∷ wants) ≡ true → mixes seen (is_solid_leaf l) ≡ false → (e : ℕ) (st : Stream) (more : List (List ℕ)) → Comes st (name ∷ (spelled (b ∷ wants) ls ++ more))
    → To e (ins p [] fs f stack seen) st more (Ends l stack seen)
shape-to l form p name b wants fs ls f stack seen named says near count q m e st more r =
    let a = one e (ins p [] fs f stack seen) (ins (Closing form) (b ∷ wants) fs f stack seen) name (spelled (b ∷ wants) ls ++ more) st named r in
    onward a (pattern-to (Closing form) b wants fs ls f stack seen (Ends l stack seen) near count q (leaf-ends l form (fs ++ ls) f stack seen says m) e a.rest more a.left)

regroup : (a b more : List (List ℕ)) (st : Stream) → Comes st ((a ++ b) ++ more) → Comes st (a ++ (b ++ more))
regroup a b more st r = subst (Comes st) (append_assoc a b more) r

goes-Slab : (l : ALeaf) (fs ls : List ℤ) → Says Slab (fs ++ ls) l → Near fs → Near ls → length fs ≡ 19 → length ls ≡ 3
    → Goes l Placed (spelled (pattern Placed) fs ++ (codes "cube" ∷ spelled (pattern (Closing Slab)) ls))
goes-Slab l fs ls says nf nl cf cl f stack seen m e st more r =
    let a = pattern-to Placed 40 (drop 1 (pattern Placed)) [] fs f stack seen (ins Placed [] fs f stack seen) nf cf refl refl e st ((codes "cube" ∷ spelled (pattern (Closing Slab)) ls) ++ more)
    (regroup (spelled (pattern Placed) fs) (codes "cube" ∷ spelled (pattern (Closing Slab)) ls) more st r) in
    onward a (shape-to l Slab Placed (codes "cube") 40 (drop 1 (pattern (Closing Slab))) fs ls f stack seen (λ t x. ap (λ w. step (ins Placed [] fs f stack seen) (record t { text = w })) x) says nl cl refl m e a.rest more a.left)

goes-Strip : (l : ALeaf) (fs ls : List ℤ) → Says Strip (fs ++ ls) l → Near fs → Near ls → length fs ≡ 19 → length ls ≡ 2
    → Goes l Placed (spelled (pattern Placed) fs ++ (codes "square" ∷ spelled (pattern (Closing Strip)) ls))
goes-Strip l fs ls says nf nl cf cl f stack seen m e st more r =
    let a = pattern-to Placed 40 (drop 1 (pattern Placed)) [] fs f stack seen (ins Placed [] fs f stack seen) nf cf refl refl e st ((codes "square" ∷ spelled (pattern (Closing Strip)) ls) ++ more)
    (regroup (spelled (pattern Placed) fs) (codes "square" ∷ spelled (pattern (Closing Strip)) ls) more st r) in
    onward a (shape-to l Strip Placed (codes "square") 40 (drop 1 (pattern (Closing Strip))) fs ls f stack seen (λ t x. ap (λ w. step (ins Placed [] fs f stack seen) (record t { text = w })) x) says nl cl refl m e a.rest more a.left)

goes-Disc : (l : ALeaf) (fs ls : List ℤ) → Says Disc (fs ++ ls) l → Near fs → Near ls → length fs ≡ 3 → length ls ≡ 1
    → Goes l Moved (spelled (pattern Moved) fs ++ (codes "circle" ∷ spelled (pattern (Closing Disc)) ls))
goes-Disc l fs ls says nf nl cf cl f stack seen m e st more r =
    let a = pattern-to Moved 40 (drop 1 (pattern Moved)) [] fs f stack seen (ins Moved [] fs f stack seen) nf cf refl refl e st ((codes "circle" ∷ spelled (pattern (Closing Disc)) ls) ++ more)
    (regroup (spelled (pattern Moved) fs) (codes "circle" ∷ spelled (pattern (Closing Disc)) ls) more st r) in
    onward a (shape-to l Disc Moved (codes "circle") 40 (drop 1 (pattern (Closing Disc))) fs ls f stack seen (λ t x. ap (λ w. step (ins Moved [] fs f stack seen) (record t { text = w })) x) says nl cl refl m e a.rest more a.left)

goes-Block : (l : ALeaf) (fs ls : List ℤ) → Says Block (fs ++ ls) l → Near fs → Near ls → length fs ≡ 3 → length ls ≡ 3
    → Goes l Moved (spelled (pattern Moved) fs ++ (codes "cube" ∷ spelled (pattern (Closing Block)) ls))
goes-Block l fs ls says nf nl cf cl f stack seen m e st more r =
    let a = pattern-to Moved 40 (drop 1 (pattern Moved)) [] fs f stack seen (ins Moved [] fs f stack seen) nf cf refl refl e st ((codes "cube" ∷ spelled (pattern (Closing Block)) ls) ++ more)
    (regroup (spelled (pattern Moved) fs) (codes "cube" ∷ spelled (pattern (Closing Block)) ls) more st r) in
    onward a (shape-to l Block Moved (codes "cube") 40 (drop 1 (pattern (Closing Block))) fs ls f stack seen (λ t x. ap (λ w. step (ins Moved [] fs f stack seen) (record t { text = w })) x) says nl cl refl m e a.rest more a.left)

goes-Tile : (l : ALeaf) (fs ls : List ℤ) → Says Tile (fs ++ ls) l → Near fs → Near ls → length fs ≡ 3 → length ls ≡ 2
    → Goes l Moved (spelled (pattern Moved) fs ++ (codes "square" ∷ spelled (pattern (Closing Tile)) ls))
goes-Tile l fs ls says nf nl cf cl f stack seen m e st more r =
    let a = pattern-to Moved 40 (drop 1 (pattern Moved)) [] fs f stack seen (ins Moved [] fs f stack seen) nf cf refl refl e st ((codes "square" ∷ spelled (pattern (Closing Tile)) ls) ++ more)
    (regroup (spelled (pattern Moved) fs) (codes "square" ∷ spelled (pattern (Closing Tile)) ls) more st r) in
    onward a (shape-to l Tile Moved (codes "square") 40 (drop 1 (pattern (Closing Tile))) fs ls f stack seen (λ t x. ap (λ w. step (ins Moved [] fs f stack seen) (record t { text = w })) x) says nl cl refl m e a.rest more a.left)

-- a leaf behind its first name, which names the part
leaf-at : (l : ALeaf) (p : Part) (name : List ℕ) (tail ws : List (List ℕ)) (stack : List Open) (seen : Option Bool) → Goes l p tail
    → ((t : AToken) → t.text ≡ name → step (nodes stack seen) t ≡ Ok (ins p (pattern p) [] (place_of t) stack seen)) → ws ≡ name ∷ tail → mixes seen (is_solid_leaf l) ≡ false
    → (e : ℕ) (st : Stream) (more : List (List ℕ)) → Comes st (ws ++ more) → To e (nodes stack seen) st more (Ends l stack seen)
leaf-at l p name tail ws stack seen g named w m e (ended n) more r = absurd (subst (λ ws. Comes (ended n) (ws ++ more)) w r)
leaf-at l p name tail ws stack seen g named w m e (broken k n) more r = absurd (subst (λ ws. Comes (broken k n) (ws ++ more)) w r)
leaf-at l p name tail ws stack seen g named w m e (token a rest) more r =
    let q : Comes (token a rest) (name ∷ (tail ++ more)) = subst (λ ws. Comes (token a rest) (ws ++ more)) w r in
    let b = g (place_of a) stack seen m e rest more q.1 in
    record { rest = b.rest; left = b.left; same = ap (λ x. x >>= λ next. run e next rest) (named a q.0) ∙ b.same }

abbrev pub semi : List (List ℕ) → List (List ℕ)
semi ws = ws ++ codes ";" ∷ []

abbrev LeafTo : ALeaf → List (List ℕ) → Type 0
LeafTo l ws =
    (stack : List Open) (seen : Option Bool) → mixes seen (is_solid_leaf l) ≡ false → (e : ℕ) (st : Stream) (more : List (List ℕ)) → Comes st (semi ws ++ more)
    → To e (nodes stack seen) st more (Ends l stack seen)

says-long : (l : ALeaf) → IsLeaf l → Says (form_of l) (numbers_of l) l
says-long l h = inl (record { form_is = refl; numbers = refl; in_range = h })

pub long-to : (l : ALeaf) → IsLeaf l → LeafTo l (long_words l)
long-to (leaves.Slab f) h stack seen m e st more r =
    leaf-at (leaves.Slab f) Placed (codes "multmatrix") (spelled (pattern Placed) (first (leaves.Slab f)) ++ (codes "cube" ∷ spelled (pattern (Closing Slab)) (last (leaves.Slab f)))) (semi (long_words (leaves.Slab f))) stack seen
    (goes-Slab (leaves.Slab f) (first (leaves.Slab f)) (last (leaves.Slab f)) (says-long (leaves.Slab f) h) (first-near (leaves.Slab f) h) (last-near (leaves.Slab f) h) refl refl)
    (λ t x. ap (λ w. step (nodes stack seen) (record t { text = w })) x) refl m e st more r
long-to (leaves.Strip f) h stack seen m e st more r =
    leaf-at (leaves.Strip f) Placed (codes "multmatrix") (spelled (pattern Placed) (first (leaves.Strip f)) ++ (codes "square" ∷ spelled (pattern (Closing Strip)) (last (leaves.Strip f)))) (semi (long_words (leaves.Strip f))) stack seen
    (goes-Strip (leaves.Strip f) (first (leaves.Strip f)) (last (leaves.Strip f)) (says-long (leaves.Strip f) h) (first-near (leaves.Strip f) h) (last-near (leaves.Strip f) h) refl refl)
    (λ t x. ap (λ w. step (nodes stack seen) (record t { text = w })) x) refl m e st more r
long-to (leaves.Disc d) h stack seen m e st more r =
    leaf-at (leaves.Disc d) Moved (codes "translate") (spelled (pattern Moved) (first (leaves.Disc d)) ++ (codes "circle" ∷ spelled (pattern (Closing Disc)) (last (leaves.Disc d)))) (semi (long_words (leaves.Disc d))) stack seen
    (goes-Disc (leaves.Disc d) (first (leaves.Disc d)) (last (leaves.Disc d)) (says-long (leaves.Disc d) h) (first-near (leaves.Disc d) h) (last-near (leaves.Disc d) h) refl refl)
    (λ t x. ap (λ w. step (nodes stack seen) (record t { text = w })) x) refl m e st more r
long-to (leaves.Block b) h stack seen m e st more r =
    leaf-at (leaves.Block b) Moved (codes "translate") (spelled (pattern Moved) (first (leaves.Block b)) ++ (codes "cube" ∷ spelled (pattern (Closing Block)) (last (leaves.Block b)))) (semi (long_words (leaves.Block b))) stack seen
    (goes-Block (leaves.Block b) (first (leaves.Block b)) (last (leaves.Block b)) (says-long (leaves.Block b) h) (first-near (leaves.Block b) h) (last-near (leaves.Block b) h) refl refl)
    (λ t x. ap (λ w. step (nodes stack seen) (record t { text = w })) x) refl m e st more r
long-to (leaves.Tile b) h stack seen m e st more r =
    leaf-at (leaves.Tile b) Moved (codes "translate") (spelled (pattern Moved) (first (leaves.Tile b)) ++ (codes "square" ∷ spelled (pattern (Closing Tile)) (last (leaves.Tile b)))) (semi (long_words (leaves.Tile b))) stack seen
    (goes-Tile (leaves.Tile b) (first (leaves.Tile b)) (last (leaves.Tile b)) (says-long (leaves.Tile b) h) (first-near (leaves.Tile b) h) (last-near (leaves.Tile b) h) refl refl)
    (λ t x. ap (λ w. step (nodes stack seen) (record t { text = w })) x) refl m e st more r

short-to : (l : ALeaf) → IsAxis l → IsLeaf l → LeafTo l (short_words l)
short-to (leaves.Slab f) a h stack seen m e st more r =
    leaf-at (leaves.Slab f) Moved (codes "translate") (spelled (pattern Moved) (short_first (leaves.Slab f)) ++ (codes "cube" ∷ spelled (pattern (Closing Block)) (short_last (leaves.Slab f)))) (semi (short_words (leaves.Slab f))) stack seen
    (goes-Block (leaves.Slab f) (short_first (leaves.Slab f)) (short_last (leaves.Slab f)) (inr (record { axis = a; form_is = refl; numbers = refl; in_range = h })) (short-first-near (leaves.Slab f) h) (short-last-near (leaves.Slab f)) refl refl)
    (λ t x. ap (λ w. step (nodes stack seen) (record t { text = w })) x) refl m e st more r
short-to (leaves.Strip f) a h stack seen m e st more r =
    leaf-at (leaves.Strip f) Moved (codes "translate") (spelled (pattern Moved) (short_first (leaves.Strip f)) ++ (codes "square" ∷ spelled (pattern (Closing Tile)) (short_last (leaves.Strip f)))) (semi (short_words (leaves.Strip f))) stack seen
    (goes-Tile (leaves.Strip f) (short_first (leaves.Strip f)) (short_last (leaves.Strip f)) (inr (record { axis = a; form_is = refl; numbers = refl; in_range = h })) (short-first-near (leaves.Strip f) h) (short-last-near (leaves.Strip f)) refl refl)
    (λ t x. ap (λ w. step (nodes stack seen) (record t { text = w })) x) refl m e st more r
short-to (leaves.Disc d) a h stack seen m e st more r = absurd a
short-to (leaves.Block b) a h stack seen m e st more r = absurd a
short-to (leaves.Tile b) a h stack seen m e st more r = absurd a

leaf-to : (l : ALeaf) (ws : List (List ℕ)) → IsLeafWords l ws → IsLeaf l → LeafTo l ws
leaf-to l ws (inl w) h stack seen m e st more r = long-to l h stack seen m e st more (subst (λ x. Comes st (semi x ++ more)) w r)
leaf-to l ws (inr w) h stack seen m e st more r = short-to l w.0 h stack seen m e st more (subst (λ x. Comes st (semi x ++ more)) w.1 r)

-- ---- operators

abbrev pub opens : Op → List Tree → Open
opens op kids = record { op = op; kids = kids }

abbrev name_of : Op → List ℕ
name_of Union = codes "union"
name_of Meet = codes "intersection"
name_of Cut = codes "difference"

enters : (op : Op) (stack : List Open) (seen : Option Bool) → length stack < 64 → (t : AToken) → t.text ≡ name_of op → step (nodes stack seen) t ≡ Ok (ins (Opening op) (codes "(){") [] (place_of t) stack seen)
enters Union stack seen h t e = ap (λ w. step (nodes stack seen) (record t { text = w })) e ∙ ap (λ c. if c then Ok (ins (Opening Union) (codes "(){") [] (place_of t) stack seen) else Err (TooDeep t.line t.nth)) (lt-ltb (length stack) 64 h)
enters Meet stack seen h t e = ap (λ w. step (nodes stack seen) (record t { text = w })) e ∙ ap (λ c. if c then Ok (ins (Opening Meet) (codes "(){") [] (place_of t) stack seen) else Err (TooDeep t.line t.nth)) (lt-ltb (length stack) 64 h)
enters Cut stack seen h t e = ap (λ w. step (nodes stack seen) (record t { text = w })) e ∙ ap (λ c. if c then Ok (ins (Opening Cut) (codes "(){") [] (place_of t) stack seen) else Err (TooDeep t.line t.nth)) (lt-ltb (length stack) 64 h)

open-to : (op : Op) (stack : List Open) (seen : Option Bool) → length stack < 64 → (e : ℕ) (st : Stream) (more : List (List ℕ)) → Comes st (name_of op ∷ codes "(" ∷ codes ")" ∷ codes "{" ∷ more)
    → To e (nodes stack seen) st more (nodes (opens op [] ∷ stack) seen)
open-to op stack seen h e (ended n) more r = absurd r
open-to op stack seen h e (broken k n) more r = absurd r
open-to op stack seen h e (token a rest) more r =
    let b = pattern-to (Opening op) 40 (codes "){") [] [] (place_of a) stack seen (nodes (opens op [] ∷ stack) seen) tt refl refl refl e rest more r.1 in
    record { rest = b.rest; left = b.left; same = ap (λ x. x >>= λ next. run e next rest) (enters op stack seen h a r.0) ∙ b.same }

pub close-to : (op : Op) (kids : List Tree) (x : Tree) (stack : List Open) (seen : Option Bool) → tree_of_kids op kids ≡ Some x → (e : ℕ) (st : Stream) (more : List (List ℕ)) → Comes st (codes "}" ∷ more)
    → To e (nodes (opens op kids ∷ stack) seen) st more (add x stack seen)
close-to op kids x stack seen h e st more r =
    one e (nodes (opens op kids ∷ stack) seen) (add x stack seen) (codes "}") more st
    (λ t k. ap (λ w. step (nodes (opens op kids ∷ stack) seen) (record t { text = w })) k ∙ ap (λ o. closed o stack seen (record t { text = codes "}" })) h) r

-- ---- trees

abbrev Compat : Option Bool → Bool → Type 0
Compat seen k = (seen ≡ None) ⊎ (seen ≡ Some k)

beq-self : (k : Bool) → mixes (Some k) k ≡ false
beq-self true = refl
beq-self false = refl

unmixed : (seen : Option Bool) (k : Bool) → Compat seen k → mixes seen k ≡ false
unmixed seen k (inl e) = ap (λ s. mixes s k) e
unmixed seen k (inr e) = ap (λ s. mixes s k) e ∙ beq-self k

solid-is : (l : ALeaf) (k : Bool) → KindOf (Some k) l → is_solid_leaf l ≡ k
solid-is (leaves.Slab f) true h = refl
solid-is (leaves.Slab f) false h = absurd h
solid-is (leaves.Strip f) true h = absurd h
solid-is (leaves.Strip f) false h = refl
solid-is (leaves.Disc d) true h = absurd h
solid-is (leaves.Disc d) false h = refl
solid-is (leaves.Block b) true h = refl
solid-is (leaves.Block b) false h = absurd h
solid-is (leaves.Tile b) true h = absurd h
solid-is (leaves.Tile b) false h = refl

record One (s : Shape) (k : Bool) (stack : List Open) (seen : Option Bool) (e : ℕ) (st : Stream) (more : List (List ℕ)) : Type 0 where
  tree : Tree
  seen_now : Option Bool
  compat : Compat seen_now k
  is : shape tree ≡ s
  to : To e (nodes stack seen) st more (add tree stack seen_now)

record Several (ss : Shapes) (k : Bool) (op : Op) (top : List Tree) (stack : List Open) (seen : Option Bool) (e : ℕ) (st : Stream) (more : List (List ℕ)) : Type 0 where
  trees : List Tree
  seen_now : Option Bool
  compat : Compat seen_now k
  are : shapes trees ≡ ss
  to : To e (nodes (opens op top ∷ stack) seen) st more (nodes (opens op (top ++ trees) ∷ stack) seen_now)

-- what stands between an operator's brackets
inner : (name : List ℕ) (mid more : List (List ℕ)) (st : Stream) → Comes st ((name ∷ codes "(" ∷ codes ")" ∷ codes "{" ∷ (mid ++ codes "}" ∷ [])) ++ more)
    → Comes st (name ∷ codes "(" ∷ codes ")" ∷ codes "{" ∷ (mid ++ (codes "}" ∷ more)))
inner name mid more st r = subst (λ ws. Comes st (name ∷ codes "(" ∷ codes ")" ∷ codes "{" ∷ ws)) (append_assoc mid (codes "}" ∷ []) more) r

-- the tree of an operator's children
record Built (op : Op) (s : Shape) (kids : List Tree) : Type 0 where
  tree : Tree
  made : tree_of_kids op kids ≡ Some tree
  is : shape tree ≡ s

build-union : (kids : List Tree) (ss : Shapes) → shapes kids ≡ ss → Built Union (union ss) kids
build-union kids ss e = record { tree = trees.Union kids; made = refl; is = shape-Union kids ∙ ap union e }

build-meet : (kids : List Tree) (ss : Shapes) → HasChild ss → shapes kids ≡ ss → Built Meet (meet ss) kids
build-meet [] none h e = absurd h
build-meet [] (child s ss) h e = cc e
build-meet (t ∷ kids) ss h e = record { tree = trees.Meet (t ∷ kids); made = refl; is = shape-Meet (t ∷ kids) ∙ ap meet e }

build-cut : (t : Tree) (kids : List Tree) (s : Shape) (ss : Shapes) → shape t ≡ s → shapes kids ≡ ss → Built Cut (cut s ss) (t ∷ kids)
build-cut t kids s ss e f = record { tree = trees.Cut t kids; made = refl; is = shape-Cut t kids ∙ (λ i. cut (e i) (f i)) }

-- an operator round its children
wrap : (op : Op) (s : Shape) (ss : Shapes) (k : Bool) (stack : List Open) (seen : Option Bool) (e : ℕ) (st : Stream) (more mid : List (List ℕ)) (a : To e (nodes stack seen) st (mid ++ (codes "}" ∷ more)) (nodes (opens op [] ∷ stack) seen))
    (b : Several ss k op [] stack seen e a.rest (codes "}" ∷ more)) → Built op s b.trees → One s k stack seen e st more
wrap op s ss k stack seen e st more mid a b c =
    let d = close-to op b.trees c.tree stack b.seen_now c.made e b.to.rest more b.to.left in
    record { tree = c.tree; seen_now = b.seen_now; compat = b.compat; is = c.is; to = onward a (onward b.to d) }

-- the tokens ws instead
read-as : (st : Stream) (ws us more : List (List ℕ)) → ws ≡ us → Comes st (ws ++ more) → Comes st (us ++ more)
read-as st ws us more e r = subst (λ x. Comes st (x ++ more)) e r

mutual
  read_one : (s : Shape) (ws : List (List ℕ)) → IsWords s ws → (k : Bool) (stack : List Open) (seen : Option Bool) (e : ℕ) (st : Stream) (more : List (List ℕ)) → Compat seen k → AllLeaves (IsOk (Some k)) s → AllMeetsMeet s
      → length stack + depth s ≤ 64 → Comes st (ws ++ more) → One s k stack seen e st more
  read_one (leaf l) ws w k stack seen e st more c ok meets deep r =
      let solid : is_solid_leaf l ≡ k = solid-is l k ok.1 in
      record {
        tree = trees.Leaf l;
        seen_now = Some (is_solid_leaf l);
        compat = inr (ap (λ b. Some b) solid);
        is = shape-Leaf l;
        to = leaf-to l w.0 w.1 ok.0 stack seen (ap (mixes seen) solid ∙ unmixed seen k c) e st more (read-as st ws (semi w.0) more w.2 r);
      }
  read_one (union kids) ws w k stack seen e st more c ok meets deep r =
      let a = open-to Union stack seen (omega arith) e st (w.0 ++ (codes "}" ∷ more)) (inner (codes "union") w.0 more st (read-as st ws _ more w.2 r)) in
      let b = read_all kids w.0 w.1 k Union [] stack seen e a.rest (codes "}" ∷ more) c ok meets (omega arith) a.left in
      wrap Union (union kids) kids k stack seen e st more w.0 a b (build-union b.trees kids b.are)
  read_one (meet kids) ws w k stack seen e st more c ok meets deep r =
      let a = open-to Meet stack seen (omega arith) e st (w.0 ++ (codes "}" ∷ more)) (inner (codes "intersection") w.0 more st (read-as st ws _ more w.2 r)) in
      let b = read_all kids w.0 w.1 k Meet [] stack seen e a.rest (codes "}" ∷ more) c ok meets.1 (omega arith) a.left in
      wrap Meet (meet kids) kids k stack seen e st more w.0 a b (build-meet b.trees kids meets.0 b.are)
  read_one (cut first kids) ws w k stack seen e st more c ok meets deep r =
      let a = open-to Cut stack seen (omega arith) e st ((w.0 ++ w.1) ++ (codes "}" ∷ more)) (inner (codes "difference") (w.0 ++ w.1) more st (read-as st ws _ more w.4 r)) in
      let o = read_one first w.0 w.2 k (opens Cut [] ∷ stack) seen e a.rest (w.1 ++ (codes "}" ∷ more)) c ok.0 meets.0 (omega arith) (regroup w.0 w.1 (codes "}" ∷ more) a.rest a.left) in
      let b = read_all kids w.1 w.3 k Cut (o.tree ∷ []) stack o.seen_now e o.to.rest (codes "}" ∷ more) o.compat ok.1 meets.1 (omega arith) o.to.left in
      let all : Several (child first kids) k Cut [] stack seen e a.rest (codes "}" ∷ more) = record { trees = o.tree ∷ b.trees; seen_now = b.seen_now; compat = b.compat; are = (λ i. child (o.is i) (b.are i)); to = onward o.to b.to } in
      wrap Cut (cut first kids) (child first kids) k stack seen e st more (w.0 ++ w.1) a all (build-cut o.tree b.trees first kids o.is b.are)

  read_all : (ss : Shapes) (ws : List (List ℕ)) → AreWords ss ws → (k : Bool) (op : Op) (top : List Tree) (stack : List Open) (seen : Option Bool) (e : ℕ) (st : Stream) (more : List (List ℕ)) → Compat seen k
      → EachLeaf (IsOk (Some k)) ss → EachMeetMeets ss → length stack + 1 + depths ss ≤ 64 → Comes st (ws ++ more) → Several ss k op top stack seen e st more
  read_all none ws w k op top stack seen e st more c ok meets deep r = record {
    trees = [];
    seen_now = seen;
    compat = c;
    are = refl;
    to = stay e (nodes (opens op top ∷ stack) seen) (nodes (opens op (top ++ []) ∷ stack) seen) st more (ap (λ l. nodes (opens op l ∷ stack) seen) (sym (append-nil top))) (read-as st ws [] more w r);
  }
  read_all (child s ss) ws w k op top stack seen e st more c ok meets deep r =
      let o = read_one s w.0 w.2 k (opens op top ∷ stack) seen e st (w.1 ++ more) c ok.0 meets.0 (omega arith) (regroup w.0 w.1 more st (read-as st ws (w.0 ++ w.1) more w.4 r)) in
      let b = read_all ss w.1 w.3 k op (top ++ o.tree ∷ []) stack o.seen_now e o.to.rest more o.compat ok.1 meets.1 (omega arith) o.to.left in
      let last = stay e (nodes (opens op ((top ++ o.tree ∷ []) ++ b.trees) ∷ stack) b.seen_now) (nodes (opens op (top ++ o.tree ∷ b.trees) ∷ stack) b.seen_now) b.to.rest more
      (ap (λ l. nodes (opens op l ∷ stack) b.seen_now) (append_assoc top (o.tree ∷ []) b.trees)) b.to.left in
      record { trees = o.tree ∷ b.trees; seen_now = b.seen_now; compat = b.compat; are = (λ i. child (o.is i) (b.are i)); to = onward o.to (onward b.to last) }

-- the end, behind the whole tree
pub ends : (e : ℕ) (t : Tree) (seen : Option Bool) (st : Stream) → Comes st [] → run e (add t [] seen) st ≡ Ok t
ends e t seen (ended n) r = refl
ends e t seen (broken l n) r = absurd r
ends e t seen (token a rest) r = absurd r

mutual
  of-kind : (k : Bool) (s : Shape) → AllLeaves IsLeaf s → AllLeaves (KindOf (Some k)) s → AllLeaves (IsOk (Some k)) s
  of-kind k (leaf l) h g = (h, g)
  of-kind k (union ss) h g = each-kind k ss h g
  of-kind k (meet ss) h g = each-kind k ss h g
  of-kind k (cut s ss) h g = (of-kind k s h.0 g.0, each-kind k ss h.1 g.1)

  each-kind : (k : Bool) (ss : Shapes) → EachLeaf IsLeaf ss → EachLeaf (KindOf (Some k)) ss → EachLeaf (IsOk (Some k)) ss
  each-kind k none h g = tt
  each-kind k (child s ss) h g = (of-kind k s h.0 g.0, each-kind k ss h.1 g.1)

read-kind : (text : List ℕ) (s : Shape) (k : Bool) → Spells text s → AllLeaves (KindOf (Some k)) s → (t : Tree) × (shape t ≡ s) × (reading_of text ≡ Ok t)
read-kind text s k h g =
    let a = h.allowed in
    let deep : depth s ≤ 64 = a.nested in
    let r : Comes (stream text) (h.words ++ []) = subst (Comes (stream text)) (sym (append-nil h.words)) (comes (stream text) h.words (stream_is_tokens text ∙ h.tokens)) in
    let o = read_one s h.words h.spelled k [] None (end_line text) (stream text) [] (inl refl) (of-kind k s a.ranges g) a.meets (omega arith) r in
    (o.tree, o.is, o.to.same ∙ ends (end_line text) o.tree o.seen_now o.to.rest o.to.left)

spelled-by : (text : List ℕ) (s : Shape) → Spells text s → AllLeaves IsFlat s ⊎ AllLeaves IsSpaceLeaf s → (t : Tree) × (shape t ≡ s) × (reading_of text ≡ Ok t)
spelled-by text s h (inl k) = read-kind text s false h k
spelled-by text s h (inr k) = read-kind text s true h k

pub spelled_is_read : SpelledIsRead
spelled_is_read text s h = spelled-by text s h h.allowed.kind

abbrev failing : CsgFault → Result Tree CsgFault
failing f = Err f

pub fault_spells_none : FaultSpellsNone
fault_spells_none text f s e h = let r = spelled_is_read text s h in let never : Ok r.0 ≡ Err f = sym r.2 ∙ e in cc never

pub has_one_fault : HasOneFault
has_one_fault text f g e h = let same : failing f ≡ failing g = sym e ∙ h in cc same
