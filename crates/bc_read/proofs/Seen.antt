-- What is read is spelled: the tokens that a state of the machine stands for.
use Rattle.std.proofs.Common.{◌≡◌, ◌⊎◌, inl, inr, ◌+◌, ◌<◌, ◌≤◌, ℕ, suc, max, Bool, true, false, nat_lt, List, [], ◌∷◌, ◌++◌, length, length-append, Option, None, Some, Result, Ok, Err, codes, bytes_eq, refl, sym, ap, ◌∙◌, subst, append_assoc, append-nil, if◌then◌else◌, rules, arith}
use Rattle.std.proofs.lemmas.Slice.Eq.{bytes_eq-Decides}
use Rattle.std.proofs.lemmas.Bool.{ltb-true}
use Rattle.std.specs.Prelude.{ℤ}
use Rattle.std.specs.Fmt.{signed_decimal}
use Rattle.bc_tree.specs.Decided.{is_solid_leaf}
use Rattle.bc_tree.specs.declared.tree.Leaf.{Leaf as ALeaf}
use Rattle.bc_tree.specs.declared.tree.Leaf.TheVariants as leaves
use Rattle.bc_tree.specs.declared.tree.Tree.{Tree, the_lemmas}
use Rattle.bc_tree.specs.declared.tree.Tree.TheVariants as trees
use Rattle.bc_tree.specs.Leaves.{IsLeaf, IsFlat, IsSpaceLeaf}
use Rattle.bc_tree.specs.Shape.{Shape, leaf, union, meet, cut, Shapes, none, child, shape, shapes, depth, depths, AllLeaves, EachLeaf}
use Rattle.bc_tree.specs.Words.{long_words, short_words, IsWords, AreWords}
use Rattle.bc_tree.specs.Spells.{AllMeetsMeet, EachMeetMeets, IsAllowed, Spells}
use Rattle.bc_num.specs.Tokens.{cons}
use Rattle.bc_lex.specs.Tokens.{AToken}
use Rattle.bc_lex.specs.Stream.{Stream, ended, broken, token, texts, stream}
use Rattle.bc_lex.proofs.TokenStreams.{stream_is_tokens}
use Rattle.bc_read.specs.declared.part.Op.{Op}
use Rattle.bc_read.specs.declared.part.Op.TheVariants.{Union, Meet, Cut}
use Rattle.bc_read.specs.declared.part.Form.{Form}
use Rattle.bc_read.specs.declared.part.Form.TheVariants.{Slab, Strip, Disc, Block, Tile}
use Rattle.bc_read.specs.declared.part.Part.{Part}
use Rattle.bc_read.specs.declared.part.Part.TheVariants.{Opening, Moved, Placed, Closing}
use Rattle.bc_read.specs.declared.reading.Place.{Place}
use Rattle.bc_read.specs.declared.reading.Open.{Open}
use Rattle.bc_read.specs.declared.fault.CsgFault.{CsgFault}
use Rattle.bc_read.specs.declared.fault.CsgFault.TheVariants.{Memory}
use Rattle.bc_read.specs.Table.{pattern, is_number_place, word_of, op_named, begins_by, begins, chosen}
use Rattle.bc_read.specs.Numbers.{is_numeral, value_of}
use Rattle.bc_read.specs.Leaves.{form_of, numbers_of, short_form, short_numbers, Says, Tells, leaf_of}
use Rattle.bc_read.specs.Machine.{At, node, inside, whole, State, start, add, tree_of_kids, closed, close, entered, at_node, mixes, with_leaf, ended_part, passed, at_number, at_shape, at_want, step_at, step, finish, run, reading_of, end_line, ◌>>=◌, FirstFault, Reads}
use Rattle.bc_read.specs.Laws.{ReadIsSpelled, HasTreeOrFault}
use Rattle.bc_read.proofs.ShortTests.{leaf_tells}
use Rattle.bc_read.proofs.NumberLaws.{value-is}
use Rattle.bc_read.proofs.Turns.{Gives}
use Rattle.bc_read.proofs.Patterns.{word_at, lead, plain, plain-here, spelled, places, spelled-word, places-word, spelled-number, places-number}

-- ---- shapes

pub shape-Leaf : (l : ALeaf) → shape (trees.Leaf l) ≡ leaf l
shape-Leaf l = search (rules, the_lemmas)

pub shape-Union : (ts : List Tree) → shape (trees.Union ts) ≡ union (shapes ts)
shape-Union ts = search (rules, the_lemmas)

pub shape-Meet : (ts : List Tree) → shape (trees.Meet ts) ≡ meet (shapes ts)
shape-Meet ts = search (rules, the_lemmas)

pub shape-Cut : (t : Tree) (ts : List Tree) → shape (trees.Cut t ts) ≡ cut (shape t) (shapes ts)
shape-Cut t ts = search (rules, the_lemmas)

-- ---- trees that the grammar allows so far

-- of the kind of the leaves so far
abbrev pub KindOf : Option Bool → ALeaf → Type 0
KindOf None l = ⊥
KindOf (Some true) l = IsSpaceLeaf l
KindOf (Some false) l = IsFlat l

abbrev pub IsOk : Option Bool → ALeaf → Type 0
IsOk seen l = IsLeaf l × KindOf seen l

-- inside n operators
pub record Fine (seen : Option Bool) (n : ℕ) (s : Shape) : Type 0 where
  ranges : AllLeaves (IsOk seen) s
  meets : AllMeetsMeet s
  nested : depth s + n ≤ 64

record FineAll (seen : Option Bool) (n : ℕ) (ss : Shapes) : Type 0 where
  ranges : EachLeaf (IsOk seen) ss
  meets : EachMeetMeets ss
  nested : depths ss + n ≤ 64

fine-push : (seen : Option Bool) (n : ℕ) (ts : List Tree) (t : Tree) → FineAll seen n (shapes ts) → Fine seen n (shape t) → FineAll seen n (shapes (ts ++ t ∷ []))
fine-push seen n [] t f g = let h : depth (shape t) + n ≤ 64 = g.nested in record { ranges = (g.ranges, tt); meets = (g.meets, tt); nested = omega arith }
fine-push seen n (x ∷ ts) t f g =
    let h : max (depth (shape x)) (depths (shapes ts)) + n ≤ 64 = f.nested in
    let k = fine-push seen n ts t (record { ranges = f.ranges.1; meets = f.meets.1; nested = omega arith }) g in
    let l : depths (shapes (ts ++ t ∷ [])) + n ≤ 64 = k.nested in
    record { ranges = (f.ranges.0, k.ranges); meets = (f.meets.0, k.meets); nested = omega arith }

words-push : (ts : List Tree) (t : Tree) (a b : List (List ℕ)) → AreWords (shapes ts) a → IsWords (shape t) b → AreWords (shapes (ts ++ t ∷ [])) (a ++ b)
words-push [] t a b p q = (b, [], q, refl, ap (λ l. l ++ b) p ∙ sym (append-nil b))
words-push (x ∷ ts) t a b p q = (p.0, p.1 ++ b, p.2, words-push ts t p.1 b p.3 q, ap (λ l. l ++ b) p.4 ∙ append_assoc p.0 p.1 b)

-- what holds of each leaf
mutual
  pub all-map : {P Q : ALeaf → Type 0} → ((l : ALeaf) → P l → Q l) → (s : Shape) → AllLeaves P s → AllLeaves Q s
  all-map f (leaf l) h = f l h
  all-map f (union ss) h = each-map f ss h
  all-map f (meet ss) h = each-map f ss h
  all-map f (cut s ss) h = (all-map f s h.0, each-map f ss h.1)

  pub each-map : {P Q : ALeaf → Type 0} → ((l : ALeaf) → P l → Q l) → (ss : Shapes) → EachLeaf P ss → EachLeaf Q ss
  each-map f none h = tt
  each-map f (child s ss) h = (all-map f s h.0, each-map f ss h.1)

-- ---- operators that are open

abbrev opening : Op → List (List ℕ)
opening op = spelled (lead (Opening op)) []

-- ws are tokens of what is open
abbrev StackWords : List Open → List (List ℕ) → Type 0
StackWords [] ws = ws ≡ []
StackWords (top ∷ rest) ws = (a : List (List ℕ)) × (b : List (List ℕ)) × StackWords rest a × AreWords (shapes top.kids) b × (ws ≡ a ++ (opening top.op ++ b))

abbrev Opens : Option Bool → List Open → Type 0
Opens seen [] = Unit {0}
Opens seen (top ∷ rest) = FineAll seen (suc (length rest)) (shapes top.kids) × Opens seen rest

opens-few : (seen : Option Bool) (stack : List Open) → Opens seen stack → length stack ≤ 64
opens-few seen [] o = omega arith
opens-few seen (top ∷ rest) o = let h : depths (shapes top.kids) + suc (length rest) ≤ 64 = o.0.nested in omega arith

-- the first leaf says the kind
opens-map : (a b : Option Bool) → ((l : ALeaf) → KindOf a l → KindOf b l) → (stack : List Open) → Opens a stack → Opens b stack
opens-map a b f [] o = tt
opens-map a b f (top ∷ rest) o =
    let g : (l : ALeaf) → IsOk a l → IsOk b l = λ l h. (h.0, f l h.1) in
    (record { ranges = each-map g (shapes top.kids) o.0.ranges; meets = o.0.meets; nested = o.0.nested }, opens-map a b f rest o.1)

-- ---- states

-- in a part that began inside n operators
abbrev pub Room : Part → ℕ → Type 0
Room (Opening op) n = n < 64
Room Moved n = Unit {0}
Room Placed n = Unit {0}
Room (Closing form) n = Unit {0}

pub record Inside (p : Part) (wants : List ℕ) (ns : List ℤ) (sofar : List (List ℕ)) : Type 0 where
  pub came : List ℕ
  pub joined : came ++ wants ≡ lead p
  plain_is : plain wants ≡ true
  pub count : length ns ≡ places came
  words_are : sofar ≡ spelled came ns

abbrev pub StandsAt : List Open → Option Bool → At → List (List ℕ) → Type 0
StandsAt stack seen node sofar = sofar ≡ []
StandsAt stack seen (inside p wants ns f) sofar = Room p (length stack) × Inside p wants ns sofar
StandsAt stack seen (whole t) sofar = (stack ≡ []) × IsWords (shape t) sofar × Fine seen 0 (shape t)

pub record Stands (s : State) (ws : List (List ℕ)) : Type 0 where
  pub base : List (List ℕ)
  pub sofar : List (List ℕ)
  all : ws ≡ base ++ sofar
  under : StackWords s.stack base
  opens : Opens s.seen s.stack
  pub here : StandsAt s.stack s.seen s.at sofar

abbrev yes : State → Result State CsgFault
yes s = Ok s

pub same-ok : (x y : State) → yes x ≡ yes y → x ≡ y
same-ok x y e = cc e

along : (x y : State) (ws : List (List ℕ)) → yes x ≡ yes y → Stands x ws → Stands y ws
along x y ws e h = subst (λ s. Stands s ws) (same-ok x y e) h

added : (t : Tree) (stack : List Open) (seen : Option Bool) (ws base sofar : List (List ℕ)) → ws ≡ base ++ sofar → StackWords stack base → IsWords (shape t) sofar → Fine seen (length stack) (shape t)
    → Opens seen stack → Stands (add t stack seen) ws
added t [] seen ws base sofar e u w f o = record { base = base; sofar = sofar; all = e; under = u; opens = tt; here = (refl, w, f) }
added t (top ∷ rest) seen ws base sofar e u w f o =
    let new : List (List ℕ) = u.0 ++ (opening top.op ++ (u.1 ++ sofar)) in
    record {
      base = new;
      sofar = [];
      all =
          e ∙ ap (λ l. l ++ sofar) u.4 ∙ append_assoc u.0 (opening top.op ++ u.1) sofar
          ∙ ap (λ l. u.0 ++ l) (append_assoc (opening top.op) u.1 sofar) ∙ sym (append-nil new);
      under = (u.0, u.1 ++ sofar, u.2, words-push top.kids t u.1 sofar u.3 w, refl);
      opens = (fine-push seen (suc (length rest)) top.kids t o.0 f, o.1);
      here = refl;
    }

-- ---- tests

either_is : {A : Type 0} (c : Bool) (x y r : A) → (if c then x else y) ≡ r → ((c ≡ true) × (x ≡ r)) ⊎ ((c ≡ false) × (y ≡ r))
either_is true x y r e = inl (refl, e)
either_is false x y r e = inr (refl, e)

same_text : (text w : List ℕ) → bytes_eq text w ≡ true → text ≡ w
same_text text w e = (bytes_eq-Decides text w).0 e

-- ---- `}`

-- the tokens and the bounds of an operator's tree, whose children have the tokens b
record Made (op : Op) (b : List (List ℕ)) (seen : Option Bool) (n : ℕ) (x : Tree) : Type 0 where
  words_are : IsWords (shape x) ((opening op ++ b) ++ codes "}" ∷ [])
  fine : Fine seen n (shape x)

made-by : (op : Op) (b : List (List ℕ)) (seen : Option Bool) (n : ℕ) (s : Shape) (x : Tree) → shape x ≡ s → IsWords s ((opening op ++ b) ++ codes "}" ∷ [])
    → Fine seen n s → Made op b seen n x
made-by op b seen n s x e w f = record { words_are = subst (λ s. IsWords s ((opening op ++ b) ++ codes "}" ∷ [])) (sym e) w; fine = subst (Fine seen n) (sym e) f }

made : (op : Op) (kids : List Tree) (b : List (List ℕ)) (seen : Option Bool) (n : ℕ) (x : Tree) → tree_of_kids op kids ≡ Some x → AreWords (shapes kids) b → FineAll seen (suc n) (shapes kids) → Made op b seen n x
made Union kids b seen n x e w f =
    let same : trees.Union kids ≡ x = cc e in
    let h : depths (shapes kids) + suc n ≤ 64 = f.nested in
    subst (Made Union b seen n) same (made-by Union b seen n (union (shapes kids)) (trees.Union kids) (shape-Union kids) (b, w, refl) (record { ranges = f.ranges; meets = f.meets; nested = omega arith }))
made Meet [] b seen n x e w f = cc e
made Meet (k ∷ kids) b seen n x e w f =
    let same : trees.Meet (k ∷ kids) ≡ x = cc e in
    let h : depths (shapes (k ∷ kids)) + suc n ≤ 64 = f.nested in
    subst (Made Meet b seen n) same (made-by Meet b seen n (meet (shapes (k ∷ kids))) (trees.Meet (k ∷ kids)) (shape-Meet (k ∷ kids)) (b, w, refl) (record { ranges = f.ranges; meets = (tt, f.meets); nested = omega arith }))
made Cut [] b seen n x e w f = cc e
made Cut (k ∷ kids) b seen n x e w f =
    let same : trees.Cut k kids ≡ x = cc e in
    let h : depths (shapes (k ∷ kids)) + suc n ≤ 64 = f.nested in
    subst (Made Cut b seen n) same (made-by Cut b seen n (cut (shape k) (shapes kids)) (trees.Cut k kids) (shape-Cut k kids) (w.0, w.1, w.2, w.3, ap (λ l. (opening Cut ++ l) ++ codes "}" ∷ []) w.4)
    (record { ranges = f.ranges; meets = f.meets; nested = omega arith }))

closed-stands : (o : Option Tree) (op : Op) (kids : List Tree) (rest : List Open) (seen : Option Bool) (t : AToken) (s' : State) (ws a b : List (List ℕ)) → tree_of_kids op kids ≡ o
    → ws ≡ (a ++ (opening op ++ b)) ++ [] → StackWords rest a → AreWords (shapes kids) b → FineAll seen (suc (length rest)) (shapes kids) → Opens seen rest → t.text ≡ codes "}" → closed o rest seen t ≡ Ok s'
    → Stands s' (ws ++ t.text ∷ [])
closed-stands None op kids rest seen t s' ws a b h w u k f o x e = cc e
closed-stands (Some y) op kids rest seen t s' ws a b h w u k f o x e =
    let m = made op kids b seen (length rest) y h k f in
    let base : List (List ℕ) = a ++ (opening op ++ b) in
    let all : ws ++ t.text ∷ [] ≡ a ++ ((opening op ++ b) ++ codes "}" ∷ []) =
    ap (λ l. l ++ t.text ∷ []) (w ∙ append-nil base) ∙ ap (λ x. base ++ x ∷ []) x ∙ append_assoc a (opening op ++ b) (codes "}" ∷ []) in
    along (add y rest seen) s' (ws ++ t.text ∷ []) e (added y rest seen (ws ++ t.text ∷ []) a ((opening op ++ b) ++ codes "}" ∷ []) all u m.words_are m.fine o)

close-stands : (stack : List Open) (seen : Option Bool) (t : AToken) (s' : State) (ws base : List (List ℕ)) → ws ≡ base ++ [] → StackWords stack base → Opens seen stack → t.text ≡ codes "}" → close stack seen t ≡ Ok s'
    → Stands s' (ws ++ t.text ∷ [])
close-stands [] seen t s' ws base w u o x e = cc e
close-stands (top ∷ rest) seen t s' ws base w u o x e =
    closed-stands (tree_of_kids top.op top.kids) top.op top.kids rest seen t s' ws u.0 u.1 refl (w ∙ ap (λ l. l ++ []) u.4) u.2 u.3 o.0 o.1 x e

-- ---- where a node may stand

-- the first name of a part's node
abbrev First : Part → List ℕ → Type 0
First (Opening Union) w = w ≡ codes "union"
First (Opening Meet) w = w ≡ codes "intersection"
First (Opening Cut) w = w ≡ codes "difference"
First Moved w = w ≡ codes "translate"
First Placed w = w ≡ codes "multmatrix"
First (Closing form) w = ⊥

named : (w : List ℕ) (op : Op) → op_named w ≡ Some op → First (Opening op) w
named w op e =
    elim (either_is (bytes_eq w (codes "union")) _ _ (Some op) e) [
      | inl h ↦ let same : Union ≡ op = cc h.1 in subst (λ op. First (Opening op) w) same (same_text w _ h.0)
      | inr h ↦ elim (either_is (bytes_eq w (codes "intersection")) _ _ (Some op) h.1) [
        | inl k ↦ let same : Meet ≡ op = cc k.1 in subst (λ op. First (Opening op) w) same (same_text w _ k.0)
        | inr k ↦ elim (either_is (bytes_eq w (codes "difference")) _ _ (Some op) k.1) [
          | inl l ↦ let same : Cut ≡ op = cc l.1 in subst (λ op. First (Opening op) w) same (same_text w _ l.0)
          | inr l ↦ cc l.1
        ]
      ]
    ]

first-by : (w : List ℕ) (p : Part) (o : Option Op) → op_named w ≡ o → begins_by o w ≡ Some p → First p w
first-by w p (Some op) h e = let same : Opening op ≡ p = cc e in subst (λ p. First p w) same (named w op h)
first-by w p None h e =
    elim (either_is (bytes_eq w (codes "translate")) _ _ (Some p) e) [
      | inl k ↦ let same : Moved ≡ p = cc k.1 in subst (λ p. First p w) same (same_text w _ k.0)
      | inr k ↦ elim (either_is (bytes_eq w (codes "multmatrix")) _ _ (Some p) k.1) [
        | inl l ↦ let same : Placed ≡ p = cc l.1 in subst (λ p. First p w) same (same_text w _ l.0)
        | inr l ↦ cc l.1
      ]
    ]

entered-inside : (p : Part) (w : List ℕ) → First p w → Inside p (pattern p) [] (w ∷ [])
entered-inside (Opening Union) w e = record { came = codes "u"; joined = refl; plain_is = refl; count = refl; words_are = ap (λ w. w ∷ []) e }
entered-inside (Opening Meet) w e = record { came = codes "i"; joined = refl; plain_is = refl; count = refl; words_are = ap (λ w. w ∷ []) e }
entered-inside (Opening Cut) w e = record { came = codes "d"; joined = refl; plain_is = refl; count = refl; words_are = ap (λ w. w ∷ []) e }
entered-inside Moved w e = record { came = codes "t"; joined = refl; plain_is = refl; count = refl; words_are = ap (λ w. w ∷ []) e }
entered-inside Placed w e = record { came = codes "m"; joined = refl; plain_is = refl; count = refl; words_are = ap (λ w. w ∷ []) e }
entered-inside (Closing form) w e = absurd e

entered-stands : (p : Part) (stack : List Open) (seen : Option Bool) (t : AToken) (ws base : List (List ℕ)) → First p t.text → Room p (length stack) → ws ≡ base ++ [] → StackWords stack base → Opens seen stack
    → Stands (entered p stack seen t) (ws ++ t.text ∷ [])
entered-stands p stack seen t ws base f r w u o = record {
  base = base;
  sofar = t.text ∷ [];
  all = ap (λ l. l ++ t.text ∷ []) (w ∙ append-nil base);
  under = u;
  opens = o;
  here = (r, entered-inside p t.text f);
}

node-stands : (o : Option Part) (stack : List Open) (seen : Option Bool) (t : AToken) (s' : State) (ws base : List (List ℕ)) → begins t.text ≡ o → ws ≡ base ++ [] → StackWords stack base → Opens seen stack
    → at_node o stack seen t ≡ Ok s' → Stands s' (ws ++ t.text ∷ [])
node-stands None stack seen t s' ws base h w u o e =
    elim (either_is (bytes_eq t.text (codes "}")) _ _ (Ok s') e) [
      | inl k ↦ close-stands stack seen t s' ws base w u o (same_text t.text _ k.0) k.1
      | inr k ↦ cc k.1
    ]
node-stands (Some (Opening op)) stack seen t s' ws base h w u o e =
    elim (either_is (nat_lt (length stack) 64) _ _ (Ok s') e) [
      | inl k ↦ along (entered (Opening op) stack seen t) s' (ws ++ t.text ∷ []) k.1
          (entered-stands (Opening op) stack seen t ws base (first-by t.text (Opening op) (op_named t.text) refl h) (ltb-true (length stack) 64 k.0) w u o)
      | inr k ↦ cc k.1
    ]
node-stands (Some Moved) stack seen t s' ws base h w u o e =
    along (entered Moved stack seen t) s' (ws ++ t.text ∷ []) e (entered-stands Moved stack seen t ws base (first-by t.text Moved (op_named t.text) refl h) tt w u o)
node-stands (Some Placed) stack seen t s' ws base h w u o e =
    along (entered Placed stack seen t) s' (ws ++ t.text ∷ []) e (entered-stands Placed stack seen t ws base (first-by t.text Placed (op_named t.text) refl h) tt w u o)
node-stands (Some (Closing form)) stack seen t s' ws base h w u o e = absurd (first-by t.text (Closing form) (op_named t.text) refl h)

-- ---- a leaf is whole

abbrev kind_is : ALeaf → Option Bool
kind_is l = Some (is_solid_leaf l)

leaf-kind : (l : ALeaf) → KindOf (kind_is l) l
leaf-kind (leaves.Slab f) = tt
leaf-kind (leaves.Strip f) = tt
leaf-kind (leaves.Disc d) = tt
leaf-kind (leaves.Block b) = tt
leaf-kind (leaves.Tile b) = tt

long-spelled : (l : ALeaf) → spelled (lead (Closing (form_of l))) (numbers_of l) ≡ long_words l ++ codes ";" ∷ []
long-spelled (leaves.Slab f) = refl
long-spelled (leaves.Strip f) = refl
long-spelled (leaves.Disc d) = refl
long-spelled (leaves.Block b) = refl
long-spelled (leaves.Tile b) = refl

short-spelled : (l : ALeaf) → spelled (lead (Closing (short_form l))) (short_numbers l) ≡ short_words l ++ codes ";" ∷ []
short-spelled (leaves.Slab f) = refl
short-spelled (leaves.Strip f) = refl
short-spelled (leaves.Disc d) = refl
short-spelled (leaves.Block b) = refl
short-spelled (leaves.Tile b) = refl

-- the tokens of a leaf in the spelling in which its numbers came
leaf-spelled : (form : Form) (ns : List ℤ) (l : ALeaf) → Says form ns l → IsWords (leaf l) (spelled (lead (Closing form)) ns)
leaf-spelled form ns l (inl s) = (long_words l, inl refl, (λ i. spelled (lead (Closing (s.form_is i))) (s.numbers i)) ∙ long-spelled l)
leaf-spelled form ns l (inr s) = (short_words l, inr (s.axis, refl), (λ i. spelled (lead (Closing (s.form_is i))) (s.numbers i)) ∙ short-spelled l)

in-range : (form : Form) (ns : List ℤ) (l : ALeaf) → Says form ns l → IsLeaf l
in-range form ns l (inl s) = s.in_range
in-range form ns l (inr s) = s.in_range

not-mixed : (seen : Option Bool) (solid : Bool) → mixes seen solid ≡ false → (l : ALeaf) → KindOf seen l → KindOf (Some solid) l
not-mixed None solid e l k = absurd k
not-mixed (Some true) true e l k = k
not-mixed (Some true) false e l k = cc e
not-mixed (Some false) true e l k = cc e
not-mixed (Some false) false e l k = k

leaf-stands : (l : ALeaf) (form : Form) (ns : List ℤ) (f : Place) (stack : List Open) (seen : Option Bool) (s' : State) (ws base sofar : List (List ℕ)) → Says form ns l
    → ws ≡ base ++ sofar → StackWords stack base → sofar ≡ spelled (lead (Closing form)) ns → Opens seen stack → with_leaf (Some l) f stack seen ≡ Ok s' → Stands s' ws
leaf-stands l form ns f stack seen s' ws base sofar says w u h o e =
    elim (either_is (mixes seen (is_solid_leaf l)) _ _ (Ok s') e) [
      | inl k ↦ cc k.1
      | inr k ↦
          let few : length stack ≤ 64 = opens-few seen stack o in
          let fine : Fine (kind_is l) (length stack) (leaf l) = record { ranges = (in-range form ns l says, leaf-kind l); meets = tt; nested = omega arith } in
          let words_are : IsWords (shape (trees.Leaf l)) sofar =
          subst (λ s. IsWords s sofar) (sym (shape-Leaf l)) (subst (IsWords (leaf l)) (sym h) (leaf-spelled form ns l says)) in
          along (add (trees.Leaf l) stack (kind_is l)) s' ws k.1
          (added (trees.Leaf l) stack (kind_is l) ws base sofar w u words_are (subst (Fine (kind_is l) (length stack)) (sym (shape-Leaf l)) fine)
          (opens-map seen (kind_is l) (not-mixed seen (is_solid_leaf l) k.0) stack o))
    ]

leaf-by : (q : Option ALeaf) (form : Form) (ns : List ℤ) (f : Place) (stack : List Open) (seen : Option Bool) (s' : State) (ws base sofar : List (List ℕ)) → Tells q form ns
    → ws ≡ base ++ sofar → StackWords stack base → sofar ≡ spelled (lead (Closing form)) ns → Opens seen stack → with_leaf q f stack seen ≡ Ok s' → Stands s' ws
leaf-by None form ns f stack seen s' ws base sofar says w u h o e = cc e
leaf-by (Some l) form ns f stack seen s' ws base sofar says w u h o e = leaf-stands l form ns f stack seen s' ws base sofar says w u h o e

-- ---- inside a part

no-fine : (seen : Option Bool) (n : ℕ) → n < 64 → FineAll seen (suc n) none
no-fine seen n h = record { ranges = tt; meets = tt; nested = omega arith }

-- an opening has no number
opening-any : (op : Op) (ns : List ℤ) → spelled (lead (Opening op)) ns ≡ opening op
opening-any Union ns = refl
opening-any Meet ns = refl
opening-any Cut ns = refl

ended-stands : (p : Part) (ns : List ℤ) (f : Place) (stack : List Open) (seen : Option Bool) (s' : State) (ws base sofar : List (List ℕ)) → Room p (length stack) → Inside p [] ns sofar
    → ws ≡ base ++ sofar → StackWords stack base → Opens seen stack → ended_part p ns f stack seen ≡ Ok s' → Stands s' ws
ended-stands (Opening op) ns f stack seen s' ws base sofar r i w u o e =
    let came : i.came ≡ lead (Opening op) = sym (append-nil i.came) ∙ i.joined in
    let words_are : sofar ≡ opening op = i.words_are ∙ ap (λ bs. spelled bs ns) came ∙ opening-any op ns in
    along (record { stack = (record { op = op; kids = [] }) ∷ stack; seen = seen; at = node }) s' ws e (record {
      base = base ++ (opening op ++ []);
      sofar = [];
      all = w ∙ ap (λ l. base ++ l) (words_are ∙ sym (append-nil (opening op))) ∙ sym (append-nil (base ++ (opening op ++ [])));
      under = (base, [], u, refl, refl);
      opens = (no-fine seen (length stack) r, o);
      here = refl;
    })
ended-stands Moved ns f stack seen s' ws base sofar r i w u o e =
    along (record { stack = stack; seen = seen; at = inside Moved [] ns f }) s' ws e (record { base = base; sofar = sofar; all = w; under = u; opens = o; here = (tt, i) })
ended-stands Placed ns f stack seen s' ws base sofar r i w u o e =
    along (record { stack = stack; seen = seen; at = inside Placed [] ns f }) s' ws e (record { base = base; sofar = sofar; all = w; under = u; opens = o; here = (tt, i) })
ended-stands (Closing form) ns f stack seen s' ws base sofar r i w u o e =
    let came : i.came ≡ lead (Closing form) = sym (append-nil i.came) ∙ i.joined in
    leaf-by (leaf_of form ns) form ns f stack seen s' ws base sofar (leaf_tells form ns) w u (i.words_are ∙ ap (λ bs. spelled bs ns) came) o e

passed-stands : (p : Part) (wants : List ℕ) (ns : List ℤ) (f : Place) (stack : List Open) (seen : Option Bool) (s' : State) (ws base sofar : List (List ℕ)) → Room p (length stack) → Inside p wants ns sofar
    → ws ≡ base ++ sofar → StackWords stack base → Opens seen stack → passed p wants ns f stack seen ≡ Ok s' → Stands s' ws
passed-stands p [] ns f stack seen s' ws base sofar r i w u o e = ended-stands p ns f stack seen s' ws base sofar r i w u o e
passed-stands p (b ∷ wants) ns f stack seen s' ws base sofar r i w u o e =
    along (record { stack = stack; seen = seen; at = inside p (b ∷ wants) ns f }) s' ws e (record { base = base; sofar = sofar; all = w; under = u; opens = o; here = (r, i) })

moved-on : (p : Part) (b : ℕ) (wants came : List ℕ) → came ++ (b ∷ wants) ≡ lead p → (came ++ b ∷ []) ++ wants ≡ lead p
moved-on p b wants came e = append_assoc came (b ∷ []) wants ∙ e

word-inside : (p : Part) (b : ℕ) (wants : List ℕ) (ns : List ℤ) (sofar : List (List ℕ)) (w : List ℕ) → is_number_place b ≡ false → w ≡ word_of b → Inside p (b ∷ wants) ns sofar → Inside p wants ns (sofar ++ w ∷ [])
word-inside p b wants ns sofar w n e i =
    let h = plain-here b wants _ _ refl refl i.plain_is in
    record {
      came = i.came ++ b ∷ [];
      joined = moved-on p b wants i.came i.joined;
      plain_is = h.1;
      count = i.count ∙ sym (places-word i.came b n);
      words_are = (λ j. i.words_are j ++ (e ∙ sym h.0) j ∷ []) ∙ sym (spelled-word i.came ns b n);
    }

number-inside : (p : Part) (b : ℕ) (wants : List ℕ) (ns : List ℤ) (sofar : List (List ℕ)) (w : List ℕ) (z : ℤ) → is_number_place b ≡ true → w ≡ signed_decimal z → Inside p (b ∷ wants) ns sofar
    → Inside p wants (ns ++ z ∷ []) (sofar ++ w ∷ [])
number-inside p b wants ns sofar w z n e i =
    let h = plain-here b wants _ _ refl refl i.plain_is in
    let more : length (ns ++ z ∷ []) ≡ suc (length ns) = length-append ns (z ∷ []) ∙ omega arith in
    record {
      came = i.came ++ b ∷ [];
      joined = moved-on p b wants i.came i.joined;
      plain_is = h.1;
      count = more ∙ ap suc i.count ∙ sym (places-number i.came b n);
      words_are = (λ j. i.words_are j ++ e j ∷ []) ∙ sym (spelled-number i.came ns b z n i.count);
    }

-- the name of a shape
abbrev pub Shaped : Part → Form → List ℕ → Type 0
Shaped Moved Block w = w ≡ codes "cube"
Shaped Moved Tile w = w ≡ codes "square"
Shaped Moved Disc w = w ≡ codes "circle"
Shaped Placed Slab w = w ≡ codes "cube"
Shaped Placed Strip w = w ≡ codes "square"
Shaped _ _ w = ⊥

pub shaped : (p : Part) (w : List ℕ) (form : Form) → chosen p w ≡ Some form → Shaped p form w
shaped (Opening op) w form e = cc e
shaped (Closing g) w form e = cc e
shaped Moved w form e =
    elim (either_is (bytes_eq w (codes "cube")) _ _ (Some form) e) [
      | inl h ↦ let same : Block ≡ form = cc h.1 in subst (λ f. Shaped Moved f w) same (same_text w _ h.0)
      | inr h ↦ elim (either_is (bytes_eq w (codes "square")) _ _ (Some form) h.1) [
        | inl k ↦ let same : Tile ≡ form = cc k.1 in subst (λ f. Shaped Moved f w) same (same_text w _ k.0)
        | inr k ↦ elim (either_is (bytes_eq w (codes "circle")) _ _ (Some form) k.1) [
          | inl l ↦ let same : Disc ≡ form = cc l.1 in subst (λ f. Shaped Moved f w) same (same_text w _ l.0)
          | inr l ↦ cc l.1
        ]
      ]
    ]
shaped Placed w form e =
    elim (either_is (bytes_eq w (codes "cube")) _ _ (Some form) e) [
      | inl h ↦ let same : Slab ≡ form = cc h.1 in subst (λ f. Shaped Placed f w) same (same_text w _ h.0)
      | inr h ↦ elim (either_is (bytes_eq w (codes "square")) _ _ (Some form) h.1) [
        | inl k ↦ let same : Strip ≡ form = cc k.1 in subst (λ f. Shaped Placed f w) same (same_text w _ k.0)
        | inr k ↦ cc k.1
      ]
    ]

-- b stands for the name w, and the pattern of p with it goes on to that of the form
shape-by : (p : Part) (form : Form) (b : ℕ) (ns : List ℤ) (sofar : List (List ℕ)) (w : List ℕ) → is_number_place b ≡ false → (lead p ++ b ∷ []) ++ pattern (Closing form) ≡ lead (Closing form)
    → plain (pattern (Closing form)) ≡ true → w ≡ word_at b → Inside p [] ns sofar → Inside (Closing form) (pattern (Closing form)) ns (sofar ++ w ∷ [])
shape-by p form b ns sofar w n j q e i =
    let came : i.came ≡ lead p = sym (append-nil i.came) ∙ i.joined in
    record {
      came = lead p ++ b ∷ [];
      joined = j;
      plain_is = q;
      count = i.count ∙ ap places came ∙ sym (places-word (lead p) b n);
      words_are = (λ k. (i.words_are ∙ ap (λ bs. spelled bs ns) came) k ++ e k ∷ []) ∙ sym (spelled-word (lead p) ns b n);
    }

shape-inside : (p : Part) (form : Form) (ns : List ℤ) (sofar : List (List ℕ)) (w : List ℕ) → Shaped p form w → Inside p [] ns sofar → Inside (Closing form) (pattern (Closing form)) ns (sofar ++ w ∷ [])
shape-inside Moved Block ns sofar w e i = shape-by Moved Block 99 ns sofar w refl refl refl e i
shape-inside Moved Tile ns sofar w e i = shape-by Moved Tile 113 ns sofar w refl refl refl e i
shape-inside Moved Disc ns sofar w e i = shape-by Moved Disc 111 ns sofar w refl refl refl e i
shape-inside Moved Slab ns sofar w e i = absurd e
shape-inside Moved Strip ns sofar w e i = absurd e
shape-inside Placed Slab ns sofar w e i = shape-by Placed Slab 99 ns sofar w refl refl refl e i
shape-inside Placed Strip ns sofar w e i = shape-by Placed Strip 113 ns sofar w refl refl refl e i
shape-inside Placed Block ns sofar w e i = absurd e
shape-inside Placed Tile ns sofar w e i = absurd e
shape-inside Placed Disc ns sofar w e i = absurd e
shape-inside (Opening op) form ns sofar w e i = absurd e
shape-inside (Closing g) form ns sofar w e i = absurd e

longer : (ws base sofar : List (List ℕ)) (w : List ℕ) → ws ≡ base ++ sofar → ws ++ w ∷ [] ≡ base ++ (sofar ++ w ∷ [])
longer ws base sofar w e = ap (λ l. l ++ w ∷ []) e ∙ append_assoc base sofar (w ∷ [])

shape-stands : (q : Option Form) (p : Part) (ns : List ℤ) (f : Place) (stack : List Open) (seen : Option Bool) (t : AToken) (s' : State) (ws base sofar : List (List ℕ)) → chosen p t.text ≡ q
    → Inside p [] ns sofar → ws ≡ base ++ sofar → StackWords stack base → Opens seen stack → at_shape q ns f stack seen t ≡ Ok s' → Stands s' (ws ++ t.text ∷ [])
shape-stands None p ns f stack seen t s' ws base sofar h i w u o e = cc e
shape-stands (Some form) p ns f stack seen t s' ws base sofar h i w u o e =
    along (record { stack = stack; seen = seen; at = inside (Closing form) (pattern (Closing form)) ns f }) s' (ws ++ t.text ∷ []) e
    (record { base = base; sofar = sofar ++ t.text ∷ []; all = longer ws base sofar t.text w; under = u; opens = o; here = (tt, shape-inside p form ns sofar t.text (shaped p t.text form h) i) })

number-stands : (q : Option ℤ) (p : Part) (b : ℕ) (wants : List ℕ) (ns : List ℤ) (f : Place) (stack : List Open) (seen : Option Bool) (t : AToken) (s' : State) (ws base sofar : List (List ℕ)) → value_of t.text ≡ q
    → is_number_place b ≡ true → Room p (length stack) → Inside p (b ∷ wants) ns sofar → ws ≡ base ++ sofar → StackWords stack base → Opens seen stack → at_number q p wants ns f stack seen t ≡ Ok s'
    → Stands s' (ws ++ t.text ∷ [])
number-stands None p b wants ns f stack seen t s' ws base sofar h n r i w u o e = cc e
number-stands (Some z) p b wants ns f stack seen t s' ws base sofar h n r i w u o e =
    passed-stands p wants (ns ++ z ∷ []) f stack seen s' (ws ++ t.text ∷ []) base (sofar ++ t.text ∷ []) r (number-inside p b wants ns sofar t.text z n (value-is t.text z h) i) (longer ws base sofar t.text w) u o e

want-stands : (p : Part) (wants : List ℕ) (ns : List ℤ) (f : Place) (stack : List Open) (seen : Option Bool) (t : AToken) (s' : State) (ws base sofar : List (List ℕ)) → Room p (length stack) → Inside p wants ns sofar
    → ws ≡ base ++ sofar → StackWords stack base → Opens seen stack → at_want p wants ns f stack seen t ≡ Ok s' → Stands s' (ws ++ t.text ∷ [])
want-stands p [] ns f stack seen t s' ws base sofar r i w u o e = shape-stands (chosen p t.text) p ns f stack seen t s' ws base sofar refl i w u o e
want-stands p (b ∷ wants) ns f stack seen t s' ws base sofar r i w u o e =
    elim (either_is (is_number_place b) _ _ (Ok s') e) [
      | inl h ↦ elim (either_is (is_numeral t.text) _ _ (Ok s') h.1) [
        | inl k ↦ number-stands (value_of t.text) p b wants ns f stack seen t s' ws base sofar refl h.0 r i w u o k.1
        | inr k ↦ cc k.1
      ]
      | inr h ↦ elim (either_is (bytes_eq t.text (word_of b)) _ _ (Ok s') h.1) [
        | inl k ↦ passed-stands p wants ns f stack seen s' (ws ++ t.text ∷ []) base (sofar ++ t.text ∷ []) r (word-inside p b wants ns sofar t.text h.0 (same_text t.text _ k.0) i) (longer ws base sofar t.text w) u o k.1
        | inr k ↦ cc k.1
      ]
    ]

-- ---- whole texts

step-stands : (at : At) (stack : List Open) (seen : Option Bool) (t : AToken) (s' : State) (ws base sofar : List (List ℕ)) → ws ≡ base ++ sofar → StackWords stack base → Opens seen stack → StandsAt stack seen at sofar
    → step_at at stack seen t ≡ Ok s' → Stands s' (ws ++ t.text ∷ [])
step-stands node stack seen t s' ws base sofar w u o h e = node-stands (begins t.text) stack seen t s' ws base refl (w ∙ ap (λ l. base ++ l) h) u o e
step-stands (inside p wants ns f) stack seen t s' ws base sofar w u o h e = want-stands p wants ns f stack seen t s' ws base sofar h.0 h.1 w u o e
step-stands (whole x) stack seen t s' ws base sofar w u o h e = cc e

-- from the start on
pub at-start : Stands start []
at-start = record { base = []; sofar = []; all = refl; under = refl; opens = tt; here = refl }

pub stands-on : (s : State) (t : AToken) (s' : State) (ws : List (List ℕ)) → Stands s ws → step s t ≡ Ok s' → Stands s' (ws ++ t.text ∷ [])
stands-on s t s' ws h e = step-stands s.at s.stack s.seen t s' ws h.base h.sofar h.all h.under h.opens h.here e

record Whole (t : Tree) (ws : List (List ℕ)) : Type 0 where
  words_are : IsWords (shape t) ws
  seen : Option Bool
  fine : Fine seen 0 (shape t)

end-whole : (e : ℕ) (at : At) (n : ℕ) (stack : List Open) (seen : Option Bool) (t : Tree) (ws base sofar : List (List ℕ)) → ws ≡ base ++ sofar → StackWords stack base → StandsAt stack seen at sofar → finish e at n ≡ Ok t → Whole t ws
end-whole e node n stack seen t ws base sofar w u h f = cc f
end-whole e (inside p wants ns g) n stack seen t ws base sofar w u h f = cc f
end-whole e (whole x) n stack seen t ws base sofar w u h f =
    let same : x ≡ t = cc f in
    let none_open : base ≡ [] = subst (λ st. StackWords st base) h.0 u in
    let bare : ws ≡ sofar = w ∙ ap (λ l. l ++ sofar) none_open in
    record { words_are = subst (λ x. IsWords (shape x) ws) same (subst (IsWords (shape x)) (sym bare) h.1); seen = seen; fine = subst (λ x. Fine seen 0 (shape x)) same h.2 }

bind_ok : (r : Result State CsgFault) (f : State → Result Tree CsgFault) (t : Tree) → (r >>= f) ≡ Ok t → (s : State) × (r ≡ Ok s) × (f s ≡ Ok t)
bind_ok (Ok s) f t e = (s, refl, e)
bind_ok (Err d) f t e = cc e

record Read (t : Tree) (st : Stream) (ws : List (List ℕ)) : Type 0 where
  us : List (List ℕ)
  rest : texts st ≡ Some us
  whole_is : Whole t (ws ++ us)

run-stands : (e : ℕ) (s : State) (st : Stream) (t : Tree) (ws : List (List ℕ)) → Stands s ws → run e s st ≡ Ok t → Read t st ws
run-stands e s (ended n) t ws h r =
    let w = end-whole e s.at n s.stack s.seen t ws h.base h.sofar h.all h.under h.here r in
    record { us = []; rest = refl; whole_is = subst (Whole t) (sym (append-nil ws)) w }
run-stands e s (broken line n) t ws h r = cc r
run-stands e s (token a rest) t ws h r =
    let b = bind_ok (step s a) (λ next. run e next rest) t r in
    let k = stands-on s a b.0 ws h b.1 in
    let m = run-stands e b.0 rest t (ws ++ a.text ∷ []) k b.2 in
    record { us = a.text ∷ m.us; rest = ap (cons a.text) m.rest; whole_is = subst (Whole t) (append_assoc ws (a.text ∷ []) m.us) m.whole_is }

kind-of : (seen : Option Bool) (s : Shape) → AllLeaves (IsOk seen) s → AllLeaves IsFlat s ⊎ AllLeaves IsSpaceLeaf s
kind-of None s h = inl (all-map (λ l k. absurd k.1) s h)
kind-of (Some true) s h = inr (all-map (λ l k. k.1) s h)
kind-of (Some false) s h = inl (all-map (λ l k. k.1) s h)

-- what is read from a state on has the tokens that led to the state, and then those that were read
pub record Reached (t : Tree) (st : Stream) (ws : List (List ℕ)) : Type 0 where
  pub us : List (List ℕ)
  pub rest : texts st ≡ Some us
  pub words_are : IsWords (shape t) (ws ++ us)
  pub allowed : IsAllowed (shape t)

pub reached : (e : ℕ) (s : State) (st : Stream) (t : Tree) (ws : List (List ℕ)) → Stands s ws → run e s st ≡ Ok t → Reached t st ws
reached e s st t ws h r =
    let m = run-stands e s st t ws h r in
    let w = m.whole_is in
    let f = w.fine in
    let deep : depth (shape t) + 0 ≤ 64 = f.nested in
    record {
      us = m.us;
      rest = m.rest;
      words_are = w.words_are;
      allowed = record {
        ranges = all-map (λ l k. k.0) (shape t) f.ranges;
        nested = omega arith;
        meets = f.meets;
        kind = kind-of w.seen (shape t) f.ranges;
      };
    }

pub read_is_spelled : ReadIsSpelled
read_is_spelled text t e =
    let m = reached (end_line text) start (stream text) t [] at-start e in
    record { words = m.us; tokens = sym (stream_is_tokens text) ∙ m.rest; spelled = m.words_are; allowed = m.allowed }

pub reads : (text : List ℕ) (r : Result Tree CsgFault) → Gives r (reading_of text) → Reads r text
reads text (Ok t) g = read_is_spelled text t g
reads text (Err Memory) g = tt
reads text (Err f) g = g

pub reads_err : (f : CsgFault) (text : List ℕ) → Gives (Err f) (reading_of text) → Reads (Err f) text
reads_err f text g = reads text (Err f) g

-- a tree or a fault
tree_or_fault : (text : List ℕ) (r : Result Tree CsgFault) → reading_of text ≡ r → ((s : Shape) × Spells text s) ⊎ ((f : CsgFault) × FirstFault text f)
tree_or_fault text (Ok t) e = inl (shape t, read_is_spelled text t e)
tree_or_fault text (Err f) e = inr (f, e)

pub has_tree_or_fault : HasTreeOrFault
has_tree_or_fault text = tree_or_fault text (reading_of text) refl
