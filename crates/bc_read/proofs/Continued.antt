-- Tokens without a fault go on to a tree: a pattern is completed with the numbers of a leaf or with zeros, a leaf is put where a
-- node may stand, and the operators are ended.
use Rattle.std.proofs.Common.{◌≡◌, inl, inr, ◌+◌, ◌≤◌, ℕ, zero, suc, Bool, true, false, not, ◌&&◌, ◌||◌, nat_eq, nat_lt, List, [], ◌∷◌, ◌++◌, length, length-append, drop, Option, None, Some, Result, Ok, Err, codes, bytes_eq, refl, sym, ap, ◌∙◌, subst, append_assoc, append-nil, if◌then◌else◌, eqb-true, arith}
use Rattle.std.proofs.lemmas.Bool.{and_parts}
use Rattle.std.specs.Prelude.{ℤ, pos, map}
use Rattle.std.specs.Fmt.{signed_decimal, digits}
use Rattle.bc_algebra.specs.Within.{IsWithin}
use Rattle.bc_num.specs.Tokens.{is_digit, is_letter, is_mark, is_word, is_blank, front as longest, bad, free, item, piece, no_digit, after_minus, after_slash, behind as behind_piece, put_piece, tokens_behind}
use Rattle.bc_lex.specs.Tokens.{AToken}
use Rattle.bc_lex.specs.Stream.{Stream, ended, broken, token, stream}
use Rattle.bc_lex.proofs.TokenStreams.{stream_is_tokens}
use Rattle.bc_tree.specs.Decided.{is_solid_leaf}
use Rattle.bc_tree.specs.declared.tree.Leaf.{Leaf as ALeaf}
use Rattle.bc_tree.specs.declared.tree.Leaf.TheVariants as leaves
use Rattle.bc_tree.specs.declared.tree.Tree.{Tree}
use Rattle.bc_tree.specs.declared.tree.Tree.TheVariants as trees
use Rattle.bc_tree.specs.Leaves.{IsLeaf}
use Rattle.bc_tree.specs.Shape.{shape}
use Rattle.bc_tree.specs.Words.{long_words}
use Rattle.bc_text.proofs.Pieces.{Closed, both, nothing, number, whole as closed_whole}
use Rattle.bc_read.specs.declared.part.Op.{Op}
use Rattle.bc_read.specs.declared.part.Op.TheVariants.{Union, Meet, Cut}
use Rattle.bc_read.specs.declared.part.Form.{Form}
use Rattle.bc_read.specs.declared.part.Form.TheVariants.{Slab, Strip, Disc, Block, Tile}
use Rattle.bc_read.specs.declared.part.Part.{Part}
use Rattle.bc_read.specs.declared.part.Part.TheVariants.{Opening, Moved, Placed, Closing}
use Rattle.bc_read.specs.declared.reading.Place.{Place}
use Rattle.bc_read.specs.declared.reading.Open.{Open}
use Rattle.bc_read.specs.declared.fault.CsgFault.{CsgFault}
use Rattle.bc_read.specs.declared.fault.CsgFault.TheVariants.{Mixed}
use Rattle.bc_read.specs.Table.{pattern, is_number_place, word_of, begins, chosen}
use Rattle.bc_read.specs.Numbers.{is_numeral, value_of}
use Rattle.bc_read.specs.Leaves.{form_of, numbers_of, short_form, short_numbers, Says, leaf_of}
use Rattle.bc_read.specs.Machine.{At, node, inside, whole, State, start, add, tree_of_kids, closed, close, at_node, mixes, with_leaf, ended_part, passed, at_number, at_shape, at_want, step_at, step, run, end_line, ◌>>=◌}
use Rattle.bc_read.specs.Laws.{behind, BeginTree, IsUpToLeaf, LeafGoesOn, MayBe, IsBegun, LeafBegins, GoesOnAt, FrontGoesOn}
use Rattle.bc_read.proofs.Patterns.{lead, places}
use Rattle.bc_read.proofs.Seen.{reached, Inside, StandsAt, Stands, Shaped, shaped, same-ok, at-start, stands-on}
use Rattle.bc_read.proofs.Spelled.{Comes, comes, Near, nodes, ins, opens, step-number, step-word, near-0, says-near, leaf-ends, semi, long-to, close-to, ends}

-- ---- the ends of operators

abbrev end_bytes : ℕ → List ℕ
end_bytes zero = []
end_bytes (suc n) = 125 ∷ end_bytes n

abbrev end_words : ℕ → List (List ℕ)
end_words zero = []
end_words (suc n) = codes "}" ∷ end_words n

an-end : Closed (codes "}") (codes "}" ∷ [])
an-end = record { is = λ rest. refl }

all-ends : (n : ℕ) → Closed (end_bytes n) (end_words n)
all-ends zero = nothing
all-ends (suc n) = both {xs = codes "}"} {ts = codes "}" ∷ []} an-end (all-ends n)

-- an operator with a child has a tree
record Made (op : Op) (kids : List Tree) : Type 0 where
  tree : Tree
  is : tree_of_kids op kids ≡ Some tree

made : (op : Op) (kids : List Tree) (t : Tree) → Made op (kids ++ t ∷ [])
made Union kids t = record { tree = trees.Union (kids ++ t ∷ []); is = refl }
made Meet [] t = record { tree = trees.Meet (t ∷ []); is = refl }
made Meet (k ∷ kids) t = record { tree = trees.Meet (k ∷ (kids ++ t ∷ [])); is = refl }
made Cut [] t = record { tree = trees.Cut t []; is = refl }
made Cut (k ∷ kids) t = record { tree = trees.Cut k (kids ++ t ∷ []); is = refl }

-- with the tokens of some text behind it a tree is read
abbrev GoesOn : State → Type 0
GoesOn s = (more : List ℕ) × (t : Tree) × (run (end_line more) s (stream more) ≡ Ok t)

-- from here on a tree is read
record GivesTree (e : ℕ) (s : State) (st : Stream) : Type 0 where
  tree : Tree
  is : run e s st ≡ Ok tree

-- behind a whole tree the open operators are ended
all-closed : (stack : List Open) (t : Tree) (seen : Option Bool) (e : ℕ) (st : Stream) → Comes st (end_words (length stack)) → GivesTree e (add t stack seen) st
all-closed [] t seen e st r = record { tree = t; is = ends e t seen st r }
all-closed (top ∷ rest) t seen e st r =
    let m = made top.op top.kids t in
    let a = close-to top.op (top.kids ++ t ∷ []) m.tree rest seen m.is e st (end_words (length rest)) r in
    let b = all-closed rest m.tree seen e a.rest a.left in
    record { tree = b.tree; is = a.same ∙ b.is }

-- ---- a leaf of the kind of those before it

abbrev a_tile : ALeaf
a_tile = leaves.Tile (record { x0 = pos 0; y0 = pos 0; x1 = pos 1; y1 = pos 1; wide = record { lt = tt }; high = record { lt = tt } })

abbrev a_block : ALeaf
a_block = leaves.Block (record { x0 = pos 0; y0 = pos 0; z0 = pos 0; x1 = pos 1; y1 = pos 1; z1 = pos 1; wide = record { lt = tt }; deep = record { lt = tt }; high = record { lt = tt } })

tile-range : IsLeaf a_tile
tile-range = record {
  corner_x = record { within = omega arith };
  corner_y = record { within = omega arith };
  side_x = record { least = record { le = tt }; most = record { le = tt } };
  side_y = record { least = record { le = tt }; most = record { le = tt } };
}

block-range : IsLeaf a_block
block-range = record {
  corner_x = record { within = omega arith };
  corner_y = record { within = omega arith };
  corner_z = record { within = omega arith };
  side_x = record { least = record { le = tt }; most = record { le = tt } };
  side_y = record { least = record { le = tt }; most = record { le = tt } };
  side_z = record { least = record { le = tt }; most = record { le = tt } };
}

-- its bytes, and that it may stand here
record Fitting (seen : Option Bool) : Type 0 where
  one : ALeaf
  bytes : List ℕ
  is_leaf : IsLeaf one
  unmixed : mixes seen (is_solid_leaf one) ≡ false
  tokens : Closed bytes (semi (long_words one))

tile-closed : Closed (codes "translate([0,0,0])square([1,1]);") (semi (long_words a_tile))
unfolding digits
tile-closed = record { is = λ rest. refl }

block-closed : Closed (codes "translate([0,0,0])cube([1,1,1]);") (semi (long_words a_block))
unfolding digits
block-closed = record { is = λ rest. refl }

fitting : (seen : Option Bool) → Fitting seen
fitting None = record { one = a_tile; bytes = codes "translate([0,0,0])square([1,1]);"; is_leaf = tile-range; unmixed = refl; tokens = tile-closed }
fitting (Some false) = record { one = a_tile; bytes = codes "translate([0,0,0])square([1,1]);"; is_leaf = tile-range; unmixed = refl; tokens = tile-closed }
fitting (Some true) = record { one = a_block; bytes = codes "translate([0,0,0])cube([1,1,1]);"; is_leaf = block-range; unmixed = refl; tokens = block-closed }

-- where a node may stand: this leaf, and then the ends of the open operators
abbrev node_bytes : List Open → Option Bool → List ℕ
node_bytes stack seen = (fitting seen).bytes ++ end_bytes (length stack)

abbrev node_words : List Open → Option Bool → List (List ℕ)
node_words stack seen = semi (long_words (fitting seen).one) ++ end_words (length stack)

node-closed : (stack : List Open) (seen : Option Bool) → Closed (node_bytes stack seen) (node_words stack seen)
node-closed stack seen = both (fitting seen).tokens (all-ends (length stack))

node-on : (stack : List Open) (seen : Option Bool) (e : ℕ) (st : Stream) → Comes st (node_words stack seen) → GivesTree e (nodes stack seen) st
node-on stack seen e st r =
    let l = fitting seen in
    let a = long-to l.one l.is_leaf stack seen l.unmixed e st (end_words (length stack)) r in
    let b = all-closed stack (trees.Leaf l.one) (Some (is_solid_leaf l.one)) e a.rest a.left in
    record { tree = b.tree; is = a.same ∙ b.is }

-- ---- patterns with some numbers, and 0 where there are no more

abbrev next_number : List ℤ → ℤ
next_number [] = pos 0
next_number (z ∷ zs) = z

abbrev word_for : ℕ → List ℤ → List ℕ
word_for b ms = if is_number_place b then signed_decimal (next_number ms) else word_of b

abbrev number_for : ℕ → List ℤ → List ℤ
number_for b ms = if is_number_place b then next_number ms ∷ [] else []

abbrev left_for : ℕ → List ℤ → List ℤ
left_for b ms = if is_number_place b then drop 1 ms else ms

abbrev fill_words : List ℕ → List ℤ → List (List ℕ)
fill_words [] ms = []
fill_words (b ∷ bs) ms = word_for b ms ∷ fill_words bs (left_for b ms)

-- a blank behind each token
abbrev fill_bytes : List ℕ → List ℤ → List ℕ
fill_bytes [] ms = []
fill_bytes (b ∷ bs) ms = (word_for b ms ++ 32 ∷ []) ++ fill_bytes bs (left_for b ms)

-- the numbers that are said, and those that are left
abbrev fill_numbers : List ℕ → List ℤ → List ℤ
fill_numbers [] ms = []
fill_numbers (b ∷ bs) ms = number_for b ms ++ fill_numbers bs (left_for b ms)

abbrev fill_left : List ℕ → List ℤ → List ℤ
fill_left [] ms = ms
fill_left (b ∷ bs) ms = fill_left bs (left_for b ms)

-- a byte that begins no name and no number
abbrev is_only_mark : ℕ → Bool
is_only_mark b = not (is_digit b) && (not (nat_eq b 45) && (not (is_letter b) && is_mark b))

-- a byte that may stand in a pattern: `#`, `s`, `t`, `r` or a mark
abbrev fits : ℕ → Bool
fits b = is_number_place b || (nat_eq b 115 || (nat_eq b 116 || (nat_eq b 114 || is_only_mark b)))

abbrev all_fit : List ℕ → Bool
all_fit [] = true
all_fit (b ∷ bs) = fits b && all_fit bs

not-true : (c : Bool) → not c ≡ true → c ≡ false
not-true true e = cc e
not-true false e = refl

mark-closed : (b : ℕ) → is_only_mark b ≡ true → Closed (b ∷ 32 ∷ []) ((b ∷ []) ∷ [])
mark-closed b h =
    let p = and_parts (not (is_digit b)) (not (nat_eq b 45) && (not (is_letter b) && is_mark b)) h in
    let q = and_parts (not (nat_eq b 45)) (not (is_letter b) && is_mark b) p.1 in
    let r = and_parts (not (is_letter b)) (is_mark b) q.1 in
    record {
      is = λ rest.
          let bs : List ℕ = 32 ∷ rest in
          let is_item : piece b bs ≡ item [] =
          ap (λ c. if c then item (longest is_digit bs) else no_digit b bs) (not-true (is_digit b) p.0)
          ∙ ap (λ c. if c then after_minus (longest is_digit bs) else (if is_letter b then item (longest is_word bs) else (if is_mark b then item [] else (if is_blank b then free [] else (if nat_eq b 47 then after_slash bs else bad))))) (not-true (nat_eq b 45) q.0)
          ∙ ap (λ c. if c then item (longest is_word bs) else (if is_mark b then item [] else (if is_blank b then free [] else (if nat_eq b 47 then after_slash bs else bad)))) (not-true (is_letter b) r.0)
          ∙ ap (λ c. if c then item [] else (if is_blank b then free [] else (if nat_eq b 47 then after_slash bs else bad))) r.1 in
          ap (λ p. put_piece p b (tokens_behind (behind_piece p) bs)) is_item;
    }

own-closed : (b : ℕ) (c : Bool) → nat_eq b 114 ≡ c → (c || is_only_mark b) ≡ true → Closed (b ∷ 32 ∷ []) ((b ∷ []) ∷ [])
own-closed b true e h = subst (λ b. Closed (b ∷ 32 ∷ []) ((b ∷ []) ∷ [])) (sym (eqb-true b 114 e)) (record { is = λ rest. refl })
own-closed b false e h = mark-closed b h

blank-closed : Closed (32 ∷ []) []
blank-closed = record { is = λ rest. refl }

fit-by : (b : ℕ) (z : ℤ) (c d f : Bool) → (c || (d || (f || (nat_eq b 114 || is_only_mark b)))) ≡ true
    → Closed ((if c then signed_decimal z else (if d then codes "sqrt" else (if f then codes "translate" else b ∷ []))) ++ 32 ∷ []) ((if c then signed_decimal z else (if d then codes "sqrt" else (if f then codes "translate" else b ∷ []))) ∷ [])
fit-by b z true d f h = number z 32 refl blank-closed
fit-by b z false true f h = record { is = λ rest. refl }
fit-by b z false false true h = record { is = λ rest. refl }
fit-by b z false false false h = own-closed b (nat_eq b 114) refl h

fill-closed : (bs : List ℕ) (ms : List ℤ) → all_fit bs ≡ true → Closed (fill_bytes bs ms) (fill_words bs ms)
fill-closed [] ms h = nothing
fill-closed (b ∷ bs) ms h =
    let k = and_parts (fits b) (all_fit bs) h in
    both {xs = word_for b ms ++ 32 ∷ []} {ts = word_for b ms ∷ []} (fit-by b (next_number ms) (is_number_place b) (nat_eq b 115) (nat_eq b 116) k.0) (fill-closed bs (left_for b ms) k.1)

-- as many numbers are said as the pattern has places
count-by : (c : Bool) (z : ℤ) (zs : List ℤ) (n : ℕ) → length zs ≡ n → length ((if c then z ∷ [] else []) ++ zs) ≡ (if c then suc n else n)
count-by true z zs n e = ap suc e
count-by false z zs n e = e

fill-count : (bs : List ℕ) (ms : List ℤ) → length (fill_numbers bs ms) ≡ places bs
fill-count [] ms = refl
fill-count (b ∷ bs) ms = count-by (is_number_place b) (next_number ms) (fill_numbers bs (left_for b ms)) (places bs) (fill-count bs (left_for b ms))

-- where there are enough, they are the first of those given
abbrev Splits : List ℕ → Type 0
Splits bs = (ms : List ℤ) → places bs ≤ length ms → fill_numbers bs ms ++ fill_left bs ms ≡ ms

splits-by : (bs : List ℕ) (c : Bool) → Splits bs → (ms : List ℤ) → (if c then suc (places bs) else places bs) ≤ length ms
    → ((if c then next_number ms ∷ [] else []) ++ fill_numbers bs (if c then drop 1 ms else ms)) ++ fill_left bs (if c then drop 1 ms else ms) ≡ ms
splits-by bs true h [] e = absurd (omega arith)
splits-by bs true h (z ∷ ms) e = ap (λ l. z ∷ l) (h ms (omega arith))
splits-by bs false h ms e = h ms e

fill-splits : (bs : List ℕ) → Splits bs
fill-splits [] ms e = refl
fill-splits (b ∷ bs) ms e = splits-by bs (is_number_place b) (fill-splits bs) ms e

none-of : (l : List ℤ) → length l ≡ 0 → l ≡ []
none-of [] e = refl
none-of (z ∷ zs) e = cc e

fill-all : (bs : List ℕ) (ms : List ℤ) → length ms ≡ places bs → fill_numbers bs ms ≡ ms
fill-all bs ms e =
    let k = fill-splits bs ms (omega arith) in
    let count : length (fill_numbers bs ms) + length (fill_left bs ms) ≡ length ms = sym (length-append (fill_numbers bs ms) (fill_left bs ms)) ∙ ap length k in
    let same : length (fill_numbers bs ms) ≡ places bs = fill-count bs ms in
    sym (append-nil (fill_numbers bs ms)) ∙ ap (λ l. fill_numbers bs ms ++ l) (sym (none-of (fill_left bs ms) (omega arith))) ∙ k

-- of two patterns, one behind the other
fill-both : (bs cs : List ℕ) (ms : List ℤ) → length ms ≡ places bs + places cs → fill_numbers bs ms ++ fill_numbers cs (fill_left bs ms) ≡ ms
fill-both bs cs ms e =
    let k = fill-splits bs ms (omega arith) in
    let count : length (fill_numbers bs ms) + length (fill_left bs ms) ≡ length ms = sym (length-append (fill_numbers bs ms) (fill_left bs ms)) ∙ ap length k in
    let same : length (fill_numbers bs ms) ≡ places bs = fill-count bs ms in
    ap (λ l. fill_numbers bs ms ++ l) (fill-all cs (fill_left bs ms) (omega arith)) ∙ k

near-next : (ms : List ℤ) → Near ms → IsWithin 8388607 (next_number ms)
near-next [] h = near-0
near-next (z ∷ zs) h = h.0

near-left : (c : Bool) (ms : List ℤ) → Near ms → Near (if c then drop 1 ms else ms)
near-left true [] h = tt
near-left true (z ∷ zs) h = h.1
near-left false ms h = h

near-all-left : (bs : List ℕ) (ms : List ℤ) → Near ms → Near (fill_left bs ms)
near-all-left [] ms h = h
near-all-left (b ∷ bs) ms h = near-all-left bs (left_for b ms) (near-left (is_number_place b) ms h)

near-behind : (ns ms : List ℤ) → Near (ns ++ ms) → Near ms
near-behind [] ms h = h
near-behind (n ∷ ns) ms h = near-behind ns ms h.1

-- the first token, and what is left
record Headed (st : Stream) (w : List ℕ) (more : List (List ℕ)) : Type 0 where
  at : AToken
  rest : Stream
  is : st ≡ token at rest
  text_is : at.text ≡ w
  left : Comes rest more

headed : (st : Stream) (w : List ℕ) (more : List (List ℕ)) → Comes st (w ∷ more) → Headed st w more
headed (ended n) w more r = absurd r
headed (broken l n) w more r = absurd r
headed (token a rest) w more r = record { at = a; rest = rest; is = refl; text_is = r.0; left = r.1 }

step-by : (c : Bool) (p : Part) (b : ℕ) (wants : List ℕ) (ns ms : List ℤ) (f : Place) (stack : List Open) (seen : Option Bool) (t : AToken) → Near ms → is_number_place b ≡ c
    → t.text ≡ (if c then signed_decimal (next_number ms) else word_of b) → step (ins p (b ∷ wants) ns f stack seen) t ≡ passed p wants (ns ++ (if c then next_number ms ∷ [] else [])) f stack seen
step-by true p b wants ns ms f stack seen t h n e = step-number p b wants ns f stack seen t (next_number ms) n (near-next ms h) e
step-by false p b wants ns ms f stack seen t h n e = step-word p b wants ns f stack seen t n e ∙ ap (λ l. passed p wants l f stack seen) (sym (append-nil ns))

-- the pattern is used up
record Filled (p : Part) (wants : List ℕ) (ns ms : List ℤ) (f : Place) (stack : List Open) (seen : Option Bool) (e : ℕ) (st : Stream) (more : List (List ℕ)) : Type 0 where
  rest : Stream
  left : Comes rest more
  is : run e (ins p wants ns f stack seen) st ≡ (ended_part p (ns ++ fill_numbers wants ms) f stack seen >>= λ next. run e next rest)

filled : (wants : List ℕ) (b : ℕ) (p : Part) (ns ms : List ℤ) (f : Place) (stack : List Open) (seen : Option Bool) (e : ℕ) (st : Stream) (more : List (List ℕ)) → Near ms
    → Comes st (fill_words (b ∷ wants) ms ++ more) → Filled p (b ∷ wants) ns ms f stack seen e st more
filled [] b p ns ms f stack seen e st more near r =
    let h = headed st (word_for b ms) more r in
    record {
      rest = h.rest;
      left = h.left;
      is =
          ap (run e (ins p (b ∷ []) ns f stack seen)) h.is
          ∙ ap (λ x. x >>= λ next. run e next h.rest) (step-by (is_number_place b) p b [] ns ms f stack seen h.at near refl h.text_is)
          ∙ ap (λ l. ended_part p (ns ++ l) f stack seen >>= λ next. run e next h.rest) (sym (append-nil (number_for b ms)));
    }
filled (c ∷ wants) b p ns ms f stack seen e st more near r =
    let ms' : List ℤ = left_for b ms in
    let h = headed st (word_for b ms) (fill_words (c ∷ wants) ms' ++ more) r in
    let k = filled wants c p (ns ++ number_for b ms) ms' f stack seen e h.rest more (near-left (is_number_place b) ms near) h.left in
    record {
      rest = k.rest;
      left = k.left;
      is =
          ap (run e (ins p (b ∷ c ∷ wants) ns f stack seen)) h.is
          ∙ ap (λ x. x >>= λ next. run e next h.rest) (step-by (is_number_place b) p b (c ∷ wants) ns ms f stack seen h.at near refl h.text_is)
          ∙ k.is
          ∙ ap (λ l. ended_part p l f stack seen >>= λ next. run e next k.rest) (append_assoc ns (number_for b ms) (fill_numbers (c ∷ wants) ms'));
    }

-- ---- where a node may stand, and inside an operator's opening

text-comes : (text : List ℕ) (ws : List (List ℕ)) → Closed text ws → Comes (stream text) ws
text-comes text ws c = comes (stream text) ws (stream_is_tokens text ∙ closed_whole c)

node-goes : (stack : List Open) (seen : Option Bool) → GoesOn (nodes stack seen)
node-goes stack seen =
    let text : List ℕ = node_bytes stack seen in
    let a = node-on stack seen (end_line text) (stream text) (text-comes text (node_words stack seen) (node-closed stack seen)) in
    (text, a.tree, a.is)

opening-goes : (op : Op) (b : ℕ) (wants : List ℕ) (ns : List ℤ) (f : Place) (stack : List Open) (seen : Option Bool) → all_fit (b ∷ wants) ≡ true → GoesOn (ins (Opening op) (b ∷ wants) ns f stack seen)
opening-goes op b wants ns f stack seen h =
    let inner : List Open = opens op [] ∷ stack in
    let text : List ℕ = fill_bytes (b ∷ wants) [] ++ node_bytes inner seen in
    let r = text-comes text (fill_words (b ∷ wants) [] ++ node_words inner seen) (both (fill-closed (b ∷ wants) [] h) (node-closed inner seen)) in
    let a = filled wants b (Opening op) ns [] f stack seen (end_line text) (stream text) (node_words inner seen) tt r in
    let d = node-on inner seen (end_line text) a.rest a.left in
    (text, d.tree, a.is ∙ d.is)

-- ---- inside a leaf

-- some text leads to the leaf's `;`, where these are its numbers
record Whole_leaf (form : Form) (ns : List ℤ) (f : Place) (stack : List Open) (seen : Option Bool) (s : State) : Type 0 where
  text : List ℕ
  rest : Stream
  left : Comes rest (end_words (length stack))
  is : run (end_line text) s (stream text) ≡ (with_leaf (leaf_of form ns) f stack seen >>= λ next. run (end_line text) next rest)

up-by : (c : Bool) (l : ALeaf) (f : Place) (stack : List Open) (e : ℕ) (st : Stream) → Comes st (end_words (length stack))
    → IsUpToLeaf f ((if c then Err (Mixed f.line f.token) else Ok (add (trees.Leaf l) stack (Some (is_solid_leaf l)))) >>= λ next. run e next st)
up-by true l f stack e st r = (refl, refl)
up-by false l f stack e st r = let a = all-closed stack (trees.Leaf l) (Some (is_solid_leaf l)) e st r in subst (IsUpToLeaf f) (sym a.is) tt

up : (o : Option ALeaf) (f : Place) (stack : List Open) (seen : Option Bool) (e : ℕ) (st : Stream) → Comes st (end_words (length stack)) → IsUpToLeaf f (with_leaf o f stack seen >>= λ next. run e next st)
up None f stack seen e st r = (refl, refl)
up (Some l) f stack seen e st r = up-by (mixes seen (is_solid_leaf l)) l f stack e st r

leaf-goes : (form : Form) (ns : List ℤ) (f : Place) (stack : List Open) (seen : Option Bool) (s : State) → Whole_leaf form ns f stack seen s → LeafGoesOn f s
leaf-goes form ns f stack seen s w = (w.text, subst (IsUpToLeaf f) (sym w.is) (up (leaf_of form ns) f stack seen (end_line w.text) w.rest w.left))

tree-goes : (l : ALeaf) (form : Form) (ns : List ℤ) (f : Place) (stack : List Open) (seen : Option Bool) (s : State) → Says form ns l → mixes seen (is_solid_leaf l) ≡ false
    → Whole_leaf form ns f stack seen s → GoesOn s
tree-goes l form ns f stack seen s says m w =
    let a = all-closed stack (trees.Leaf l) (Some (is_solid_leaf l)) (end_line w.text) w.rest w.left in
    (w.text, a.tree, w.is ∙ ap (λ r. r >>= λ next. run (end_line w.text) next w.rest) (leaf-ends l form ns f stack seen says m) ∙ a.is)

closing-whole : (form : Form) (b : ℕ) (wants : List ℕ) (ns ms : List ℤ) (f : Place) (stack : List Open) (seen : Option Bool) → Near ms → all_fit (b ∷ wants) ≡ true
    → Whole_leaf form (ns ++ fill_numbers (b ∷ wants) ms) f stack seen (ins (Closing form) (b ∷ wants) ns f stack seen)
closing-whole form b wants ns ms f stack seen near h =
    let text : List ℕ = fill_bytes (b ∷ wants) ms ++ end_bytes (length stack) in
    let r = text-comes text (fill_words (b ∷ wants) ms ++ end_words (length stack)) (both (fill-closed (b ∷ wants) ms h) (all-ends (length stack))) in
    let a = filled wants b (Closing form) ns ms f stack seen (end_line text) (stream text) (end_words (length stack)) near r in
    record { text = text; rest = a.rest; left = a.left; is = a.is }

-- the name that chooses a form behind a part, and what is wanted then
record Named (p : Part) (form : Form) : Type 0 where
  name : List ℕ
  chosen_is : chosen p name ≡ Some form
  name_closed : Closed (name ++ 32 ∷ []) (name ∷ [])
  wants : List ℕ
  pattern_is : pattern (Closing form) ≡ 40 ∷ wants
  fit : all_fit (40 ∷ wants) ≡ true
  count : places (lead (Closing form)) ≡ places (lead p) + places (40 ∷ wants)

a-block : Named Moved Block
a-block = record { name = codes "cube"; chosen_is = refl; name_closed = record { is = λ rest. refl }; wants = codes "[#,#,#]);"; pattern_is = refl; fit = refl; count = refl }

a-tile : Named Moved Tile
a-tile = record { name = codes "square"; chosen_is = refl; name_closed = record { is = λ rest. refl }; wants = codes "[#,#]);"; pattern_is = refl; fit = refl; count = refl }

a-disc : Named Moved Disc
a-disc = record { name = codes "circle"; chosen_is = refl; name_closed = record { is = λ rest. refl }; wants = codes "r=s(#));"; pattern_is = refl; fit = refl; count = refl }

a-slab : Named Placed Slab
a-slab = record { name = codes "cube"; chosen_is = refl; name_closed = record { is = λ rest. refl }; wants = codes "[#,#,#]);"; pattern_is = refl; fit = refl; count = refl }

a-strip : Named Placed Strip
a-strip = record { name = codes "square"; chosen_is = refl; name_closed = record { is = λ rest. refl }; wants = codes "[#,#]);"; pattern_is = refl; fit = refl; count = refl }

named-by : (p : Part) (form : Form) (w : List ℕ) → Shaped p form w → Named p form
named-by Moved Block w e = a-block
named-by Moved Tile w e = a-tile
named-by Moved Disc w e = a-disc
named-by Moved Slab w e = absurd e
named-by Moved Strip w e = absurd e
named-by Placed Slab w e = a-slab
named-by Placed Strip w e = a-strip
named-by Placed Block w e = absurd e
named-by Placed Tile w e = absurd e
named-by Placed Disc w e = absurd e
named-by (Opening op) form w e = absurd e
named-by (Closing g) form w e = absurd e

-- the name of the shape, and what stands behind it
abbrev name_bytes : (p : Part) (form : Form) → Named p form → List ℤ → List Open → List ℕ
name_bytes p form n ms stack = (n.name ++ 32 ∷ []) ++ (fill_bytes (40 ∷ n.wants) ms ++ end_bytes (length stack))

abbrev name_words : (p : Part) (form : Form) → Named p form → List ℤ → List Open → List (List ℕ)
name_words p form n ms stack = n.name ∷ (fill_words (40 ∷ n.wants) ms ++ end_words (length stack))

name-closed : (p : Part) (form : Form) (n : Named p form) (ms : List ℤ) (stack : List Open) → Closed (name_bytes p form n ms stack) (name_words p form n ms stack)
name-closed p form n ms stack = both {xs = n.name ++ 32 ∷ []} {ts = n.name ∷ []} n.name_closed (both (fill-closed (40 ∷ n.wants) ms n.fit) (all-ends (length stack)))

record Named_run (form : Form) (ns : List ℤ) (f : Place) (stack : List Open) (seen : Option Bool) (e : ℕ) (s : State) (st : Stream) : Type 0 where
  rest : Stream
  left : Comes rest (end_words (length stack))
  is : run e s st ≡ (with_leaf (leaf_of form ns) f stack seen >>= λ next. run e next rest)

named-run : (p : Part) (form : Form) (n : Named p form) (ns ms : List ℤ) (f : Place) (stack : List Open) (seen : Option Bool) (e : ℕ) (st : Stream) → Near ms → Comes st (name_words p form n ms stack)
    → Named_run form (ns ++ fill_numbers (40 ∷ n.wants) ms) f stack seen e (ins p [] ns f stack seen) st
named-run p form n ns ms f stack seen e st near r =
    let h = headed st n.name (fill_words (40 ∷ n.wants) ms ++ end_words (length stack)) r in
    let stepped : step (ins p [] ns f stack seen) h.at ≡ Ok (ins (Closing form) (40 ∷ n.wants) ns f stack seen) =
    ap (λ o. at_shape o ns f stack seen h.at) (ap (chosen p) h.text_is ∙ n.chosen_is) ∙ ap (λ bs. Ok (ins (Closing form) bs ns f stack seen)) n.pattern_is in
    let a = filled n.wants 40 (Closing form) ns ms f stack seen e h.rest (end_words (length stack)) near h.left in
    record { rest = a.rest; left = a.left; is = ap (run e (ins p [] ns f stack seen)) h.is ∙ ap (λ x. x >>= λ next. run e next h.rest) stepped ∙ a.is }

-- a part that ends before the name of a shape
abbrev Waits : Part → Type 0
Waits p = (ns : List ℤ) (f : Place) (stack : List Open) (seen : Option Bool) → ended_part p ns f stack seen ≡ Ok (ins p [] ns f stack seen)

part-whole : (p : Part) (form : Form) (n : Named p form) → Waits p → (wants : List ℕ) (ns ms : List ℤ) (f : Place) (stack : List Open) (seen : Option Bool) → Near ms → all_fit wants ≡ true
    → Whole_leaf form ((ns ++ fill_numbers wants ms) ++ fill_numbers (40 ∷ n.wants) (fill_left wants ms)) f stack seen (ins p wants ns f stack seen)
part-whole p form n w [] ns ms f stack seen near h =
    let text : List ℕ = name_bytes p form n ms stack in
    let a = named-run p form n ns ms f stack seen (end_line text) (stream text) near (text-comes text (name_words p form n ms stack) (name-closed p form n ms stack)) in
    record {
      text = text;
      rest = a.rest;
      left = a.left;
      is = a.is ∙ ap (λ l. with_leaf (leaf_of form (l ++ fill_numbers (40 ∷ n.wants) ms)) f stack seen >>= λ next. run (end_line text) next a.rest) (sym (append-nil ns));
    }
part-whole p form n w (b ∷ wants) ns ms f stack seen near h =
    let ms' : List ℤ = fill_left (b ∷ wants) ms in
    let ns' : List ℤ = ns ++ fill_numbers (b ∷ wants) ms in
    let text : List ℕ = fill_bytes (b ∷ wants) ms ++ name_bytes p form n ms' stack in
    let r = text-comes text (fill_words (b ∷ wants) ms ++ name_words p form n ms' stack) (both (fill-closed (b ∷ wants) ms h) (name-closed p form n ms' stack)) in
    let a = filled wants b p ns ms f stack seen (end_line text) (stream text) (name_words p form n ms' stack) near r in
    let d = named-run p form n ns' ms' f stack seen (end_line text) a.rest (near-all-left (b ∷ wants) ms near) a.left in
    record { text = text; rest = d.rest; left = d.left; is = a.is ∙ ap (λ x. x >>= λ next. run (end_line text) next a.rest) (w ns' f stack seen) ∙ d.is }

-- ---- how many numbers are wanted

places-by : (c : Bool) (m n k : ℕ) → k ≡ m + n → (if c then suc k else k) ≡ (if c then suc m else m) + n
places-by true m n k e = omega arith
places-by false m n k e = e

places-append : (bs cs : List ℕ) → places (bs ++ cs) ≡ places bs + places cs
places-append [] cs = omega arith
places-append (b ∷ bs) cs = places-by (is_number_place b) (places bs) (places cs) (places (bs ++ cs)) (places-append bs cs)

leaf-count : (l : ALeaf) → length (numbers_of l) ≡ places (lead (Closing (form_of l)))
leaf-count (leaves.Slab f) = refl
leaf-count (leaves.Strip f) = refl
leaf-count (leaves.Disc d) = refl
leaf-count (leaves.Block b) = refl
leaf-count (leaves.Tile b) = refl

wanted : (p : Part) (wants : List ℕ) (ns : List ℤ) (sofar : List (List ℕ)) → Inside p wants ns sofar → length ns + places wants ≡ places (lead p)
wanted p wants ns sofar i =
    let all : places i.came + places wants ≡ places (lead p) = sym (places-append i.came wants) ∙ ap places i.joined in
    let came : length ns ≡ places i.came = i.count in
    omega arith

short-count : (l : ALeaf) → length (short_numbers l) ≡ places (lead (Closing (short_form l)))
short-count (leaves.Slab f) = refl
short-count (leaves.Strip f) = refl
short-count (leaves.Disc d) = refl
short-count (leaves.Block b) = refl
short-count (leaves.Tile b) = refl

says-count : (form : Form) (ns : List ℤ) (l : ALeaf) → Says form ns l → length ns ≡ places (lead (Closing form))
says-count form ns l (inl s) = ap length s.numbers ∙ leaf-count l ∙ ap (λ g. places (lead (Closing g))) (sym s.form_is)
says-count form ns l (inr s) = ap length s.numbers ∙ short-count l ∙ ap (λ g. places (lead (Closing g))) (sym s.form_is)

-- of the numbers of a leaf that begins so
more-count : (form : Form) (l : ALeaf) (ns ms : List ℤ) → Says form (ns ++ ms) l → length ns + length ms ≡ places (lead (Closing form))
more-count form l ns ms s = sym (length-append ns ms) ∙ says-count form (ns ++ ms) l s

more-near : (form : Form) (l : ALeaf) (ns ms : List ℤ) → Says form (ns ++ ms) l → Near ms
more-near form l ns ms s = near-behind ns ms (says-near form (ns ++ ms) l s)

closing-tree : (form : Form) (b : ℕ) (wants : List ℕ) (ns : List ℤ) (f : Place) (stack : List Open) (seen : Option Bool) (sofar : List (List ℕ)) → Inside (Closing form) (b ∷ wants) ns sofar → all_fit (b ∷ wants) ≡ true
    → (l : ALeaf) → IsBegun (Closing form) ns seen l → GoesOn (ins (Closing form) (b ∷ wants) ns f stack seen)
closing-tree form b wants ns f stack seen sofar i h l g =
    let ms : List ℤ = g.more in
    let all : length ns + length ms ≡ places (lead (Closing g.form)) = more-count g.form l ns ms g.says in
    let here : length ns + places (b ∷ wants) ≡ places (lead (Closing form)) = wanted (Closing form) (b ∷ wants) ns sofar i in
    let same : places (lead (Closing form)) ≡ places (lead (Closing g.form)) = ap (λ g. places (lead (Closing g))) g.may_be in
    let count : length ms ≡ places (b ∷ wants) = omega arith in
    let ns' : List ℤ = ns ++ fill_numbers (b ∷ wants) ms in
    let numbers_are : ns ++ ms ≡ ns' = sym (ap (λ l. ns ++ l) (fill-all (b ∷ wants) ms count)) in
    let w = closing-whole form b wants ns ms f stack seen (more-near g.form l ns ms g.says) h in
    tree-goes l g.form ns' f stack seen (ins (Closing form) (b ∷ wants) ns f stack seen) (subst (λ x. Says g.form x l) numbers_are g.says) g.kind
    (subst (λ g. Whole_leaf g ns' f stack seen (ins (Closing form) (b ∷ wants) ns f stack seen)) g.may_be w)

part-tree : (p : Part) → Waits p → (wants : List ℕ) (ns : List ℤ) (f : Place) (stack : List Open) (seen : Option Bool) (sofar : List (List ℕ)) → Inside p wants ns sofar → all_fit wants ≡ true
    → (l : ALeaf) (form : Form) → Named p form → mixes seen (is_solid_leaf l) ≡ false → (ms : List ℤ) → Says form (ns ++ ms) l → GoesOn (ins p wants ns f stack seen)
part-tree p waits wants ns f stack seen sofar i h l form n kind ms says =
    let all : length ns + length ms ≡ places (lead (Closing form)) = more-count form l ns ms says in
    let here : length ns + places wants ≡ places (lead p) = wanted p wants ns sofar i in
    let both_count : places (lead (Closing form)) ≡ places (lead p) + places (40 ∷ n.wants) = n.count in
    let count : length ms ≡ places wants + places (40 ∷ n.wants) = omega arith in
    let ns' : List ℤ = (ns ++ fill_numbers wants ms) ++ fill_numbers (40 ∷ n.wants) (fill_left wants ms) in
    let numbers_are : ns' ≡ ns ++ ms = append_assoc ns (fill_numbers wants ms) (fill_numbers (40 ∷ n.wants) (fill_left wants ms)) ∙ ap (λ l. ns ++ l) (fill-both wants (40 ∷ n.wants) ms count) in
    tree-goes l form ns' f stack seen (ins p wants ns f stack seen) (subst (λ x. Says form x l) (sym numbers_are) says) kind (part-whole p form n waits wants ns ms f stack seen (more-near form l ns ms says) h)

-- ---- what the states of the machine are

abbrev HasMore : List ℕ → Type 0
HasMore [] = ⊥
HasMore (b ∷ bs) = Unit {0}

-- what is left of a pattern; an operator's opening and a leaf's end are left as soon as nothing is
abbrev IsRest : Part → List ℕ → Type 0
IsRest (Opening op) wants = HasMore wants × (all_fit wants ≡ true)
IsRest (Closing form) wants = HasMore wants × (all_fit wants ≡ true)
IsRest Moved wants = all_fit wants ≡ true
IsRest Placed wants = all_fit wants ≡ true

abbrev IsGood : At → Type 0
IsGood node = Unit {0}
IsGood (inside p wants ns f) = IsRest p wants
IsGood (whole t) = Unit {0}

abbrev KeepsGood : Result State CsgFault → Type 0
KeepsGood (Ok s) = IsGood s.at
KeepsGood (Err f) = Unit {0}

-- what goes on from a state is a tree that the tokens up to there begin
abbrev Told : List AToken → State → Type 0
Told front s = GoesOn s → BeginTree front

in-leaf : (p : Part) (form : Form) (n : Named p form) → Waits p → ((g : Form) → MayBe p g → Named p g) → (wants : List ℕ) (ns : List ℤ) (f : Place) (stack : List Open) (seen : Option Bool) (sofar : List (List ℕ))
    → Inside p wants ns sofar → all_fit wants ≡ true → (front : List AToken) → Told front (ins p wants ns f stack seen) → LeafBegins p ns f front (ins p wants ns f stack seen)
in-leaf p form n waits named wants ns f stack seen sofar i h front told = record {
  tree = λ l g. told (part-tree p waits wants ns f stack seen sofar i h l g.form (named g.form g.may_be) g.kind g.more g.says);
  leaf = leaf-goes form ((ns ++ fill_numbers wants []) ++ fill_numbers (40 ∷ n.wants) (fill_left wants [])) f stack seen (ins p wants ns f stack seen) (part-whole p form n waits wants ns [] f stack seen tt h);
}

goes-at : (at : At) (stack : List Open) (seen : Option Bool) (sofar : List (List ℕ)) → StandsAt stack seen at sofar → IsGood at → (front : List AToken) → Told front (record { stack = stack; seen = seen; at = at })
    → GoesOnAt at front (record { stack = stack; seen = seen; at = at })
goes-at node stack seen sofar h g front told = told (node-goes stack seen)
goes-at (whole t) stack seen sofar h g front told = told ([], t, refl)
goes-at (inside (Opening op) [] ns f) stack seen sofar h g front told = absurd g.0
goes-at (inside (Opening op) (b ∷ wants) ns f) stack seen sofar h g front told = told (opening-goes op b wants ns f stack seen g.1)
goes-at (inside Moved wants ns f) stack seen sofar h g front told =
    in-leaf Moved Tile a-tile (λ ns f stack seen. refl) (λ form m. named-by Moved form m.0 (shaped Moved m.0 form m.1)) wants ns f stack seen sofar h.1 g front told
goes-at (inside Placed wants ns f) stack seen sofar h g front told =
    in-leaf Placed Strip a-strip (λ ns f stack seen. refl) (λ form m. named-by Placed form m.0 (shaped Placed m.0 form m.1)) wants ns f stack seen sofar h.1 g front told
goes-at (inside (Closing form) [] ns f) stack seen sofar h g front told = absurd g.0
goes-at (inside (Closing form) (b ∷ wants) ns f) stack seen sofar h g front told = record {
  tree = λ l k. told (closing-tree form b wants ns f stack seen sofar h.1 g.1 l k);
  leaf = leaf-goes form (ns ++ fill_numbers (b ∷ wants) []) f stack seen (ins (Closing form) (b ∷ wants) ns f stack seen) (closing-whole form b wants ns [] f stack seen tt g.1);
}

good-pattern : (p : Part) → IsRest p (pattern p)
good-pattern (Opening op) = (tt, refl)
good-pattern Moved = refl
good-pattern Placed = refl
good-pattern (Closing Slab) = (tt, refl)
good-pattern (Closing Strip) = (tt, refl)
good-pattern (Closing Disc) = (tt, refl)
good-pattern (Closing Block) = (tt, refl)
good-pattern (Closing Tile) = (tt, refl)

all-of : (p : Part) (wants : List ℕ) → IsRest p wants → all_fit wants ≡ true
all-of (Opening op) wants h = h.1
all-of Moved wants h = h
all-of Placed wants h = h
all-of (Closing form) wants h = h.1

good-more : (p : Part) (b : ℕ) (wants : List ℕ) → all_fit (b ∷ wants) ≡ true → IsRest p (b ∷ wants)
good-more (Opening op) b wants h = (tt, h)
good-more Moved b wants h = h
good-more Placed b wants h = h
good-more (Closing form) b wants h = (tt, h)

good-if : (c : Bool) (x y : Result State CsgFault) → KeepsGood x → KeepsGood y → KeepsGood (if c then x else y)
good-if true x y g h = g
good-if false x y g h = h

good-add : (t : Tree) (stack : List Open) (seen : Option Bool) → IsGood (add t stack seen).at
good-add t [] seen = tt
good-add t (top ∷ rest) seen = tt

good-closed : (o : Option Tree) (rest : List Open) (seen : Option Bool) (t : AToken) → KeepsGood (closed o rest seen t)
good-closed None rest seen t = tt
good-closed (Some x) rest seen t = good-add x rest seen

good-close : (stack : List Open) (seen : Option Bool) (t : AToken) → KeepsGood (close stack seen t)
good-close [] seen t = tt
good-close (top ∷ rest) seen t = good-closed (tree_of_kids top.op top.kids) rest seen t

good-node : (o : Option Part) (stack : List Open) (seen : Option Bool) (t : AToken) → KeepsGood (at_node o stack seen t)
good-node None stack seen t = good-if (bytes_eq t.text (codes "}")) _ _ (good-close stack seen t) tt
good-node (Some (Opening op)) stack seen t = good-if (nat_lt (length stack) 64) _ _ (good-pattern (Opening op)) tt
good-node (Some Moved) stack seen t = good-pattern Moved
good-node (Some Placed) stack seen t = good-pattern Placed
good-node (Some (Closing form)) stack seen t = good-pattern (Closing form)

good-leaf : (o : Option ALeaf) (f : Place) (stack : List Open) (seen : Option Bool) → KeepsGood (with_leaf o f stack seen)
good-leaf None f stack seen = tt
good-leaf (Some l) f stack seen = good-if (mixes seen (is_solid_leaf l)) _ _ tt (good-add (trees.Leaf l) stack (Some (is_solid_leaf l)))

good-ended : (p : Part) (ns : List ℤ) (f : Place) (stack : List Open) (seen : Option Bool) → KeepsGood (ended_part p ns f stack seen)
good-ended (Opening op) ns f stack seen = tt
good-ended Moved ns f stack seen = refl
good-ended Placed ns f stack seen = refl
good-ended (Closing form) ns f stack seen = good-leaf (leaf_of form ns) f stack seen

good-passed : (p : Part) (wants : List ℕ) (ns : List ℤ) (f : Place) (stack : List Open) (seen : Option Bool) → all_fit wants ≡ true → KeepsGood (passed p wants ns f stack seen)
good-passed p [] ns f stack seen h = good-ended p ns f stack seen
good-passed p (b ∷ wants) ns f stack seen h = good-more p b wants h

good-number : (o : Option ℤ) (p : Part) (wants : List ℕ) (ns : List ℤ) (f : Place) (stack : List Open) (seen : Option Bool) (t : AToken) → all_fit wants ≡ true → KeepsGood (at_number o p wants ns f stack seen t)
good-number None p wants ns f stack seen t h = tt
good-number (Some z) p wants ns f stack seen t h = good-passed p wants (ns ++ z ∷ []) f stack seen h

good-shape : (o : Option Form) (ns : List ℤ) (f : Place) (stack : List Open) (seen : Option Bool) (t : AToken) → KeepsGood (at_shape o ns f stack seen t)
good-shape None ns f stack seen t = tt
good-shape (Some form) ns f stack seen t = good-pattern (Closing form)

good-want : (p : Part) (wants : List ℕ) (ns : List ℤ) (f : Place) (stack : List Open) (seen : Option Bool) (t : AToken) → all_fit wants ≡ true → KeepsGood (at_want p wants ns f stack seen t)
good-want p [] ns f stack seen t h = good-shape (chosen p t.text) ns f stack seen t
good-want p (b ∷ wants) ns f stack seen t h =
    let k = and_parts (fits b) (all_fit wants) h in
    good-if (is_number_place b) _ _
    (good-if (is_numeral t.text) _ _ (good-number (value_of t.text) p wants ns f stack seen t k.1) tt)
    (good-if (bytes_eq t.text (word_of b)) _ _ (good-passed p wants ns f stack seen k.1) tt)

good-step : (at : At) (stack : List Open) (seen : Option Bool) (t : AToken) → IsGood at → KeepsGood (step_at at stack seen t)
good-step node stack seen t g = good-node (begins t.text) stack seen t
good-step (inside p wants ns f) stack seen t g = good-want p wants ns f stack seen t (all-of p wants g)
good-step (whole x) stack seen t g = tt

-- the first step of some tokens, and the others
good-then : (ts : List AToken) → ((s : State) → IsGood s.at → KeepsGood (behind s ts)) → (r : Result State CsgFault) → KeepsGood r → KeepsGood (r >>= λ next. behind next ts)
good-then ts more (Ok s) g = more s g
good-then ts more (Err f) g = tt

good-behind : (front : List AToken) (s : State) → IsGood s.at → KeepsGood (behind s front)
good-behind [] s g = g
good-behind (t ∷ ts) s g = good-then ts (good-behind ts) (step s t) (good-step s.at s.stack s.seen t g)

abbrev texts_of : List AToken → List (List ℕ)
texts_of front = map (λ (t : AToken). t.text) front

-- the tokens that lead to a state
standing-then : (ts : List AToken) (ws : List (List ℕ)) → ((s s' : State) → Stands s ws → behind s ts ≡ Ok s' → Stands s' (ws ++ texts_of ts)) → (r : Result State CsgFault) (s' : State) → ((s : State) → r ≡ Ok s → Stands s ws)
    → (r >>= λ next. behind next ts) ≡ Ok s' → Stands s' (ws ++ texts_of ts)
standing-then ts ws more (Ok s) s' h e = more s s' (h s refl) e
standing-then ts ws more (Err f) s' h e = cc e

standing : (front : List AToken) (ws : List (List ℕ)) (s s' : State) → Stands s ws → behind s front ≡ Ok s' → Stands s' (ws ++ texts_of front)
standing [] ws s s' h e = subst (Stands s') (sym (append-nil ws)) (subst (λ s. Stands s ws) (same-ok s s' e) h)
standing (t ∷ ts) ws s s' h e =
    subst (Stands s') (append_assoc ws (t.text ∷ []) (texts_of ts))
    (standing-then ts (ws ++ t.text ∷ []) (standing ts (ws ++ t.text ∷ [])) (step s t) s' (λ next k. stands-on s t next ws h k) e)

begins-tree : (front : List AToken) (s : State) → Stands s (texts_of front) → Told front s
begins-tree front s h g =
    let m = reached (end_line g.0) s (stream g.0) g.1 (texts_of front) h g.2 in
    (shape g.1, m.us, m.allowed, m.words_are)

pub front_goes_on : FrontGoesOn
front_goes_on front s h =
    let k = standing front [] start s at-start h in
    goes-at s.at s.stack s.seen k.sofar k.here (subst KeepsGood h (good-behind front start tt)) front (begins-tree front s k)
