-- Reading a text token by token: what may stand next, the operators that are open, and the first token at which nothing may
-- stand that stands there.
use Rattle.std.specs.Prelude.{◌≡◌, ℕ, ◌+◌, nat_lt, Bool, false, not, List, [], ◌∷◌, ◌++◌, length, reverse, Option, Some, None, Result, Ok, Err, if◌then◌else◌, bytes_eq, codes, ℤ}
use mathlib.Core.Bool.{beq}
use Rattle.bc_num.specs.Lines.{lines}
use Rattle.bc_tree.specs.Decided.{is_solid_leaf}
use Rattle.bc_tree.specs.declared.tree.Leaf.{Leaf as ALeaf}
use Rattle.bc_tree.specs.declared.tree.Tree.{Tree}
use Rattle.bc_tree.specs.declared.tree.Tree.TheVariants as trees
use Rattle.bc_tree.specs.Shape.{shape}
use Rattle.bc_tree.specs.Spells.{Spells}
use Rattle.bc_lex.specs.Tokens.{AToken}
use Rattle.bc_lex.specs.Stream.{Stream, ended, broken, token, stream}
use Rattle.bc_read.specs.declared.part.Op.{Op}
use Rattle.bc_read.specs.declared.part.Op.TheVariants.{Union, Meet, Cut}
use Rattle.bc_read.specs.declared.part.Form.{Form}
use Rattle.bc_read.specs.declared.part.Part.{Part}
use Rattle.bc_read.specs.declared.part.Part.TheVariants.{Opening, Moved, Placed, Closing}
use Rattle.bc_read.specs.declared.reading.Place.{Place}
use Rattle.bc_read.specs.declared.reading.Open.{Open}
use Rattle.bc_read.specs.declared.reading.Now.{Now}
use Rattle.bc_read.specs.declared.reading.Now.TheVariants as nows
use Rattle.bc_read.specs.declared.reading.Reading.{Reading}
use Rattle.bc_read.specs.declared.fault.CsgFault.{CsgFault}
use Rattle.bc_read.specs.declared.fault.CsgFault.TheVariants.{BadToken, BadShape, BadNumber, BadFrame, Mixed, TooDeep, Extra, Memory}
use Rattle.bc_read.specs.Table.{pattern, is_number_place, word_of, begins, chosen}
use Rattle.bc_read.specs.Numbers.{is_numeral, value_of}
use Rattle.bc_read.specs.Leaves.{leaf_of}

-- ---- states

-- what may stand next: a node, or the end of the innermost operator; in a part, what is left of its pattern, with the
-- numbers of the leaf so far and the place of its first token; nothing, since the tree is whole
pub data At : Type 0 where
  node : At
  inside : Part → List ℕ → List ℤ → Place → At
  whole : Tree → At

-- the operators that are open, the innermost first, whether the leaves so far are of space, and what may stand next
pub record State : Type 0 where
  pub stack : List Open
  pub seen : Option Bool
  pub at : At

abbrev pub start : State
start = record { stack = []; seen = None; at = node }

-- ---- steps

abbrev pub shape_fault : AToken → Result State CsgFault
shape_fault t = Err (BadShape t.line t.nth)

abbrev pub place_of : AToken → Place
place_of t = record { line = t.line; token = t.nth }

-- a tree is whole
abbrev pub add : Tree → List Open → Option Bool → State
add t [] seen = record { stack = []; seen = seen; at = whole t }
add t (top ∷ rest) seen = record { stack = (record { op = top.op; kids = top.kids ++ t ∷ [] }) ∷ rest; seen = seen; at = node }

-- the tree of an operator; an intersection and a difference have a child
abbrev pub tree_of_kids : Op → List Tree → Option Tree
tree_of_kids Union kids = Some (trees.Union kids)
tree_of_kids Meet [] = None
tree_of_kids Meet (k ∷ kids) = Some (trees.Meet (k ∷ kids))
tree_of_kids Cut [] = None
tree_of_kids Cut (k ∷ kids) = Some (trees.Cut k kids)

abbrev pub closed : Option Tree → List Open → Option Bool → AToken → Result State CsgFault
closed None rest seen t = shape_fault t
closed (Some x) rest seen t = Ok (add x rest seen)

-- `}`
abbrev pub close : List Open → Option Bool → AToken → Result State CsgFault
close [] seen t = shape_fault t
close (top ∷ rest) seen t = closed (tree_of_kids top.op top.kids) rest seen t

abbrev pub entered : Part → List Open → Option Bool → AToken → State
entered p stack seen t = record { stack = stack; seen = seen; at = inside p (pattern p) [] (place_of t) }

-- where a node may stand. TooDeep: 64 operators are open
abbrev pub at_node : Option Part → List Open → Option Bool → AToken → Result State CsgFault
at_node None stack seen t = if bytes_eq t.text (codes "}") then close stack seen t else shape_fault t
at_node (Some (Opening op)) stack seen t = if nat_lt (length stack) 64 then Ok (entered (Opening op) stack seen t) else Err (TooDeep t.line t.nth)
at_node (Some p) stack seen t = Ok (entered p stack seen t)

-- leaves of both kinds
abbrev pub mixes : Option Bool → Bool → Bool
mixes None solid = false
mixes (Some seen) solid = not (beq seen solid)

-- a leaf is whole. BadFrame: the numbers are those of no leaf; Mixed: leaves of the other kind came before
abbrev pub with_leaf : Option ALeaf → Place → List Open → Option Bool → Result State CsgFault
with_leaf None f stack seen = Err (BadFrame f.line f.token)
with_leaf (Some l) f stack seen =
    if mixes seen (is_solid_leaf l) then Err (Mixed f.line f.token)
    else Ok (add (trees.Leaf l) stack (Some (is_solid_leaf l)))

-- the pattern of a part is used up
abbrev pub ended_part : Part → List ℤ → Place → List Open → Option Bool → Result State CsgFault
ended_part (Opening op) ns f stack seen = Ok (record { stack = (record { op = op; kids = [] }) ∷ stack; seen = seen; at = node })
ended_part (Closing form) ns f stack seen = with_leaf (leaf_of form ns) f stack seen
ended_part Moved ns f stack seen = Ok (record { stack = stack; seen = seen; at = inside Moved [] ns f })
ended_part Placed ns f stack seen = Ok (record { stack = stack; seen = seen; at = inside Placed [] ns f })

-- a token of a part came, and this is left of its pattern
abbrev pub passed : Part → List ℕ → List ℤ → Place → List Open → Option Bool → Result State CsgFault
passed p [] ns f stack seen = ended_part p ns f stack seen
passed p (b ∷ wants) ns f stack seen = Ok (record { stack = stack; seen = seen; at = inside p (b ∷ wants) ns f })

-- BadNumber: the number is not in the one spelling
abbrev pub at_number : Option ℤ → Part → List ℕ → List ℤ → Place → List Open → Option Bool → AToken → Result State CsgFault
at_number None p wants ns f stack seen t = Err (BadNumber t.line t.nth)
at_number (Some z) p wants ns f stack seen t = passed p wants (ns ++ z ∷ []) f stack seen

abbrev pub at_shape : Option Form → List ℤ → Place → List Open → Option Bool → AToken → Result State CsgFault
at_shape None ns f stack seen t = shape_fault t
at_shape (Some form) ns f stack seen t = Ok (record { stack = stack; seen = seen; at = inside (Closing form) (pattern (Closing form)) ns f })

-- inside a part; behind the pattern the name of a shape is wanted
abbrev pub at_want : Part → List ℕ → List ℤ → Place → List Open → Option Bool → AToken → Result State CsgFault
at_want p [] ns f stack seen t = at_shape (chosen p t.text) ns f stack seen t
at_want p (b ∷ wants) ns f stack seen t =
    if is_number_place b then (if is_numeral t.text then at_number (value_of t.text) p wants ns f stack seen t else shape_fault t)
    else (if bytes_eq t.text (word_of b) then passed p wants ns f stack seen else shape_fault t)

-- Extra: the tree is whole
abbrev pub step_at : At → List Open → Option Bool → AToken → Result State CsgFault
step_at node stack seen t = at_node (begins t.text) stack seen t
step_at (inside p wants ns f) stack seen t = at_want p wants ns f stack seen t
step_at (whole x) stack seen t = Err (Extra t.line t.nth)

-- one token more. BadShape: it is none that may stand here
abbrev pub step : State → AToken → Result State CsgFault
step s t = step_at s.at s.stack s.seen t

-- ---- texts

infixl 10 ◌>>=◌
abbrev pub ◌>>=◌ : {A B : Type 0} → Result A CsgFault → (A → Result B CsgFault) → Result B CsgFault
(Ok x) >>= f = f x
(Err e) >>= f = Err e

-- the text ends behind nth tokens; e is the line behind its last
abbrev pub finish : ℕ → At → ℕ → Result Tree CsgFault
finish e node nth = Err (BadShape e (nth + 1))
finish e (inside p wants ns f) nth = Err (BadShape e (nth + 1))
finish e (whole t) nth = Ok t

abbrev pub run : ℕ → State → Stream → Result Tree CsgFault
run e s (ended nth) = finish e s.at nth
run e s (broken line nth) = Err (BadToken line nth)
run e s (token t rest) = step s t >>= λ next. run e next rest

-- the line behind the last
abbrev pub end_line : List ℕ → ℕ
end_line text = length (lines text) + 1

-- the tree that a text is read as, or its first fault
abbrev pub reading_of : List ℕ → Result Tree CsgFault
reading_of text = run (end_line text) start (stream text)

-- this is the first fault of the text
abbrev pub FirstFault : List ℕ → CsgFault → Type 0
FirstFault text f = reading_of text ≡ Err f

-- an answer has the tree that the text spells or its first fault, unless memory ran out
abbrev pub Reads : Result Tree CsgFault → List ℕ → Type 0
Reads (Ok t) text = Spells text (shape t)
Reads (Err Memory) text = Unit {0}
Reads (Err f) text = FirstFault text f

-- ---- the program's state

abbrev pub at_of : Now → List ℤ → At
at_of nows.Node ns = node
at_of (nows.Inside w) ns = inside w.part w.wants.now ns w.first
at_of (nows.Whole t) ns = whole t

abbrev pub state : Reading → State
state r = record { stack = reverse r.stack; seen = r.seen; at = at_of r.now r.numbers.items }

-- what a step of the program leaves: the same, unless memory ran out
abbrev pub Steps : Result (Unit {0}) CsgFault → State → Result State CsgFault → Type 0
Steps (Ok _) new want = want ≡ Ok new
Steps (Err Memory) new want = Unit {0}
Steps (Err f) new want = want ≡ Err f
