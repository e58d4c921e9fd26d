-- What holds of every text: it spells a tree or has a first fault, and not both; what is printed is read; and no fault is told
-- too late, since tokens without one begin a tree. And where a leaf's numbers are at fault.
use Rattle.std.specs.Prelude.{◌≡◌, ◌⊎◌, ◌↔◌, ℕ, ℤ, Bool, false, List, [], ◌∷◌, ◌++◌, map, Option, Some, Result, Ok, Err}
use Rattle.bc_lex.specs.Tokens.{AToken}
use Rattle.bc_lex.specs.Stream.{stream}
use Rattle.bc_tree.specs.declared.tree.Leaf.{Leaf as ALeaf}
use Rattle.bc_tree.specs.declared.tree.Tree.{Tree}
use Rattle.bc_tree.specs.Decided.{is_solid_leaf}
use Rattle.bc_tree.specs.Shape.{Shape, shape}
use Rattle.bc_tree.specs.Words.{IsWords}
use Rattle.bc_tree.specs.Spells.{IsAllowed, Spells}
use Rattle.bc_text.specs.declared.note.Note.{Note}
use Rattle.bc_text.specs.declared.note.Head.{Head}
use Rattle.bc_text.specs.Layout.{layout}
use Rattle.bc_read.specs.declared.part.Form.{Form}
use Rattle.bc_read.specs.declared.part.Part.{Part}
use Rattle.bc_read.specs.declared.part.Part.TheVariants.{Opening, Closing}
use Rattle.bc_read.specs.declared.reading.Place.{Place}
use Rattle.bc_read.specs.declared.reading.Open.{Open}
use Rattle.bc_read.specs.declared.fault.CsgFault.{CsgFault}
use Rattle.bc_read.specs.declared.fault.CsgFault.TheVariants.{BadFrame, Mixed}
use Rattle.bc_read.specs.Table.{chosen}
use Rattle.bc_read.specs.Leaves.{Says}
use Rattle.bc_read.specs.Machine.{At, node, inside, whole, State, start, mixes, ended_part, step, ◌>>=◌, run, end_line, reading_of, FirstFault}

-- ---- trees and faults

-- a text that spells a tree is read as this tree
abbrev pub SpelledIsRead : Type 0
SpelledIsRead = (text : List ℕ) (s : Shape) → Spells text s → (t : Tree) × (shape t ≡ s) × (reading_of text ≡ Ok t)

-- a text spells the tree that it is read as
abbrev pub ReadIsSpelled : Type 0
ReadIsSpelled = (text : List ℕ) (t : Tree) → reading_of text ≡ Ok t → Spells text (shape t)

-- a text spells a tree, or has a first fault
abbrev pub HasTreeOrFault : Type 0
HasTreeOrFault = (text : List ℕ) → ((s : Shape) × Spells text s) ⊎ ((f : CsgFault) × FirstFault text f)

-- a text with a fault spells no tree
abbrev pub FaultSpellsNone : Type 0
FaultSpellsNone = (text : List ℕ) (f : CsgFault) (s : Shape) → FirstFault text f → Spells text s → ⊥

-- a text has at most one first fault
abbrev pub HasOneFault : Type 0
HasOneFault = (text : List ℕ) (f g : CsgFault) → FirstFault text f → FirstFault text g → f ≡ g

-- at a leaf's `;`, BadFrame comes exactly where the numbers are those of no leaf, in either spelling; its place is the leaf's
-- first token
abbrev pub BadFrameExactly : Type 0
BadFrameExactly =
    (form : Form) (ns : List ℤ) (f : Place) (stack : List Open) (seen : Option Bool)
    → ((ended_part (Closing form) ns f stack seen ≡ Err (BadFrame f.line f.token)) ↔ ((l : ALeaf) → Says form ns l → ⊥))

-- ---- printed texts

-- the layout of a tree that the grammar allows is read as that tree, whatever its head and notes are
abbrev pub PrintedIsRead : Type 0
PrintedIsRead = (head : Head) (notes : List Note) (s : Shape) → IsAllowed s → (t : Tree) × (shape t ≡ s) × (reading_of (layout head notes s) ≡ Ok t)

-- ---- no fault is told too late

-- the state behind some tokens, or the fault at the first of them at which there is one
abbrev pub behind : State → List AToken → Result State CsgFault
behind s [] = Ok s
behind s (t ∷ ts) = step s t >>= λ next. behind next ts

-- the tokens are the first ones of a tree that the grammar allows
abbrev pub BeginTree : List AToken → Type 0
BeginTree front = (s : Shape) × (more : List (List ℕ)) × IsAllowed s × IsWords s (map (λ (t : AToken). t.text) front ++ more)

-- a tree is read, or the leaf that begins at this place is at fault at its `;`
abbrev pub IsUpToLeaf : Place → Result Tree CsgFault → Type 0
IsUpToLeaf f (Ok t) = Unit {0}
IsUpToLeaf f (Err (BadFrame line nth)) = (line ≡ f.line) × (nth ≡ f.token)
IsUpToLeaf f (Err (Mixed line nth)) = (line ≡ f.line) × (nth ≡ f.token)
IsUpToLeaf f (Err _) = ⊥

-- with the tokens of some text behind it a tree is read, or the leaf at hand comes to its `;` and is at fault there
abbrev pub LeafGoesOn : Place → State → Type 0
LeafGoesOn f s = (more : List ℕ) × IsUpToLeaf f (run (end_line more) s (stream more))

-- a leaf of this form may stand in a part
abbrev pub MayBe : Part → Form → Type 0
MayBe (Closing form) g = form ≡ g
MayBe p g = (w : List ℕ) × (chosen p w ≡ Some g)

-- the part and the numbers so far begin this leaf in one of its spellings; it is within its ranges and of the kind of those
-- before it
pub record IsBegun (p : Part) (ns : List ℤ) (seen : Option Bool) (l : ALeaf) : Type 0 where
  pub kind : mixes seen (is_solid_leaf l) ≡ false
  pub form : Form
  pub may_be : MayBe p form
  pub more : List ℤ
  pub says : Says form (ns ++ more) l

-- inside a leaf: where it may still be one that may stand here, the tokens begin a tree; and it can come to its `;` in any case
pub record LeafBegins (p : Part) (ns : List ℤ) (f : Place) (front : List AToken) (s : State) : Type 0 where
  pub tree : (l : ALeaf) → IsBegun p ns s.seen l → BeginTree front
  pub leaf : LeafGoesOn f s

abbrev pub GoesOnIn : Part → List ℤ → Place → List AToken → State → Type 0
GoesOnIn (Opening op) ns f front s = BeginTree front
GoesOnIn p ns f front s = LeafBegins p ns f front s

abbrev pub GoesOnAt : At → List AToken → State → Type 0
GoesOnAt node front s = BeginTree front
GoesOnAt (inside p wants ns f) front s = GoesOnIn p ns f front s
GoesOnAt (whole t) front s = BeginTree front

-- tokens without a fault are the first ones of a tree, also where they end inside a leaf whose numbers so far begin those of
-- one that may stand there. Where they end inside any other leaf, some text leads on to its `;`, where it is at fault
abbrev pub FrontGoesOn : Type 0
FrontGoesOn = (front : List AToken) (s : State) → behind start front ≡ Ok s → GoesOnAt s.at front s
