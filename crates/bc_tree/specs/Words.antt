-- The tokens of a tree, one after another, after the OpenSCAD language. Each number has one spelling: no leading zero,
-- and a `-` only before a number below 0. An axis leaf has two token sequences and every other leaf has one.
use Rattle.std.specs.Prelude.{◌≡◌, ◌⊎◌, ℕ, ℤ, pos, negsuc, ◌-ℤ◌, List, [], ◌∷◌, ◌++◌, codes, if◌then◌else◌}
use Rattle.std.specs.Fmt.{signed_decimal}
use Rattle.bc_num.specs.declared.v2.V2.{V2}
use Rattle.bc_num.specs.declared.v3.V3.{V3}
use Rattle.bc_tree.specs.declared.tree.Leaf.{Leaf}
use Rattle.bc_tree.specs.declared.tree.Leaf.TheVariants.{Slab, Strip, Disc, Block, Tile}
use Rattle.bc_tree.specs.Leaves.{u_of, v_of, normal_of}
use Rattle.bc_tree.specs.Axis.{IsAxis, is_axis, corner_of3, sides_of3, corner_of2, sides_of2}
use Rattle.bc_tree.specs.Shape.{Shape, leaf, union, meet, cut, Shapes, none, child}

abbrev pub vec2_words : ℤ → ℤ → List (List ℕ)
vec2_words a b = codes "[" ∷ signed_decimal a ∷ codes "," ∷ signed_decimal b ∷ codes "]" ∷ []

abbrev pub vec3_words : ℤ → ℤ → ℤ → List (List ℕ)
vec3_words a b c = codes "[" ∷ signed_decimal a ∷ codes "," ∷ signed_decimal b ∷ codes "," ∷ signed_decimal c ∷ codes "]" ∷ []

abbrev pub vec4_words : ℤ → ℤ → ℤ → ℤ → List (List ℕ)
vec4_words a b c d = codes "[" ∷ signed_decimal a ∷ codes "," ∷ signed_decimal b ∷ codes "," ∷ signed_decimal c ∷ codes "," ∷ signed_decimal d ∷ codes "]" ∷ []

-- a call of this name, with what stands between its brackets
abbrev pub call_words : List ℕ → List (List ℕ) → List (List ℕ)
call_words name inside = name ∷ codes "(" ∷ (inside ++ codes ")" ∷ [])

abbrev pub translate_words : ℤ → ℤ → ℤ → List (List ℕ)
translate_words a b c = call_words (codes "translate") (vec3_words a b c)

abbrev pub cube_words : ℤ → ℤ → ℤ → List (List ℕ)
cube_words a b c = call_words (codes "cube") (vec3_words a b c)

abbrev pub square_words : ℤ → ℤ → List (List ℕ)
square_words a b = call_words (codes "square") (vec2_words a b)

abbrev pub circle_words : ℤ → List (List ℕ)
circle_words r2 = call_words (codes "circle") (codes "r" ∷ codes "=" ∷ call_words (codes "sqrt") (signed_decimal r2 ∷ []))

-- a matrix of these rows
abbrev pub matrix_words : List (List ℕ) → List (List ℕ) → List (List ℕ) → List (List ℕ) → List (List ℕ)
matrix_words r s t u = codes "multmatrix" ∷ codes "(" ∷ codes "[" ∷ (r ++ (codes "," ∷ (s ++ (codes "," ∷ (t ++ (codes "," ∷ (u ++ codes "]" ∷ codes ")" ∷ [])))))))

-- of the rows (u v n o), and the last one
abbrev pub slab_words : V3 → V3 → V3 → V3 → List (List ℕ)
slab_words o u v n =
    matrix_words (vec4_words u.x v.x n.x o.x) (vec4_words u.y v.y n.y o.y) (vec4_words u.z v.z n.z o.z) (vec4_words (pos 0) (pos 0) (pos 0) (pos 1))
    ++ (translate_words (negsuc 8191) (negsuc 8191) (pos 0) ++ cube_words (pos 16384) (pos 16384) (pos 8192))

-- of the rows (u n 0 o), and the two last ones
abbrev pub strip_words : V2 → V2 → V2 → List (List ℕ)
strip_words o u n =
    matrix_words (vec4_words u.x n.x (pos 0) o.x) (vec4_words u.y n.y (pos 0) o.y) (vec4_words (pos 0) (pos 0) (pos 1) (pos 0)) (vec4_words (pos 0) (pos 0) (pos 0) (pos 1))
    ++ (translate_words (negsuc 8191) (pos 0) (pos 0) ++ square_words (pos 16384) (pos 8192))

-- the box of the least corner c and the sides a
abbrev pub box3_words : V3 → V3 → List (List ℕ)
box3_words c a = translate_words c.x c.y c.z ++ cube_words a.x a.y a.z

-- the rectangle
abbrev pub box2_words : V2 → V2 → List (List ℕ)
box2_words c a = translate_words c.x c.y (pos 0) ++ square_words a.x a.y

-- ---- a leaf, without its `;`

-- the long form, which every leaf has
abbrev pub long_words : Leaf → List (List ℕ)
long_words (Slab f) = slab_words f.o (u_of f.n) (v_of f.n) f.n
long_words (Strip f) = strip_words f.o f.u (normal_of f.u)
long_words (Disc d) = translate_words d.c.x d.c.y (pos 0) ++ circle_words d.r2
long_words (Block b) = translate_words b.x0 b.y0 b.z0 ++ cube_words (b.x1 -ℤ b.x0) (b.y1 -ℤ b.y0) (b.z1 -ℤ b.z0)
long_words (Tile b) = translate_words b.x0 b.y0 (pos 0) ++ square_words (b.x1 -ℤ b.x0) (b.y1 -ℤ b.y0)

-- the short form, which an axis leaf has besides
abbrev pub short_words : Leaf → List (List ℕ)
short_words (Slab f) = box3_words (corner_of3 f.o f.n) (sides_of3 f.n)
short_words (Strip f) = box2_words (corner_of2 f.o (normal_of f.u)) (sides_of2 (normal_of f.u))
short_words (Disc d) = long_words (Disc d)
short_words (Block b) = long_words (Block b)
short_words (Tile b) = long_words (Tile b)

-- ws is a token sequence of the leaf: the long form, or the short one of an axis leaf
abbrev pub IsLeafWords : Leaf → List (List ℕ) → Type 0
IsLeafWords l ws = (ws ≡ long_words l) ⊎ (IsAxis l × (ws ≡ short_words l))

-- the one that is short where the leaf is an axis leaf
abbrev pub IsShortLeafWords : Leaf → List (List ℕ) → Type 0
IsShortLeafWords l ws = (IsAxis l × (ws ≡ short_words l)) ⊎ ((IsAxis l → ⊥) × (ws ≡ long_words l))

-- ---- a tree

-- an operator of this name round its children
abbrev pub block_words : List ℕ → List (List ℕ) → List (List ℕ)
block_words name inside = name ∷ codes "(" ∷ codes ")" ∷ codes "{" ∷ (inside ++ codes "}" ∷ [])

-- ws are the tokens of the tree, where each leaf is written as `Of` says
abbrev mutual
  pub WordsBy : (Leaf → List (List ℕ) → Type 0) → Shape → List (List ℕ) → Type 0
  WordsBy Of (leaf l) ws = (a : List (List ℕ)) × Of l a × (ws ≡ a ++ codes ";" ∷ [])
  WordsBy Of (union kids) ws = (a : List (List ℕ)) × AllWordsBy Of kids a × (ws ≡ block_words (codes "union") a)
  WordsBy Of (meet kids) ws = (a : List (List ℕ)) × AllWordsBy Of kids a × (ws ≡ block_words (codes "intersection") a)
  WordsBy Of (cut first kids) ws =
      (a : List (List ℕ)) × (b : List (List ℕ)) × WordsBy Of first a × AllWordsBy Of kids b × (ws ≡ block_words (codes "difference") (a ++ b))

  pub AllWordsBy : (Leaf → List (List ℕ) → Type 0) → Shapes → List (List ℕ) → Type 0
  AllWordsBy Of none ws = ws ≡ []
  AllWordsBy Of (child s ss) ws = (a : List (List ℕ)) × (b : List (List ℕ)) × WordsBy Of s a × AllWordsBy Of ss b × (ws ≡ a ++ b)

-- ws is a token sequence of the tree
abbrev pub IsWords : Shape → List (List ℕ) → Type 0
IsWords s ws = WordsBy IsLeafWords s ws

abbrev pub AreWords : Shapes → List (List ℕ) → Type 0
AreWords ss ws = AllWordsBy IsLeafWords ss ws

-- ws is a token sequence of the tree in which every axis leaf is short
abbrev pub IsShortWords : Shape → List (List ℕ) → Type 0
IsShortWords s ws = WordsBy IsShortLeafWords s ws

-- ---- the token sequence in which every axis leaf is short, as it computes

abbrev pub leaf_words : Leaf → List (List ℕ)
leaf_words l = if is_axis l then short_words l else long_words l

abbrev mutual
  pub words : Shape → List (List ℕ)
  words (leaf l) = leaf_words l ++ codes ";" ∷ []
  words (union kids) = block_words (codes "union") (words_all kids)
  words (meet kids) = block_words (codes "intersection") (words_all kids)
  words (cut first kids) = block_words (codes "difference") (words first ++ words_all kids)

  pub words_all : Shapes → List (List ℕ)
  words_all none = []
  words_all (child s ss) = words s ++ words_all ss
