-- Edges that are marked or not. Where the marks of each edge that passes a test are even in number, all marks that pass are.
use Rattle.std.proofs.Common.{◌≡◌, Bool, true, false, not, ◌&&◌, ◌||◌, List, [], ◌∷◌, refl, sym, ◌∙◌, ap}
use Rattle.std.specs.Prelude.{All}
use Rattle.std.proofs.lemmas.List.Elements.{All-nil, All-cons, All-weaker}
use Rattle.std.proofs.lemmas.Bool.{and_parts}
use Rattle.bc_solid.specs.Meshes.{Edge3, joins}
use Rattle.bc_parity.specs.Parity.{xor}
use Rattle.bc_parity.specs.Sums.{odd}
use Rattle.bc_solid.proofs.Joins.{flipped, joins-self}
use Rattle.bc_parity.proofs.Joins.{IsSymmetric, joins-symmetric, same_answer}
use Rattle.bc_parity.proofs.Xors.{and_false, and_true, and_when, or_true, odd-same, odd-same_all, odd-xor, odd-and, odd-none, and_xor}

pub record Marked : Type 0 where
  pub mark : Bool
  pub edge : Edge3

-- the edges, all with one mark
abbrev pub marked : Bool → List Edge3 → List Marked
marked b [] = []
marked b (e ∷ es) = record { mark = b; edge = e } ∷ marked b es

-- the marked ones that pass
abbrev pub passes : (Edge3 → Bool) → Marked → Bool
passes test x = x.mark && test x.edge

pub odd-marked : (test : Edge3 → Bool) (b : Bool) (es : List Edge3) → odd (passes test) (marked b es) ≡ (b && odd test es)
odd-marked test b [] = sym (and_false b)
odd-marked test b (e ∷ es) = ap (xor (b && test e)) (odd-marked test b es) ∙ sym (and_xor b (test e) (odd test es))

-- some edge of the list has the ends of e
abbrev some_joins : List Edge3 → Edge3 → Bool
some_joins [] e = false
some_joins (y ∷ ys) e = joins y e || some_joins ys e

some_joins-symmetric : (ys : List Edge3) → IsSymmetric (some_joins ys)
some_joins-symmetric [] e = refl
some_joins-symmetric (y ∷ ys) e =
    ap (λ b. b || some_joins ys (flipped e)) (joins-symmetric y e) ∙ ap (λ b. joins y e || b) (some_joins-symmetric ys e)

-- an edge that passes and is joined by y or later ones: is joined by later ones, or else by y, and y passes and is joined by none later
split : (j t a t' a' : Bool) → (j ≡ true → t' ≡ t) → (j ≡ true → a' ≡ a) → (t && (j || a)) ≡ xor (t && a) ((t' && not a') && j)
split true t a t' a' h k =
    at t a ∙ ap (λ z. xor (t && a) ((z && not a) && true)) (sym (h refl)) ∙ ap (λ z. xor (t && a) ((t' && not z) && true)) (sym (k refl))
  where
    at : (t a : Bool) → (t && true) ≡ xor (t && a) ((t && not a) && true)
    at true true = refl
    at true false = refl
    at false a = refl
split false t a t' a' h k = at (t && a) ∙ ap (xor (t && a)) (sym (and_false (t' && not a')))
  where
    at : (b : Bool) → b ≡ xor b false
    at true = refl
    at false = refl

regroup : (m u c j : Bool) → (m && xor u (c && j)) ≡ xor (m && u) (c && (m && j))
regroup true u c j = refl
regroup false u c j = sym (and_false c)

-- the marked occurrences that pass and are joined by one of the list
within : (test : Edge3 → Bool) (xs : List Marked) → IsSymmetric test → ((k : Edge3) → test k ≡ true → odd (λ x. x.mark && joins k x.edge) xs ≡ false)
    → (ys : List Edge3) → odd (λ x. x.mark && (test x.edge && some_joins ys x.edge)) xs ≡ false
within test xs s h [] =
    odd-same_all (λ x. x.mark && (test x.edge && false)) (λ x. false) xs (λ x. ap (λ b. x.mark && b) (and_false (test x.edge)) ∙ and_false x.mark)
    ∙ odd-none xs
within test xs s h (y ∷ ys) =
    let c : Bool = test y && not (some_joins ys y) in
    let each : (x : Marked) → (x.mark && (test x.edge && (joins y x.edge || some_joins ys x.edge)))
    ≡ xor (x.mark && (test x.edge && some_joins ys x.edge)) ((test y && not (some_joins ys y)) && (x.mark && joins y x.edge)) =
    λ x.
    ap (λ b. x.mark && b)
    (split (joins y x.edge) (test x.edge) (some_joins ys x.edge) (test y) (some_joins ys y) (same_answer test s y x.edge) (same_answer (some_joins ys) (some_joins-symmetric ys) y x.edge))
    ∙ regroup x.mark (test x.edge && some_joins ys x.edge) (test y && not (some_joins ys y)) (joins y x.edge) in
    odd-same_all (λ x. x.mark && (test x.edge && (joins y x.edge || some_joins ys x.edge)))
    (λ x. xor (x.mark && (test x.edge && some_joins ys x.edge)) ((test y && not (some_joins ys y)) && (x.mark && joins y x.edge))) xs each
    ∙ odd-xor (λ x. x.mark && (test x.edge && some_joins ys x.edge)) (λ x. (test y && not (some_joins ys y)) && (x.mark && joins y x.edge)) xs
    ∙ ap (λ b. xor b (odd (λ x. (test y && not (some_joins ys y)) && (x.mark && joins y x.edge)) xs)) (within test xs s h ys)
    ∙ odd-and (test y && not (some_joins ys y)) (λ x. x.mark && joins y x.edge) xs
    ∙ and_when (test y && not (some_joins ys y)) (odd (λ x. x.mark && joins y x.edge) xs) false (λ e. h y (and_parts (test y) (not (some_joins ys y)) e).0)
    ∙ and_false (test y && not (some_joins ys y))

-- each occurrence is joined by its own edge
abbrev keys : List Marked → List Edge3
keys [] = []
keys (x ∷ xs) = x.edge ∷ keys xs

cover : (xs : List Marked) → All (λ x. some_joins (keys xs) x.edge ≡ true) xs
cover [] = All-nil (λ x. false ≡ true)
cover (x ∷ xs) =
    All-cons (λ y. (joins x.edge y.edge || some_joins (keys xs) y.edge) ≡ true) x xs
    (ap (λ b. b || some_joins (keys xs) x.edge) (joins-self x.edge))
    (All-weaker (λ y. some_joins (keys xs) y.edge ≡ true) (λ y. (joins x.edge y.edge || some_joins (keys xs) y.edge) ≡ true)
    (λ y h. ap (λ b. joins x.edge y.edge || b) h ∙ or_true (joins x.edge y.edge)) xs (cover xs))

pub list_law : (test : Edge3 → Bool) (xs : List Marked) → IsSymmetric test → ((k : Edge3) → test k ≡ true → odd (passes (joins k)) xs ≡ false)
    → odd (passes test) xs ≡ false
list_law test xs s h =
    odd-same (λ x. x.mark && test x.edge) (λ x. x.mark && (test x.edge && some_joins (keys xs) x.edge)) xs
    (All-weaker (λ x. some_joins (keys xs) x.edge ≡ true) (λ x. (x.mark && test x.edge) ≡ (x.mark && (test x.edge && some_joins (keys xs) x.edge)))
    (λ x e. ap (λ b. x.mark && b) (sym (and_true (test x.edge)) ∙ ap (λ b. test x.edge && b) (sym e))) xs (cover xs))
    ∙ within test xs s h (keys xs)
