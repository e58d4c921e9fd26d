-- Lists of answers, one for each of some masks; and what the children that are left of a node answer.
use Rattle.std.proofs.Common.{◌≡◌, ℕ, zero, suc, ◌+◌, ◌<◌, ◌≤◌, Bool, true, false, ◌&&◌, ◌||◌, List, [], ◌∷◌, length, drop, map, Some, get_or, refl, sym, ap, ◌∙◌, subst, arith}
use Rattle.std.specs.Prelude.{slice_get}
use Rattle.std.proofs.lemmas.List.{drop_all, get_or-map}
use Rattle.std.proofs.lemmas.Option.{slice_get-get_or}
use Rattle.bc_tree.specs.declared.tree.Leaf.{Leaf}
use Rattle.bc_tree.specs.declared.tree.Tree.{Tree}
use Rattle.bc_tree.specs.Shape.{shape, shapes, EachLeaf}
use Rattle.bc_audit.specs.Told.{holds_by, some_holds, each_holds}

-- ---- lists of answers

-- a list with the answer at each place is that of all
pub built : (answer : ℕ → Bool) (masks : List ℕ) (found : List Bool) → length found ≡ length masks → ((k : ℕ) → k < length masks → get_or found k false ≡ answer (get_or masks k 0))
    → found ≡ map answer masks
built answer [] [] l h = refl
built answer [] (b ∷ bs) l h = absurd (omega arith)
built answer (m ∷ ms) [] l h = absurd (omega arith)
built answer (m ∷ ms) (b ∷ bs) l h = ap (λ c. c ∷ bs) (h 0 (omega arith)) ∙ ap (λ cs. answer m ∷ cs) (built answer ms bs (omega arith) (λ k n. h (suc k) (omega arith)))

-- and the other way
pub answer_at : (answer : ℕ → Bool) (masks : List ℕ) (found : List Bool) → found ≡ map answer masks → (k : ℕ) → k < length masks → get_or found k false ≡ answer (get_or masks k 0)
answer_at answer masks found e k l = ap (λ bs. get_or bs k false) e ∙ get_or-map answer masks k 0 false l

-- ---- the children that are left

pub item_at : {X : Type 0} (xs : List X) (i : ℕ) (x : X) → i < length xs → x ≡ get_or xs i x → slice_get xs i ≡ Some x
item_at xs i x l e = slice_get-get_or xs i x l ∙ ap Some (sym e)

pub drop_at : {X : Type 0} (xs : List X) (i : ℕ) (x : X) → slice_get xs i ≡ Some x → drop i xs ≡ x ∷ drop (i + 1) xs
drop_at [] i x h = cc
drop_at (y ∷ ys) zero x h = let e : y ≡ x = cc in ap (λ z. z ∷ ys) e
drop_at (y ∷ ys) (suc i) x h = let e : suc (i + 1) ≡ suc i + 1 = omega arith in drop_at ys i x h ∙ ap (λ j. x ∷ drop j (y ∷ ys)) e

module _ (kids : List Tree) (i : ℕ) where
  pub leaves_left : (P : Leaf → Type 0) (kid : Tree) → slice_get kids i ≡ Some kid → EachLeaf P (shapes (drop i kids)) → EachLeaf P (shapes (drop (i + 1) kids))
  leaves_left P kid at h =
      let whole : EachLeaf P (shapes (kid ∷ drop (i + 1) kids)) = subst (λ ks. EachLeaf P (shapes ks)) (drop_at kids i kid at) h in
      whole.1

  or_assoc : (a b c : Bool) → ((a || b) || c) ≡ (a || (b || c))
  or_assoc true b c = refl
  or_assoc false b c = refl

  and_assoc : (a b c : Bool) → ((a && b) && c) ≡ (a && (b && c))
  and_assoc true b c = refl
  and_assoc false b c = refl

  or_none : (a : Bool) → (a || false) ≡ a
  or_none true = refl
  or_none false = refl

  and_none : (a : Bool) → (a && true) ≡ a
  and_none true = refl
  and_none false = refl

  -- one more child
  pub some_more : (test : Leaf → Bool) (kid : Tree) (found more new all : Bool) → slice_get kids i ≡ Some kid → new ≡ (found || more) → more ≡ holds_by test (shape kid)
      → (found || some_holds test (shapes (drop i kids))) ≡ all → (new || some_holds test (shapes (drop (i + 1) kids))) ≡ all
  some_more test kid found more new all at e f h =
      let rest = some_holds test (shapes (drop (i + 1) kids)) in
      ap (λ b. b || rest) (e ∙ ap (λ b. found || b) f) ∙ or_assoc found (holds_by test (shape kid)) rest
      ∙ ap (λ ks. found || some_holds test (shapes ks)) (sym (drop_at kids i kid at)) ∙ h

  pub each_more : (test : Leaf → Bool) (kid : Tree) (found more new all : Bool) → slice_get kids i ≡ Some kid → new ≡ (found && more) → more ≡ holds_by test (shape kid)
      → (found && each_holds test (shapes (drop i kids))) ≡ all → (new && each_holds test (shapes (drop (i + 1) kids))) ≡ all
  each_more test kid found more new all at e f h =
      let rest = each_holds test (shapes (drop (i + 1) kids)) in
      ap (λ b. b && rest) (e ∙ ap (λ b. found && b) f) ∙ and_assoc found (holds_by test (shape kid)) rest
      ∙ ap (λ ks. found && each_holds test (shapes ks)) (sym (drop_at kids i kid at)) ∙ h

  -- none is left
  pub some_done : (test : Leaf → Bool) (found all : Bool) → length kids ≤ i → (found || some_holds test (shapes (drop i kids))) ≡ all → found ≡ all
  some_done test found all l h = sym (or_none found) ∙ ap (λ ks. found || some_holds test (shapes ks)) (sym (drop_all i kids l)) ∙ h

  pub each_done : (test : Leaf → Bool) (found all : Bool) → length kids ≤ i → (found && each_holds test (shapes (drop i kids))) ≡ all → found ≡ all
  each_done test found all l h = sym (and_none found) ∙ ap (λ ks. found && each_holds test (shapes ks)) (sym (drop_all i kids l)) ∙ h
