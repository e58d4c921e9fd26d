-- What the tests of order answer.
use Rattle.std.proofs.Common.{◌≡◌, Bool, true, false, not, ◌≢◌, arith, sym, ap, ◌∙◌}
use Rattle.std.proofs.lemmas.Int.{ints, by_lt_z}
use Rattle.std.proofs.lemmas.Bool.Decides.{Decides-int_eq}
use Rattle.std.specs.Ordering.{int_eq}
use lib.IntN.{ℤ, pos, ◌*ℤ◌}
use lib.Signed.{◌<ℤ◌, ◌≤ℤ◌, lt_z, le_z}
use Rattle.bc_num.specs.declared.v2.V2.{V2}
use Rattle.bc_num.specs.declared.p2.P2.{P2}
use Rattle.bc_parity.specs.Crossings.{is_before, has_passed}

pub lt_yes : (a b : ℤ) → a <ℤ b → lt_z a b ≡ true
lt_yes a b h = grind (arith, ints)

pub lt_no : (a b : ℤ) → b ≤ℤ a → lt_z a b ≡ false
lt_no a b h = grind (arith, ints)

pub le_yes : (a b : ℤ) → a ≤ℤ b → le_z a b ≡ true
le_yes a b h = grind (arith, ints)

pub le_no : (a b : ℤ) → b <ℤ a → le_z a b ≡ false
le_no a b h = grind (arith, ints)

pub weak : (a b : ℤ) → a <ℤ b → a ≤ℤ b
weak a b h = omega (arith, ints)

equal_le : (a b : ℤ) → a ≡ b → a ≤ℤ b
equal_le a b h = omega (arith, ints)

pub eq_yes : (a b : ℤ) → a ≡ b → int_eq a b ≡ true
eq_yes a b h = (Decides-int_eq a b).1 h

pub eq_is : (a b : ℤ) → int_eq a b ≡ true → a ≡ b
eq_is a b h = (Decides-int_eq a b).0 h

-- one of the three orders
pub by_order : {P : Type 0} (a b : ℤ) → (a <ℤ b → P) → (a ≡ b → P) → (b <ℤ a → P) → P
by_order a b f g h = by_lt_z a b f (λ l. by_lt_z b a h (λ m. g (omega (arith, ints))))

-- ---- the tests that two ends, a point and an end, and a turn give

-- x falls and rises from s to e
pub record Run (s e : V2) (falls rises : Bool) : Type 0 where
  pub falls_is : lt_z e.x s.x ≡ falls
  pub rises_is : lt_z s.x e.x ≡ rises

pub rising : (s e : V2) → s.x <ℤ e.x → Run s e false true
rising s e l = record { falls_is = lt_no e.x s.x (weak _ _ l); rises_is = lt_yes s.x e.x l }

pub falling : (s e : V2) → e.x <ℤ s.x → Run s e true false
falling s e l = record { falls_is = lt_yes e.x s.x l; rises_is = lt_no s.x e.x (weak _ _ l) }

pub upright : (s e : V2) → s.x ≡ e.x → Run s e false false
upright s e l = record { falls_is = lt_no e.x s.x (equal_le _ _ l); rises_is = lt_no s.x e.x (equal_le _ _ (sym l)) }

-- p is before the column of t, or has passed it
pub record Place (p : P2) (t : V2) (before passed : Bool) : Type 0 where
  pub before_is : is_before p t ≡ before
  pub passed_is : has_passed t p ≡ passed

pub before : (p : P2) (t : V2) → p.x <ℤ (t.x *ℤ p.w) → Place p t true false
before p t l = record { before_is = lt_yes p.x (t.x *ℤ p.w) l; passed_is = le_no (t.x *ℤ p.w) p.x l }

pub passed : (p : P2) (t : V2) → (t.x *ℤ p.w) ≤ℤ p.x → Place p t false true
passed p t l = record { before_is = lt_no p.x (t.x *ℤ p.w) l; passed_is = le_yes (t.x *ℤ p.w) p.x l }

-- a turn is to the left, or to the right
pub record Way (z : ℤ) (left right : Bool) : Type 0 where
  pub left_is : lt_z (pos 0) z ≡ left
  pub right_is : lt_z z (pos 0) ≡ right

pub leftward : (z : ℤ) → pos 0 <ℤ z → Way z true false
leftward z l = record { left_is = lt_yes (pos 0) z l; right_is = lt_no z (pos 0) (weak _ _ l) }

pub rightward : (z : ℤ) → z <ℤ pos 0 → Way z false true
rightward z l = record { left_is = lt_no (pos 0) z (weak _ _ l); right_is = lt_yes z (pos 0) l }

-- one of the two, whichever
pub one_way : (z : ℤ) → z ≢ pos 0 → Way z (not (lt_z z (pos 0))) (lt_z z (pos 0))
one_way z n =
    by_order z (pos 0)
    (λ l. of_way (rightward z l))
    (λ e. absurd (n e))
    (λ l. of_way (leftward z l))
  where
    of_way : {r : Bool} → Way z (not r) r → Way z (not (lt_z z (pos 0))) (lt_z z (pos 0))
    of_way {r} w = record { left_is = w.left_is ∙ ap not (sym w.right_is); right_is = λ i. lt_z z (pos 0) }
