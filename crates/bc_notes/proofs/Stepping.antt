-- Best points at several places, and one mask more.
use Rattle.std.proofs.Common.{◌≡◌, ◌≢◌, ℕ, ◌<◌, List, [], ◌∷◌, ◌++◌, length, get_or, Option, None, inl, inr, refl, sym, subst, arith, ⊎_elim}
use Rattle.std.specs.Prelude.{◌⊎◌}
use Rattle.std.proofs.lemmas.Bool.{cases_eq}
use Rattle.std.proofs.lemmas.List.{length-append, get_or_append_left}
use Rattle.std.proofs.Math.Seq.{get_or-append_seam}
use Rattle.bc_text.specs.declared.note.Spot.{Spot}
use Rattle.bc_notes.specs.declared.best.Best.{Best}
use Rattle.bc_notes.specs.Bests.{IsStep, AllAt, AreSteps}

-- the same step, where another fact says that the mask will do, or there is no point
pub step_as : (spot : Option Spot) (A B : Type 0) (old new : Option Spot) → (A → B) → (B → A ⊎ (spot ≡ None)) → IsStep A spot old new → IsStep B spot old new
step_as spot A B old new to from s = record {
  one_of = ⊎_elim (λ e. inl e) (λ w. inr (to w.0, w.1)) s.one_of;
  none = λ e. ((s.none e).0, λ b. ⊎_elim (λ a. (s.none e).1 a) (λ n. n) (from b));
}

-- a mask that will do at none of the places
pub steps_kept : (Will : ℕ → Type 0) (spot : Option Spot) (bests : List Best) → ((i : ℕ) → i < length bests → Will i → ⊥) → AreSteps Will spot bests bests
steps_kept Will spot bests not_here = λ i d l. record { one_of = inl refl; none = λ e. (e, λ will. absurd (not_here i l will)) }

pub steps_as : (A B : ℕ → Type 0) (spot : Option Spot) (old new : List Best) → ((i : ℕ) → A i → B i) → ((i : ℕ) → B i → A i) → AreSteps A spot old new → AreSteps B spot old new
steps_as A B spot old new to from s = λ i d l. step_as spot (A i) (B i) (get_or old i d).spot (get_or new i d).spot (to i) (λ b. inl (from i b)) (s i d l)

-- one best more
pub all_push : (P : ℕ → Option Spot → Type 0) (bests : List Best) (b : Best) → AllAt P bests → P (length bests) b.spot → AllAt P (bests ++ b ∷ [])
all_push P bests b all new = λ i d l. ⊎_elim (λ e. here i d e) (λ ne. there i d l ne) (cases_eq i (length bests))
  where
    here : (i : ℕ) (d : Best) → i ≡ length bests → P i (get_or (bests ++ b ∷ []) i d).spot
    here i d e = subst (λ k. P k (get_or (bests ++ b ∷ []) k d).spot) (sym e) (subst (λ (x : Best). P (length bests) x.spot) (sym (get_or-append_seam bests b [] d)) new)

    there : (i : ℕ) (d : Best) → i < length (bests ++ b ∷ []) → i ≢ length bests → P i (get_or (bests ++ b ∷ []) i d).spot
    there i d l ne =
        let n = length-append bests (b ∷ []) in
        let less : i < length bests = omega (arith, n, l, ne) in
        subst (λ (x : Best). P i x.spot) (sym (get_or_append_left bests (b ∷ []) d i less)) (all i d less)

pub all_as : (P Q : ℕ → Option Spot → Type 0) (bests : List Best) → ((i : ℕ) (spot : Option Spot) → P i spot → Q i spot) → AllAt P bests → AllAt Q bests
all_as P Q bests to all = λ i d l. to i (get_or bests i d).spot (all i d l)

-- what a step makes of what holds at each place
pub all_step : (P Q : ℕ → Option Spot → Type 0) (Will : ℕ → Type 0) (spot : Option Spot) (old new : List Best) → length new ≡ length old → ((i : ℕ) (a b : Option Spot) → i < length old → IsStep (Will i) spot a b → P i a → Q i b) → AreSteps Will spot old new → AllAt P old → AllAt Q new
all_step P Q Will spot old new same to steps all = λ i d l. let k : i < length old = omega (arith, l, same) in to i (get_or old i d).spot (get_or new i d).spot k (steps i d k) (all i d k)
