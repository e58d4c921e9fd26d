-- The words of a face's row, as they are read.
use Rattle.std.proofs.Common.{◌≡◌, ◌<◌, ℕ, zero, suc, ◌+◌, ◌-◌, List, [], ◌∷◌, ◌++◌, drop, Option, Some, None, ℤ, Result, Ok, Err, refl, sym, ap, ◌∙◌, subst, arith}
use Rattle.std.proofs.lemmas.List.{drop-drop}
use Rattle.bc_lex.specs.Places.{WordPlace}
use Rattle.bc_lex.specs.Words.{PlainWord, next_plain, after_plain}
use Rattle.bc_lex.specs.Left.{plain_left}
use Rattle.bc_lex.proofs.PlainSteps.{plain_stays}
use Rattle.bc_off.specs.declared.fault.OffFault.{OffFault}
use Rattle.bc_off.specs.declared.fault.OffFault.TheVariants.{Short}
use Rattle.bc_off.specs.Answers.{◌>>=◌}
use Rattle.bc_off.specs.Entries.{number, no_more}
use Rattle.bc_off.specs.Left.{row_at, after_words, IsBehind}
use Rattle.bc_off.specs.Faces.{corners, place, places, face}
use Rattle.bc_off.proofs.WordSteps.{Left, no_word, a_word, left_is, some_left}
use Rattle.bc_off.proofs.Runs.{joined, joined_more, less_one, over}

-- ---- places one after another

pub behind_none : (p : WordPlace) → IsBehind 0 p p
behind_none p = record { line = refl; nth = omega arith; text = refl; words = refl }

pub behind_more : (k : ℕ) (p q r : WordPlace) → IsBehind k p q → IsBehind 1 q r → IsBehind (k + 1) p r
behind_more k p q r a b =
    let first : q.nth ≡ p.nth + k = a.nth in
    let second : r.nth ≡ q.nth + 1 = b.nth in
    record {
      line = b.line ∙ a.line;
      nth = omega arith;
      text = b.text ∙ a.text;
      words = b.words ∙ ap (drop 1) a.words ∙ drop-drop 1 k (plain_left p);
    }

ok-left : {A : Type 0} (f : ℤ → Result A OffFault) (p : WordPlace) (x : A) → Left p → Ok x ≡ (number p.line (p.nth + 1) (plain_left p) >>= f) → IsBehind 1 p (after_plain p)
ok-left f p x (no_word e) h =
    let none : (number p.line (p.nth + 1) (plain_left p) >>= f) ≡ Err (Short p.line (p.nth + 1)) = rw e refl in cc
ok-left f p x (a_word w e b) h = b

-- where a number was read there was a word
pub ok_left : {A : Type 0} (f : ℤ → Result A OffFault) (p : WordPlace) (x : A) → Ok x ≡ (number p.line (p.nth + 1) (plain_left p) >>= f) → IsBehind 1 p (after_plain p)
ok_left f p x h = ok-left f p x (left_is p) h

-- ---- the vertices of a face

places-one : (l n m j : ℕ) (ws : List (List ℕ)) (xs : List ℕ)
    → joined xs (places l n m (suc j) ws) ≡ (place l n m ws >>= λ i. joined xs (places l (n + 1) m j (drop 1 ws) >>= λ is. Ok (i ∷ is)))
places-one l n m j ws xs = over (place l n m ws) (λ i. places l (n + 1) m j (drop 1 ws) >>= λ is. Ok (i ∷ is)) xs

pub places_fails : (l n m k i : ℕ) (ws : List (List ℕ)) (xs : List ℕ) (f : OffFault) → i < k → place l n m ws ≡ Err f → joined xs (places l n m (k - i) ws) ≡ Err f
places_fails l n m k i ws xs f h e =
    ap (λ j. joined xs (places l n m j ws)) (less_one k i h)
    ∙ places-one l n m (k - (i + 1)) ws xs
    ∙ ap (λ r. r >>= λ i'. joined xs (places l (n + 1) m (k - (i + 1)) (drop 1 ws) >>= λ is. Ok (i' ∷ is))) e

places-moved : (l n m j l2 n2 : ℕ) (ws2 ws : List (List ℕ)) (xs : List ℕ) → l2 ≡ l → n2 ≡ n + 1 → ws2 ≡ drop 1 ws
    → joined xs (places l (n + 1) m j (drop 1 ws)) ≡ joined xs (places l2 n2 m j ws2)
places-moved l n m j l2 n2 ws2 ws xs a b c = rw (a, b, c) refl

pub places_went : (m k i : ℕ) (p q : WordPlace) (xs : List ℕ) (x : ℕ) → i < k → IsBehind 1 p q → Ok x ≡ place p.line (p.nth + 1) m (plain_left p)
    → joined xs (places p.line (p.nth + 1) m (k - i) (plain_left p)) ≡ joined (xs ++ x ∷ []) (places q.line (q.nth + 1) m (k - (i + 1)) (plain_left q))
places_went m k i p q xs x h b e =
    let l = p.line in
    let n : ℕ = p.nth + 1 in
    let ws = plain_left p in
    let j : ℕ = k - (i + 1) in
    ap (λ j. joined xs (places l n m j ws)) (less_one k i h)
    ∙ places-one l n m j ws xs
    ∙ ap (λ r. r >>= λ x. joined xs (places l (n + 1) m j (drop 1 ws) >>= λ is. Ok (x ∷ is))) (sym e)
    ∙ joined_more xs x (places l (n + 1) m j (drop 1 ws))
    ∙ places-moved l n m j q.line (q.nth + 1) (plain_left q) ws (xs ++ x ∷ []) b.line (ap (λ n. n + 1) b.nth) b.words

-- ---- the free words

-- at q, j words behind p are left; where any is, q stands j words behind p
pub data Past (j : ℕ) (p q : WordPlace) : Type 0 where
  on_words : IsBehind j p q → Past j p q
  at_end : plain_left q ≡ [] → drop j (plain_left p) ≡ [] → Past j p q

none-behind : (q : WordPlace) (o : Option PlainWord) → o ≡ next_plain q → plain_left q ≡ [] → plain_left (after_plain q) ≡ []
none-behind q None h e = ap plain_left (plain_stays q (sym h)) ∙ e
none-behind q (Some w) h e = let no : [] ≡ w.text ∷ plain_left (after_plain q) = sym e ∙ some_left q w h in cc

drop-none : (j : ℕ) (ws : List (List ℕ)) → drop j ws ≡ [] → drop (j + 1) ws ≡ []
drop-none j ws h = sym (drop-drop 1 j ws) ∙ ap (drop 1) h

past-step : (j : ℕ) (p q : WordPlace) → Past j p q → Left q → Past (j + 1) p (after_plain q)
past-step j p q (on_words b) (no_word e) = at_end (none-behind q (next_plain q) refl e) (drop-none j (plain_left p) (sym b.words ∙ e))
past-step j p q (on_words b) (a_word w e h) = on_words (behind_more j p q (after_plain q) b h)
past-step j p q (at_end a b) l = at_end (none-behind q (next_plain q) refl a) (drop-none j (plain_left p) b)

past : (j : ℕ) (p : WordPlace) → Past j p (after_words j p)
past zero p = on_words (behind_none p)
past (suc j) p =
    let step : Past (j + 1) p (after_words (suc j) p) = past-step j p (after_words j p) (past j p) (left_is (after_words j p)) in
    let one : j + 1 ≡ suc j = omega arith in
    subst (λ j'. Past j' p (after_words (suc j) p)) one step

past-end : (j : ℕ) (p q : WordPlace) → Past j p q → no_more q.line (q.nth + 1) (plain_left q) ≡ no_more p.line (p.nth + 1 + j) (drop j (plain_left p))
past-end j p q (on_words b) =
    let first : q.nth ≡ p.nth + j = b.nth in
    let nth : q.nth + 1 ≡ p.nth + 1 + j = omega arith in
    rw (b.line, nth, b.words) refl
past-end j p q (at_end a b) = rw (a, b) refl

-- ---- a face

-- what comes behind the vertices
abbrev pub face_end : ℕ → WordPlace → List ℕ → Result (List ℕ) OffFault
face_end k p is = no_more p.line (k + 6) (drop (k + 5) (plain_left p)) >>= λ none. Ok is

-- the number of corners was read
pub face_corners : (m k : ℕ) (p q : WordPlace) → p.nth ≡ 0 → Ok k ≡ corners p.line (p.nth + 1) (plain_left p) → IsBehind 1 p q
    → face m (row_at p) ≡ (places q.line (q.nth + 1) m k (plain_left q) >>= face_end k p)
face_corners m k p q start h b =
    let count : corners p.line 1 (plain_left p) ≡ Ok k = sym (ap (λ n. corners p.line (n + 1) (plain_left p)) start) ∙ sym h in
    let second : q.nth ≡ p.nth + 1 = b.nth in
    let first : p.nth ≡ 0 = start in
    let nth : q.nth + 1 ≡ 2 = omega arith in
    let moved : places p.line 2 m k (drop 1 (plain_left p)) ≡ places q.line (q.nth + 1) m k (plain_left q) = rw (b.line, nth, b.words) refl in
    ap (λ r. r >>= λ k. places p.line 2 m k (drop 1 (plain_left p)) >>= face_end k p) count ∙ ap (λ r. r >>= face_end k p) moved

end-moved : (k : ℕ) (p q r s : WordPlace) → p.nth ≡ 0 → IsBehind 1 p q → IsBehind k q r → s ≡ after_words 4 r
    → no_more p.line (k + 6) (drop (k + 5) (plain_left p)) ≡ no_more s.line (s.nth + 1) (plain_left s)
end-moved k p q r s start a b e =
    let first : p.nth ≡ 0 = start in
    let second : q.nth ≡ p.nth + 1 = a.nth in
    let third : r.nth ≡ q.nth + k = b.nth in
    let nth : r.nth + 1 + 4 ≡ k + 6 = omega arith in
    let count : 1 + k + 4 ≡ k + 5 = omega arith in
    let words : drop 4 (plain_left r) ≡ drop (k + 5) (plain_left p) =
    ap (drop 4) (b.words ∙ ap (drop k) a.words ∙ drop-drop k 1 (plain_left p)) ∙ drop-drop 4 (1 + k) (plain_left p) ∙ ap (λ n. drop n (plain_left p)) count in
    sym (subst (λ s. no_more s.line (s.nth + 1) (plain_left s) ≡ no_more r.line (r.nth + 1 + 4) (drop 4 (plain_left r))) (sym e) (past-end 4 r (after_words 4 r) (past 4 r))
    ∙ ap (λ l. no_more l (r.nth + 1 + 4) (drop 4 (plain_left r))) (b.line ∙ a.line)
    ∙ ap (λ n. no_more p.line n (drop 4 (plain_left r))) nth
    ∙ ap (no_more p.line (k + 6)) words)

-- the vertices were read, and four words passed
pub face_places : (m k : ℕ) (p q r s : WordPlace) (is : List ℕ) → p.nth ≡ 0 → Ok k ≡ corners p.line (p.nth + 1) (plain_left p) → IsBehind 1 p q
    → places q.line (q.nth + 1) m k (plain_left q) ≡ Ok is → IsBehind k q r → s ≡ after_words 4 r
    → face m (row_at p) ≡ (no_more s.line (s.nth + 1) (plain_left s) >>= λ none. Ok is)
face_places m k p q r s is start h a e b f =
    face_corners m k p q start h a ∙ ap (λ r. r >>= face_end k p) e ∙ ap (λ r. r >>= λ none. Ok is) (end-moved k p q r s start a b f)
