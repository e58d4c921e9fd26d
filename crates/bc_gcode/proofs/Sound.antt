-- What a program keeps from block to block.
use Rattle.std.proofs.Common.{◌≡◌, ◌≤◌, ◌<◌, ℕ, ◌+◌, Bool, true, false, nat_lt, List, [], ◌∷◌, ◌++◌, length, Result, Ok, Err, refl, sym, ap, ◌∙◌, subst, arith, length-append, append-nil, append_assoc, if◌then◌else◌}
use Rattle.std.proofs.lemmas.Bool.{and_from, and_parts}
use Rattle.std.proofs.lemmas.Bool.Decides.{Decides-int_eq}
use Rattle.std.proofs.lemmas.List.Elements.{All-append, All-cons, All-nil}
use Rattle.std.proofs.lemmas.List.Folds.{list_all-append}
use Rattle.std.specs.Ordering.{int_eq}
use Rattle.std.specs.Prelude.{All}
use Rattle.std.specs.List.{list_all}
use Rattle.bc_num.specs.declared.v2.V2.{V2}
use Rattle.bc_solid.specs.declared.element.Element.{Element}
use Rattle.bc_gcode.specs.declared.program.Program.{Program}
use Rattle.bc_gcode.specs.declared.fault.GFault.{GFault}
use Rattle.bc_gcode.specs.Answers.{◌>>=◌}
use Rattle.bc_solid.specs.Closed.{start_of, end_of}
use Rattle.bc_solid.specs.Closed.{IsWay, IsContour, joined}
use Rattle.bc_solid.specs.Contours.{is_far_point, is_drawn}
use Rattle.bc_num.specs.Measures.{is_same}
use Rattle.bc_gcode.specs.Program.{last_end, ends_of, close, close_at, add}

-- Tests

pub same_is : (p q : V2) → is_same p q ≡ true → p ≡ q
same_is p q h =
    let x : p.x ≡ q.x = (Decides-int_eq p.x q.x).0 (and_parts (int_eq p.x q.x) _ h).0 in
    let y : p.y ≡ q.y = (Decides-int_eq p.y q.y).0 (and_parts (int_eq p.x q.x) _ h).1 in
    rw (x, y) refl

-- Contours

-- a contour that leads to q, or none yet
abbrev pub Reaches : List Element → V2 → Type 0
Reaches [] q = Unit {0}
Reaches (e ∷ es) q = IsWay (end_of e) es q

way-more : (p q : V2) (es : List Element) (e : Element) → IsWay p es q → start_of e ≡ q → IsWay p (es ++ e ∷ []) (end_of e)
way-more p q [] e h b = (b ∙ sym h, refl)
way-more p q (x ∷ xs) e h b = (h.0, way-more (end_of x) q xs e h.1 b)

reaches-more : (q : V2) (es : List Element) (e : Element) → Reaches es q → start_of e ≡ q → Reaches (es ++ e ∷ []) (end_of e)
reaches-more q [] e h b = refl
reaches-more q (x ∷ xs) e h b = way-more (end_of x) q xs e h b

way-end : (q : V2) (e : Element) (es : List Element) → IsWay (end_of e) es q → last_end e es ≡ q
way-end q e [] h = h
way-end q e (x ∷ xs) h = way-end q x xs h.1

closes : (q : V2) (e : Element) (es : List Element) → IsWay (end_of e) es q → is_same (start_of e) (last_end e es) ≡ true → IsContour (e ∷ es)
closes q e es h k =
    let back : q ≡ start_of e = sym (way-end q e es h) ∙ sym (same_is _ _ k) in
    subst (IsWay (end_of e) es) back h

closed-one : (c : List Element) → IsContour c → All IsContour (c ∷ [])
closed-one c h = All-cons IsContour c [] h (All-nil IsContour)

joined-more : (cs : List (List Element)) (c : List Element) → joined (cs ++ c ∷ []) ≡ joined cs ++ c
joined-more [] c = append-nil c
joined-more (d ∷ ds) c = ap (λ es. d ++ es) (joined-more ds c) ∙ sym (append_assoc d (joined ds) c)

drawn-both : (xs ys : List Element) → list_all is_drawn xs ≡ true → list_all is_drawn ys ≡ true → list_all is_drawn (xs ++ ys) ≡ true
drawn-both xs ys h k = list_all-append is_drawn xs ys ∙ and_from (list_all is_drawn xs) (list_all is_drawn ys) h k

-- Programs

pub record Sound (s : Program) : Type 0 where
  pub near : is_far_point s.position ≡ false
  pub chain : Reaches s.contour s.position
  pub drawn : list_all is_drawn s.contour ≡ true
  pub done : All IsContour s.contours
  pub done_drawn : list_all is_drawn (joined s.contours) ≡ true
  pub count : s.count ≡ length (joined s.contours) + length s.contour
  pub few : s.count ≤ 512

-- Steps that answer

pub pick : {A : Type 0} (c : Bool) (x y : Result A GFault) (t : A) (P : Type 0) → (c ≡ true → x ≡ Ok t → P) → (c ≡ false → y ≡ Ok t → P)
    → (if c then x else y) ≡ Ok t → P
pick true x y t P f g h = f refl h
pick false x y t P f g h = g refl h

pub bind : {A B : Type 0} (r : Result A GFault) (f : A → Result B GFault) (t : B) → (r >>= f) ≡ Ok t → (a : A) × (r ≡ Ok a) × (f a ≡ Ok t)
bind (Ok a) f t h = (a, refl, h)
bind (Err e) f t h = cc

abbrev pub yes : {A : Type 0} → A → Result A GFault
yes x = Ok x

ok-is : {A : Type 0} (x t : A) → yes x ≡ Ok t → x ≡ t
ok-is x t h = cc

to : (s t : Program) → yes s ≡ Ok t → Sound s → Sound t
to s t h k = subst Sound (ok-is s t h) k

added : (s : Program) (e : Element) → s.count < 512 → Sound s → is_drawn e ≡ true → is_far_point (end_of e) ≡ false → start_of e ≡ s.position
    → Sound (record s { position = end_of e; contour = s.contour ++ e ∷ []; count = s.count + 1 })
added s e h k i n b =
    let m : length (s.contour ++ e ∷ []) ≡ length s.contour + 1 = length-append s.contour (e ∷ []) in
    let count : s.count ≡ length (joined s.contours) + length s.contour = k.count in
    record {
      near = n;
      chain = reaches-more s.position s.contour e k.chain b;
      drawn = drawn-both s.contour (e ∷ []) k.drawn (and_from (is_drawn e) true i refl);
      done = k.done;
      done_drawn = k.done_drawn;
      count = omega arith;
      few = omega arith;
    }

lt-is : (n m : ℕ) → nat_lt n m ≡ true → n < m
lt-is n m h = grind arith

pub add_sound : (l : ℕ) (s : Program) (e : Element) (t : Program) → Sound s → is_drawn e ≡ true → is_far_point (end_of e) ≡ false
    → start_of e ≡ s.position → add l s e ≡ Ok t → Sound t
add_sound l s e t k i n b =
    pick (nat_lt s.count 512) _ _ t (Sound t) (λ h r. to _ t r (added s e (lt-is s.count 512 h) k i n b)) (λ h r. cc)

-- behind a close
pub record Closed (s t : Program) : Type 0 where
  pub sound : Sound t
  pub contour : t.contour ≡ []
  pub position : t.position ≡ s.position

closed : (s : Program) (e : Element) (es : List Element) → s.contour ≡ e ∷ es → is_same (start_of e) (last_end e es) ≡ true → Sound s
    → Closed s (record s { contour = []; contours = s.contours ++ s.contour ∷ [] })
closed s e es c h k =
    let whole : IsContour s.contour =
    let chain : Reaches (e ∷ es) s.position = subst (λ es. Reaches es s.position) c k.chain in
    subst IsContour (sym c) (closes s.position e es chain h) in
    let all : joined (s.contours ++ s.contour ∷ []) ≡ joined s.contours ++ s.contour = joined-more s.contours s.contour in
    let more : length (joined (s.contours ++ s.contour ∷ [])) ≡ length (joined s.contours) + length s.contour =
    ap length all ∙ length-append (joined s.contours) s.contour in
    let count : s.count ≡ length (joined s.contours) + length s.contour = k.count in
    record {
      sound = record {
        near = k.near;
        chain = tt;
        drawn = refl;
        done = All-append IsContour s.contours (s.contour ∷ []) k.done (closed-one s.contour whole);
        done_drawn = ap (list_all is_drawn) all ∙ drawn-both (joined s.contours) s.contour k.done_drawn k.drawn;
        count = omega arith;
        few = k.few;
      };
      contour = refl;
      position = refl;
    }

to_closed : (s u t : Program) → yes u ≡ Ok t → Closed s u → Closed s t
to_closed s u t h k = let P : Program → Type 0 = λ v. Closed s v in subst P (ok-is u t h) k

close-as : (l : ℕ) (s : Program) (c : List Element) (t : Program) → s.contour ≡ c → Sound s → close_at l s (ends_of c) ≡ Ok t → Closed s t
close-as l s [] t e k h = to_closed s s t h (record { sound = k; contour = e; position = refl })
close-as l s (x ∷ xs) t e k h =
    pick (is_same (start_of x) (last_end x xs)) _ _ t (Closed s t) (λ q r. to_closed s _ t r (closed s x xs e q k)) (λ q r. cc) h

pub close_sound : (l : ℕ) (s t : Program) → Sound s → close l s ≡ Ok t → Closed s t
close_sound l s t k h = close-as l s s.contour t refl k h
