-- What holds of each half-space of elements, told element by element.
use Rattle.std.proofs.Common.{◌≡◌, Bool, true, false, List, [], ◌∷◌, ◌++◌, refl}
use Rattle.std.specs.Prelude.{All, if◌then◌else◌}
use Rattle.std.proofs.lemmas.List.Elements.{All-cons, All-nil, All-head, All-tail, All-append}
use Rattle.bc_num.specs.Measures.{square_between, is_same}
use Rattle.bc_solid.specs.declared.element.Element.{Element}
use Rattle.bc_solid.specs.declared.element.Element.TheVariants.{Edge, Arc}
use Rattle.bc_solid.specs.HalfSpaces.{HalfSpace2, Line, Disc, half_spaces_of, half_spaces}

-- of the line of an edge; of the line of an arc's chord, if it is no full circle, and of the arc's disc
abbrev pub ForHalves : (HalfSpace2 → Type 0) → Element → Type 0
ForHalves P (Edge a b) = P (Line a b)
ForHalves P (Arc a b c ccw) = (is_same a b ≡ false → P (Line a b)) × P (Disc c (square_between c a))

front : {X : Type 0} (P : X → Type 0) (xs ys : List X) → All P (xs ++ ys) → All P xs
front P [] ys h = All-nil P
front P (x ∷ xs) ys h = All-cons P x xs (All-head P x (xs ++ ys) h) (front P xs ys (All-tail P x (xs ++ ys) h))

rest : {X : Type 0} (P : X → Type 0) (xs ys : List X) → All P (xs ++ ys) → All P ys
rest P [] ys h = h
rest P (x ∷ xs) ys h = rest P xs ys (All-tail P x (xs ++ ys) h)

arc_parts : (P : HalfSpace2 → Type 0) (s : Bool) (l d : HalfSpace2) → All P (if s then d ∷ [] else l ∷ d ∷ []) → (s ≡ false → P l) × P d
arc_parts P true l d h = (λ e. absurd (let q : true ≡ false = e in cc), All-head P d [] h)
arc_parts P false l d h = (λ e. All-head P l (d ∷ []) h, All-head P d [] (All-tail P l (d ∷ []) h))

arc_whole : (P : HalfSpace2 → Type 0) (s : Bool) (l d : HalfSpace2) → (s ≡ false → P l) × P d → All P (if s then d ∷ [] else l ∷ d ∷ [])
arc_whole P true l d h = All-cons P d [] h.1 (All-nil P)
arc_whole P false l d h = All-cons P l (d ∷ []) (h.0 refl) (All-cons P d [] h.1 (All-nil P))

of_parts : (P : HalfSpace2 → Type 0) (e : Element) → All P (half_spaces_of e) → ForHalves P e
of_parts P (Edge a b) h = All-head P (Line a b) [] h
of_parts P (Arc a b c ccw) h = arc_parts P (is_same a b) (Line a b) (Disc c (square_between c a)) h

of_whole : (P : HalfSpace2 → Type 0) (e : Element) → ForHalves P e → All P (half_spaces_of e)
of_whole P (Edge a b) h = All-cons P (Line a b) [] h (All-nil P)
of_whole P (Arc a b c ccw) h = arc_whole P (is_same a b) (Line a b) (Disc c (square_between c a)) h

pub for_halves : (P : HalfSpace2 → Type 0) (es : List Element) → All P (half_spaces es) → All (ForHalves P) es
for_halves P [] h = All-nil (ForHalves P)
for_halves P (e ∷ es) h =
    All-cons (ForHalves P) e es (of_parts P e (front P (half_spaces_of e) (half_spaces es) h)) (for_halves P es (rest P (half_spaces_of e) (half_spaces es) h))

pub from_halves : (P : HalfSpace2 → Type 0) (es : List Element) → All (ForHalves P) es → All P (half_spaces es)
from_halves P [] h = All-nil P
from_halves P (e ∷ es) h =
    All-append P (half_spaces_of e) (half_spaces es) (of_whole P e (All-head (ForHalves P) e es h)) (from_halves P es (All-tail (ForHalves P) e es h))
