-- Closed contours: each element begins where the one before ended, the last ends where the first began, the ends of an
-- edge differ, and the ends of an arc are equally far from its centre.
use Rattle.std.specs.Prelude.{◌≡◌, ◌≢◌, List, [], ◌∷◌, ◌++◌, All, pos, ◌<ℤ◌, ◌≤◌, ◌^◌, length}
use Rattle.bc_num.specs.declared.v2.V2.{V2}
use Rattle.bc_num.specs.Measures.{square_between}
use Rattle.bc_num.specs.Sizes.{AreCoords}
use Rattle.bc_solid.specs.declared.element.Element.{Element}
use Rattle.bc_solid.specs.declared.element.Element.TheVariants.{Edge, Arc}

-- a and b are equally far from c, at a distance above 0
pub record IsClosedArc (a b c : V2) : Type 0 where
  pub proper : pos 0 <ℤ square_between c a
  pub closed : square_between c b ≡ square_between c a

abbrev pub IsProper : Element → Type 0
IsProper (Edge a b) = a ≢ b
IsProper (Arc a b c ccw) = IsClosedArc a b c

abbrev pub start_of : Element → V2
start_of (Edge a b) = a
start_of (Arc a b c ccw) = a

abbrev pub end_of : Element → V2
end_of (Edge a b) = b
end_of (Arc a b c ccw) = b

-- the elements lead from a to z, each from where the one before ended
abbrev pub IsWay : V2 → List Element → V2 → Type 0
IsWay a [] z = a ≡ z
IsWay a (e ∷ es) z = (start_of e ≡ a) × IsWay (end_of e) es z

abbrev pub IsContour : List Element → Type 0
IsContour [] = Unit {0}
IsContour (e ∷ es) = IsWay (end_of e) es (start_of e)

-- the lists, one behind the other
abbrev pub joined : {A : Type 0} → List (List A) → List A
joined [] = []
joined (xs ∷ rest) = xs ++ joined rest

-- closed contours
pub record AreClosed (contours : List (List Element)) : Type 0 where
  pub closed : All IsContour contours
  pub proper : All IsProper (joined contours)

-- the element's places have coordinates of an input
abbrev pub AreNear : Element → Type 0
AreNear (Edge a b) = AreCoords a × AreCoords b
AreNear (Arc a b c ccw) = AreCoords a × AreCoords b × AreCoords c

-- the elements are those of closed contours, in order, near and not too many
pub record IsProfile (es : List Element) : Type 0 where
  pub contours : List (List Element)
  pub whole : joined contours ≡ es
  pub closed : AreClosed contours
  pub near : All AreNear es
  pub few : length es ≤ 2 ^ 20
