-- The meets that are found between corners Above and corners Below are all new corners: the edge law.
use Rattle.std.specs.Prelude.{◌≡◌, ◌≢◌, ◌↔◌, ℕ, ◌+◌, List, [], ◌∷◌, ◌++◌, length, map, Option, Some, ◌⊎◌}
use Rattle.std.specs.List.{All, Contains}
use Rattle.std.proofs.Common.{sym, subst, inl, inr, get_or}
use Rattle.bc_space.specs.declared.side.Side.{Side}
use Rattle.bc_space.specs.declared.side.Side.TheVariants.{Below, On, Above}
use Rattle.bc_hull.specs.Choices.{IsPart}
use Rattle.bc_space.specs.Regions.{IsInRegion}
use Rattle.bc_space.specs.Laws.{EdgeLaw, SizeLaw}
use Rattle.bc_cells.specs.declared.cell.Cell.{Cell}
use Rattle.bc_cells.specs.Cells.{IsCell, IsCellAmong}
use Rattle.bc_cells.specs.Constraints.{IsInClosure, IsMeetOn, IsCrossing, AreNew, halves_of, facing, through}
use Rattle.bc_cells.proofs.Regions.{Near, halves_facing, strict_facing, inside_near, near_region}
use Rattle.std.proofs.lemmas.List.Elements.{All-contains, All-push, Contains-get_or}
use Rattle.bc_cells.specs.Gathers.{Gathers}
use Rattle.bc_cells.proofs.Lists.{contains_none}
use Rattle.bc_cells.proofs.Gather.{gathers_all}
use Rattle.bc_cells.proofs.Collect.{Some_of}
use Rattle.bc_cells.proofs.Choices.{meet_on}
use Rattle.bc_cells.proofs.PartOf.{meet_fits}
use Rattle.bc_cells.proofs.Through.{part_trans, through_part, through_most}

-- what belongs to a point b Below, beside a point a
abbrev pub Between : {P H : Type 0} → (H → P → Side) → (List H → Option P) → ℕ → List H → H → P → P → P → Type 0
Between side met dimension from h a b c = (side h b ≡ Below) × IsMeetOn met dimension (through side b (through side a from)) h c

-- what belongs to a point a Above
abbrev pub From : {P H : Type 0} → (H → P → Side) → (List H → Option P) → ℕ → List H → H → List P → P → P → Type 0
From side met dimension from h points a c = (side h a ≡ Above) × Some_of points (Between side met dimension from h a) c

module _ {P H : Type 0} (side : H → P → Side) (met : List H → Option P) (dimension : ℕ) (from : List H) (h : H) where
  pub crossing_from : (points : List P) (c : P) → IsCrossing side met dimension from h points c → Some_of points (From side met dimension from h points) c
  crossing_from points c k = (k.high, k.has_high, (k.above, (k.low, k.has_low, (k.below, k.meet))))

  pub from_crossing : (points : List P) (c : P) → Some_of points (From side met dimension from h points) c → IsCrossing side met dimension from h points c
  from_crossing points c (a, has_a, (above, (b, has_b, (below, m)))) = record { high = a; low = b; has_high = has_a; has_low = has_b; above = above; below = below; meet = m }

  -- with no point Below there is none
  pub no_crossing : (points xs : List P) → All (λ b. side h b ≢ Below) points → xs ≡ [] → (c : P) → Contains xs c ↔ IsCrossing side met dimension from h points c
  no_crossing points xs none e c = (
    λ k. absurd (contains_none c (subst (λ (us : List P). Contains us c) e k)),
    λ k. absurd (All-contains (λ b. side h b ≢ Below) points k.low none k.has_low k.below),
  )

  pub crossings_all : (points xs ys : List P) → xs ≡ [] → Gathers xs ys (Some_of points (From side met dimension from h points)) → (c : P) → Contains ys c ↔ IsCrossing side met dimension from h points c
  crossings_all points xs ys e a c =
      let all = gathers_all xs ys (Some_of points (From side met dimension from h points)) e a c in
      (λ k. from_crossing points c (all.0 k), λ k. all.1 (crossing_from points c k))

  -- a crossing is met by h and others of the list
  pub crossing_on : (points : List P) (c : P) → IsCrossing side met dimension from h points c → IsMeetOn met dimension from h c
  crossing_on points c k =
      let m = k.meet in
      let high = through side k.high from in
      record {
        halves = m.halves;
        part = part_trans m.halves high from (part_trans m.halves (through side k.low high) high m.part (through_part side k.low high)) (through_part side k.high from);
        many = m.many;
        meet = m.meet;
      }

  -- an edge with an end on each side has its crossing
  pub edge_crossing : (points : List P) (c a b : P) (gs : List H) → Contains points a → Contains points b → side h a ≡ Above → side h b ≡ Below → IsPart gs from → All (λ g. side g a ≡ On) gs → All (λ g. side g b ≡ On) gs → length gs + 1 ≡ dimension → met (gs ++ h ∷ []) ≡ Some c
      → IsCrossing side met dimension from h points c
  edge_crossing points c a b gs ha hb above below part on_a on_b many e = record {
    high = a;
    low = b;
    has_high = ha;
    has_low = hb;
    above = above;
    below = below;
    meet = record { halves = gs; part = through_most side b (through side a from) gs (through_most side a from gs part on_a) on_b; many = many; meet = e };
  }

module _ {S P H B : Type 0} {small : P → Type 0} {side : H → P → Side} {met : List H → Option P} {dimension : ℕ} {walls : B → List H} (law : EdgeLaw side met dimension walls) (b : B) (hs : List H) (q : Cell S P H B) (cell : IsCell small side met dimension (walls b) hs q) (h : H) where
  region_of : (c : P) → IsInClosure side (map (facing {S = S} {B = B} side q.inner) (walls b ++ hs)) c → IsInRegion side (walls b) hs q.inner c
  region_of c i =
      near_region side (walls b) hs q.inner c cell.free
      (subst (λ (gs : List H). Near side gs q.inner c) (halves_facing S B side q.inner (walls b ++ hs))
      (inside_near side (map (facing {S = S} {B = B} side q.inner) (walls b ++ hs)) q.inner c (strict_facing side (walls b ++ hs) q.inner) i))

  new_here : (points : List P) → ((c : P) → Contains points c ↔ IsCrossing side met dimension (walls b ++ hs) h q.corners c) → (c : P) → IsMeetOn met dimension (walls b ++ hs) h c → IsInRegion side (walls b) hs q.inner c → Contains q.corners c ⊎ Contains points c
  new_here points exact c m region =
      elim (law.ends b hs q.inner c h m.halves cell.free region m.part m.many m.meet) [
        | inl k ↦ inl ((cell.region.exact c).1 k)
        | inr (a, z) ↦ inr ((exact c).1 (edge_crossing side met dimension (walls b ++ hs) h q.corners c a.0 z.0 m.halves
            ((cell.region.exact a.0).1 a.1.corner) ((cell.region.exact z.0).1 z.1.corner) a.1.at z.1.at m.part a.1.on z.1.on m.many m.meet))
      ]

  pub crossings_new : (points new : List P) → ((c : P) → Contains points c ↔ IsCrossing side met dimension (walls b ++ hs) h q.corners c)
      → ((c : P) → Contains new c ↔ (Contains points c × IsInClosure {S = S} {B = B} side (map (facing side q.inner) (walls b ++ hs)) c))
      → AreNew {S = S} {B = B} side met dimension (map (facing side q.inner) (walls b ++ hs)) h q.corners new
  crossings_new points new exact kept =
      let are : halves_of (map (facing {S = S} {B = B} side q.inner) (walls b ++ hs)) ≡ walls b ++ hs = halves_facing S B side q.inner (walls b ++ hs) in
      record {
        meets = λ c k. subst (λ (gs : List H). IsMeetOn met dimension gs h c) (sym are) (crossing_on side met dimension (walls b ++ hs) h q.corners c ((exact c).0 ((kept c).0 k).0));
        inside = λ c k. ((kept c).0 k).1;
        all = λ c m i. elim (new_here points exact c (subst (λ (gs : List H). IsMeetOn met dimension gs h c) are m) (region_of c i)) [
          | inl o ↦ inl o
          | inr n ↦ inr ((kept c).1 (n, i))
        ];
      }

-- the same of a cell among the half-spaces of a list
pub among_new : {S P H B : Type 0} {small : P → Type 0} {side : H → P → Side} {met : List H → Option P} {dimension : ℕ} {walls : B → List H} (law : EdgeLaw side met dimension walls) (all : List H) (q : Cell S P H B) → IsCellAmong small side met dimension walls all q → (h : H) (points new : List P)
    → ((c : P) → Contains points c ↔ IsCrossing side met dimension all h q.corners c)
    → ((c : P) → Contains new c ↔ (Contains points c × IsInClosure {S = S} {B = B} side (map (facing side q.inner) all) c))
    → AreNew {S = S} {B = B} side met dimension (map (facing side q.inner) all) h q.corners new
among_new {S} {P} {H} {B} {side = side} {met = met} {dimension = dimension} law all q among h points new exact kept =
    subst (λ (gs : List H). AreNew {S = S} {B = B} side met dimension (map (facing side q.inner) gs) h q.corners new) (sym among.are)
    (crossings_new law among.bounds among.halves q among.cell h points new
    (subst (λ (gs : List H). (c : P) → Contains points c ↔ IsCrossing side met dimension gs h q.corners c) among.are exact)
    (subst (λ (gs : List H). (c : P) → Contains new c ↔ (Contains points c × IsInClosure {S = S} {B = B} side (map (facing side q.inner) gs) c)) among.are kept))

-- as `parts_of` has it
pub among_new_of : {S P H B : Type 0} {small : P → Type 0} {side : H → P → Side} {met : List H → Option P} {dimension : ℕ} {walls : B → List H} (law : EdgeLaw side met dimension walls) (all : List H) (q : Cell S P H B) → IsCellAmong small side met dimension walls all q → (h : H) (cs found points inside new : List P)
    → cs ≡ q.corners → points ≡ found → new ≡ inside → ((c : P) → Contains found c ↔ IsCrossing side met dimension all h cs c)
    → ((c : P) → Contains inside c ↔ (Contains points c × IsInClosure {S = S} {B = B} side (map (facing side q.inner) all) c))
    → AreNew {S = S} {B = B} side met dimension (map (facing side q.inner) all) h q.corners new
among_new_of {S} {P} {H} {B} {side = side} {met = met} {dimension = dimension} law all q among h cs found points inside new e f i exact kept =
    among_new law all q among h points new
    (subst (λ (xs : List P). (c : P) → Contains xs c ↔ IsCrossing side met dimension all h q.corners c) (sym f)
    (subst (λ (us : List P). (c : P) → Contains found c ↔ IsCrossing side met dimension all h us c) e exact))
    (subst (λ (us : List P). (c : P) → Contains us c ↔ (Contains points c × IsInClosure {S = S} {B = B} side (map (facing side q.inner) all) c)) (sym i) kept)

-- crossings are of the stated size
pub crossings_fit : {P H : Type 0} {sized : H → Type 0} {inner fits : P → Type 0} {side : H → P → Side} {mixed : P → P → P} {met : List H → Option P} {dimension : ℕ} (law : SizeLaw sized inner mixed met dimension) (weaker : (p : P) → inner p → fits p)
    → (all : List H) (h : H) (cs found points : List P) → All sized all → sized h → points ≡ found → ((c : P) → Contains found c ↔ IsCrossing side met dimension all h cs c) → All fits points
crossings_fit {P} {sized = sized} {side = side} {met = met} {dimension = dimension} law weaker all h cs found points all_sized one f exact k d l =
    let here : Contains found (get_or points k d) = subst (λ (xs : List P). Contains xs (get_or points k d)) f (Contains-get_or points k d l) in
    meet_fits law weaker (all ++ h ∷ []) _ (All-push sized all h all_sized one) (meet_on met dimension all h _ (crossing_on side met dimension all h cs _ ((exact _).0 here)))
