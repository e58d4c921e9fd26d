-- The corners of a part of a cell, from those of the cell and the new meets, and the corners of the box.
use Rattle.std.specs.Prelude.{◌≡◌, ◌≢◌, ◌↔◌, ℕ, ◌+◌, ◌<◌, ◌≤◌, List, [], ◌∷◌, ◌++◌, length, map, Option, take}
use Rattle.std.specs.List.{All, Contains}
use Rattle.std.proofs.Common.{refl, sym, ap, ◌∙◌, subst, inl, inr, arith, get_or}
use Rattle.std.proofs.lemmas.List.Elements.{All-head, All-cons, All-append, All-push, All-nil, All-map, All-contains, Contains-get_or, Contains-push}
use Rattle.std.proofs.lemmas.List.{map-append, take_all}
use Rattle.bc_space.specs.declared.side.Side.{Side}
use Rattle.bc_space.specs.declared.side.Side.TheVariants.{On}
use Rattle.bc_hull.specs.Choices.{IsMeet}
use Rattle.bc_space.specs.Laws.{SizeLaw, MeetLaw}
use Rattle.bc_cells.specs.declared.constraint.Constraint.{Constraint}
use Rattle.bc_cells.specs.Gathers.{Gathers, Selects}
use Rattle.bc_cells.specs.declared.cell.Cell.{Cell}
use Rattle.bc_cells.specs.Constraints.{Toward, IsInClosure, HasVertices, IsOnce, IsMeetOn, IsShut, IsCellOf, AreNew, halves_of, facing, inward, part_constraints}
use Rattle.bc_cells.proofs.Lists.{all_front, all_back, all_last, all_unmap, contains_none, once_nil}
use Rattle.bc_cells.proofs.Choices.{meet_keep, meet_on, meet_last, meet_none}
use Rattle.bc_cells.proofs.Gather.{take_step, gathers_old, gathers_all, selects_gathers}
use Rattle.bc_cells.proofs.Regions.{halves_facing, strict_facing, above_not_on}

pub halves_push : {S P H B : Type 0} (fs : List (Constraint S P H B)) (f : Constraint S P H B) → halves_of (fs ++ f ∷ []) ≡ halves_of fs ++ f.half ∷ []
halves_push fs f = map-append (λ g. g.half) fs (f ∷ [])

pub halves_inward : (S P B : Type 0) {H : Type 0} (gs : List H) → halves_of (map (inward {S = S} {P = P} {B = B}) gs) ≡ gs
halves_inward S P B [] = refl
halves_inward S P B (g ∷ gs) = ap (λ xs. g ∷ xs) (halves_inward S P B gs)

-- a meet of half-spaces of the stated sizes
module _ {P H : Type 0} {sized : H → Type 0} {inner fits : P → Type 0} {mixed : P → P → P} {met : List H → Option P} {dimension : ℕ} (law : SizeLaw sized inner mixed met dimension) (weaker : (p : P) → inner p → fits p) where
  pub meet_fits : (hs : List H) (c : P) → All sized hs → IsMeet met dimension hs c → fits c
  meet_fits hs c all m = weaker c (law.mediant hs c [] all (omega arith) m (All-nil (IsMeet met dimension hs)))

  pub on_fit : (earlier : List H) (h : H) (on : List P) → All sized earlier → sized h → ((c : P) → Contains on c ↔ IsMeetOn met dimension earlier h c) → All fits on
  on_fit earlier h on all one exact k d l = meet_fits (earlier ++ h ∷ []) _ (All-push sized earlier h all one) (meet_on met dimension earlier h _ ((exact _).0 (Contains-get_or on k d l)))

module _ {S P H B : Type 0} {sized : H → Type 0} {inner fits : P → Type 0} {side : H → P → Side} {mixed : P → P → P} {met : List H → Option P} {dimension : ℕ} (law : SizeLaw sized inner mixed met dimension) (weaker : (p : P) → inner p → fits p) where
  pub vertices_fit : (fs : List (Constraint S P H B)) (cs : List P) → All sized (halves_of fs) → HasVertices side met dimension fs cs → All fits cs
  vertices_fit fs cs all has k d l = meet_fits law weaker (halves_of fs) _ all ((has.exact _).0 (Contains-get_or cs k d l)).meet

pub constraints_sized : {S P H B : Type 0} (sized : H → Type 0) (fs : List (Constraint S P H B)) → All sized (halves_of fs) → All (λ f. sized f.half) fs
constraints_sized {S} {P} {H} {B} sized fs all = all_unmap sized (λ (f : Constraint S P H B). f.half) fs all

module _ {S P H B : Type 0} (side : H → P → Side) (met : List H → Option P) (dimension : ℕ) where
  -- the parent's corners on the side, and the new ones
  pub part_vertices : (fs : List (Constraint S P H B)) (f : Constraint S P H B) (old on kept new : List P)
      → HasVertices side met dimension fs old
      → AreNew side met dimension fs f.half old on
      → Gathers [] kept (λ c. Contains old c × All (λ g. Toward g.side (side g.half c)) (f ∷ []))
      → Gathers kept new (λ c. Contains on c × All (λ g. Toward g.side (side g.half c)) (f ∷ []))
      → IsOnce new
      → HasVertices side met dimension (fs ++ f ∷ []) new
  part_vertices fs f old on kept new has are a b once =
      record {
        exact = λ c. (
          λ k. elim (b.only c k) [
            | inl j ↦ elim (a.only c j) [
              | inl z ↦ absurd (contains_none c z)
              | inr t ↦
                  let s = (has.exact c).0 t.0 in
                  record {
                    meet = subst (λ (hs : List H). IsMeet met dimension hs c) (sym (halves_push fs f)) (meet_keep met dimension (halves_of fs) f.half c s.meet);
                    inside = record { toward = All-append (λ g. Toward g.side (side g.half c)) fs (f ∷ []) s.inside.toward t.1 };
                  }
            ]
            | inr t ↦
                let m = meet_on met dimension (halves_of fs) f.half c (are.meets c t.0) in
                record {
                  meet = subst (λ (hs : List H). IsMeet met dimension hs c) (sym (halves_push fs f)) m;
                  inside = record { toward = All-append (λ g. Toward g.side (side g.half c)) fs (f ∷ []) (are.inside c t.0).toward t.1 };
                }
          ],
          λ s.
              let front = all_front (λ g. Toward g.side (side g.half c)) fs (f ∷ []) s.inside.toward in
              let back = all_back (λ g. Toward g.side (side g.half c)) fs (f ∷ []) s.inside.toward in
              elim (meet_last met dimension (halves_of fs) f.half c (subst (λ (hs : List H). IsMeet met dimension hs c) (halves_push fs f) s.meet)) [
                | inl m ↦ b.kept c (a.found c ((has.exact c).1 (record { meet = m; inside = record { toward = front } }), back))
                | inr m ↦ elim (are.all c m (record { toward = front })) [
                  | inl o ↦ b.kept c (a.found c (o, back))
                  | inr n ↦ b.found c (n, back)
                ]
              ],
        );
        once = once;
      }

  -- with no corner strictly on the side there is no part: a new corner is on the boundary
  pub shut_early : {is_reduced : P → Type 0} (law : MeetLaw side is_reduced met) (fs : List (Constraint S P H B)) (f : Constraint S P H B) (old : List P) → HasVertices side met dimension fs old → f.side ≢ On → All (λ c. side f.half c ≢ f.side) old
      → IsShut side met dimension (fs ++ f ∷ [])
  shut_early law fs f old has off none = record {
    constraint = f;
    of_constraints = Contains-push fs f;
    none = λ c s.
        elim (meet_last met dimension (halves_of fs) f.half c (subst (λ (hs : List H). IsMeet met dimension hs c) (halves_push fs f) s.meet)) [
          | inl m ↦ All-contains (λ d. side f.half d ≢ f.side) old c none ((has.exact c).1 (record { meet = m; inside = record { toward = all_front (λ g. Toward g.side (side g.half c)) fs (f ∷ []) s.inside.toward } }))
          | inr m ↦ λ e. off (sym e ∙ all_last (λ g. side g c ≡ On) m.halves f.half (law.on (m.halves ++ f.half ∷ []) c m.meet))
        ];
  }

-- the meets of the first walls that are in the box
pub record IsGathered {S P H B : Type 0} (side : H → P → Side) (met : List H → Option P) (dimension : ℕ) (from : List H) (fs : List (Constraint S P H B)) (cs : List P) : Type 0 where
  pub exact : (c : P) → Contains cs c ↔ (IsMeet met dimension from c × All (λ g. Toward g.side (side g.half c)) fs)
  pub once : IsOnce cs

module _ {S P H B : Type 0} (side : H → P → Side) (met : List H → Option P) (dimension : ℕ) (ws : List H) (fs : List (Constraint S P H B)) where
  pub gathered_none : (cs : List P) → 0 < dimension → cs ≡ [] → IsGathered side met dimension (take 0 ws) fs cs
  gathered_none cs some e = subst (λ (xs : List P). IsGathered side met dimension (take 0 ws) fs xs) (sym e) (record { exact = λ c. (λ k. absurd (contains_none c k), λ t. absurd (meet_none met dimension c some t.0)); once = once_nil })

  pub gathered_more : (i : ℕ) (w : H) (cs ds on : List P) → i < length ws → w ≡ get_or ws i w → IsGathered side met dimension (take i ws) fs cs
      → ((c : P) → Contains on c ↔ IsMeetOn met dimension (take i ws) w c) → Gathers cs ds (λ c. Contains on c × All (λ g. Toward g.side (side g.half c)) fs) → (IsOnce cs → IsOnce ds)
      → IsGathered side met dimension (take (i + 1) ws) fs ds
  gathered_more i w cs ds on within is old exact a once =
      subst (λ (hs : List H). IsGathered side met dimension hs fs ds) (sym (take_step ws i w within is)) (record {
        exact = λ c. (
          λ k. elim (a.only c k) [
            | inl j ↦ let t = (old.exact c).0 j in (meet_keep met dimension (take i ws) w c t.0, t.1)
            | inr t ↦ (meet_on met dimension (take i ws) w c ((exact c).0 t.0), t.1)
          ],
          λ t. elim (meet_last met dimension (take i ws) w c t.0) [
            | inl m ↦ a.kept c ((old.exact c).1 (m, t.1))
            | inr m ↦ a.found c ((exact c).1 m, t.1)
          ],
        );
        once = once old.once;
      })

  pub gathered_all : (i : ℕ) (cs : List P) → halves_of fs ≡ ws → length ws ≤ i → IsGathered side met dimension (take i ws) fs cs → HasVertices side met dimension fs cs
  gathered_all i cs are over g = record {
    exact = λ c. (
      λ k.
          let t = (g.exact c).0 k in
          let m : IsMeet met dimension ws c = subst (λ (hs : List H). IsMeet met dimension hs c) (take_all i ws over) t.0 in
          record {
            meet = subst (λ (hs : List H). IsMeet met dimension hs c) (sym are) m;
            inside = record { toward = t.1 };
          },
      λ s. (g.exact c).1 (subst (λ (hs : List H). IsMeet met dimension hs c) (sym (take_all i ws over)) (subst (λ (hs : List H). IsMeet met dimension hs c) are s.meet), s.inside.toward),
    );
    once = g.once;
  }

pub part_halves : (S B : Type 0) {P H : Type 0} (side : H → P → Side) (gs : List H) (q : P) (h : H) (s : Side) → halves_of (part_constraints {S = S} {B = B} side gs q h s) ≡ gs ++ h ∷ []
part_halves S B {P = P} {H = H} side gs q h s = halves_push {S = S} {B = B} (map (facing side q) gs) (record { half = h; side = s }) ∙ ap (λ (hs : List H). hs ++ h ∷ []) (halves_facing S B side q gs)

pub part_sized : (S B : Type 0) {P H : Type 0} (sized : H → Type 0) (side : H → P → Side) (gs : List H) (q : P) (h : H) (s : Side) → All sized gs → sized h → All (λ f. sized f.half) (part_constraints {S = S} {B = B} side gs q h s)
part_sized S B {P = P} {H = H} sized side gs q h s all one =
    constraints_sized sized (part_constraints {S = S} {B = B} side gs q h s) (subst (λ (hs : List H). All sized hs) (sym (part_halves S B side gs q h s)) (All-push sized gs h all one))

pub part_off : (S B : Type 0) {P H : Type 0} (side : H → P → Side) (gs : List H) (q : P) (h : H) (s : Side) → All (λ g. side g q ≢ On) gs → s ≢ On → All (λ f. f.side ≢ On) (part_constraints {S = S} {B = B} side gs q h s)
part_off S B {P = P} {H = H} side gs q h s all off =
    All-push (λ (f : Constraint S P H B). f.side ≢ On) (map (facing side q) gs) (record { half = h; side = s }) (All-map (λ (f : Constraint S P H B). f.side ≢ On) (facing side q) gs all) off

-- the constraints of the region of q are of the stated size
pub facing_sized : {S P H B : Type 0} (sized : H → Type 0) (side : H → P → Side) (q : P) (gs : List H) (fs : List (Constraint S P H B)) → fs ≡ map (facing side q) gs → All sized gs → All (λ f. sized f.half) fs
facing_sized {S} {P} {H} {B} sized side q gs fs e all =
    constraints_sized sized fs (subst (λ (hs : List H). All sized hs) (sym (ap (λ (xs : List (Constraint S P H B)). halves_of xs) e ∙ halves_facing S B side q gs)) all)

-- what the body of `points_inside` makes
pub inside_gathered : {S P H B : Type 0} (side : H → P → Side) (fs gs : List (Constraint S P H B)) (points xs ys : List P) → fs ≡ gs → xs ≡ [] → Gathers xs ys (λ c. Contains points c × All (λ f. Toward f.side (side f.half c)) fs)
    → (c : P) → Contains ys c ↔ (Contains points c × IsInClosure side gs c)
inside_gathered {S} {P} {H} {B} side fs gs points xs ys e n a c =
    let h = gathers_all xs ys (λ d. Contains points d × All (λ (f : Constraint S P H B). Toward f.side (side f.half d)) gs) n
    (subst (λ (zs : List (Constraint S P H B)). Gathers xs ys (λ d. Contains points d × All (λ f. Toward f.side (side f.half d)) zs)) e a) c in
    (λ k. let t = h.0 k in (t.0, record { toward = t.1 }), λ t. h.1 (t.0, t.1.toward))

-- what the body of `corners_of_part` makes
pub part_corners : {S P H B : Type 0} (side : H → P → Side) (met : List H → Option P) (dimension : ℕ)
    → (gs : List H) (q : P) (h : H) (s : Side) (old on kept new : List P) (last : List (Constraint S P H B))
    → HasVertices {S = S} {B = B} side met dimension (map (facing side q) gs) old
    → AreNew {S = S} {B = B} side met dimension (map (facing side q) gs) h old on
    → last ≡ record { half = h; side = s } ∷ []
    → Selects old kept (λ c. Toward s (side h c))
    → Gathers kept new (λ c. Contains on c × All (λ g. Toward g.side (side g.half c)) last)
    → (IsOnce kept → IsOnce new)
    → HasVertices {S = S} {B = B} side met dimension (part_constraints side gs q h s) new
part_corners {S} {P} {H} {B} side met dimension gs q h s old on kept new last has are el a b ob =
    let fs : List (Constraint S P H B) = map (facing side q) gs in
    let f : Constraint S P H B = record { half = h; side = s } in
    part_vertices side met dimension fs f old on kept new has are
    (selects_gathers old kept (λ c. Toward s (side h c)) (λ c. All (λ g. Toward g.side (side g.half c)) (f ∷ [])) a
    (λ c t. All-cons (λ g. Toward g.side (side g.half c)) f [] t (All-nil (λ g. Toward g.side (side g.half c))))
    (λ c t. All-head (λ g. Toward g.side (side g.half c)) f [] t))
    (subst (λ (xs : List (Constraint S P H B)). Gathers kept new (λ c. Contains on c × All (λ g. Toward g.side (side g.half c)) xs)) el b)
    (ob (a.once has.once))

-- where there is nothing new
pub part_corners_old : {S P H B : Type 0} (side : H → P → Side) (met : List H → Option P) (dimension : ℕ)
    → (gs : List H) (q : P) (h : H) (s : Side) (old on kept : List P)
    → HasVertices {S = S} {B = B} side met dimension (map (facing side q) gs) old
    → AreNew {S = S} {B = B} side met dimension (map (facing side q) gs) h old on
    → on ≡ []
    → Selects old kept (λ c. Toward s (side h c))
    → HasVertices {S = S} {B = B} side met dimension (part_constraints side gs q h s) kept
part_corners_old {S} {P} {H} {B} side met dimension gs q h s old on kept has are no_new a =
    let f : Constraint S P H B = record { half = h; side = s } in
    part_corners side met dimension gs q h s old on kept kept (f ∷ []) has are refl a
    (gathers_old kept (λ c. Contains on c × All (λ (g : Constraint S P H B). Toward g.side (side g.half c)) (f ∷ [])) (λ c t. absurd (contains_none c (subst (λ (xs : List P). Contains xs c) no_new t.0)))) (λ o. o)

-- the cell's own point in its part
pub part_cell_of : {S P H B : Type 0} (small : P → Type 0) (side : H → P → Side) (met : List H → Option P) (dimension : ℕ) (gs : List H) (q : P) (h : H) (s : Side) (mask : ℕ) (c : Cell S P H B) → c.inner ≡ q → small q → side h q ≡ s → c.mask ≡ mask
    → HasVertices {S = S} {B = B} side met dimension (part_constraints side gs q h s) c.corners → IsCellOf small side met dimension (part_constraints side gs q h s) mask c
part_cell_of {S} {P} {H} {B} small side met dimension gs q h s mask c at fits on masks has = record {
  strict = record {
    at = subst (λ (p : P). All (λ (f : Constraint S P H B). side f.half p ≡ f.side) (part_constraints side gs q h s)) (sym at)
        (All-push (λ (f : Constraint S P H B). side f.half q ≡ f.side) (map (facing side q) gs) (record { half = h; side = s }) (strict_facing side gs q).at on);
  };
  fits = subst small (sym at) fits;
  vertices = has;
  of_mask = masks;
}

-- the corners of a cell are of the stated size
pub corners_fit : (S B : Type 0) {P H : Type 0} {sized : H → Type 0} {inner fits : P → Type 0} {side : H → P → Side} {mixed : P → P → P} {met : List H → Option P} {dimension : ℕ} (law : SizeLaw sized inner mixed met dimension) (weaker : (p : P) → inner p → fits p)
    → (gs : List H) (q : P) (cs : List P) → All sized gs → HasVertices {S = S} {B = B} side met dimension (map (facing side q) gs) cs → All fits cs
corners_fit S B {sized = sized} {side = side} law weaker gs q cs all has =
    vertices_fit law weaker (map (facing {S = S} {B = B} side q) gs) cs (subst (λ (hs : List _). All sized hs) (sym (halves_facing S B side q gs)) all) has

-- new corners are of the stated size
pub new_fit : {S P H B : Type 0} {sized : H → Type 0} {inner fits : P → Type 0} {side : H → P → Side} {mixed : P → P → P} {met : List H → Option P} {dimension : ℕ} (law : SizeLaw sized inner mixed met dimension) (weaker : (p : P) → inner p → fits p)
    → (fs : List (Constraint S P H B)) (h : H) (old new : List P) → All sized (halves_of fs) → sized h → AreNew side met dimension fs h old new → All fits new
new_fit {sized = sized} law weaker fs h old new all one are k d l =
    meet_fits law weaker (halves_of fs ++ h ∷ []) _ (All-push sized (halves_of fs) h all one) (meet_on _ _ (halves_of fs) h _ (are.meets _ (Contains-get_or new k d l)))

pub one_of : {X : Type 0} (us vs xs : List X) (f : X) → us ≡ vs → vs ≡ xs ++ f ∷ [] → xs ≡ [] → us ≡ f ∷ []
one_of us vs xs f d e n = d ∙ e ∙ ap (λ (zs : List _). zs ++ f ∷ []) n

pub are_inward : {S P H B : Type 0} (gs : List H) (fs : List (Constraint S P H B)) → fs ≡ map inward gs → halves_of fs ≡ gs
are_inward {S} {P} {H} {B} gs fs e = ap (λ (xs : List (Constraint S P H B)). halves_of xs) e ∙ halves_inward S P B gs

inward_sides : (S P B : Type 0) {H : Type 0} (gs : List H) → All (λ f. f.side ≢ On) (map (inward {S = S} {P = P} {B = B}) gs)
inward_sides S P B {H = H} gs = All-map (λ (f : Constraint S P H B). f.side ≢ On) inward gs (λ k d l e. above_not_on e)

pub inward_off : {S P H B : Type 0} (gs : List H) (fs : List (Constraint S P H B)) → fs ≡ map inward gs → All (λ f. f.side ≢ On) fs
inward_off {S} {P} {H} {B} gs fs e = subst (λ (xs : List (Constraint S P H B)). All (λ f. f.side ≢ On) xs) (sym e) (inward_sides S P B gs)
