-- Lists of edges, as they grow.
use Rattle.std.proofs.Common.{◌≡◌, ℕ, ◌+◌, ◌<◌, ◌≤◌, List, [], ◌∷◌, ◌++◌, map, length, take, get_or, arith, sym, ap, ◌∙◌}
use Rattle.std.specs.Prelude.{slice_get, Some}
use Rattle.std.proofs.lemmas.List.{map-append, append_assoc, take_all, take_more, length-map, length-take-le}
use Rattle.bc_num.specs.declared.v3.V3.{V3}
use Rattle.bc_solid.specs.declared.edge.Edge.{Edge}
use Rattle.bc_solid.specs.Meshes.{Edge3, edges, origin3}
use Rattle.bc_solid.specs.EdgeTables.{edge_of}
use Rattle.bc_solid.proofs.Lists.{front_more}
use Rattle.bc_solid.proofs.Rounds.{length-edges}

-- ---- one face

pub edges_more : (cs : List V3) (first : List Edge3) (old new : List Edge) (i : ℕ) (e : Edge) → slice_get (edges cs) i ≡ Some (edge_of e)
    → map edge_of old ≡ first ++ take i (edges cs) → new ≡ old ++ e ∷ [] → map edge_of new ≡ first ++ take (i + 1) (edges cs)
edges_more cs first old new i e h k n =
    ap (map edge_of) n ∙ map-append edge_of old (e ∷ []) ∙ ap (λ (xs : List Edge3). xs ++ edge_of e ∷ []) k
    ∙ append_assoc first (take i (edges cs)) (edge_of e ∷ []) ∙ ap (λ (xs : List Edge3). first ++ xs) (sym (front_more (edges cs) i (edge_of e) h))

pub edges_all : (cs : List V3) (first : List Edge3) (list : List Edge) (i : ℕ) → length cs ≤ i → map edge_of list ≡ first ++ take i (edges cs) → map edge_of list ≡ first ++ edges cs
edges_all cs first list i l h = h ∙ ap (λ (xs : List Edge3). first ++ xs) (take_all i (edges cs) (omega (arith, l, length-edges cs)))

-- ---- the edges that are counted

-- what stands for an edge where there is none
abbrev pub no_edge : Edge
no_edge = record { from = origin3; to = origin3 }

pub seen_more : (es : List Edge) (i : ℕ) → i < length es → map edge_of (take (i + 1) es) ≡ map edge_of (take i es) ++ edge_of (get_or es i no_edge) ∷ []
seen_more es i l = ap (map edge_of) (take_more es i no_edge l) ∙ map-append edge_of (take i es) (get_or es i no_edge ∷ [])

pub length-seen : (es : List Edge) (i : ℕ) → i ≤ length es → length (map edge_of (take i es)) ≡ i
length-seen es i l = length-map (take i es) edge_of ∙ length-take-le i es l
