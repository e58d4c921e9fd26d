-- How often each pair of ends occurs among edges, as a table tells it: the pairs in the order in which they are seen first,
-- each with its lesser end first.
use Rattle.std.specs.Prelude.{◌≡◌, ◌+◌, ◌%◌, ℕ, Bool, true, ◌&&◌, List, ◌∷◌, ◌++◌, [], take, Some, slice_get, unwrap_or, if◌then◌else◌}
use Rattle.std.specs.List.{All, list_any}
use Rattle.std.specs.Map.{keys_of, lookup}
use Rattle.bc_solid.specs.declared.edge.Edge.{Edge}
use Rattle.bc_solid.specs.Meshes.{Edge3, is_same3, joins, occurrences}
use Rattle.bc_solid.specs.MeshFaults.{IsLess3}

abbrev pub edge_of : Edge → Edge3
edge_of e = record { from = e.from; to = e.to }

-- the same ends in the same order
abbrev pub is_same_edge : Edge → Edge → Bool
is_same_edge k e = is_same3 k.from e.from && is_same3 k.to e.to

-- the lesser end comes first
abbrev pub IsSorted : Edge → Type 0
IsSorted k = IsLess3 k.from k.to

-- the number that the entries have for the edge, and 0 where they have none
abbrev pub count_of : Edge → List (Edge × ℕ) → ℕ
count_of k entries = unwrap_or (lookup (is_same_edge k) entries) 0

-- the keys with one more at their end, unless it is there
abbrev pub with_key : List Edge → Edge → List Edge
with_key keys k = if list_any (is_same_edge k) keys then keys else keys ++ k ∷ []

-- the new entries count the key once more than the old ones do, and others as often
pub record CountsOnce (k : Edge) (old new : List (Edge × ℕ)) : Type 0 where
  pub keys : keys_of new ≡ with_key (keys_of old) k
  pub counts : (e : Edge) → count_of e new ≡ count_of e old + (if is_same_edge k e then 1 else 0)

-- one of the keys has the edge's ends
abbrev pub is_known : List Edge → Edge3 → Bool
is_known keys e = list_any (λ k. joins (edge_of k) e) keys

-- the key has the ends of one of the edges, and those before that one have the ends of the earlier keys
pub record IsFirstSeen (es : List Edge3) (earlier : List Edge) (k : Edge) : Type 0 where
  pub before : List Edge3
  pub edge : Edge3
  pub behind : List Edge3
  pub whole : before ++ edge ∷ behind ≡ es
  pub ends : joins (edge_of k) edge ≡ true
  pub known : All (λ e. is_known earlier e ≡ true) before

-- the entries count the edges
pub record IsEdgeTable (es : List Edge3) (entries : List (Edge × ℕ)) : Type 0 where
  pub counts : (k : Edge) → IsSorted k → count_of k entries ≡ occurrences (edge_of k) es
  pub sorted : All IsSorted (keys_of entries)
  pub known : All (λ e. is_known (keys_of entries) e ≡ true) es
  pub first : (i : ℕ) (k : Edge) → slice_get (keys_of entries) i ≡ Some k → IsFirstSeen es (take i (keys_of entries)) k

-- the edge is the first key with an odd number, and that number
pub record IsFirstOdd (entries : List (Edge × ℕ)) (entry : Edge × ℕ) : Type 0 where
  pub at : ℕ
  pub is : slice_get (keys_of entries) at ≡ Some entry.0
  pub count : count_of entry.0 entries ≡ entry.1
  pub odd : entry.1 % 2 ≡ 1
  pub first : All (λ k. count_of k entries % 2 ≡ 0) (take at (keys_of entries))
