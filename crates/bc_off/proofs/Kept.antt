-- What is read keeps within the bounds.
use Rattle.std.proofs.Common.{◌≡◌, ◌≤◌, ℕ, zero, suc, ◌+◌, ◌*◌, Bool, true, false, ◌&&◌, ◌||◌, nat_lt, nat_le, List, [], ◌∷◌, drop, length, ℤ, pos, negsuc, Result, Ok, Err, refl, sym, ap, ◌∙◌, subst, arith, if◌then◌else◌}
use Rattle.std.specs.Prelude.{int_lt, int_le, unsigned_abs}
use Rattle.std.specs.List.{list_all}
use Rattle.std.proofs.lemmas.Bool.{and_from}
use Rattle.bc_num.specs.declared.v3.V3.{V3}
use Rattle.bc_solid.specs.Contours.{is_far}
use Rattle.bc_solid.specs.Meshes.{Mesh, is_near_place, corner_count}
use Rattle.bc_off.specs.declared.header.Counts.{Counts}
use Rattle.bc_off.specs.declared.fault.OffFault.{OffFault}
use Rattle.bc_off.specs.declared.fault.OffFault.TheVariants.{NotOff, TooMany}
use Rattle.bc_off.specs.Answers.{◌>>=◌}
use Rattle.bc_off.specs.Rows.{Row, each, rows, end_line}
use Rattle.bc_off.specs.Entries.{number, near, coordinate, no_more}
use Rattle.bc_off.specs.Header.{is_off, count, at_most, limited, counts, before_rows, counts_row, behind_off, first_row, header}
use Rattle.bc_off.specs.Vertices.{vertex, vertices}
use Rattle.bc_off.specs.Faces.{corners_of, corners, place_of, place, places, face, faces}
use Rattle.bc_off.specs.Off.{no_rows, body, mesh_in}
use Rattle.bc_off.specs.Laws.{has_sides, has_places, IsMesh, ReadAreMeshes}

-- ---- steps

pub bind : {A B : Type 0} (r : Result A OffFault) (f : A → Result B OffFault) (t : B) → (r >>= f) ≡ Ok t → (a : A) × (r ≡ Ok a) × (f a ≡ Ok t)
bind (Ok a) f t h = (a, refl, h)
bind (Err e) f t h = cc

abbrev pub yes : {A : Type 0} → A → Result A OffFault
yes x = Ok x

ok-is : {A : Type 0} (x t : A) → yes x ≡ yes t → x ≡ t
ok-is x t h = cc

pass-by : {A : Type 0} (b test : Bool) (f : OffFault) (r : Result A OffFault) (t : A) → test ≡ b → (if test then Err f else r) ≡ Ok t → (test ≡ false) × (r ≡ Ok t)
pass-by true test f r t e h = let no : (if test then Err f else r) ≡ Err f = rw e refl in cc
pass-by false test f r t e h = let is : (if test then Err f else r) ≡ r = rw e refl in (e, sym is ∙ h)

pass : {A : Type 0} (test : Bool) (f : OffFault) (r : Result A OffFault) (t : A) → (if test then Err f else r) ≡ Ok t → (test ≡ false) × (r ≡ Ok t)
pass test f r t h = pass-by test test f r t refl h

-- ---- rows

pub record Kept {A : Type 0} (P : A → Bool) (k : ℕ) (xs : List A) : Type 0 where
  pub all : list_all P xs ≡ true
  pub count : length xs ≡ k

kept-more : {A : Type 0} (P : A → Bool) (k : ℕ) (x : A) (xs : List A) → P x ≡ true → Kept P k xs → Kept P (suc k) (x ∷ xs)
kept-more P k x xs h s = let count : length xs ≡ k = s.count in record { all = and_from (P x) (list_all P xs) h s.all; count = omega arith }

kept-as : {A : Type 0} (P : A → Bool) (k : ℕ) (xs ys : List A) → yes xs ≡ yes ys → Kept P k xs → Kept P k ys
kept-as P k xs ys h s = subst (Kept P k) (ok-is xs ys h) s

pub each_kept : {A : Type 0} (P : A → Bool) (f : Row → Result A OffFault) → ((r : Row) (x : A) → f r ≡ Ok x → P x ≡ true)
    → (e k : ℕ) (rows : List Row) (xs : List A) → each f e k rows ≡ Ok xs → Kept P k xs
each_kept P f g e zero rows xs h = kept-as P 0 [] xs h (record { all = refl; count = refl })
each_kept P f g e (suc k) [] xs h = cc
each_kept P f g e (suc k) (r ∷ rows) xs h =
    let a = bind (f r) (λ x. each f e k rows >>= λ xs. Ok (x ∷ xs)) xs h in
    let b = bind (each f e k rows) (λ xs. Ok (a.0 ∷ xs)) xs a.2 in
    kept-as P (suc k) (a.0 ∷ b.0) xs b.2 (kept-more P k a.0 b.0 (g r a.0 a.1) (each_kept P f g e k rows b.0 b.1))

-- ---- vertices

coordinate-near : (l n : ℕ) (ws : List (List ℕ)) (z : ℤ) → coordinate l n ws ≡ Ok z → is_far z ≡ false
coordinate-near l n ws z h =
    let a = bind (number l n ws) (near l n) z h in
    let b = pass (is_far a.0) _ (Ok a.0) z a.2 in
    ap is_far (sym (ok-is a.0 z b.1)) ∙ b.0

near-place : (x y z : ℤ) → is_far x ≡ false → is_far y ≡ false → is_far z ≡ false → is_near_place (record { x = x; y = y; z = z }) ≡ true
near-place x y z a b c = rw (a, b, c) refl

pub vertex_near : (r : Row) (v : V3) → vertex r ≡ Ok v → is_near_place v ≡ true
vertex_near r v h =
    let a = bind (coordinate r.line 1 r.words) (λ x. coordinate r.line 2 (drop 1 r.words) >>= λ y. coordinate r.line 3 (drop 2 r.words) >>= λ z. no_more r.line 4 (drop 3 r.words) >>= λ none. Ok (record { x = x; y = y; z = z })) v h in
    let b = bind (coordinate r.line 2 (drop 1 r.words)) (λ y. coordinate r.line 3 (drop 2 r.words) >>= λ z. no_more r.line 4 (drop 3 r.words) >>= λ none. Ok (record { x = a.0; y = y; z = z })) v a.2 in
    let c = bind (coordinate r.line 3 (drop 2 r.words)) (λ z. no_more r.line 4 (drop 3 r.words) >>= λ none. Ok (record { x = a.0; y = b.0; z = z })) v b.2 in
    let d = bind (no_more r.line 4 (drop 3 r.words)) (λ none. Ok (record { x = a.0; y = b.0; z = c.0 })) v c.2 in
    let w : V3 = record { x = a.0; y = b.0; z = c.0 } in
    let same : v ≡ w = sym (ok-is w v d.2) in
    ap is_near_place same
    ∙ near-place a.0 b.0 c.0 (coordinate-near r.line 1 r.words a.0 a.1) (coordinate-near r.line 2 (drop 1 r.words) b.0 b.1) (coordinate-near r.line 3 (drop 2 r.words) c.0 c.1)

-- ---- faces

within : (v : ℤ) (m : ℕ) → (int_lt v (pos 0) || int_le (pos m) v) ≡ false → nat_lt (unsigned_abs v) m ≡ true
within (pos n) m h = grind arith
within (negsuc n) m h = grind arith

place-below : (l n m : ℕ) (ws : List (List ℕ)) (i : ℕ) → place l n m ws ≡ Ok i → nat_lt i m ≡ true
place-below l n m ws i h =
    let a = bind (number l n ws) (place_of l n m) i h in
    let b = pass (int_lt a.0 (pos 0) || int_le (pos m) a.0) _ (Ok (unsigned_abs a.0)) i a.2 in
    ap (λ i. nat_lt i m) (sym (ok-is (unsigned_abs a.0) i b.1)) ∙ within a.0 m b.0

places-below : (l n m k : ℕ) (ws : List (List ℕ)) (is : List ℕ) → places l n m k ws ≡ Ok is → Kept (λ i. nat_lt i m) k is
places-below l n m zero ws is h = kept-as (λ i. nat_lt i m) 0 [] is h (record { all = refl; count = refl })
places-below l n m (suc k) ws is h =
    let a = bind (place l n m ws) (λ i. places l (n + 1) m k (drop 1 ws) >>= λ is. Ok (i ∷ is)) is h in
    let b = bind (places l (n + 1) m k (drop 1 ws)) (λ is. Ok (a.0 ∷ is)) is a.2 in
    kept-as (λ i. nat_lt i m) (suc k) (a.0 ∷ b.0) is b.2 (kept-more (λ i. nat_lt i m) k a.0 b.0 (place-below l n m ws a.0 a.1) (places-below l (n + 1) m k (drop 1 ws) b.0 b.1))

some-sides : (v : ℤ) → int_lt v (pos 3) ≡ false → int_lt (pos 64) v ≡ false → (nat_le 3 (unsigned_abs v) && nat_le (unsigned_abs v) 64) ≡ true
some-sides (pos n) h k = grind arith
some-sides (negsuc n) h k = grind arith

corners-some : (l n : ℕ) (ws : List (List ℕ)) (k : ℕ) → corners l n ws ≡ Ok k → (nat_le 3 k && nat_le k 64) ≡ true
corners-some l n ws k h =
    let a = bind (number l n ws) (corners_of l n) k h in
    let b = pass (int_lt a.0 (pos 3)) _ (if int_lt (pos 64) a.0 then Err (TooMany l n) else Ok (unsigned_abs a.0)) k a.2 in
    let c = pass (int_lt (pos 64) a.0) _ (Ok (unsigned_abs a.0)) k b.1 in
    ap (λ k. nat_le 3 k && nat_le k 64) (sym (ok-is (unsigned_abs a.0) k c.1)) ∙ some-sides a.0 b.0 c.0

record FaceKept (m : ℕ) (is : List ℕ) : Type 0 where
  sides : has_sides is ≡ true
  places : has_places m is ≡ true

face-kept : (m : ℕ) (r : Row) (is : List ℕ) → face m r ≡ Ok is → FaceKept m is
face-kept m r is h =
    let a = bind (corners r.line 1 r.words) (λ k. places r.line 2 m k (drop 1 r.words) >>= λ is. no_more r.line (k + 6) (drop (k + 5) r.words) >>= λ none. Ok is) is h in
    let b = bind (places r.line 2 m a.0 (drop 1 r.words)) (λ is. no_more r.line (a.0 + 6) (drop (a.0 + 5) r.words) >>= λ none. Ok is) is a.2 in
    let c = bind (no_more r.line (a.0 + 6) (drop (a.0 + 5) r.words)) (λ none. Ok b.0) is b.2 in
    let s = places-below r.line 2 m a.0 (drop 1 r.words) b.0 b.1 in
    let kept : FaceKept m b.0 = record { sides = ap (λ k. nat_le 3 k && nat_le k 64) s.count ∙ corners-some r.line 1 r.words a.0 a.1; places = s.all } in
    subst (FaceKept m) (ok-is b.0 is c.2) kept

pub face_sides : (m : ℕ) (r : Row) (is : List ℕ) → face m r ≡ Ok is → has_sides is ≡ true
face_sides m r is h = (face-kept m r is h).sides

pub face_places : (m : ℕ) (r : Row) (is : List ℕ) → face m r ≡ Ok is → has_places m is ≡ true
face_places m r is h = (face-kept m r is h).places

-- ---- the head

pub record FewCounts (c : Counts) : Type 0 where
  pub vertices : c.vertices ≤ 1024
  pub faces : c.faces ≤ 2048

not-above : (m v : ℕ) → nat_lt m v ≡ false → v ≤ m
not-above m v h = grind arith

limited-most : (l n m : ℕ) (ws : List (List ℕ)) (v : ℕ) → limited l n m ws ≡ Ok v → v ≤ m
limited-most l n m ws v h =
    let a = bind (count l n ws) (at_most l n m) v h in
    let b = pass (nat_lt m a.0) _ (Ok a.0) v a.2 in
    subst (λ v. v ≤ m) (ok-is a.0 v b.1) (not-above m a.0 b.0)

counts-few : (l n : ℕ) (ws : List (List ℕ)) (c : Counts) → counts l n ws ≡ Ok c → FewCounts c
counts-few l n ws c h =
    let a = bind (limited l n 1024 ws) (λ v. limited l (n + 1) 2048 (drop 1 ws) >>= λ f. count l (n + 2) (drop 2 ws) >>= λ edges. no_more l (n + 3) (drop 3 ws) >>= λ none. Ok (record { vertices = v; faces = f })) c h in
    let b = bind (limited l (n + 1) 2048 (drop 1 ws)) (λ f. count l (n + 2) (drop 2 ws) >>= λ edges. no_more l (n + 3) (drop 3 ws) >>= λ none. Ok (record { vertices = a.0; faces = f })) c a.2 in
    let d = bind (count l (n + 2) (drop 2 ws)) (λ edges. no_more l (n + 3) (drop 3 ws) >>= λ none. Ok (record { vertices = a.0; faces = b.0 })) c b.2 in
    let e = bind (no_more l (n + 3) (drop 3 ws)) (λ none. Ok (record { vertices = a.0; faces = b.0 })) c d.2 in
    let k : Counts = record { vertices = a.0; faces = b.0 } in
    let few : FewCounts k = record { vertices = limited-most l n 1024 ws a.0 a.1; faces = limited-most l (n + 1) 2048 (drop 1 ws) b.0 b.1 } in
    subst FewCounts (ok-is k c e.2) few

abbrev FewHead : Counts × List Row → Type 0
FewHead h = FewCounts h.0

before-few : (rows : List Row) (r : Result Counts OffFault) (h : Counts × List Row) → ((c : Counts) → r ≡ Ok c → FewCounts c) → before_rows rows r ≡ Ok h → FewHead h
before-few rows (Ok c) h few e = subst FewHead (ok-is (c, rows) h e) (few c refl)
before-few rows (Err f) h few e = cc

row-few : (e : ℕ) (rows : List Row) (h : Counts × List Row) → counts_row e rows ≡ Ok h → FewHead h
row-few e [] h k = cc
row-few e (r ∷ rows) h k = before-few rows (counts r.line 1 r.words) h (counts-few r.line 1 r.words) k

behind-few : (e l : ℕ) (ws : List (List ℕ)) (rows : List Row) (h : Counts × List Row) → behind_off e l ws rows ≡ Ok h → FewHead h
behind-few e l [] rows h k = row-few e rows h k
behind-few e l (w ∷ ws) rows h k = before-few rows (counts l 2 (w ∷ ws)) h (counts-few l 2 (w ∷ ws)) k

named-by : (b : Bool) (e l : ℕ) (w : List ℕ) (ws : List (List ℕ)) (rows : List Row) (h : Counts × List Row) → is_off w ≡ b → first_row e l (w ∷ ws) rows ≡ Ok h → FewHead h
named-by true e l w ws rows h off k = let is : first_row e l (w ∷ ws) rows ≡ behind_off e l ws rows = rw off refl in behind-few e l ws rows h (sym is ∙ k)
named-by false e l w ws rows h off k = let is : first_row e l (w ∷ ws) rows ≡ Err (NotOff l 1) = rw off refl in cc

first-few : (e l : ℕ) (ws : List (List ℕ)) (rows : List Row) (h : Counts × List Row) → first_row e l ws rows ≡ Ok h → FewHead h
first-few e l [] rows h k = cc
first-few e l (w ∷ ws) rows h k = named-by (is_off w) e l w ws rows h refl k

pub header_few : (e : ℕ) (rows : List Row) (h : Counts × List Row) → header e rows ≡ Ok h → FewCounts h.0
header_few e [] h k = cc
header_few e (r ∷ rows) h k = first-few e r.line r.words rows h k

-- ---- meshes

pub body_kept : (e : ℕ) (c : Counts) (rows : List Row) (mesh : Mesh) → FewCounts c → body e c rows ≡ Ok mesh → IsMesh mesh
body_kept e c rows mesh few h =
    let a = bind (vertices e c.vertices rows) (λ points. faces e c.vertices c.faces (drop c.vertices rows) >>= λ faces. no_rows (drop c.faces (drop c.vertices rows)) >>= λ none. Ok (record { points = points; faces = faces })) mesh h in
    let b = bind (faces e c.vertices c.faces (drop c.vertices rows)) (λ faces. no_rows (drop c.faces (drop c.vertices rows)) >>= λ none. Ok (record { points = a.0; faces = faces })) mesh a.2 in
    let d = bind (no_rows (drop c.faces (drop c.vertices rows))) (λ none. Ok (record { points = a.0; faces = b.0 })) mesh b.2 in
    let points = each_kept is_near_place vertex vertex_near e c.vertices rows a.0 a.1 in
    let sides = each_kept has_sides (face c.vertices) (face_sides c.vertices) e c.faces (drop c.vertices rows) b.0 b.1 in
    let inside = each_kept (has_places c.vertices) (face c.vertices) (face_places c.vertices) e c.faces (drop c.vertices rows) b.0 b.1 in
    let m : Mesh = record { points = a.0; faces = b.0 } in
    let kept : IsMesh m = record {
      near = points.all;
      few_points = subst (λ n. n ≤ 1024) (sym points.count) few.vertices;
      few_faces = subst (λ n. n ≤ 2048) (sym sides.count) few.faces;
      sides = sides.all;
      places = ap (λ n. list_all (has_places n) b.0) points.count ∙ inside.all;
    } in
    subst IsMesh (ok-is m mesh d.2) kept

pub mesh_kept : (e : ℕ) (rows : List Row) (mesh : Mesh) → mesh_in e rows ≡ Ok mesh → IsMesh mesh
mesh_kept e rows mesh h =
    let a = bind (header e rows) (λ (h : Counts × List Row). body e h.0 h.1) mesh h in
    body_kept e a.0.0 a.0.1 mesh (header_few e rows a.0 a.1) a.2

pub read_are_meshes : ReadAreMeshes
read_are_meshes text mesh h = mesh_kept (end_line text) (rows text) mesh h

-- ---- corners in all

count-sides : (n k : ℕ) (is : List ℕ) → has_sides is ≡ true → n ≤ 64 * k → length is + n ≤ 64 * suc k
count-sides n k is h e = grind arith

left-true : (a b : Bool) → (a && b) ≡ true → a ≡ true
left-true true b h = refl
left-true false b h = h

right-true : (a b : Bool) → (a && b) ≡ true → b ≡ true
right-true true b h = h
right-true false b h = cc

pub corners_few : (fs : List (List ℕ)) → list_all has_sides fs ≡ true → corner_count fs ≤ 64 * length fs
corners_few [] h = omega arith
corners_few (is ∷ fs) h =
    let rest : corner_count fs ≤ 64 * length fs = corners_few fs (right-true (has_sides is) (list_all has_sides fs) h) in
    count-sides (corner_count fs) (length fs) is (left-true (has_sides is) (list_all has_sides fs) h) rest
