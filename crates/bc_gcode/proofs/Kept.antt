-- A program stays sound over its blocks.
use Rattle.std.proofs.Common.{◌≡◌, ◌≤◌, ℕ, ◌+◌, Bool, true, false, not, ◌&&◌, nat_eq, List, [], ◌∷◌, length, Option, Some, None, ℤ, Result, Ok, Err, refl, sym, ap, ◌∙◌, subst, arith, lit≤, if◌then◌else◌}
use Rattle.std.proofs.lemmas.List.Elements.{All-nil}
use Rattle.std.specs.Option.{unwrap_or}
use Rattle.std.proofs.lemmas.Bool.{and_from, and_parts, or_from, or_parts, not_from_false}
use Rattle.bc_num.specs.declared.whole.NumFault.{NumFault}
use Rattle.bc_num.specs.Whole.{whole}
use Rattle.bc_num.specs.Lines.{lines}
use Rattle.bc_num.specs.Words.{Word, Words, ended, broken, word, line_words}
use Rattle.bc_num.specs.declared.v2.V2.{V2}
use Rattle.bc_solid.specs.declared.element.Element.{Element}
use Rattle.bc_solid.specs.declared.element.Element.TheVariants.{Edge, Arc}
use Rattle.bc_solid.specs.Closed.{IsContour, joined}
use Rattle.bc_gcode.specs.declared.block.Motion.{Motion}
use Rattle.bc_gcode.specs.declared.block.Motion.TheVariants.{Rapid, Linear, Clockwise, CounterClockwise}
use Rattle.bc_gcode.specs.declared.block.Block.{Block}
use Rattle.bc_gcode.specs.declared.program.Program.{Program}
use Rattle.bc_gcode.specs.declared.fault.GFault.{GFault}
use Rattle.bc_gcode.specs.declared.fault.GFault.TheVariants.{UnknownWord}
use Rattle.bc_gcode.specs.Answers.{◌>>=◌}
use Rattle.bc_solid.specs.Contours.{is_far}
use Rattle.bc_gcode.specs.Blocks.{near, offset, coordinate, mode_of, with_mode, g_word, m_word, z_word, with_word, with_words, block_of, no_words, is_free_g, ends_program, is_free_m, is_free_letter}
use Rattle.bc_solid.specs.Contours.{is_far_point}
use Rattle.bc_num.specs.Measures.{is_same}
use Rattle.bc_gcode.specs.Program.{end_point, centre, add, close, has_end, has_centre, has_axis, rapid, linear, arc, move_in, with_mode_of, block_done}
use Rattle.bc_gcode.specs.Gcode.{finish, run, opening, contours_of}
use Rattle.bc_gcode.specs.Laws.{AreContours, EndsWell}
use Rattle.bc_gcode.specs.Laws.{ReadAreContours}
use Rattle.bc_gcode.proofs.Sound.{Sound, Reaches, add_sound, close_sound, pick, bind, yes}

no : {A : Type 0} (e : GFault) (t : A) (P : Type 0) → Err e ≡ yes t → P
no e t P h = cc

-- Words: the end point of a block stays near

abbrev pub far_or : Option ℤ → Bool
far_or None = false
far_or (Some v) = is_far v

pub record NearBlock (b : Block) : Type 0 where
  pub x : far_or b.x ≡ false
  pub y : far_or b.y ≡ false

to : (s t : Block) → yes s ≡ yes t → NearBlock s → NearBlock t
to s t h k = let e : s ≡ t = cc in subst NearBlock e k

with-mode : (l n : ℕ) (b : Block) (m : Option (Option Motion)) (t : Block) → NearBlock b → with_mode l n b m ≡ Ok t → NearBlock t
with-mode l n b None t k h = cc
with-mode l n b (Some m) t k h = pick _ _ _ t (NearBlock t) (λ q r. no _ t (NearBlock t) r) (λ q r. to _ t r (record { x = k.x; y = k.y })) h

g-word : (l n : ℕ) (b : Block) (v : Result ℤ NumFault) (t : Block) → NearBlock b → g_word l n b v ≡ Ok t → NearBlock t
g-word l n b (Err e) t k h = cc
g-word l n b (Ok v) t k h =
    pick _ _ _ t (NearBlock t) (λ q r. no _ t (NearBlock t) r) (λ q r. pick (is_free_g v) (Ok b) (with_mode l n b (mode_of v)) t (NearBlock t) (λ q r. to b t r k) (λ q r. with-mode l n b (mode_of v) t k r) r) h

m-word : (l n : ℕ) (b : Block) (v : Result ℤ NumFault) (t : Block) → NearBlock b → m_word l n b v ≡ Ok t → NearBlock t
m-word l n b (Err e) t k h = cc
m-word l n b (Ok v) t k h =
    pick (ends_program v) _ _ t (NearBlock t) (λ q r. to _ t r (record { x = k.x; y = k.y }))
    (λ q r. pick (is_free_m v) _ _ t (NearBlock t) (λ q r. to b t r k) (λ q r. no _ t (NearBlock t) r) r) h

coordinate-near : (l n : ℕ) (old : Option ℤ) (v : Result ℤ NumFault) (z : ℤ) → coordinate l n old v ≡ Ok z → is_far z ≡ false
coordinate-near l n old v z h =
    let s = bind (offset l n old v) (near l n) z h in
    pick (is_far s.0) _ _ z (is_far z ≡ false) (λ q r. cc) (λ q r. let e : s.0 ≡ z = cc in ap is_far (sym e) ∙ q) s.2

x-word : (b : Block) (r : Result ℤ GFault) (t : Block) → ((z : ℤ) → r ≡ Ok z → is_far z ≡ false) → NearBlock b
    → (r >>= (λ x. yes (record b { x = Some x }))) ≡ Ok t → NearBlock t
x-word b r t f k h = let s = bind r (λ x. yes (record b { x = Some x })) t h in to _ t s.2 (record { x = f s.0 s.1; y = k.y })

y-word : (b : Block) (r : Result ℤ GFault) (t : Block) → ((z : ℤ) → r ≡ Ok z → is_far z ≡ false) → NearBlock b
    → (r >>= (λ y. yes (record b { y = Some y }))) ≡ Ok t → NearBlock t
y-word b r t f k h = let s = bind r (λ y. yes (record b { y = Some y })) t h in to _ t s.2 (record { x = k.x; y = f s.0 s.1 })

i-word : (b : Block) (r : Result ℤ GFault) (t : Block) → NearBlock b → (r >>= (λ i. yes (record b { i = Some i }))) ≡ Ok t → NearBlock t
i-word b r t k h = let s = bind r (λ i. yes (record b { i = Some i })) t h in to _ t s.2 (record { x = k.x; y = k.y })

j-word : (b : Block) (r : Result ℤ GFault) (t : Block) → NearBlock b → (r >>= (λ j. yes (record b { j = Some j }))) ≡ Ok t → NearBlock t
j-word b r t k h = let s = bind r (λ j. yes (record b { j = Some j })) t h in to _ t s.2 (record { x = k.x; y = k.y })

z-word : (l n : ℕ) (b t : Block) → NearBlock b → z_word l n b ≡ Ok t → NearBlock t
z-word l n b t k h = pick b.z _ _ t (NearBlock t) (λ q r. no _ t (NearBlock t) r) (λ q r. to _ t r (record { x = k.x; y = k.y })) h

choose : {A : Type 0} (c : Bool) (x y : Result A GFault) (t : A) (P : Type 0) → (if c then x else y) ≡ Ok t → (x ≡ Ok t → P) → (y ≡ Ok t → P) → P
choose c x y t P h f g = pick c x y t P (λ q r. f r) (λ q r. g r) h

-- one of the words with a letter of its own, or another
abbrev pub other : ℕ → ℕ → Block → ℕ → Result Block GFault
other l n b letter = if is_free_letter letter then Ok b else Err (UnknownWord l n)

pub with-word : (l n : ℕ) (b : Block) (w : Word) (t : Block) → NearBlock b → with_word l n b w ≡ Ok t → NearBlock t
with-word l n b w t k h =
    let v = whole w.number in
    let P : Type 0 = NearBlock t in
    let f : Result Block GFault = other l n b w.letter in
    let z : Result Block GFault = if nat_eq w.letter 90 then z_word l n b else f in
    let j : Result Block GFault = if nat_eq w.letter 74 then offset l n b.j v >>= (λ j. yes (record b { j = Some j })) else z in
    let i : Result Block GFault = if nat_eq w.letter 73 then offset l n b.i v >>= (λ i. yes (record b { i = Some i })) else j in
    let y : Result Block GFault = if nat_eq w.letter 89 then coordinate l n b.y v >>= (λ y. yes (record b { y = Some y })) else i in
    let x : Result Block GFault = if nat_eq w.letter 88 then coordinate l n b.x v >>= (λ x. yes (record b { x = Some x })) else y in
    let m : Result Block GFault = if nat_eq w.letter 77 then m_word l n b v else x in
    choose (nat_eq w.letter 71) (g_word l n b v) m t P h (λ r. g-word l n b v t k r) (λ r.
    choose (nat_eq w.letter 77) (m_word l n b v) x t P r (λ r. m-word l n b v t k r) (λ r.
    choose (nat_eq w.letter 88) (coordinate l n b.x v >>= (λ x. yes (record b { x = Some x }))) y t P r (λ r. x-word b (coordinate l n b.x v) t (coordinate-near l n b.x v) k r) (λ r.
    choose (nat_eq w.letter 89) (coordinate l n b.y v >>= (λ y. yes (record b { y = Some y }))) i t P r (λ r. y-word b (coordinate l n b.y v) t (coordinate-near l n b.y v) k r) (λ r.
    choose (nat_eq w.letter 73) (offset l n b.i v >>= (λ i. yes (record b { i = Some i }))) j t P r (λ r. i-word b (offset l n b.i v) t k r) (λ r.
    choose (nat_eq w.letter 74) (offset l n b.j v >>= (λ j. yes (record b { j = Some j }))) z t P r (λ r. j-word b (offset l n b.j v) t k r) (λ r.
    choose (nat_eq w.letter 90) (z_word l n b) f t P r (λ r. z-word l n b t k r) (λ r.
    choose (is_free_letter w.letter) (yes b) (Err (UnknownWord l n)) t P r (λ r. to b t r k) (λ r. no (UnknownWord l n) t P r))))))))

with-words : (l n : ℕ) (b : Block) (ws : Words) (t : Block) → NearBlock b → with_words l n b ws ≡ Ok t → NearBlock t
with-words l n b ended t k h = to b t h k
with-words l n b broken t k h = cc
with-words l n b (word w ws) t k h =
    let s = bind (with_word l (n + 1) b w) (λ b. with_words l (n + 1) b ws) t h in
    with-words l (n + 1) s.0 ws t (with-word l (n + 1) b w s.0 k s.1) s.2

pub block-near : (l : ℕ) (line : List ℕ) (t : Block) → block_of l line ≡ Ok t → NearBlock t
block-near l line t h = with-words l 0 no_words (line_words line) t (record { x = refl; y = refl }) h

-- Blocks

or-near : (o : Option ℤ) (d : ℤ) → far_or o ≡ false → is_far d ≡ false → is_far (unwrap_or o d) ≡ false
or-near None d h k = k
or-near (Some v) d h k = h

end-near : (p : V2) (b : Block) → NearBlock b → is_far_point p ≡ false → is_far_point (end_point p b) ≡ false
end-near p b k h =
    or_from (is_far (unwrap_or b.x p.x)) (is_far (unwrap_or b.y p.y)) (or-near b.x p.x k.x (or_parts (is_far p.x) (is_far p.y) h).0)
    (or-near b.y p.y k.y (or_parts (is_far p.x) (is_far p.y) h).1)

same : (s t : Program) → yes s ≡ yes t → Sound s → Sound t
same s t h k = let e : s ≡ t = cc in subst Sound e k

placed : (s : Program) (p : V2) → s.contour ≡ [] → is_far_point p ≡ false → Sound s → Sound (record s { position = p })
placed s p c n k = record { near = n; chain = subst (λ es. Reaches es p) (sym c) tt; drawn = k.drawn; done = k.done; done_drawn = k.done_drawn; count = k.count; few = k.few }

rapid-sound : (l : ℕ) (b : Block) (s t : Program) → NearBlock b → Sound s → rapid l b s ≡ Ok t → Sound t
rapid-sound l b s t n k h =
    pick (has_end b) (close l s >>= (λ s. yes (record s { position = end_point s.position b }))) (yes s) t (Sound t)
    (λ q r.
    let u = bind (close l s) (λ s. yes (record s { position = end_point s.position b })) t r in
    let c = close_sound l s u.0 k u.1 in
    same (record u.0 { position = end_point u.0.position b }) t u.2
    (placed u.0 (end_point u.0.position b) c.contour (end-near u.0.position b n c.sound.near) c.sound))
    (λ q r. same s t r k) h

linear-sound : (l : ℕ) (b : Block) (s t : Program) → NearBlock b → Sound s → linear l b s ≡ Ok t → Sound t
linear-sound l b s t n k h =
    let p = end_point s.position b in
    let far : is_far_point p ≡ false = end-near s.position b n k.near in
    pick (has_end b && not (is_same s.position p)) (add l s (Edge s.position p)) (yes s) t (Sound t)
    (λ q r. add_sound l s (Edge s.position p) t k
    (and_from (not (is_far_point s.position)) _ (not_from_false (is_far_point s.position) k.near)
    (and_from (not (is_far_point p)) (not (is_same s.position p)) (not_from_false (is_far_point p) far) (and_parts (has_end b) _ q).1))
    far refl r)
    (λ q r. same s t r k) h

arc-sound : (ccw : Bool) (l : ℕ) (b : Block) (s t : Program) → NearBlock b → Sound s → arc ccw l b s ≡ Ok t → Sound t
arc-sound ccw l b s t n k h =
    let p = end_point s.position b in
    let c = centre s.position b in
    let far : is_far_point p ≡ false = end-near s.position b n k.near in
    pick (not (has_axis b)) _ _ t (Sound t) (λ q r. same s t r k) (λ q r.
    pick (not (has_centre b)) _ _ t (Sound t) (λ q r. no _ t (Sound t) r) (λ q r.
    pick (is_far_point c) _ _ t (Sound t) (λ q r. no _ t (Sound t) r) (λ q r.
    add_sound l s (Arc s.position p c ccw) t k
    (and_from (not (is_far_point s.position)) _ (not_from_false (is_far_point s.position) k.near)
    (and_from (not (is_far_point p)) (not (is_far_point c)) (not_from_false (is_far_point p) far) (not_from_false (is_far_point c) q)))
    far refl r) r) r) h

move-sound : (m : Option Motion) (l : ℕ) (b : Block) (s t : Program) → NearBlock b → Sound s → move_in m l b s ≡ Ok t → Sound t
move-sound None l b s t n k h = pick (has_axis b) _ _ t (Sound t) (λ q r. no _ t (Sound t) r) (λ q r. same s t r k) h
move-sound (Some Rapid) l b s t n k h = rapid-sound l b s t n k h
move-sound (Some Linear) l b s t n k h = linear-sound l b s t n k h
move-sound (Some Clockwise) l b s t n k h = arc-sound false l b s t n k h
move-sound (Some CounterClockwise) l b s t n k h = arc-sound true l b s t n k h

pub block-sound : (l : ℕ) (b : Block) (s t : Program) → NearBlock b → Sound s → block_done l b s ≡ Ok t → Sound t
block-sound l b s t n k h =
    let u = with_mode_of b s in
    pick (b.z && has_axis b) _ _ t (Sound t) (λ q r. no _ t (Sound t) r)
    (λ q r. move-sound u.motion l b u t n (record { near = k.near; chain = k.chain; drawn = k.drawn; done = k.done; done_drawn = k.done_drawn; count = k.count; few = k.few }) r) h

-- Whole programs

finish-good : (l : ℕ) (s : Program) (cs : List (List Element)) → Sound s → finish l s ≡ Ok cs → AreContours cs
finish-good l s cs k h =
    let u = bind (close l s) (λ s. yes s.contours) cs h in
    let c = close_sound l s u.0 k u.1 in
    let e : u.0.contours ≡ cs = let q = u.2 in cc in
    let count : u.0.count ≡ length (joined u.0.contours) + length u.0.contour = c.sound.count in
    let few : u.0.count ≤ 512 = c.sound.few in
    let small : length (joined u.0.contours) ≤ 512 = omega arith in
    subst AreContours e (record { closed = c.sound.done; drawn = c.sound.done_drawn; few = small })

run-good : (l : ℕ) (s : Program) (ls : List (List ℕ)) (cs : List (List Element)) → Sound s → run l s ls ≡ Ok cs → AreContours cs
run-good l s [] cs k h = finish-good l s cs k h
run-good l s (line ∷ rest) cs k h =
    let b = bind (block_of l line) (λ b. block_done l b s >>= (λ s. if b.ends then finish l s else run (l + 1) s rest)) cs h in
    let t = bind (block_done l b.0 s) (λ s. if b.0.ends then finish l s else run (l + 1) s rest) cs b.2 in
    let sound : Sound t.0 = block-sound l b.0 s t.0 (block-near l line b.0 b.1) k t.1 in
    pick b.0.ends (finish l t.0) (run (l + 1) t.0 rest) cs (AreContours cs) (λ q r. finish-good l t.0 cs sound r) (λ q r. run-good (l + 1) t.0 rest cs sound r) t.2

pub read_are_contours : ReadAreContours
read_are_contours text cs h =
    run-good 1 opening (lines text) cs (record { near = refl; chain = tt; drawn = refl; done = All-nil IsContour; done_drawn = refl; count = refl; few = lit≤ tt }) h

pub ends_well : (text : List ℕ) (r : Result (List (List Element)) GFault) → contours_of text ≡ r → EndsWell r
ends_well text r e cs h = read_are_contours text cs (e ∙ h)
