-- A trial is of its generated text: that text is never refused, and what is counted of its division and formula is what its
-- boundary and its text have. And two texts put one behind the other are put as one.
use Rattle.std.proofs.Common.{◌≡◌, ◌≢◌, ◌≤◌, ℕ, List, [], ◌∷◌, ◌++◌, not, length, Option, Result, Err, inl, inr, refl, sym, ap, ◌∙◌, subst, arith}
use Rattle.std.specs.Prelude.{filter, IfErr, Any}
use Rattle.std.proofs.lemmas.Int.{ints}
use lib.IntN.{ℤ, pos, ◌+ℤ◌, ◌-ℤ◌}
use Rattle.std.specs.Io.KnownBytes.{Appends, Keeps}
use Rattle.bc_io.specs.Causes.{Rose}
use Rattle.bc_io.proofs.Known.{Appends-trans, AppendsFront-more, AppendsFront-behind}
use Rattle.bc_num.specs.declared.box2.Box2.{Box2}
use Rattle.bc_num.specs.declared.box3.Box3.{Box3}
use Rattle.bc_num.proofs.Same.{box2_same}
use Rattle.bc_solid.specs.declared.element.Element.{Element}
use Rattle.bc_solid.specs.Boxes.{IsLeast, IsGreatest, IsXOf, IsYOf, IsBoxOf}
use Rattle.bc_solid.specs.Closed.{joined}
use Rattle.bc_solid.specs.Meshes.{faces_of}
use Rattle.bc_solid.specs.Facets.{Facet, outlines}
use Rattle.bc_gcode.specs.Gcode.{contours_of}
use Rattle.bc_off.specs.Off.{mesh_of_text}
use Rattle.bc_natural.specs.declared.nat_fault.NatFault.{NatFault}
use Rattle.bc_natural.specs.declared.nat_fault.NatFault.TheVariants as limits
use Rattle.bc_natural.specs.Curves.{Curves, AreCurves}
use Rattle.bc_natural.specs.Planes.{IsPlaneLimitFault}
use Rattle.bc_natural.specs.Limits.{AreFew, IsLimitFault}
use Rattle.bc_tree.specs.declared.tree.Leaf.{Leaf}
use Rattle.bc_tree.specs.Shape.{shape}
use Rattle.bc_text.specs.Layout.{layout}
use Rattle.bc_text.specs.declared.note.Head.{Head}
use Rattle.bc_formula.specs.declared.terms.Division.{Division}
use Rattle.bc_formula.specs.declared.terms.Formula.{Formula}
use Rattle.bc_formula.specs.Geometry.{Geometry}
use Rattle.bc_formula.specs.ContourGeometry.{contours}
use Rattle.bc_formula.specs.MeshGeometry.{meshes}
use Rattle.bc_formula.specs.Headline.{IsFormula}
use Rattle.bc_formula.specs.Divisions.{IsDivision, IsMadeOf}
use Rattle.bc_formula.specs.declared.part_counts.PartCounts.{PartCounts}
use Rattle.bc_formula.specs.Tallies.{AreParted, counts_of_parts, is_disc}
use Rattle.bc_formula.proofs.Described.{described_by}
use Rattle.bc_formula.proofs.Formulas.{formula_made}
use Rattle.bc_formula.proofs.Counted.{notes_counted, parts_counted, curves_counted, planes_counted}
use Rattle.bc_trial.specs.Texts.{off_text, contour_text}
use Rattle.bc_trial.specs.Laws.{IsMeshInput, IsContourInput}
use Rattle.bc_status.specs.Faults.{Becomes}
use Rattle.bc_status.specs.declared.status.Refusal.TheVariants as refusals
use Rattle.bc_status.specs.declared.status.Status.{Status}
use Rattle.bc_status.specs.declared.status.Status.TheVariants.{Done, Refused, Usage, ReadFault, WriteFault, Memory}
use Rattle.bc_top.specs.declared.command.Kind.{Kind}
use Rattle.bc_top.specs.Streams.{Reading, Writing}
use Rattle.bc_top.specs.Stages.{IsUnread, IsPut}
use Rattle.bc_top.specs.Texts.{Grammar}
use Rattle.bc_top.specs.ContourTexts.{HasProfile, IsContourFault, contour_texts}
use Rattle.bc_top.specs.MeshTexts.{HasSolid, IsMeshTextFault, mesh_texts}
use Rattle.bc_top.specs.Converts.{IsConverted}
use Rattle.bc_top.specs.Summaries.{counts_of, mesh_summary, contour_summary}
use Rattle.bc_top.specs.Trials.{AreCounts, IsMeshTrial, IsContourTrial, IsTrial, trials}
use Rattle.bc_top.specs.Promises.{Fulfils}
use Rattle.bc_top.proofs.Fulfilled.{IsAlone, alone_put}
use Rattle.bc_top.proofs.Settled.{no_contour_fault, no_text_fault, read_once}

-- ---- two texts

-- the second behind the first, which was put whole
pub put_behind : (one two : List ℕ) (s : Status) (a b : Writing) → IsPut one Done a → a.before ≤ a.after → IsPut two s b → s ≢ Memory → a.grown ≡ b.held → a.after ≡ b.before
    → IsPut (one ++ two) s (record { held = a.held; grown = b.grown; before = a.before; after = b.after })
put_behind one two s a b h later k some e f = by s k some
  where
    first : Appends a.held b.held one
    first = subst (λ (o : Option (List ℕ)). Appends a.held o one) e h

    by : (s : Status) → IsPut two s b → s ≢ Memory → IsPut (one ++ two) s (record { held = a.held; grown = b.grown; before = a.before; after = b.after })
    by Done k some = Appends-trans a.held b.held b.grown one two first k
    by WriteFault k some = (let rose : Rose b.before b.after = k.0 in omega (arith, rose, later, f), AppendsFront-behind a.held b.held b.grown one two first k.1)
    by Memory k some = absurd (some refl)
    by (Refused g) k some = absurd k
    by Usage k some = absurd k
    by ReadFault k some = absurd k

-- the first was not put whole, so the second is not begun
pub put_stopped : (one two : List ℕ) (s : Status) (w : Writing) → s ≢ Done → IsPut one s w → IsPut (one ++ two) s w
put_stopped one two Done w not_done h = absurd (not_done refl)
put_stopped one two WriteFault w not_done h = (h.0, AppendsFront-more w.held w.grown one two h.1)
put_stopped one two Memory w not_done h = h
put_stopped one two (Refused g) w not_done h = absurd h
put_stopped one two Usage w not_done h = absurd h
put_stopped one two ReadFault w not_done h = absurd h

-- ---- the promise

pub trials_alone : (k : Kind) (n : ℕ) → IsAlone (trials k n)
trials_alone k n = record { input = refl; good = λ f e. e; no_fault = λ bytes f e. e }

pub trials_put : (k : Kind) (n : ℕ) (s : Status) (r : Reading) (w : Writing) (text : List ℕ) → Keeps r.left r.rest → IsTrial k n text → IsPut text s w → Fulfils (trials k n) s r w
trials_put k n s r w text u t put = alone_put (trials k n) (trials_alone k n) s r w text u t put

-- ---- faults that do not come

pub if_err : {A B : Type 0} (r : Result A B) (P : B → Type 0) (e : B) → r ≡ Err e → P e → IfErr r P
if_err {A} {B} r P e is h = subst (λ (x : Result A B). IfErr x P) (sym is) h

-- a limit that is not passed leaves want of memory
pub became_memory : (f : NatFault) (s : Status) → f ≡ limits.Memory → Becomes limits.Memory refusals.Limit f s → s ≡ Memory
became_memory f s few (inl (e, is)) = is
became_memory f s few (inr (some, is)) = absurd (some few)

-- ---- contours have one box

one_least : (P : ℤ → Type 0) (x y : ℤ) → IsLeast P (x +ℤ pos 1) → IsLeast P (y +ℤ pos 1) → x ≡ y
one_least P x y h k =
    let a = h.least (y +ℤ pos 1) k.is in
    let b = k.least (x +ℤ pos 1) h.is in
    omega (arith, ints)

one_greatest : (P : ℤ → Type 0) (x y : ℤ) → IsGreatest P (x -ℤ pos 1) → IsGreatest P (y -ℤ pos 1) → x ≡ y
one_greatest P x y h k =
    let a = h.greatest (y -ℤ pos 1) k.is in
    let b = k.greatest (x -ℤ pos 1) h.is in
    omega (arith, ints)

one_box2 : (es : List Element) (b c : Box2) → IsBoxOf es b → IsBoxOf es c → b ≡ c
one_box2 [] b c h k = box2_same b c (h.left ∙ sym k.left) (h.bottom ∙ sym k.bottom) (h.right ∙ sym k.right) (h.top ∙ sym k.top)
one_box2 (e ∷ es) b c h k =
    box2_same b c
    (one_least (λ z. Any (λ f. IsXOf f z) (e ∷ es)) b.x0 c.x0 h.left k.left) (one_least (λ z. Any (λ f. IsYOf f z) (e ∷ es)) b.y0 c.y0 h.bottom k.bottom)
    (one_greatest (λ z. Any (λ f. IsXOf f z) (e ∷ es)) b.x1 c.x1 h.right k.right) (one_greatest (λ z. Any (λ f. IsYOf f z) (e ∷ es)) b.y1 c.y1 h.top k.top)

-- ---- what is counted

module _ {B P X : Type 0} (k : Geometry B P X) (g : Grammar B) (bytes : List ℕ) (b : B) (of_bytes : g.of_text bytes b) (box : X) (d : Division) (f : Formula) (p : PartCounts) (parted : AreParted k b box p.parts p.inside) (is : IsDivision k k.lean_mask b box d) (made : IsMadeOf d f) where
  abbrev formula : IsFormula k b box (shape f.tree) f.notes.items
  formula = (formula_made k b box d f is made).1

  head_is : f.head ≡ k.head box
  head_is = (formula_made k b box d f is made).0

  -- the text of the formula is one that `convert` writes
  abbrev converted : IsConverted k g bytes (layout f.head f.notes.items (shape f.tree))
  converted = record {
    boundary = b;
    of_bytes = of_bytes;
    described = described_by k b box (shape f.tree) f.notes.items (layout f.head f.notes.items (shape f.tree)) formula (ap (λ (h : Head). layout h f.notes.items (shape f.tree)) head_is);
  }

  counted : AreCounts k g converted (counts_of p f)
  counted =
      let notes = notes_counted k b box formula.normal.leaves formula.normal.products f.notes.items formula.says in
      record { parts = parted; terms = notes.0; literals = notes.1; undecided = refl }

-- ---- meshes

module _ (n : ℕ) (input : IsMeshInput (off_text n)) where
  pub mesh_unread : (s : Status) → IsUnread IsMeshTextFault (off_text n) s → s ≡ Memory
  mesh_unread Memory h = refl
  mesh_unread (Refused f) h = absurd (no_text_fault (off_text n) f input.mesh h input.short input.read input.closed)
  mesh_unread Done h = absurd h
  mesh_unread Usage h = absurd h
  mesh_unread ReadFault h = absurd h
  mesh_unread WriteFault h = absurd h

  pub planes_few : (fs : List Facet) (f : NatFault) → HasSolid (off_text n) fs → IsPlaneLimitFault fs f → f ≡ limits.Memory
  planes_few fs limits.Memory h past = refl
  planes_few fs (limits.TooManyPlanes m) h (t, of_input, e, more) =
      absurd
      (let corners : outlines fs ≡ faces_of input.mesh = h.whole ∙ ap faces_of (read_once h.of_text input.mesh (mesh_of_text (off_text n)) h.read input.read) in
      omega (arith, input.few fs t corners h.facets of_input, e, more))
  planes_few fs (limits.TooManyLines m) h past = absurd past
  planes_few fs (limits.TooManyDiscs m) h past = absurd past

pub mesh_trialled : (n : ℕ) (fs : List Facet) (box : Box3) (d : Division) (f : Formula) (summary : List ℕ) → HasSolid (off_text n) fs → IsDivision meshes meshes.has_mask fs box d → IsMadeOf d f
    → summary ≡ mesh_summary n (length (filter (λ (l : Leaf). not (is_disc l)) d.leaves)) (counts_of (counts_of_parts d) f)
    → IsMeshTrial n (layout f.head f.notes.items (shape f.tree) ++ summary)
mesh_trialled n fs box d f summary h is made e =
    let leaves = is.bits.of_input in
    let parted = parts_counted meshes fs box d is in
    let planes : length (filter (λ (l : Leaf). not (is_disc l)) d.leaves) ≡ length leaves.table = ap (λ (ls : List Leaf). length (filter (λ (l : Leaf). not (is_disc l)) ls)) leaves.leaves_are ∙ planes_counted leaves.table in
    record {
      csg = layout f.head f.notes.items (shape f.tree);
      converted = converted meshes mesh_texts (off_text n) fs h box d f (counts_of_parts d) parted is made;
      counts = counts_of (counts_of_parts d) f;
      counted = counted meshes mesh_texts (off_text n) fs h box d f (counts_of_parts d) parted is made;
      table = leaves.table;
      of_input = leaves.of_input;
      whole = ap (λ (l : List ℕ). layout f.head f.notes.items (shape f.tree) ++ l) (e ∙ ap (λ m. mesh_summary n m (counts_of (counts_of_parts d) f)) planes);
    }

-- ---- contours

module _ (n : ℕ) (input : IsContourInput (contour_text n)) where
  pub contours_unread : (s : Status) → IsUnread IsContourFault (contour_text n) s → s ≡ Memory
  contours_unread Memory h = refl
  contours_unread (Refused f) h = absurd (no_contour_fault (contour_text n) f (joined input.contours) h (record { few = input.short; of_text = input.contours; read = input.read; closed = input.closed; whole = refl }))
  contours_unread Done h = absurd h
  contours_unread Usage h = absurd h
  contours_unread ReadFault h = absurd h
  contours_unread WriteFault h = absurd h

  few_of : (es : List Element) → HasProfile (contour_text n) es → (t : Curves) → AreCurves es t → AreFew t
  few_of es h t of_input =
      let same : es ≡ joined input.contours = sym h.whole ∙ ap joined (read_once h.of_text input.contours (contours_of (contour_text n)) h.read input.read) in
      input.few t (subst (λ (xs : List Element). AreCurves xs t) same of_input)

  pub curves_few : (es : List Element) (f : NatFault) → HasProfile (contour_text n) es → IsLimitFault es f → f ≡ limits.Memory
  curves_few es limits.Memory h past = refl
  curves_few es (limits.TooManyPlanes m) h past = absurd past
  curves_few es (limits.TooManyLines m) h (t, of_input, e, more) = absurd (omega (arith, (few_of es h t of_input).lines, e, more))
  curves_few es (limits.TooManyDiscs m) h (t, of_input, kept, e, more) = absurd (omega (arith, (few_of es h t of_input).discs, e, more))

pub contours_trialled : (n : ℕ) (es : List Element) (box other : Box2) (p : PartCounts) (d : Division) (f : Formula) (summary : List ℕ) → HasProfile (contour_text n) es → IsBoxOf es other → AreParted contours es other p.parts p.inside → IsDivision contours contours.lean_mask es box d → IsMadeOf d f
    → summary ≡ contour_summary n (length (filter (λ (l : Leaf). not (is_disc l)) d.leaves)) (length (filter is_disc d.leaves)) (counts_of p f)
    → IsContourTrial n (layout f.head f.notes.items (shape f.tree) ++ summary)
contours_trialled n es box other p d f summary h box_of counted_in is made e =
    let parted = subst (λ (b : Box2). AreParted contours es b p.parts p.inside) (one_box2 es other box box_of is.bits.box_of) counted_in in
    let leaves = is.bits.of_input in
    let counts = curves_counted leaves.table in
    let lines : length (filter (λ (l : Leaf). not (is_disc l)) d.leaves) ≡ length leaves.table.lines = ap (λ (ls : List Leaf). length (filter (λ (l : Leaf). not (is_disc l)) ls)) leaves.leaves_are ∙ counts.1 in
    let discs : length (filter is_disc d.leaves) ≡ length leaves.table.discs = ap (λ (ls : List Leaf). length (filter is_disc ls)) leaves.leaves_are ∙ counts.0 in
    record {
      csg = layout f.head f.notes.items (shape f.tree);
      converted = converted contours contour_texts (contour_text n) es h box d f p parted is made;
      counts = counts_of p f;
      counted = counted contours contour_texts (contour_text n) es h box d f p parted is made;
      table = leaves.table;
      of_input = leaves.of_input;
      whole = ap (λ (l : List ℕ). layout f.head f.notes.items (shape f.tree) ++ l) (e ∙ ap (λ m. contour_summary n m (length (filter is_disc d.leaves)) (counts_of p f)) lines ∙ ap (λ m. contour_summary n (length leaves.table.lines) m (counts_of p f)) discs);
    }
