-- Pieces put to a pen one behind another.
use Rattle.std.proofs.Common.{◌≡◌, true, List, ℕ, ◌++◌, Option, Result, take, refl, ap, sym, ◌∙◌, append_assoc, append-nil, [], subst}
use Rattle.bc_io.specs.declared.pen.Pen.{Pen}
use Rattle.bc_io.specs.Causes.{HasCause}
use Rattle.bc_io.specs.Pieces.{Puts}
use Rattle.bc_io.specs.Growing.{GrewBy, WasPut, IsFinished, IsNew, has_failed}
use Rattle.bc_io.proofs.Taken.{put_none, put_past}

-- two pieces
pub behind : {K : Type 0} {held : K → Option (List ℕ)} {faults : K → ℕ} {a b c : Pen K} {xs ys : List ℕ} → GrewBy held faults a b xs → GrewBy held faults b c ys → GrewBy held faults a c (xs ++ ys)
behind {held = held} {faults = faults} {c = c} {xs = xs} {ys = ys} e f = record {
  sink = f.sink ∙ e.sink;
  buffer = f.buffer ∙ e.buffer;
  put = λ start before done h. subst (WasPut held faults start before c) (append_assoc done xs ys) (f.put start before (done ++ xs) (e.put start before done h));
  stays = λ t. let p = e.stays t in let q = f.stays p.0 in (q.0, q.1 ∙ p.1, q.2 ∙ p.2);
}

-- an equal piece
pub same_piece : {K : Type 0} {held : K → Option (List ℕ)} {faults : K → ℕ} {a b : Pen K} {xs ys : List ℕ} → xs ≡ ys → GrewBy held faults a b xs → GrewBy held faults a b ys
same_piece {held = held} {faults = faults} {a = a} {b = b} e f = subst (GrewBy held faults a b) e f

pub no_piece : {K : Type 0} (held : K → Option (List ℕ)) (faults : K → ℕ) (a : Pen K) → GrewBy held faults a a []
no_piece held faults a = record { sink = refl; buffer = refl; put = λ start before done h. subst (WasPut held faults start before a) (sym (append-nil done)) h; stays = λ t. (t, refl, refl) }

-- once a write has failed any piece may be said to be put: it is lost
pub lost : {K : Type 0} {held : K → Option (List ℕ)} {faults : K → ℕ} {a b : Pen K} {xs : List ℕ} (ys : List ℕ) → has_failed a ≡ true → GrewBy held faults a b xs → GrewBy held faults a b ys
lost {K = K} {held = held} {faults = faults} {a = a} {b = b} ys failed e =
    let s = e.stays failed in
    record {
      sink = e.sink;
      buffer = e.buffer;
      put = λ start before done h. put_past start (held a.out.now) (held b.out.now) before (faults a.out.now) (faults b.out.now) done ys _ _ a.failed b.failed failed s.0 s.1 s.2 h;
      stays = e.stays;
    }

-- all that was put since the pen was new is in the sink at last
pub all_put : {K T E : Type 0} {held : K → Option (List ℕ)} {faults : K → ℕ} (first full last : Pen K) (out : K) (text : List ℕ) (r : Result T E) → IsNew first out
    → GrewBy held faults first full text → IsFinished held faults full last r → Puts (held out) (held last.out.now) r text × HasCause (faults out) (faults last.out.now) r
all_put {held = held} {faults = faults} first full last out text r new grew end =
    let start = put_none (held first.out.now) (faults first.out.now) (take first.len first.buf.now) first.failed new.whole (ap (λ n. take n first.buf.now) new.empty) in
    subst (λ k. Puts (held k) (held last.out.now) r text × HasCause (faults k) (faults last.out.now) r) new.kept
    (end.put (held first.out.now) (faults first.out.now) text (grew.put (held first.out.now) (faults first.out.now) [] start))
