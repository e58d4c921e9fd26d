-- Rows taken one after another.
use Rattle.std.proofs.Common.{◌≡◌, ◌≤◌, ◌+◌, ℕ, List, [], ◌∷◌, ◌++◌, map, length, Option, Some, None, Ok, refl, sym, ap, ◌∙◌, arith, append_assoc, append-nil}
use Rattle.std.proofs.lemmas.List.{length-map, length-append}
use Rattle.bc_prism.specs.declared.row.Row.{Row}
use Rattle.bc_prism.specs.declared.row.Kind.{Kind}
use Rattle.bc_prism.specs.declared.row.Kind.TheVariants as kinds
use Rattle.bc_prism.specs.declared.layer.Section.{Section}
use Rattle.bc_prism.specs.declared.sections.Open.{Open}
use Rattle.bc_prism.specs.Sections.{ASection, section, part, next_from, next_layer, with_section, sections_in, first_fault, fault_at, or_else, layers_behind}
use Rattle.bc_prism.specs.Reading.{EndsIn, closed, closes, begins, layers_so_far, pending, TakesRow}

-- ---- one row

-- what is found is what was found, with what is to come
found-step : (text : List ℕ) (old new : List Section) (begun : Option Open) (from behind next : ℕ) (kind : Kind) (later : List ASection) (all : List ASection)
    → map section new ≡ map section old ++ closes kind begun text from
    → map section old ++ (closed begun text (next_from kind from next) ++ with_section kind (part text behind next) later) ≡ all
    → map section new ++ (closed (begins kind begun behind) text next ++ later) ≡ all
found-step text old new begun from behind next (kinds.Layer z0 z1) later all n e =
    ap (λ ss. ss ++ (record { z0 = z0; z1 = z1; text = part text behind next } ∷ later)) n
    ∙ append_assoc (map section old) (closed begun text from) (record { z0 = z0; z1 = z1; text = part text behind next } ∷ later) ∙ e
found-step text old new begun from behind next kinds.Empty later all n e = ap (λ ss. ss ++ (closed begun text next ++ later)) (n ∙ append-nil (map section old)) ∙ e
found-step text old new begun from behind next kinds.Other later all n e = ap (λ ss. ss ++ (closed begun text next ++ later)) (n ∙ append-nil (map section old)) ∙ e
found-step text old new begun from behind next kinds.Bad later all n e = ap (λ ss. ss ++ (closed begun text next ++ later)) (n ∙ append-nil (map section old)) ∙ e

size-of : (old new : List Section) (more : List ASection) → map section new ≡ map section old ++ more → length new ≡ length old + length more
size-of old new more n = sym (length-map new section) ∙ ap length n ∙ length-append (map section old) more ∙ ap (λ k. k + length more) (length-map old section)

count-step : (text : List ℕ) (old new : List Section) (begun : Option Open) (from behind : ℕ) (kind : Kind)
    → map section new ≡ map section old ++ closes kind begun text from → layers_so_far new (begins kind begun behind) ≡ layers_behind (layers_so_far old begun) kind
count-step text old new None from behind (kinds.Layer z0 z1) n = omega (arith, size-of old new [] n)
count-step text old new (Some o) from behind (kinds.Layer z0 z1) n = omega (arith, size-of old new (closed (Some o) text from) n)
count-step text old new None from behind kinds.Empty n = omega (arith, size-of old new [] n)
count-step text old new (Some o) from behind kinds.Empty n = omega (arith, size-of old new [] n)
count-step text old new None from behind kinds.Other n = omega (arith, size-of old new [] n)
count-step text old new (Some o) from behind kinds.Other n = omega (arith, size-of old new [] n)
count-step text old new None from behind kinds.Bad n = omega (arith, size-of old new [] n)
count-step text old new (Some o) from behind kinds.Bad n = omega (arith, size-of old new [] n)

ends-step : (text : List ℕ) (begun : Option Open) (from behind : ℕ) (kind : Kind) → from ≤ behind → behind ≤ length text → EndsIn begun from text → EndsIn (begins kind begun behind) behind text
ends-step text begun from behind (kinds.Layer z0 z1) h k e = (omega arith, k)
ends-step text None from behind kinds.Empty h k e = tt
ends-step text (Some o) from behind kinds.Empty h k e = (omega (arith, e.0, h), k)
ends-step text None from behind kinds.Other h k e = tt
ends-step text (Some o) from behind kinds.Other h k e = (omega (arith, e.0, h), k)
ends-step text None from behind kinds.Bad h k e = tt
ends-step text (Some o) from behind kinds.Bad h k e = (omega (arith, e.0, h), k)

-- the first fault is that of the row, or one of the rows behind
fault-on : (n : ℕ) (r : Row) (rs : List Row) → fault_at n r.number r.kind ≡ None → first_fault n (r ∷ rs) ≡ first_fault (layers_behind n r.kind) rs
fault-on n r rs e = ap (λ f. or_else f (first_fault (layers_behind n r.kind) rs)) e

pub record Stepped (text : List ℕ) (old new : List Section) (begun o : Option Open) (r : Row) (rs : List Row) : Type 0 where
  pub fault : first_fault (layers_so_far new o) rs ≡ first_fault (layers_so_far old begun) (r ∷ rs)
  pub found : map section new ++ pending o text rs ≡ map section old ++ pending begun text (r ∷ rs)
  pub ends : EndsIn o r.behind text

pub stepped : (text : List ℕ) (old new : List Section) (begun o : Option Open) (r : Row) (rs : List Row)
    → TakesRow (Ok o) (layers_so_far old begun) old new begun text r → r.from ≤ r.behind → r.behind ≤ length text → EndsIn begun r.from text → Stepped text old new begun o r rs
stepped text old new begun o r rs t h k e = record {
  fault = ap (λ o. first_fault (layers_so_far new o) rs) t.2 ∙ ap (λ n. first_fault n rs) (count-step text old new begun r.from r.behind r.kind t.1) ∙ sym (fault-on (layers_so_far old begun) r rs t.0);
  found = ap (λ o. map section new ++ pending o text rs) t.2
      ∙ found-step text old new begun r.from r.behind (next_layer (length text) rs) r.kind (sections_in text rs) (map section old ++ pending begun text (r ∷ rs)) t.1 refl;
  ends = rw t.2 (ends-step text begun r.from r.behind r.kind h k e);
}
