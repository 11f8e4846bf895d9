-- Whatever the tables hold, a table network keeps the limits.
use Rattle.std.specs.Prelude.{◌≡◌, ℕ, zero, suc, ◌+◌, ◌*◌, ◌<◌, ◌≤◌, Bool, true, false, cond, List, [], ◌∷◌, length, is_some, Some, None, Option, nat_le, refl}
use Rattle.std.proofs.Common.{sym, ap, ◌∙◌, arith}
use Rattle.std.proofs.lemmas.Bool.{cond-true, cond-false, le-leb, lt-leb, leb-true, ne_eqb, eqb-false, not-true, and_parts}
use Rattle.std.specs.List.{slice_get}
use Rattle.routing.specs.declared.cells.Place.{Place}
use Rattle.routing.specs.declared.cells.Road.{Road}
use Rattle.routing.specs.declared.cells.Head.{Head}
use Rattle.routing.specs.Network.{Limits}
use Rattle.routing.specs.Tables.{table_meaning, table_place, arc_of, depot_of, unladen}

nth_some : {X : Type 0} (xs : List X) (i : ℕ) → i < length xs → is_some (slice_get xs i) ≡ true
nth_some [] i h = absurd (omega arith)
nth_some (x ∷ xs) zero h = refl
nth_some (x ∷ xs) (suc i) h = nth_some xs i (omega arith)

depot_some : (o : Option Place) → is_some o ≡ true → is_some (depot_of o) ≡ true
depot_some None e = e
depot_some (Some p) e = refl

at_stop : (h : Head) (places : List Place) (i : ℕ) → 1 ≤ i → table_place h places i ≡ cond (nat_le i h.customers) (slice_get places i) None
at_stop h places i some = cond-false _ _ _ (ne_eqb i 0 (λ e. omega arith))

place_some : (h : Head) (places : List Place) (i : ℕ) → h.customers + 1 ≤ length places → i ≤ h.customers → is_some (table_place h places i) ≡ true
place_some h places zero long le = depot_some (slice_get places 0) (nth_some places 0 (omega arith))
place_some h places (suc i) long le =
    ap is_some (at_stop h places (suc i) (omega arith) ∙ cond-true _ _ _ (le-leb (suc i) h.customers le)) ∙ nth_some places (suc i) (omega arith)

place_none : (h : Head) (places : List Place) (i : ℕ) → h.customers < i → table_place h places i ≡ None
place_none h places i lt = at_stop h places i (omega arith) ∙ cond-false _ _ _ (lt-leb i h.customers lt)

depot_bare : (o : Option Place) (p : Place) → depot_of o ≡ Some p → (p.load ≡ 0) × (p.service ≡ 0)
depot_bare None p e = absurd (let z : ◌≡◌ {A = ℕ} 0 1 = cc in omega arith)
depot_bare (Some q) p e = let same : unladen q ≡ p = cc in (ap (λ x. x.load) (sym same), ap (λ x. x.service) (sym same))

-- what `cond` gives when it is not None
picked : {X : Type 0} (b : Bool) (o : Option X) (x : X) → cond b o None ≡ Some x → (b ≡ true) × (o ≡ Some x)
picked true o x e = (refl, e)
picked false o x e = absurd (let z : ◌≡◌ {A = ℕ} 0 1 = cc in omega arith)

pub table_limits : (h : Head) (places : List Place) (arcs : List (Option Road)) → h.customers + 1 ≤ length places → Limits (table_meaning h places arcs)
table_limits h places arcs long = record {
  some = h.some;
  few = h.few;
  present = λ i le. place_some h places i long le;
  absent = λ i lt. place_none h places i lt;
  depot = λ p e. depot_bare (slice_get places 0) p e;
  capacity = h.carries;
  arcs = λ i j road e.
      let p = picked _ (arc_of (slice_get arcs (i * (h.customers + 1) + j))) road e in
      let ends = and_parts _ _ p.0 in
      let rest = and_parts _ _ ends.1 in
      record {
        start = leb-true i h.customers ends.0;
        end = leb-true j h.customers rest.0;
        apart = eqb-false i j (not-true _ rest.1);
      };
}
