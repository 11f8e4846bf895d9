use Rattle.std.proofs.Common.{◌≡◌, ℕ, ◌+◌, ◌*◌, ◌<◌, ◌≤◌, true, not, ◌&&◌, eqb, leb, get_or, sym, ap, ◌∙◌, mul-le-mul_right, add-mul, one-mul, arith}
use Rattle.std.proofs.lemmas.Option.{slice_get-get_or}
use Rattle.std.proofs.lemmas.Bool.{and_parts, leb-true, cond-true}
use Rattle.routing.specs.Tables.{arc_of}
use Rattle.routing.proofs.answers.TableNetworkNetwork.arc.Goals as goal

abbrev Joins : ℕ → ℕ → ℕ → Type 0
Joins n i j = (leb i n && (leb j n && not (eqb i j))) ≡ true

inside : (n i j size : ℕ) → Joins n i j → (n + 1) * (n + 1) ≤ size → i * (n + 1) + j < size
inside n i j size joins long =
    let parts = and_parts _ _ joins in
    let low = leb-true i n parts.0 in
    let high = leb-true j n (and_parts _ _ parts.1).0 in
    let row = mul-le-mul_right (n + 1) low in
    omega (arith, row, add-mul n 1 (n + 1), one-mul (n + 1))

pub returns : goal.returns
returns c =
    let t = c.args.self.now in
    let n = t.head.customers in
    let joins = sym c.if-not-joins.ensures in
    ap (λ k. get_or t.arcs.now k c.index-self-cell.result) c.cell.ensures ∙ ap arc_of (sym (slice_get-get_or t.arcs.now (c.args.i * (n + 1) + c.args.j) c.index-self-cell.result (inside n c.args.i c.args.j _ joins t.joined))) ∙ sym (cond-true _ _ _ joins)
