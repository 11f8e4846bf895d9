use Rattle.std.proofs.Common.{◌≡◌, ℕ, ◌-◌, true, false, List, get_or, take, drop, Bor, option_map, sym, ◌∙◌, subst, arith, rules}
use borrow.Author.Tests.{tests}
use Rattle.std.proofs.Math.Logic.{∥∥₁_elim}
use Rattle.std.proofs.Props.{props}
use Rattle.std.proofs.lemmas.Iterator.{first_from_find}
use Rattle.std.proofs.lemmas.Iterator.Adapters.{serves_from_places, YieldsList-from_rev_slice}
use Rattle.leaf.specs.declared.potentials.Potential.{Potential}
use Rattle.leaf.specs.declared.index.Index.{Index}
use Rattle.leaf.specs.Stored.{decoded, Legible}
use Rattle.leaf.proofs.Sought.{sought, part_legible, stored_small}
use Rattle.leaf.proofs.checker.LeafCheck.best_value.Goals as goal

-- the entries at a place
abbrev part : Index → ℕ → List (Potential ℕ)
part x p = take (get_or x.ends.now p 0 - get_or x.ends.now (p - 1) 0) (drop (get_or x.ends.now (p - 1) 0) x.sorted.now)

pub find-requires-clause-callable : goal.find-requires-clause-callable
find-requires-clause-callable g c =
    let x = c.args.self.now in
    let μ = g.M.Measure.meaning x.measure.now in
    serves_from_places (YieldsList-from_rev_slice (part x.index c.args.place) cc) (λ x q k. search rules)
    (λ e k lt is. let h : Legible μ x.leaf.bytes.now e.now = subst (Legible μ x.leaf.bytes.now) (sym is) (part_legible μ x.leaf.bytes.now x.leaf.entries.now x.index.sorted.now _ _ x.indexed x.legible k e.now lt) in search rules)

pub returns : goal.returns
returns g c =
    let x = c.args.self.now in
    let p = c.args.place in
    let μ = g.M.Measure.meaning x.measure.now in
    let bytes = x.leaf.bytes.now in
    let found = first_from_find _ _ c.find.result (λ (e : Potential ℕ). μ.at_most (decoded μ bytes e).corner c.args.state ≡ true) (λ (e : Potential ℕ). μ.at_most (decoded μ bytes e).corner c.args.state ≡ false) c.find.ensures.ran (YieldsList-from_rev_slice (part x.index p) cc) (λ x q k. search (rules, tests)) (λ x q k. search (rules, tests)) in
    let value : c.map.result ≡ option_map (λ (e : Bor (Potential ℕ)). e.now.value) c.find.result = search rules in
    let whole = value ∙ ∥∥₁_elim x.indexed (search props) (λ same. sym (sought μ p c.args.state bytes x.leaf.entries.now x.index.sorted.now same _ _ (omega arith) x.index.rising (x.index.ended (p - 1) (omega arith)) (x.index.ended p (omega arith)) c.find.result found)) in
    record { value = whole; small = stored_small μ p c.args.state bytes x.leaf.entries.now c.map.result x.leaf.values_small (sym whole) }
