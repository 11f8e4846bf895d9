use Rattle.std.proofs.Common.{◌≡◌, ◌+◌, ◌-◌, ℕ, Bool, not, true, false, ℤ, ap, ◌∙◌, rules, w64, to_z, of_z}
use Rattle.std.proofs.lemmas.Int.{to_z-of_z}
use Rattle.std.proofs.lemmas.Iterator.{first_from_Range}
use Rattle.leaf.specs.Answer.{arc_ok, first_refused}
use Rattle.leaf.specs.Held.{leaf_of}
use Rattle.leaf.proofs.Firsts.{refused_is}
use Rattle.leaf.proofs.checker.LeafCheck.first_broken.Goals as goal

pub returns : goal.returns
returns g c =
    let x = c.args.self.now in
    let μ = g.M.Measure.meaning x.measure.now in
    let m = g.N.Network.meaning x.network.now in
    let ok : ℤ → ℕ → Bool = λ v. arc_ok μ m (leaf_of μ x.leaf) v c.args.state c.args.drives.now.from in
    let held = to_z w64 (of_z w64 c.args.value) in
    let found = first_from_Range _ _ _ c.find.result (λ k. not (ok held k) ≡ true) (λ k. not (ok held k) ≡ false) c.find.ensures.ran (λ x q k. search rules) (λ x q k. search rules) in
    refused_is (ok held) c.args.first (c.customers.result + 1) c.find.result found
    ∙ ap (λ n. first_refused (ok held) c.args.first (n + 1 - c.args.first)) c.customers.ensures
    ∙ ap (λ v. first_refused (ok v) c.args.first (m.customers + 1 - c.args.first)) (to_z-of_z w64 c.args.value c.ranges.value)
