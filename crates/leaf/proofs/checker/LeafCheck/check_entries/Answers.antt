use Rattle.std.proofs.Common.{◌≡◌, ◌-◌, ◌+◌, ◌*◌, get_or, Some, None, Err, ap, ◌∙◌, arith, rules, w64}
use Rattle.std.proofs.lemmas.Int.{to_z-of_z}
use Rattle.leaf.specs.declared.faults.LeafFault.TheVariants.{Entry}
use Rattle.leaf.specs.Held.{leaf_of}
use Rattle.leaf.specs.Record.{entries_at, entry_size}
use Rattle.leaf.proofs.Ordered.{blank}
use Rattle.leaf.proofs.Rows.{entry_step}
use Rattle.leaf.proofs.checker.LeafCheck.check_entries.Goals as goal

pub returns-in-Some : goal.returns-in-Some
returns-in-Some g c =
    let x = c.args.self.now in
    let μ = g.M.Measure.meaning x.measure.now in
    let m = g.N.Network.meaning x.network.now in
    let k = c.loop-entry.entry-index in
    let e = get_or x.leaf.entries.now k blank in
    let offset : e.corner - 9 ≡ entries_at m.customers + entry_size μ.words * k = omega (arith, x.in_place k blank c.loop-entry-test.true) in
    ap (λ i. Err (Entry e.place c.in-Some.to i)) offset
    ∙ entry_step μ m (leaf_of μ x.leaf) (entries_at m.customers) (entry_size μ.words) k x.leaf.bytes.now x.leaf.entries.now blank _ _ c.corner_of-corner.result (Some c.in-Some.to) c.loop-entry-test.true c.turn_to.ensures.there (to_z-of_z w64 e.value (search rules)) c.corner_of-corner.ensures c.in-Some.ensures
    ∙ c.loop-entry.invariant.rest

pub loop-entry-preserved : goal.loop-entry-preserved
loop-entry-preserved g c =
    let x = c.args.self.now in
    let μ = g.M.Measure.meaning x.measure.now in
    let m = g.N.Network.meaning x.network.now in
    let k = c.loop-entry.entry-index in
    let e = get_or x.leaf.entries.now k blank in
    let passed = entry_step μ m (leaf_of μ x.leaf) (entries_at m.customers) (entry_size μ.words) k x.leaf.bytes.now x.leaf.entries.now blank _ _ c.corner_of-corner.result None c.loop-entry-test.true c.turn_to.ensures.there (to_z-of_z w64 e.value (search rules)) c.corner_of-corner.ensures c.in_default.ensures in
    record { within = omega arith; same = c.turn_to.ensures.same ∙ c.loop-entry.invariant.same; rest = passed ∙ c.loop-entry.invariant.rest }
