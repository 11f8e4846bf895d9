use Rattle.std.proofs.Common.{◌≡◌, ◌+◌, ◌*◌, ◌≤◌, length, get_or, nat_abs, Ok, Err, sym, ap, ◌∙◌, subst, arith, w64, to_z, of_z, rules}
use Rattle.std.proofs.lemmas.Result.{err_from_is_err_and}
use Rattle.std.proofs.lemmas.Int.{to_z-of_z}
use Rattle.std.proofs.lemmas.Bool.{and_parts, eqb-true}
use Rattle.std.specs.List.Sorted.{IsPermutation}
use Rattle.leaf.specs.Answer.{rule_answer}
use Rattle.leaf.specs.Fields.{after, read_amount, read_each}
use Rattle.leaf.specs.Stored.{read_located}
use Rattle.leaf.specs.Record.{entries_at, entry_size, entry_count}
use Rattle.leaf.proofs.Decoding.{leaf_said, located_small, located_legible, located_in_place}
use Rattle.leaf.proofs.Saying.{scale_ok, amount_ok, each_at, each_long}
use Rattle.leaf.proofs.check.check_fields.Goals as goal

pub invariant_of-leaf : goal.invariant_of-leaf
invariant_of-leaf g c =
    let μ = g.M.Measure.meaning c.args.measure.now in
    let bytes = c.args.bytes.now in
    let price = c.in_ok-price.price in
    let ds = c.read_duals.new.room in
    let n = length c.args.duals.now in
    let dual = read_amount 1000000000000 bytes in
    let long = each_long dual 8 11 n ds c.in_ok-read_duals.ensures in
    record {
      scale_small = (scale_ok bytes 1 c.in_ok-scale.scale (sym c.in_ok-scale.ensures)).1.1;
      price_small = subst (λ z. nat_abs z ≤ 1000000000000000) (sym (to_z-of_z w64 price (search rules))) (amount_ok 1000000000000000 bytes 3 price (sym c.in_ok-price.ensures)).1;
      duals_small = λ k d lt. (amount_ok 1000000000000 bytes (11 + 8 * k) (get_or ds k d) (each_at dual 8 11 n ds c.in_ok-read_duals.ensures k d (omega arith))).1;
      values_small = located_small μ c.customers.result bytes (length c.args.entries.now) c.read_entries.new.room c.in_ok-read_entries.ensures;
    }

pub invariant_of-check : goal.invariant_of-check
invariant_of-check g c =
    let μ = g.M.Measure.meaning c.args.measure.now in
    let m = g.N.Network.meaning c.args.network.now in
    let bytes = c.args.bytes.now in
    let count = length c.args.entries.now in
    let xs = c.read_entries.new.room in
    let is : read_each (read_located μ m.customers bytes) (entries_at m.customers) (entry_size μ.words) count ≡ Ok xs = subst (λ n. read_each (read_located μ n bytes) (entries_at n) (entry_size μ.words) count ≡ Ok xs) c.customers.ensures c.in_ok-read_entries.ensures in
    let long = eqb-true (length bytes) (entries_at m.customers + entry_count m.customers bytes * entry_size μ.words) (and_parts _ _ c.requires.sized).1 in
    let fits : entries_at m.customers + entry_size μ.words * count ≤ length bytes = omega (arith, long, ap (λ k. k * entry_size μ.words) c.requires.entries_fit) in
    record {
      indexed = ∣ subst (λ l. IsPermutation l c.sort_entries.new.entries) c.copy_from_slice.ensures.after c.sort_entries.ensures.shuffled ∣₁;
      legible = located_legible μ m.customers bytes count xs is fits;
      in_place = located_in_place μ m.customers bytes count xs is;
      all_duals = each_long (read_amount 1000000000000 bytes) 8 11 (length c.args.duals.now) c.read_duals.new.room c.in_ok-read_duals.ensures ∙ c.requires.duals_fit;
    }

pub returns-in_err-read_entries : goal.returns-in_err-read_entries
returns-in_err-read_entries g c =
    let μ = g.M.Measure.meaning c.args.measure.now in
    let m = g.N.Network.meaning c.args.network.now in
    let bytes = c.args.bytes.now in
    let end = err_from_is_err_and c.from_residual-in_err-read_entries.result c.from_residual-in_err-read_entries.ensures.1 in
    let duals = ap (λ k. read_each (read_amount 1000000000000 bytes) 11 8 k) (sym c.requires.duals_fit) ∙ c.in_ok-read_duals.ensures in
    let entries = ap (λ k. read_each (read_located μ m.customers bytes) (entries_at m.customers) (entry_size μ.words) k) (sym c.requires.entries_fit) ∙ ap (λ n. read_each (read_located μ n bytes) (entries_at n) (entry_size μ.words) (length c.args.entries.now)) (sym c.customers.ensures) ∙ c.in_err-read_entries.ensures in
    end.1 ∙ ap Err end.2
    ∙ sym (ap (λ r. after r λ leaf. rule_answer μ m leaf c.args.cost) (leaf_said μ m.customers bytes c.in_ok-scale.scale c.in_ok-price.price c.read_duals.new.room (Err c.in_err-read_entries.field-0.0) c.requires.sized (sym c.in_ok-scale.ensures) (sym c.in_ok-price.ensures) duals entries))

pub returns : goal.returns
returns g c =
    let μ = g.M.Measure.meaning c.args.measure.now in
    let m = g.N.Network.meaning c.args.network.now in
    let bytes = c.args.bytes.now in
    let price = c.in_ok-price.price in
    let same = to_z-of_z w64 price (search rules) in
    let duals = ap (λ k. read_each (read_amount 1000000000000 bytes) 11 8 k) (sym c.requires.duals_fit) ∙ c.in_ok-read_duals.ensures in
    let entries = ap (λ k. read_each (read_located μ m.customers bytes) (entries_at m.customers) (entry_size μ.words) k) (sym c.requires.entries_fit) ∙ ap (λ n. read_each (read_located μ n bytes) (entries_at n) (entry_size μ.words) (length c.args.entries.now)) (sym c.customers.ensures) ∙ c.in_ok-read_entries.ensures in
    c.check_rule.ensures
    ∙ sym (ap (λ r. after r λ leaf. rule_answer μ m leaf c.args.cost) (leaf_said μ m.customers bytes c.in_ok-scale.scale (to_z w64 (of_z w64 price)) c.read_duals.new.room (Ok c.read_entries.new.room) c.requires.sized (sym c.in_ok-scale.ensures) (sym c.in_ok-price.ensures ∙ ap Ok (sym same)) duals entries))
