-- Entries stored with the offsets of their corners are those that the record says.
use Rattle.std.proofs.Common.{◌≡◌, ℕ, zero, suc, ◌+◌, ◌*◌, ◌<◌, ◌≤◌, true, List, ◌∷◌, map, length, get_or, ℤ, nat_abs, is_some, Ok, Err, Result, unwrap_or, sym, refl, ap, ◌∙◌, subst, ap₂, mul-le-mul_left, arith}
use Rattle.std.proofs.lemmas.Bool.{cond-true}
use Rattle.std.specs.List.{All}
use Rattle.measures.specs.Measure.{Measuring}
use Rattle.leaf.specs.declared.faults.LeafFault.{LeafFault}
use Rattle.leaf.specs.declared.potentials.Potential.{Potential}
use Rattle.leaf.specs.Fields.{after, read_scale, read_amount, read_entry, read_each, read_leaf, well_sized}
use Rattle.leaf.specs.Stored.{decoded, located, leaf_with, read_located, Legible, InPlace}
use Rattle.leaf.specs.Record.{entries_at, entry_count, entry_size, words}
use Rattle.leaf.proofs.Saying.{after_ok, entry_ok, each_at, each_long, fields_are}

module _ {S : Type 0} (μ : Measuring S) (n : ℕ) (bytes : List ℕ) where
  stored_same : (at : ℕ) (e : Potential S) → read_entry μ n bytes at ≡ Ok e → e ≡ decoded μ bytes (located (at + 9) e)
  stored_same at e is =
      ap (λ c. record { place = e.place; value = e.value; corner = c }) (sym (ap (λ o. unwrap_or o (μ.start 0)) (entry_ok μ n bytes at e is).corner_is))

  entry_decoded : (at : ℕ) (r : Result (Potential S) LeafFault) → read_entry μ n bytes at ≡ r → r ≡ after (after r λ e. Ok (located (at + 9) e)) (λ x. Ok (decoded μ bytes x))
  entry_decoded at (Ok e) is = ap Ok (stored_same at e is)
  entry_decoded at (Err f) is = refl

  joined : (r : Result (Potential ℕ) LeafFault) (q : Result (List (Potential ℕ)) LeafFault) → after (after r λ x. Ok (decoded μ bytes x)) (λ e. after (after q λ xs. Ok (map (decoded μ bytes) xs)) λ es. Ok (e ∷ es)) ≡ after (after r λ x. after q λ xs. Ok (x ∷ xs)) (λ xs. Ok (map (decoded μ bytes) xs))
  joined (Err f) q = refl
  joined (Ok x) (Err f) = refl
  joined (Ok x) (Ok xs) = refl

  pub each_decoded : (at size k : ℕ) → read_each (read_entry μ n bytes) at size k ≡ after (read_each (read_located μ n bytes) at size k) (λ xs. Ok (map (decoded μ bytes) xs))
  each_decoded at size zero = refl
  each_decoded at size (suc k) =
      ap₂ (λ r q. after r λ e. after q λ es. Ok (e ∷ es)) (entry_decoded at (read_entry μ n bytes at) refl) (each_decoded (at + size) size k) ∙ joined (read_located μ n bytes at) (read_each (read_located μ n bytes) (at + size) size k)

  -- what is stored of the entry at an offset
  record Stored (at : ℕ) (x : Potential ℕ) : Type 0 where
    corner : x.corner ≡ at + 9
    reads : is_some (μ.read (words bytes (at + 9) μ.words)) ≡ true
    small : nat_abs x.value ≤ 1000000000000000

  stored_ok : (at : ℕ) (x : Potential ℕ) → read_located μ n bytes at ≡ Ok x → Stored at x
  stored_ok at x is =
      let e = after_ok (read_entry μ n bytes at) _ x is in
      let same : located (at + 9) e.0 ≡ x = cc in
      let said = entry_ok μ n bytes at e.0 e.1 in
      subst (Stored at) same (record { corner = refl; reads = ap is_some said.corner_is; small = said.value_small })

  module _ (count : ℕ) (xs : List (Potential ℕ)) (is : read_each (read_located μ n bytes) (entries_at n) (entry_size μ.words) count ≡ Ok xs) where
    stored_at : (k : ℕ) (d : Potential ℕ) → k < length xs → Stored (entries_at n + entry_size μ.words * k) (get_or xs k d)
    stored_at k d lt =
        stored_ok _ (get_or xs k d) (each_at (read_located μ n bytes) (entry_size μ.words) (entries_at n) count xs is k d (omega (arith, each_long (read_located μ n bytes) (entry_size μ.words) (entries_at n) count xs is)))

    pub located_small : All (λ e. nat_abs e.value ≤ 1000000000000000) xs
    located_small k d lt = (stored_at k d lt).small

    pub located_in_place : InPlace n μ.words xs
    located_in_place k d lt = (stored_at k d lt).corner

    pub located_legible : entries_at n + entry_size μ.words * count ≤ length bytes → All (Legible μ bytes) xs
    located_legible fits k d lt =
        let x = stored_at k d lt in
        let below : k < count = omega (arith, each_long (read_located μ n bytes) (entry_size μ.words) (entries_at n) count xs is) in
        (omega (arith, x.corner, mul-le-mul_left (entry_size μ.words) below), subst (λ c. is_some (μ.read (words bytes c μ.words)) ≡ true) (sym x.corner) x.reads)

  regrouped : {X Y Z : Type 0} (r : Result X LeafFault) (f : X → Y) (g : Y → Z) → after (after r λ x. Ok (f x)) (λ y. Ok (g y)) ≡ after r λ x. Ok (g (f x))
  regrouped (Ok x) f g = refl
  regrouped (Err e) f g = refl

  -- the leaf that the record says, from its fields as they are stored, or the first fault of its entries
  pub leaf_said : (scale : ℕ) (price : ℤ) (duals : List ℤ) (r : Result (List (Potential ℕ)) LeafFault) → well_sized μ.words n bytes ≡ true → read_scale bytes 1 ≡ Ok scale → read_amount 1000000000000000 bytes 3 ≡ Ok price → read_each (read_amount 1000000000000 bytes) 11 8 n ≡ Ok duals → read_each (read_located μ n bytes) (entries_at n) (entry_size μ.words) (entry_count n bytes) ≡ r → read_leaf μ n bytes ≡ after r λ xs. Ok (leaf_with μ bytes scale price duals xs)
  leaf_said scale price duals r sized s p d is =
      let entries = each_decoded (entries_at n) (entry_size μ.words) (entry_count n bytes) ∙ ap (λ q. after q λ xs. Ok (map (decoded μ bytes) xs)) is in
      cond-true _ _ _ sized ∙ fields_are μ n bytes scale price duals (after r λ xs. Ok (map (decoded μ bytes) xs)) s p d entries
      ∙ regrouped r (map (decoded μ bytes)) (λ es. record { scale = scale; van_price = price; duals = duals; entries = es })
