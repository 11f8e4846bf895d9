-- A leaf is read from a record exactly where the record says it.
use Rattle.std.proofs.Common.{◌≡◌, ℕ, zero, suc, ◌+◌, ◌*◌, ◌<◌, ◌≤◌, Bool, true, false, cond, List, [], ◌∷◌, length, get_or, ℤ, pos, nat_abs, Some, None, Ok, Err, Option, Result, sym, refl, ap, ◌∙◌, subst, arith}
use Rattle.std.proofs.lemmas.List.{get_or_default}
use Rattle.std.proofs.lemmas.Bool.{cond-true, cond-false, ltb-false, le-ltb, eq-eqb, eqb-true, and_from, and_parts, or_from, or_parts}
use Rattle.measures.specs.Measure.{Measuring}
use Rattle.leaf.specs.declared.faults.LeafFault.{LeafFault}
use Rattle.leaf.specs.declared.potentials.Potential.{Potential}
use Rattle.leaf.specs.Fields.{after, ranged, read_scale, read_amount, read_place, read_corner, read_entry, read_each, read_fields, read_leaf, well_sized}
use Rattle.leaf.specs.Record.{little, amount, words, entries_at, entry_size, entry_count, EntryReads, Reads}
use Rattle.leaf.specs.Rule.{Leaf}

-- what a step that came through was
pub after_ok : {X Y : Type 0} (r : Result X LeafFault) (go : X → Result Y LeafFault) (y : Y) → after r go ≡ Ok y → (x : X) × (r ≡ Ok x) × (go x ≡ Ok y)
after_ok (Ok x) go y e = (x, refl, e)
after_ok (Err f) go y e = absurd (let z : ◌≡◌ {A = ℕ} 0 1 = cc in omega arith)

pub ranged_ok : {X : Type 0} (out : Bool) (at : ℕ) (x y : X) → ranged out at x ≡ Ok y → (out ≡ false) × (x ≡ y)
ranged_ok true at x y e = absurd (let z : ◌≡◌ {A = ℕ} 0 1 = cc in omega arith)
ranged_ok false at x y e = (refl, cc)

ranged_from : {X : Type 0} (out : Bool) (at : ℕ) (x y : X) → out ≡ false → x ≡ y → ranged out at x ≡ Ok y
ranged_from out at x y within same = cond-false _ _ _ within ∙ ap Ok same

pub scale_ok : (bytes : List ℕ) (at s : ℕ) → read_scale bytes at ≡ Ok s → (little bytes at 2 ≡ s) × ((1 ≤ s) × (s ≤ 1000))
scale_ok bytes at s e =
    let r = ranged_ok _ at _ s e in
    let ends = or_parts _ _ r.0 in
    let low = ltb-false (little bytes at 2) 1 ends.0 in
    let high = ltb-false 1000 (little bytes at 2) ends.1 in
    (r.1, (omega (arith, r.1), omega (arith, r.1)))

pub amount_ok : (limit : ℕ) (bytes : List ℕ) (at : ℕ) (v : ℤ) → read_amount limit bytes at ≡ Ok v → (amount bytes at ≡ v) × (nat_abs v ≤ limit)
amount_ok limit bytes at v e =
    let r = ranged_ok _ at _ v e in
    (r.1, subst (λ z. nat_abs z ≤ limit) r.1 (ltb-false limit (nat_abs (amount bytes at)) r.0))

amount_from : (limit : ℕ) (bytes : List ℕ) (at : ℕ) (v : ℤ) → v ≡ amount bytes at → nat_abs v ≤ limit → read_amount limit bytes at ≡ Ok v
amount_from limit bytes at v is small =
    ranged_from _ at _ v (le-ltb limit (nat_abs (amount bytes at)) (subst (λ z. nat_abs z ≤ limit) is small)) (sym is)

place_ok : (n : ℕ) (bytes : List ℕ) (at p : ℕ) → read_place n bytes at ≡ Ok p → (get_or bytes at 0 ≡ p) × ((1 ≤ p) × (p ≤ n))
place_ok n bytes at p e =
    let r = ranged_ok _ at _ p e in
    let ends = or_parts _ _ r.0 in
    let low = ltb-false (get_or bytes at 0) 1 ends.0 in
    let high = ltb-false n (get_or bytes at 0) ends.1 in
    (r.1, (omega (arith, r.1), omega (arith, r.1)))

corner_ok : {S : Type 0} (o : Option S) (at : ℕ) (s : S) → read_corner o at ≡ Ok s → o ≡ Some s
corner_ok None at s e = absurd (let z : ◌≡◌ {A = ℕ} 0 1 = cc in omega arith)
corner_ok (Some x) at s e = let same : x ≡ s = cc in ap Some same

module _ {S : Type 0} (μ : Measuring S) (n : ℕ) (bytes : List ℕ) where
  pub entry_ok : (at : ℕ) (e : Potential S) → read_entry μ n bytes at ≡ Ok e → EntryReads μ n bytes at e
  entry_ok at e is =
      let p = after_ok (read_place n bytes at) _ e is in
      let v = after_ok (read_amount 1000000000000000 bytes (at + 1)) _ e p.2 in
      let c = after_ok (read_corner (μ.read (words bytes (at + 9) μ.words)) (at + 9)) _ e v.2 in
      let whole : record { place = p.0; value = v.0; corner = c.0 } ≡ e = cc in
      let place = place_ok n bytes at p.0 p.1 in
      let value = amount_ok 1000000000000000 bytes (at + 1) v.0 v.1 in
      subst (EntryReads μ n bytes at) whole (record {
        place_is = sym place.0;
        customer = place.1;
        value_is = sym value.0;
        value_small = value.1;
        corner_is = corner_ok _ (at + 9) c.0 c.1;
      })

  entry_from : (at : ℕ) (e : Potential S) → EntryReads μ n bytes at e → read_entry μ n bytes at ≡ Ok e
  entry_from at e r =
      let place : read_place n bytes at ≡ Ok e.place = ranged_from _ at _ e.place (or_from _ _ (le-ltb (get_or bytes at 0) 1 (omega (arith, r.place_is, r.customer.0))) (le-ltb n (get_or bytes at 0) (omega (arith, r.place_is, r.customer.1)))) (sym r.place_is) in
      let value = amount_from 1000000000000000 bytes (at + 1) e.value r.value_is r.value_small in
      let corner : read_corner (μ.read (words bytes (at + 9) μ.words)) (at + 9) ≡ Ok e.corner = ap (λ o. read_corner o (at + 9)) r.corner_is in
      ap (λ q. after q λ place. after (read_amount 1000000000000000 bytes (at + 1)) λ value. after (read_corner (μ.read (words bytes (at + 9) μ.words)) (at + 9)) λ corner. Ok (record { place = place; value = value; corner = corner })) place
      ∙ ap (λ q. after q λ value. after (read_corner (μ.read (words bytes (at + 9) μ.words)) (at + 9)) λ corner. Ok (record { place = e.place; value = value; corner = corner })) value
      ∙ ap (λ q. after q λ corner. Ok (record { place = e.place; value = e.value; corner = corner })) corner

-- fields of one kind, one after another
module _ {X : Type 0} (read : ℕ → Result X LeafFault) (size : ℕ) where
  pub each_long : (at n : ℕ) (xs : List X) → read_each read at size n ≡ Ok xs → length xs ≡ n
  each_long at zero xs e = let none : [] ≡ xs = cc in ap length (sym none)
  each_long at (suc n) xs e =
      let x = after_ok (read at) _ xs e in
      let rest = after_ok (read_each read (at + size) size n) _ xs x.2 in
      let whole : (x.0 ∷ rest.0) ≡ xs = cc in
      ap length (sym whole) ∙ ap suc (each_long (at + size) n rest.0 rest.1)

  first_at : (at : ℕ) → at + size * 0 ≡ at
  first_at at = omega arith

  next_at : (at k : ℕ) → at + size * suc k ≡ at + size + size * k
  next_at at k = omega arith

  pub each_at : (at n : ℕ) (xs : List X) → read_each read at size n ≡ Ok xs → (k : ℕ) (d : X) → k < n → read (at + size * k) ≡ Ok (get_or xs k d)
  each_at at zero xs e k d lt = absurd (omega arith)
  each_at at (suc n) xs e zero d lt =
      let x = after_ok (read at) _ xs e in
      let rest = after_ok (read_each read (at + size) size n) _ xs x.2 in
      let whole : (x.0 ∷ rest.0) ≡ xs = cc in
      ap read (first_at at) ∙ x.1 ∙ ap (λ l. Ok (get_or l 0 d)) whole
  each_at at (suc n) xs e (suc k) d lt =
      let x = after_ok (read at) _ xs e in
      let rest = after_ok (read_each read (at + size) size n) _ xs x.2 in
      let whole : (x.0 ∷ rest.0) ≡ xs = cc in
      ap read (next_at at k) ∙ each_at (at + size) n rest.0 rest.1 k d (omega arith) ∙ ap (λ l. Ok (get_or l (suc k) d)) whole

  each_from : (at n : ℕ) (xs : List X) → length xs ≡ n → ((k : ℕ) (d : X) → k < n → read (at + size * k) ≡ Ok (get_or xs k d)) → read_each read at size n ≡ Ok xs
  each_from at zero [] long each = refl
  each_from at zero (x ∷ xs) long each = absurd (omega arith)
  each_from at (suc n) [] long each = absurd (omega arith)
  each_from at (suc n) (x ∷ xs) long each =
      let here = ap read (sym (first_at at)) ∙ each 0 x (omega arith) in
      let rest = each_from (at + size) n xs (omega arith) (λ k d lt. ap read (sym (next_at at k)) ∙ each (suc k) d (omega arith)) in
      ap (λ r. after r λ y. after (read_each read (at + size) size n) λ ys. Ok (y ∷ ys)) here ∙ ap (λ r. after r λ ys. Ok (x ∷ ys)) rest

some_sized : {X : Type 0} (b : Bool) (r : Result X LeafFault) (f : LeafFault) (x : X) → cond b r (Err f) ≡ Ok x → (b ≡ true) × (r ≡ Ok x)
some_sized true r f x e = (refl, e)
some_sized false r f x e = absurd (let z : ◌≡◌ {A = ℕ} 0 1 = cc in omega arith)

-- the leaf, from its fields, or the first fault of its entries
pub fields_are : {S : Type 0} (μ : Measuring S) (n : ℕ) (bytes : List ℕ) (s : ℕ) (p : ℤ) (ds : List ℤ) (es : Result (List (Potential S)) LeafFault) → read_scale bytes 1 ≡ Ok s → read_amount 1000000000000000 bytes 3 ≡ Ok p → read_each (read_amount 1000000000000 bytes) 11 8 n ≡ Ok ds → read_each (read_entry μ n bytes) (entries_at n) (entry_size μ.words) (entry_count n bytes) ≡ es → read_fields μ n bytes ≡ after es λ entries. Ok (record { scale = s; van_price = p; duals = ds; entries = entries })
fields_are μ n bytes s p ds es scale price duals entries = simp (scale, price, duals, entries)

module _ {S : Type 0} (μ : Measuring S) (n : ℕ) (bytes : List ℕ) (leaf : Leaf S) where
  pub reads_from : read_leaf μ n bytes ≡ Ok leaf → Reads μ n bytes leaf
  reads_from e =
      let sized = some_sized (well_sized μ.words n bytes) (read_fields μ n bytes) _ leaf e in
      let tests = and_parts _ _ sized.0 in
      let s = after_ok (read_scale bytes 1) _ leaf sized.1 in
      let p = after_ok (read_amount 1000000000000000 bytes 3) _ leaf s.2 in
      let d = after_ok (read_each (read_amount 1000000000000 bytes) 11 8 n) _ leaf p.2 in
      let es = after_ok (read_each (read_entry μ n bytes) (entries_at n) (entry_size μ.words) (entry_count n bytes)) _ leaf d.2 in
      let whole : record { scale = s.0; van_price = p.0; duals = d.0; entries = es.0 } ≡ leaf = cc in
      let scale = scale_ok bytes 1 s.0 s.1 in
      let price = amount_ok 1000000000000000 bytes 3 p.0 p.1 in
      let dual : (k : ℕ) → k < n → (amount bytes (11 + 8 * k) ≡ get_or d.0 k (pos 0)) × (nat_abs (get_or d.0 k (pos 0)) ≤ 1000000000000) = λ k lt. amount_ok 1000000000000 bytes (11 + 8 * k) (get_or d.0 k (pos 0)) (each_at (read_amount 1000000000000 bytes) 8 11 n d.0 d.1 k (pos 0) lt) in
      subst (Reads μ n bytes) whole (record {
        letter = eqb-true (get_or bytes 0 0) 76 tests.0;
        long = eqb-true (length bytes) _ tests.1;
        scale_is = sym scale.0;
        scale_small = scale.1;
        price_is = sym price.0;
        price_small = price.1;
        duals_long = each_long (read_amount 1000000000000 bytes) 8 11 n d.0 d.1;
        duals_are = λ k lt. sym (dual k lt).0;
        duals_small = λ k lt. (dual k lt).1;
        entries_long = each_long (read_entry μ n bytes) (entry_size μ.words) (entries_at n) (entry_count n bytes) es.0 es.1;
        entries_are = λ k x lt. entry_ok μ n bytes (entries_at n + entry_size μ.words * k) (get_or es.0 k x) (each_at (read_entry μ n bytes) (entry_size μ.words) (entries_at n) (entry_count n bytes) es.0 es.1 k x lt);
      })

  pub reads_to : Reads μ n bytes leaf → read_leaf μ n bytes ≡ Ok leaf
  reads_to r =
      let sized = and_from _ _ (eq-eqb (get_or bytes 0 0) 76 r.letter) (eq-eqb (length bytes) _ r.long) in
      let scale : read_scale bytes 1 ≡ Ok leaf.scale = ranged_from _ 1 _ leaf.scale (or_from _ _ (le-ltb (little bytes 1 2) 1 (omega (arith, r.scale_is, r.scale_small.0))) (le-ltb 1000 (little bytes 1 2) (omega (arith, r.scale_is, r.scale_small.1)))) (sym r.scale_is) in
      let price = amount_from 1000000000000000 bytes 3 leaf.van_price r.price_is r.price_small in
      let duals = each_from (read_amount 1000000000000 bytes) 8 11 n leaf.duals r.duals_long (λ k d lt. amount_from 1000000000000 bytes (11 + 8 * k) (get_or leaf.duals k d) (dual_default k d lt ∙ r.duals_are k lt) (subst (λ z. nat_abs z ≤ 1000000000000) (sym (dual_default k d lt)) (r.duals_small k lt))) in
      let entries = each_from (read_entry μ n bytes) (entry_size μ.words) (entries_at n) (entry_count n bytes) leaf.entries r.entries_long (λ k d lt. entry_from μ n bytes _ (get_or leaf.entries k d) (r.entries_are k d lt)) in
      cond-true _ _ _ sized ∙ fields_are μ n bytes leaf.scale leaf.van_price leaf.duals (Ok leaf.entries) scale price duals entries
    where
      dual_default : (k : ℕ) (d : ℤ) → k < n → get_or leaf.duals k d ≡ get_or leaf.duals k (pos 0)
      dual_default k d lt = get_or_default leaf.duals k d (pos 0) (omega (arith, r.duals_long))
