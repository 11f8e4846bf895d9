-- A case's text is the case written out.
use Rattle.std.proofs.Common.{◌≡◌, ℕ, zero, suc, ◌+◌, ◌*◌, ◌≤◌, Bool, true, false, cond, ltb, List, [], ◌∷◌, ◌++◌, map, length, take, drop, Ok, Err, Option, sym, refl, ap, ◌∙◌, subst, append-nil, suc-mul, zero-mul, add-one, arith, length-append, length-drop, take-append-drop}
use Rattle.std.specs.List.{flat_map}
use Rattle.std.proofs.lemmas.List.{take_at, drop_at}
use Rattle.std.proofs.lemmas.Bool.{cond-false, ltb-false, le-ltb}
use Rattle.texts.specs.declared.faults.TextFault.TheVariants.{Count}
use Rattle.texts.specs.Tokens.{Token}
use Rattle.texts.specs.Judging.{State, Judged, start, ◌>>=◌, nothing_after, times}
use Rattle.texts.specs.Lines.{head_due, place_due, row_due}
use Rattle.texts.specs.Tables.{places_due, flat, rows_due}
use Rattle.texts.specs.Cases.{Case, side, case_due, when, case_judged}
use Rattle.texts.specs.Written.{mark, place_line, row_line, rows_of, written_case, each_from, PlaceFine, RowFine, CaseFine, CaseText, CasesAsWritten}
use Rattle.texts.proofs.Marks.{Reads, reads_on, LastFeed, feed_after, Leaves, leaves_on, same_both, stepped}
use Rattle.texts.proofs.Turns.{times_reads, times_leaves, times_fed}
use Rattle.texts.proofs.LineTexts.{head_reads, head_leaves, place_reads, place_leaves, row_reads, row_leaves}
use Rattle.texts.proofs.Ends.{split_feed, nothing_left, ends_there}

-- rows of one length
abbrev Long : {X : Type 0} → ℕ → List (List X) → Type 0
Long n [] = Unit {0}
Long n (row ∷ rows) = (length row ≡ n) × Long n rows

-- rows joined and cut again
rows_again : {X : Type 0} (w n : ℕ) (rows : List (List X)) → length rows ≡ n → Long w rows → rows_of w n (flat_map (λ row. row) rows) ≡ rows
rows_again w zero [] l e = refl
rows_again w zero (row ∷ rows) l e = absurd (omega arith)
rows_again w (suc n) [] l e = absurd (omega arith)
rows_again w (suc n) (row ∷ rows) l e =
    (λ i. take_at row (flat_map (λ r. r) rows) w e.0 i ∷ rows_of w n (drop_at row (flat_map (λ r. r) rows) w e.0 i))
    ∙ ap (λ l. row ∷ l) (rows_again w n rows (omega arith) e.1)

rows_length : {X : Type 0} (w n : ℕ) (rows : List (List X)) → length rows ≡ n → Long w rows → length (flat_map (λ row. row) rows) ≡ n * w
rows_length w zero [] l e = sym (zero-mul w)
rows_length w zero (row ∷ rows) l e = absurd (omega arith)
rows_length w (suc n) [] l e = absurd (omega arith)
rows_length w (suc n) (row ∷ rows) l e =
    omega (arith, length-append row (flat_map (λ r. r) rows), e.0, rows_length w n rows (omega arith) e.1, suc-mul n w)

-- a table cut and joined again
joined_again : {X : Type 0} (w n : ℕ) (xs : List X) → length xs ≡ n * w → flat_map (λ row. row) (rows_of w n xs) ≡ xs
joined_again w zero [] l = refl
joined_again w zero (x ∷ xs) l = absurd (omega arith)
joined_again w (suc n) xs l =
    ap (λ r. take w xs ++ r) (joined_again w n (drop w xs) (omega (arith, length-drop w xs, suc-mul n w))) ∙ take-append-drop w xs

count_rows : {X : Type 0} (w n : ℕ) (xs : List X) → length (rows_of w n xs) ≡ n
count_rows w zero xs = refl
count_rows w (suc n) xs = ap suc (count_rows w n (drop w xs))

long_rows : (w i : ℕ) (rows : List (List (Option (ℕ × ℕ)))) → each_from (RowFine w) i rows → Long w rows
long_rows w i [] e = tt
long_rows w i (row ∷ rows) e = (e.0.0, long_rows w (i + 1) rows e.1)

-- rows that were read one after another
pub record Flat (j : Judged (List (List (Option (ℕ × ℕ))))) (xs : List (Option (ℕ × ℕ))) (t : State) : Type 0 where
  pub rows : List (List (Option (ℕ × ℕ)))
  pub is : j ≡ Ok (rows, t)
  pub all : flat_map (λ row. row) rows ≡ xs

flat_is : (j : Judged (List (List (Option (ℕ × ℕ))))) (xs : List (Option (ℕ × ℕ))) (t : State) → flat j ≡ Ok (xs, t) → Flat j xs t
flat_is (Ok p) xs t e =
    let q = same_both e in
    record { rows = p.0; is = ap (λ u. Ok (p.0, u)) q.1; all = q.0 }
flat_is (Err f) xs t e = absurd (cc)

pub record CaseReads (s t : State) (c : Case) : Type 0 where
  pub reads : Reads s t (written_case c)
  pub fine : CaseFine c
  pub fed : LastFeed s t

row_fine : (w i : ℕ) (s t : State) (row : List (Option (ℕ × ℕ))) → row_due w i s ≡ Ok (row, t) → Reads s t (row_line row) × RowFine w i row
row_fine w i s t row e = let r = row_reads w i s t row e in (r.reads, r.fine)

case_reads : (s t : State) (c : Case) → case_due s ≡ Ok (c, t) → CaseReads s t c
case_reads s t c e =
    let a = stepped (head_due s) _ (c, t) e in
    let n = a.value.customers + 1 in
    let b = stepped (places_due n a.state) _ (c, t) a.on in
    let d = stepped (rows_due n b.state) _ (c, t) b.on in
    let same = same_both d.on in
    let f = flat_is (times (row_due n) 0 n b.state) d.value d.state d.is in
    let head = head_reads s a.state a.value a.is in
    let places = times_reads place_due place_line PlaceFine place_reads 0 n a.state b.state b.value b.is in
    let rows = times_reads (row_due n) row_line (RowFine n) (row_fine n) 0 n b.state d.state f.rows f.is in
    let fed = times_fed (row_due n) row_line (RowFine n) (row_fine n) (λ i s t row g. (row_reads n i s t row g).fed) 0 a.value.customers b.state d.state f.rows (subst (λ k. times (row_due n) 0 k b.state ≡ Ok (f.rows, d.state)) (add-one a.value.customers) f.is) in
    let long = long_rows n 0 f.rows rows.each in
    let cut : rows_of n n d.value ≡ f.rows = ap (rows_of n n) (sym f.all) ∙ rows_again n n f.rows rows.long long in
    let all : CaseReads s d.state (record { head = a.value; places = b.value; arcs = d.value }) = record {
      reads = reads_on head.0 (reads_on places.reads (subst (λ l. Reads b.state d.state (flat_map row_line l)) (sym cut) rows.reads));
      fine = record {
        head = head.1;
        places = places.long;
        each_place = places.each;
        arcs = ap length (sym f.all) ∙ rows_length n n f.rows rows.long long;
        each_row = subst (each_from (RowFine n) 0) (sym cut) rows.each;
      };
      fed = feed_after head.0 (feed_after places.reads fed);
    } in
    subst (λ u. CaseReads s u c) same.1 (subst (CaseReads s d.state) same.0 all)

case_leaves : (s : State) (c : Case) → map mark s.tokens ≡ written_case c → CaseFine c → Leaves (case_due s) c []
case_leaves s c e fine =
    let n = side c.head in
    let rows = rows_of n n c.arcs in
    let a = head_leaves s c.head (flat_map place_line c.places ++ flat_map row_line rows) e fine.head in
    let b = times_leaves place_due place_line PlaceFine place_leaves 0 n a.state c.places (flat_map row_line rows) fine.places a.marks fine.each_place in
    let d = times_leaves (row_due n) row_line (RowFine n) (row_leaves n) 0 n b.state rows [] (count_rows n n c.arcs) (b.marks ∙ sym (append-nil (flat_map row_line rows))) fine.each_row in
    let g : Leaves (rows_due n b.state) c.arcs [] = record { state = d.state; ok = ap flat d.ok ∙ ap (λ l. Ok (l, d.state)) (joined_again n n c.arcs fine.arcs); marks = d.marks } in
    leaves_on _ a (leaves_on _ b (leaves_on _ g (record { state = d.state; ok = refl; marks = d.marks })))

when_is : {X : Type 0} (s : State) (x y : X) → when (nothing_after s) x ≡ Ok y → (s.end ≤ s.at) × (x ≡ y)
when_is s x y e = by (ltb s.at s.end) refl e
  where
    by : (b : Bool) → ltb s.at s.end ≡ b → when (cond b (Err (Count s.at)) (Ok tt)) x ≡ Ok y → (s.end ≤ s.at) × (x ≡ y)
    by true p f = absurd (cc f)
    by false p f = (ltb-false s.at s.end p, cc f)

no_marks : (ts : List Token) → map mark ts ≡ [] → ts ≡ []
no_marks [] e = refl
no_marks (t ∷ ts) e = absurd (cc)

sound : (text : List ℕ) (c : Case) → case_judged text ≡ Ok c → CaseText text c
unfolding case_judged
sound text c e =
    let p = stepped (case_due (start text)) (λ c s. when (nothing_after s) c) c e in
    let w = when_is p.state p.value c p.on in
    let r = case_reads (start text) p.state p.value p.is in
    let at = split_feed false 0 text r.fed.before r.fed.at p.state.tokens r.fed.split in
    let left = nothing_left text r.fed.at p.state.tokens at (omega (arith, w.0, r.fed.after, r.reads.end)) in
    let all : CaseText text p.value = record {
      marks = ap (map mark) (r.reads.split ∙ ap (λ l. r.reads.used ++ l) left.1 ∙ append-nil r.reads.used) ∙ r.reads.marks;
      fine = r.fine;
      fed = left.0;
    } in
    subst (CaseText text) w.1 all

complete : (text : List ℕ) (c : Case) → CaseText text c → case_judged text ≡ Ok c
unfolding case_judged
complete text c h =
    let p = case_leaves (start text) c h.marks h.fine in
    let r = case_reads (start text) p.state c p.ok in
    let at = split_feed false 0 text r.fed.before r.fed.at p.state.tokens r.fed.split in
    let over = ends_there text r.fed.at p.state.tokens at (no_marks p.state.tokens p.marks) h.fed in
    ap (λ j. j >>= λ c s. when (nothing_after s) c) p.ok
    ∙ ap (λ u. when u c) (cond-false (ltb p.state.at p.state.end) _ _ (le-ltb p.state.at p.state.end (omega (arith, r.fed.after, r.reads.end))))

pub cases_as_written : (text : List ℕ) → CasesAsWritten text
cases_as_written text c = (sound text c, complete text c)
