-- What is due several times, as marks.
use Rattle.std.proofs.Common.{◌≡◌, ℕ, zero, suc, ◌+◌, List, [], ◌∷◌, ◌++◌, map, length, Ok, refl, ap, ◌∙◌, subst, append_assoc, arith}
use Rattle.std.specs.List.{flat_map}
use Rattle.texts.specs.Judging.{State, Judged, ◌>>=◌, times}
use Rattle.texts.specs.Written.{Mark, mark, each_from}
use Rattle.texts.proofs.Marks.{Reads, reads_on, LastFeed, feed_after, Leaves, leaves_on, same_both, stepped}

module _ {X : Type 0} (due : ℕ → State → Judged X) (write : X → List Mark) (fine : ℕ → X → Type 0) where
  pub record TimesReads (i n : ℕ) (s t : State) (xs : List X) : Type 0 where
    pub reads : Reads s t (flat_map write xs)
    pub long : length xs ≡ n
    pub each : each_from fine i xs

  pub times_reads : ((i : ℕ) (s t : State) (x : X) → due i s ≡ Ok (x, t) → Reads s t (write x) × fine i x) → (i n : ℕ) (s t : State) (xs : List X) → times due i n s ≡ Ok (xs, t) → TimesReads i n s t xs
  times_reads one i zero s t xs e =
      let p = same_both e in
      subst (λ u. TimesReads i zero s u xs) p.1 (subst (TimesReads i zero s s) p.0 (record { reads = record { used = []; split = refl; marks = refl; end = refl }; long = refl; each = tt }))
  times_reads one i (suc n) s t xs e =
      let p = stepped (due i s) (λ x s. times due (i + 1) n s >>= λ xs s. Ok (x ∷ xs, s)) (xs, t) e in
      let q = stepped (times due (i + 1) n p.state) (λ xs s. Ok (p.value ∷ xs, s)) (xs, t) p.on in
      let here = one i s p.state p.value p.is in
      let more = times_reads one (i + 1) n p.state q.state q.value q.is in
      let same = same_both q.on in
      subst (λ u. TimesReads i (suc n) s u xs) same.1 (subst (TimesReads i (suc n) s q.state) same.0 (record { reads = reads_on here.0 more.reads; long = ap suc more.long; each = (here.1, more.each) }))

  pub times_leaves : ((i : ℕ) (s : State) (x : X) (ms : List Mark) → map mark s.tokens ≡ write x ++ ms → fine i x → Leaves (due i s) x ms) → (i n : ℕ) (s : State) (xs : List X) (ms : List Mark) → length xs ≡ n → map mark s.tokens ≡ flat_map write xs ++ ms → each_from fine i xs → Leaves (times due i n s) xs ms
  times_leaves one i zero s [] ms l e f = record { state = s; ok = refl; marks = e }
  times_leaves one i zero s (x ∷ xs) ms l e f = absurd (omega arith)
  times_leaves one i (suc n) s [] ms l e f = absurd (omega arith)
  times_leaves one i (suc n) s (x ∷ xs) ms l e f =
      let p = one i s x (flat_map write xs ++ ms) (e ∙ append_assoc (write x) (flat_map write xs) ms) f.0 in
      let q = times_leaves one (i + 1) n p.state xs ms (omega arith) p.marks f.1 in
      leaves_on (λ x s. times due (i + 1) n s >>= λ xs s. Ok (x ∷ xs, s)) p (leaves_on (λ xs s. Ok (x ∷ xs, s)) q (record { state = q.state; ok = refl; marks = q.marks }))

  pub times_fed : ((i : ℕ) (s t : State) (x : X) → due i s ≡ Ok (x, t) → Reads s t (write x) × fine i x) → ((i : ℕ) (s t : State) (x : X) → due i s ≡ Ok (x, t) → LastFeed s t) → (i n : ℕ) (s t : State) (xs : List X) → times due i (suc n) s ≡ Ok (xs, t) → LastFeed s t
  times_fed one fed i zero s t xs e =
      let p = stepped (due i s) (λ x s. times due (i + 1) zero s >>= λ xs s. Ok (x ∷ xs, s)) (xs, t) e in
      subst (LastFeed s) (same_both p.on).1 (fed i s p.state p.value p.is)
  times_fed one fed i (suc n) s t xs e =
      let p = stepped (due i s) (λ x s. times due (i + 1) (suc n) s >>= λ xs s. Ok (x ∷ xs, s)) (xs, t) e in
      let q = stepped (times due (i + 1) (suc n) p.state) (λ xs s. Ok (p.value ∷ xs, s)) (xs, t) p.on in
      subst (LastFeed s) (same_both q.on).1 (feed_after (one i s p.state p.value p.is).0 (times_fed one fed (i + 1) n p.state q.state q.value q.is))
