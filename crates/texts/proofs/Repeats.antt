-- What is due several times, one turn at a time.
use Rattle.std.proofs.Common.{◌≡◌, ℕ, suc, ◌+◌, ◌-◌, ◌*◌, ◌<◌, ◌≤◌, List, [], ◌∷◌, ◌++◌, map, length, take, drop, set, Ok, Err, sym, refl, ap, ◌∙◌, append_assoc, mul-le-mul_right, add-mul, one-mul, arith}
use borrow.Rule.Slice.PartMut.{put_mid, post_of}
use Rattle.std.proofs.lemmas.List.{take_more_set, map_push, map-append, take_at, length-append, length-take, length-drop, length-take-le}
use Rattle.std.specs.List.{flat_map}
use Rattle.texts.specs.declared.faults.TextFault.{TextFault}
use Rattle.texts.specs.Judging.{State, Judged, ◌>>=◌, times}
use Rattle.texts.specs.Tables.{flat}

-- what was read before, put in front
abbrev pub prefixed : {X : Type 0} → List X → Judged (List X) → Judged (List X)
prefixed xs (Ok p) = Ok (xs ++ p.0, p.1)
prefixed xs (Err f) = Err f

module _ {X : Type 0} where
  prefixed_one : (xs : List X) (x : X) (j : Judged (List X)) → prefixed xs (j >>= λ ys s. Ok (x ∷ ys, s)) ≡ prefixed (xs ++ (x ∷ [])) j
  prefixed_one xs x (Ok p) = ap (λ l. Ok (l, p.1)) (sym (append_assoc xs (x ∷ []) p.0))
  prefixed_one xs x (Err f) = refl

  prefixed_row : (xs row : List X) (j : Judged (List (List X))) → prefixed xs (flat (j >>= λ ys s. Ok (row ∷ ys, s))) ≡ prefixed (xs ++ row) (flat j)
  prefixed_row xs row (Ok p) = ap (λ l. Ok (l, p.1)) (sym (append_assoc xs row (flat_map (λ r. r) p.0)))
  prefixed_row xs row (Err f) = refl

one_more : {X : Type 0} (due : ℕ → State → Judged X) (i n : ℕ) (s : State) → i < n → times due i (n - i) s ≡ (due i s >>= λ x s. times due (i + 1) (n - (i + 1)) s >>= λ xs s. Ok (x ∷ xs, s))
one_more due i n s h = let e : n - i ≡ suc (n - (i + 1)) = omega arith in ap (λ k. times due i k s) e

-- the first i of n cells are filled, and the others are due at s
pub record Filled {X Y : Type 0} (due : ℕ → State → Judged Y) (f : X → Y) (n : ℕ) (begun : State) (cells : List X) (i : ℕ) (s : State) : Type 0 where
  pub so : times due 0 n begun ≡ prefixed (map f (take i cells)) (times due i (n - i) s)

module _ {X Y : Type 0} {due : ℕ → State → Judged Y} {f : X → Y} {n : ℕ} {begun : State} where
  module _ {cells : List X} {i : ℕ} {s : State} (p : Filled due f n begun cells i s) where
    pub filled_more : {x : X} {t : State} → i < n → i < length cells → Ok (f x, t) ≡ due i s → Filled due f n begun (set cells i x) (i + 1) t
    filled_more {x} {t} h l e = record {
      so = p.so
          ∙ ap (prefixed (map f (take i cells))) (one_more due i n s h ∙ ap (λ j. j >>= λ x s. times due (i + 1) (n - (i + 1)) s >>= λ ys s. Ok (x ∷ ys, s)) (sym e))
          ∙ prefixed_one (map f (take i cells)) (f x) (times due (i + 1) (n - (i + 1)) t)
          ∙ ap (λ xs. prefixed xs (times due (i + 1) (n - (i + 1)) t)) (sym (ap (map f) (take_more_set cells i x l) ∙ map_push f (take i cells) x));
    }

    pub filled_fault : {e : TextFault} → i < n → Err e ≡ due i s → Err e ≡ times due 0 n begun
    filled_fault h e =
        sym (p.so ∙ ap (prefixed (map f (take i cells))) (one_more due i n s h ∙ ap (λ j. j >>= λ x s. times due (i + 1) (n - (i + 1)) s >>= λ ys s. Ok (x ∷ ys, s)) (sym e)))

pub row_fits : (i side : ℕ) → i < side → (i * side + side ≤ side * side) × ((i + 1) * side ≡ i * side + side)
row_fits i side h =
    let e : (i + 1) * side ≡ i * side + side = add-mul i 1 side ∙ ap (λ k. i * side + k) (one-mul side) in
    let p : i + 1 ≤ side = omega arith in
    let q : (i + 1) * side ≤ side * side = mul-le-mul_right side p in
    (omega arith, e)

-- the part of a table that is lent for a row
pub lent_row : {X : Type 0} (cells : List X) (a side : ℕ) → a + side ≤ length cells → length (take (a + side - a) (drop a cells)) ≡ side
lent_row cells a side h = simp (length-take, length-drop) (omega arith)

-- a table's front, with one row more
rows_front : {X : Type 0} (cells row : List X) (a n k side : ℕ) → a ≤ length cells → length row ≡ side → n ≡ a + side → take n (put_mid a k cells row) ≡ take a cells ++ row
rows_front cells row a n k side h l e =
    ap (take n) (sym (append_assoc (take a cells) row (post_of a k cells)))
    ∙ take_at (take a cells ++ row) (post_of a k cells) n (length-append (take a cells) row ∙ (λ i. length-take-le a cells h i + l i) ∙ sym e)

-- the first i of n rows are filled, and the others are due at s
pub record FilledRows {X Y : Type 0} (due : ℕ → State → Judged (List Y)) (f : X → Y) (n : ℕ) (begun : State) (cells : List X) (i : ℕ) (s : State) : Type 0 where
  pub so : flat (times due 0 n begun) ≡ prefixed (map f (take (i * n) cells)) (flat (times due i (n - i) s))

module _ {X Y : Type 0} {due : ℕ → State → Judged (List Y)} {f : X → Y} {n : ℕ} {begun : State} where
  module _ {cells : List X} {i : ℕ} {s : State} (p : FilledRows due f n begun cells i s) where
    pub rows_more : (row : List X) (k : ℕ) {t : State} → i < n → i * n ≤ length cells → length row ≡ n → Ok (map f row, t) ≡ due i s → FilledRows due f n begun (put_mid (i * n) k cells row) (i + 1) t
    rows_more row k {t} h l long e = record {
      so = p.so
          ∙ ap (λ j. prefixed (map f (take (i * n) cells)) (flat j)) (one_more due i n s h ∙ ap (λ j. j >>= λ x s. times due (i + 1) (n - (i + 1)) s >>= λ xs s. Ok (x ∷ xs, s)) (sym e))
          ∙ prefixed_row (map f (take (i * n) cells)) (map f row) (times due (i + 1) (n - (i + 1)) t)
          ∙ ap (λ xs. prefixed xs (flat (times due (i + 1) (n - (i + 1)) t))) (sym (map-append f (take (i * n) cells) row) ∙ ap (map f) (sym (rows_front cells row (i * n) ((i + 1) * n) k n l long (row_fits i n h).1)));
    }

    pub rows_fault : {e : TextFault} → i < n → Err e ≡ due i s → Err e ≡ flat (times due 0 n begun)
    rows_fault h e =
        sym (p.so ∙ ap (λ j. prefixed (map f (take (i * n) cells)) (flat j)) (one_more due i n s h ∙ ap (λ j. j >>= λ x s. times due (i + 1) (n - (i + 1)) s >>= λ xs s. Ok (x ∷ xs, s)) (sym e)))
