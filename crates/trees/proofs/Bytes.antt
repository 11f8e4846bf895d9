-- Numbers written to bytes and read back.
use Rattle.std.proofs.Common.{◌≡◌, ℕ, ◌+◌, ◌*◌, ◌/◌, ◌%◌, ◌<◌, ◌≤◌, List, [], ◌∷◌, ◌++◌, length, get_or, drop, sym, ap, ◌∙◌, arith}
use Rattle.std.specs.List.{AllByRecursion}
use Rattle.std.proofs.ByRecursion.{All-get_or}
use Rattle.std.proofs.lemmas.List.{drop_more, get_or-append-add}
use Rattle.trees.specs.Numbers.{short_at, word_at, short_bytes, word_bytes}

abbrev pub Byte : ℕ → Type 0
Byte b = b < 256

short_back : (n : ℕ) → n % 256 + 256 * (n / 256) ≡ n
short_back n = omega arith

word_back : (n : ℕ) → n % 256 + 256 * (n / 256 % 256) + 65536 * (n / 65536 % 256 + 256 * (n / 65536 / 256)) ≡ n
word_back n = omega arith

-- what stands past a front
pub there : (front l : List ℕ) (i at : ℕ) → length front + i ≡ at → get_or (front ++ l) at 0 ≡ get_or l i 0
there front l i at e = ap (λ j. get_or (front ++ l) j 0) (sym e) ∙ get_or-append-add front l i 0

pub short_there : (front rest : List ℕ) (n at : ℕ) → length front ≡ at → short_at (front ++ (short_bytes n ++ rest)) at ≡ n
short_there front rest n at e =
    let l = short_bytes n ++ rest in
    let a : get_or (front ++ l) at 0 ≡ n % 256 = there front l 0 at (omega arith) in
    let b : get_or (front ++ l) (at + 1) 0 ≡ n / 256 = there front l 1 (at + 1) (omega arith) in
    omega (arith, short_back n)

pub word_there : (front rest : List ℕ) (n at : ℕ) → length front ≡ at → word_at (front ++ (word_bytes n ++ rest)) at ≡ n
word_there front rest n at e =
    let l = word_bytes n ++ rest in
    let a : get_or (front ++ l) at 0 ≡ n % 256 = there front l 0 at (omega arith) in
    let b : get_or (front ++ l) (at + 1) 0 ≡ n / 256 % 256 = there front l 1 (at + 1) (omega arith) in
    let c : get_or (front ++ l) (at + 2) 0 ≡ n / 65536 % 256 = there front l 2 (at + 2) (omega arith) in
    let d : get_or (front ++ l) (at + 2 + 1) 0 ≡ n / 65536 / 256 = there front l 3 (at + 2 + 1) (omega arith) in
    omega (arith, word_back n)

pub drop_two : (l : List ℕ) (p : ℕ) → p + 2 ≤ length l → drop p l ≡ get_or l p 0 ∷ get_or l (p + 1) 0 ∷ drop (p + 2) l
drop_two l p h =
    let next : p + 1 + 1 ≡ p + 2 = omega arith in
    drop_more l p 0 (omega arith) ∙ ap (λ t. get_or l p 0 ∷ t) (drop_more l (p + 1) 0 (omega arith) ∙ ap (λ i. get_or l (p + 1) 0 ∷ drop i l) next)

same_two : (a b c d : ℕ) → a ≡ c → b ≡ d → ◌≡◌ {A = List ℕ} (a ∷ b ∷ []) (c ∷ d ∷ [])
same_two a b c d p q = cc

short_digits : (a b : ℕ) → a < 256 → short_bytes (a + 256 * b) ≡ a ∷ b ∷ []
short_digits a b h = same_two _ _ _ _ (omega arith) (omega arith)

low_digit : (x a m : ℕ) → x ≡ a + 256 * m → a < 256 → (x % 256 ≡ a) × (x / 256 ≡ m)
low_digit x a m e h = (omega arith, omega arith)

word_digits : (a b c d : ℕ) → a < 256 → b < 256 → c < 256 → word_bytes (a + 256 * b + 65536 * (c + 256 * d)) ≡ a ∷ b ∷ c ∷ d ∷ []
word_digits a b c d ha hb hc =
    let n = a + 256 * b + 65536 * (c + 256 * d) in
    let first = low_digit n a (b + 256 * (c + 256 * d)) (omega arith) ha in
    let second = low_digit (n / 256) b (c + 256 * d) first.1 hb in
    let high : n / 65536 ≡ c + 256 * d = omega arith in
    let third = low_digit (n / 65536) c d high hc in
    cc (first.0, second.0, third.0, third.1)

-- a number read and written back
pub short_here : (l : List ℕ) (p : ℕ) → AllByRecursion Byte l → p + 2 ≤ length l → short_bytes (short_at l p) ++ drop (p + 2) l ≡ drop p l
short_here l p all h =
    ap (λ ds. ds ++ drop (p + 2) l) (short_digits (get_or l p 0) (get_or l (p + 1) 0) (All-get_or Byte l p 0 (omega arith) all)) ∙ sym (drop_two l p h)

pub word_here : (l : List ℕ) (p : ℕ) → AllByRecursion Byte l → p + 4 ≤ length l → word_bytes (word_at l p) ++ drop (p + 4) l ≡ drop p l
word_here l p all h =
    let next : p + 4 ≡ p + 2 + 2 = omega arith in
    ap (λ ds. ds ++ drop (p + 4) l)
    (word_digits (get_or l p 0) (get_or l (p + 1) 0) (get_or l (p + 2) 0) (get_or l (p + 2 + 1) 0) (All-get_or Byte l p 0 (omega arith) all) (All-get_or Byte l (p + 1) 0 (omega arith) all) (All-get_or Byte l (p + 2) 0 (omega arith) all))
    ∙ ap (λ i. get_or l p 0 ∷ get_or l (p + 1) 0 ∷ get_or l (p + 2) 0 ∷ get_or l (p + 2 + 1) 0 ∷ drop i l) next
    ∙ sym (drop_two l p (omega arith) ∙ ap (λ t. get_or l p 0 ∷ get_or l (p + 1) 0 ∷ t) (drop_two l (p + 2) (omega arith)))
