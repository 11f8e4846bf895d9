-- How a text's tokens are judged from the left: what is due next, and the fault where something else stands.
use Rattle.std.specs.Prelude.{ℕ, zero, suc, ◌+◌, cond, List, [], ◌∷◌, length, Ok, Err, Result, nat_lt}
use Rattle.texts.specs.declared.faults.TextFault.{TextFault}
use Rattle.texts.specs.declared.faults.TextFault.TheVariants.{Count}
use Rattle.texts.specs.Tokens.{Token, word, feed, ahead}

infixr 20 ◌>>=◌
-- the text's end, the offset after what was judged, and the tokens still to be judged
pub record State : Type 0 where
  pub end : ℕ
  pub at : ℕ
  pub tokens : List Token

-- a text of which nothing was judged yet
abbrev pub start : List ℕ → State
start text = record { end = length text; at = 0; tokens = ahead text 0 }

abbrev pub Judged : Type 0 → Type 0
Judged X = Result (X × State) TextFault

-- the first fault counts
abbrev pub ◌>>=◌ : {X Y : Type 0} → Judged X → (X → State → Result Y TextFault) → Result Y TextFault
◌>>=◌ (Ok p) go = go p.0 p.1
◌>>=◌ (Err f) go = Err f

-- a word is due: its offset and its bytes
abbrev pub first_word : ℕ → List Token → Judged (ℕ × List ℕ)
first_word end [] = Err (Count end)
first_word end (feed at ∷ ts) = Err (Count at)
first_word end (word at w ∷ ts) = Ok ((at, w), record { end = end; at = at + length w; tokens = ts })

abbrev pub word_due : State → Judged (ℕ × List ℕ)
word_due s = first_word s.end s.tokens

-- the line's end is due
abbrev pub first_feed : ℕ → List Token → Judged (Unit {0})
first_feed end [] = Err (Count end)
first_feed end (word at w ∷ ts) = Err (Count at)
first_feed end (feed at ∷ ts) = Ok (tt, record { end = end; at = at + 1; tokens = ts })

abbrev pub line_end : State → Judged (Unit {0})
line_end s = first_feed s.end s.tokens

-- a byte after the last line is one too many
abbrev pub nothing_after : State → Result (Unit {0}) TextFault
nothing_after s = cond (nat_lt s.at s.end) (Err (Count s.at)) (Ok tt)

-- what a word turned out to be, and then the rest
abbrev pub beside : {X : Type 0} → Result X TextFault → State → Judged X
beside (Ok x) s = Ok (x, s)
beside (Err f) s = Err f

-- the same n times, the first with the index i
abbrev pub times : {X : Type 0} → (ℕ → State → Judged X) → ℕ → ℕ → State → Judged (List X)
times due i zero s = Ok ([], s)
times due i (suc n) s = due i s >>= λ x s. times due (i + 1) n s >>= λ xs s. Ok (x ∷ xs, s)
