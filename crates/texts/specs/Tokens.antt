-- The tokens of a text: its words and its line feeds, each with its offset.
use Rattle.std.specs.Prelude.{ℕ, ◌+◌, Bool, true, false, cond, not, ◌||◌, List, [], ◌∷◌, take, drop, ◌==◌}
use Rattle.std.specs.List.{prefix_len}

pub data Token : Type 0 where
  word : ℕ → List ℕ → Token
  feed : ℕ → Token

abbrev pub space : ℕ → Bool
space b = b == 32

-- a space or a line feed; every other byte is a word's
abbrev pub blank : ℕ → Bool
blank b = b == 32 || b == 10

abbrev pub letter : ℕ → Bool
letter b = not (blank b)

-- the word at the front of a text
abbrev pub front : List ℕ → List ℕ
front bs = take (prefix_len letter bs) bs

-- the tokens of what begins at an offset; `inside` tells that the byte before is a word's.
-- A word begins at each word byte that follows none, and runs through the word bytes there
abbrev pub tokens : Bool → ℕ → List ℕ → List Token
tokens inside at [] = []
tokens inside at (b ∷ bs) =
    cond (b == 10) (feed at ∷ tokens false (at + 1) bs)
    (cond (b == 32) (tokens false (at + 1) bs)
    (cond inside (tokens true (at + 1) bs) (word at (front (b ∷ bs)) ∷ tokens true (at + 1) bs)))

-- the tokens of a text from an offset on at which no word is cut
abbrev pub ahead : List ℕ → ℕ → List Token
ahead text at = tokens false at (drop at text)

-- the words among the tokens
abbrev pub words : List Token → List (ℕ × List ℕ)
words [] = []
words (word at w ∷ ts) = (at, w) ∷ words ts
words (feed at ∷ ts) = words ts
