-- What a plan's text lists, and what reading it answers and writes.
use Rattle.std.specs.Prelude.{◌≡◌, ℕ, zero, suc, ◌≤◌, cond, List, [], ◌∷◌, length, take, drop, Ok, Err, Result, nat_lt}
use Rattle.texts.specs.declared.faults.TextFault.{TextFault}
use Rattle.texts.specs.declared.faults.TextFault.TheVariants.{Count, ShortTable}
use Rattle.texts.specs.Tokens.{ahead, words}
use Rattle.texts.specs.Numbers.{numeral, within}

-- a number in front of the others
abbrev pub listed : Result ℕ TextFault → Result (List ℕ) TextFault → Result (List ℕ) TextFault
listed (Err f) rest = Err f
listed (Ok n) (Err f) = Err f
listed (Ok n) (Ok ns) = Ok (n ∷ ns)

-- at most `most` numbers from 0 to 255; a word past them is one too many
abbrev pub listing_judged : ℕ → List (ℕ × List ℕ) → Result (List ℕ) TextFault
listing_judged most [] = Ok []
listing_judged zero (w ∷ ws) = Err (Count w.0)
listing_judged (suc most) (w ∷ ws) = listed (within 0 255 w.0 (numeral w.1)) (listing_judged most ws)

-- line feeds are blanks like spaces: the words count alone
abbrev pub plan_judged : List ℕ → Result (List ℕ) TextFault
plan_judged text = listing_judged 120 (words (ahead text 0))

-- the list's length is looked at last
abbrev pub fits_listing : ℕ → Result (List ℕ) TextFault → Result (List ℕ) TextFault
fits_listing room (Err f) = Err f
fits_listing room (Ok ns) = cond (nat_lt room 120) (Err ShortTable) (Ok ns)

-- what reading a text answers, with a list of this length lent
abbrev pub plan_answer : List ℕ → ℕ → Result (List ℕ) TextFault
plan_answer text room = fits_listing room (plan_judged text)

-- granted, the numbers stand in the list's front, and the rest is as it was; refused, nothing was written
abbrev pub PlanRead : List ℕ → List ℕ → Result ℕ TextFault → List ℕ → Type 0
PlanRead text listing (Err f) listing' = (plan_answer text (length listing) ≡ Err f) × (listing' ≡ listing)
PlanRead text listing (Ok count) listing' =
    (plan_answer text (length listing) ≡ Ok (take count listing')) × (count ≤ length listing') × (drop count listing' ≡ drop count listing)
