-- Number words: which words they are, which numbers they write, and a number due within bounds.
use Rattle.std.specs.Prelude.{ℕ, Bool, cond, not, ◌&&◌, ◌||◌, List, length, Some, None, Ok, Err, Option, Result, ◌==◌, nat_le, slice_index}
use Rattle.std.specs.Str.Parse.{digits_value}
use Rattle.std.specs.Str.{all_ascii_digits}
use Rattle.texts.specs.declared.faults.TextFault.{TextFault}
use Rattle.texts.specs.declared.faults.TextFault.TheVariants.{Form, Range}
use Rattle.texts.specs.Judging.{State, Judged, ◌>>=◌, word_due, beside}

-- 1 to 9 bytes, the first of several no 0
abbrev pub shaped : List ℕ → Bool
shaped w = nat_le 1 (length w) && (nat_le (length w) 9 && (length w == 1 || not (slice_index w 0 == 48)))

abbrev pub number_word : List ℕ → Bool
number_word w = shaped w && all_ascii_digits w

abbrev pub numeral : List ℕ → Option ℕ
numeral w = cond (number_word w) (Some (digits_value 10 w)) None

-- a number from low to high is called for at an offset
abbrev pub within : ℕ → ℕ → ℕ → Option ℕ → Result ℕ TextFault
within low high at None = Err (Form at)
within low high at (Some n) = cond (nat_le low n && nat_le n high) (Ok n) (Err (Range at))

abbrev pub number_due : ℕ → ℕ → State → Judged ℕ
number_due low high s = word_due s >>= λ w s. beside (within low high w.0 (numeral w.1)) s
