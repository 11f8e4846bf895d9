-- Where a reader stands, and what a step of it answers.
use Rattle.std.specs.Prelude.{ℕ, ◌+◌, false, List, [], ◌∷◌, length, Some, None, Ok, Err, Option, Result}
use Rattle.texts.specs.declared.faults.TextFault.{TextFault}
use Rattle.texts.specs.declared.reader.Reader.{Reader}
use Rattle.texts.specs.declared.reader.Word.{Word}
use Rattle.texts.specs.Tokens.{tokens}
use Rattle.texts.specs.Judging.{State, Judged}

abbrev pub state : Reader → State
state r = record { end = r.at + length r.rest.now; at = r.at; tokens = tokens false r.at r.rest.now }

-- what a step answers by the fields of its value, with where the reader stands then
abbrev pub judged : {X Y : Type 0} → (X → Y) → Result X TextFault → Reader → Judged Y
judged f (Ok x) r = Ok (f x, state r)
judged f (Err e) r = Err e

abbrev pub word_fields : Word → ℕ × List ℕ
word_fields w = (w.at, w.bytes.now)

-- a word that was read, if one was, before those that are left; where none was, none is left
abbrev pub listed_by : Option Word → List (ℕ × List ℕ) → List (ℕ × List ℕ)
listed_by None ws = []
listed_by (Some w) ws = word_fields w ∷ ws
