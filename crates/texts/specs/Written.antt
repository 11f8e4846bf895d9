-- Cases and plans written out: the words and line feeds of their texts, without offsets.
use Rattle.std.specs.Prelude.{◌≡◌, ℕ, zero, suc, ◌+◌, ◌-◌, ◌*◌, ◌≤◌, cond, List, [], ◌∷◌, ◌++◌, map, length, take, drop, Some, None, Ok, decimal, Option, ◌==◌, ◌≢◌, slice_index}
use Rattle.std.specs.List.{flat_map, AllByRecursion}
use Rattle.texts.specs.Tokens.{Token, word, feed, ahead, words}
use Rattle.texts.specs.Lines.{Heading, Stop}
use Rattle.texts.specs.Cases.{Case, side, case_judged}
use Rattle.texts.specs.Plans.{plan_judged}

-- a token without its offset
pub data Mark : Type 0 where
  bytes : List ℕ → Mark
  newline : Mark

abbrev pub mark : Token → Mark
mark (word at w) = bytes w
mark (feed at) = newline

-- a number in decimal, without needless zeros
abbrev pub number : ℕ → Mark
number n = bytes (decimal n)

abbrev pub head_line : Heading → List Mark
head_line h =
    bytes (77 ∷ []) ∷ number h.customers ∷ number h.capacity ∷ number h.least ∷ number h.most ∷ newline ∷ []

abbrev pub place_line : Stop → List Mark
place_line p = number p.load ∷ number p.opening ∷ number p.closing ∷ number p.service ∷ newline ∷ []

abbrev pub arc_word : Option (ℕ × ℕ) → List ℕ
arc_word None = 45 ∷ []
arc_word (Some a) = decimal a.0 ++ (47 ∷ decimal a.1)

abbrev pub arc_mark : Option (ℕ × ℕ) → List Mark
arc_mark a = bytes (arc_word a) ∷ []

abbrev pub row_line : List (Option (ℕ × ℕ)) → List Mark
row_line row = flat_map arc_mark row ++ (newline ∷ [])

-- a table cut into n rows
abbrev pub rows_of : {X : Type 0} → ℕ → ℕ → List X → List (List X)
rows_of side zero xs = []
rows_of side (suc n) xs = take side xs ∷ rows_of side n (drop side xs)

abbrev pub written_case : Case → List Mark
written_case c =
    head_line c.head ++ (flat_map place_line c.places ++ flat_map row_line (rows_of (side c.head) (side c.head) c.arcs))

-- what holds of each of a list, with its index
abbrev pub each_from : {X : Type 0} → (ℕ → X → Type 0) → ℕ → List X → Type 0
each_from P i [] = Unit {0}
each_from P i (x ∷ xs) = P i x × each_from P (i + 1) xs

pub record HeadFine (h : Heading) : Type 0 where
  pub some : 1 ≤ h.customers
  pub few : h.customers ≤ 60
  pub carries : h.capacity ≤ 10000
  pub least : h.least ≤ h.most
  pub most : h.most ≤ 60

-- place i; the depot, place 0, has neither load nor service
pub record PlaceFine (i : ℕ) (p : Stop) : Type 0 where
  pub load : p.load ≤ cond (i == 0) 0 10000
  pub opening : p.opening ≤ p.closing
  pub closing : p.closing ≤ 60000
  pub service : p.service ≤ cond (i == 0) 0 60000

-- the arc from i to j; none leads from a place to itself
abbrev pub ArcFine : ℕ → ℕ → Option (ℕ × ℕ) → Type 0
ArcFine i j None = Unit {0}
ArcFine i j (Some a) = (i ≢ j) × (a.0 ≤ 1000000) × (a.1 ≤ 60000)

abbrev pub RowFine : ℕ → ℕ → List (Option (ℕ × ℕ)) → Type 0
RowFine side i row = (length row ≡ side) × each_from (ArcFine i) 0 row

-- a case within its ranges
pub record CaseFine (c : Case) : Type 0 where
  pub head : HeadFine c.head
  pub places : length c.places ≡ side c.head
  pub each_place : each_from PlaceFine 0 c.places
  pub arcs : length c.arcs ≡ side c.head * side c.head
  pub each_row : each_from (RowFine (side c.head)) 0 (rows_of (side c.head) (side c.head) c.arcs)

-- the last byte is a line feed
abbrev pub Fed : List ℕ → Type 0
Fed text = (1 ≤ length text) × (slice_index text (length text - 1) ≡ 10)

-- the text of a case: its words and line feeds are the case's, and it ends with its last line
pub record CaseText (text : List ℕ) (c : Case) : Type 0 where
  pub marks : map mark (ahead text 0) ≡ written_case c
  pub fine : CaseFine c
  pub fed : Fed text

-- a text is granted as a case exactly where it is the case's text
abbrev pub CasesAsWritten : List ℕ → Type 0
CasesAsWritten text = (c : Case) → (case_judged text ≡ Ok c → CaseText text c) × (CaseText text c → case_judged text ≡ Ok c)

-- the text of a listing: its words are the numbers', with any blanks between
pub record PlanText (text : List ℕ) (ns : List ℕ) : Type 0 where
  pub words : map (λ (w : ℕ × List ℕ). w.1) (words (ahead text 0)) ≡ map decimal ns
  pub few : length ns ≤ 120
  pub small : AllByRecursion (λ n. n ≤ 255) ns

abbrev pub PlansAsWritten : List ℕ → Type 0
PlansAsWritten text = (ns : List ℕ) → (plan_judged text ≡ Ok ns → PlanText text ns) × (PlanText text ns → plan_judged text ≡ Ok ns)
