-- Listings: customer numbers, each route ended by a 0; and the first place at which a list is none of a plan.
use Rattle.std.specs.Prelude.{ℕ, zero, suc, ◌+◌, ◌-◌, Bool, cond, not, ◌&&◌, ◌||◌, List, [], ◌∷◌, ◌++◌, Some, None, Option, ◌==◌, nat_lt}
use Rattle.std.specs.List.{flat_map}
use Rattle.routing.specs.Routes.{count}

-- the listing of some routes
abbrev pub written : List (List ℕ) → List ℕ
written = flat_map (λ route. route ++ (0 ∷ []))

-- a number above n, or a 0 where the route has not begun
abbrev pub breaks : ℕ → Bool → ℕ → Bool
breaks n begun j = nat_lt n j || (j == 0 && not begun)

-- the first index of a number that breaks the form, from index k on; the last index where the list ends in a route
-- that has begun, and 0 where it is empty
abbrev pub misplaced : ℕ → Bool → ℕ → List ℕ → Option ℕ
misplaced n begun k [] = cond (begun || k == 0) (Some (k - 1)) None
misplaced n begun k (j ∷ l) = cond (breaks n begun j) (Some k) (misplaced n (not (j == 0)) (k + 1) l)

-- the first index of a customer that stands before it, from index k on
abbrev pub repeated : List ℕ → ℕ → List ℕ → Option ℕ
repeated before k [] = None
repeated before k (j ∷ l) = cond (nat_lt 0 j && nat_lt 0 (count j before)) (Some k) (repeated (before ++ (j ∷ [])) (k + 1) l)

-- the first customer from c on, of so many, that stands nowhere
abbrev pub missing : List ℕ → ℕ → ℕ → Option ℕ
missing l c zero = None
missing l c (suc more) = cond (count c l == 0) (Some c) (missing l (c + 1) more)
