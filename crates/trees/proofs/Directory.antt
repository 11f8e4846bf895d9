-- One pair more of a directory.
use Rattle.std.proofs.Common.{◌≡◌, ℕ, suc, ◌+◌, ◌-◌, ◌<◌, eqb, List, ap, ◌∙◌, arith}
use Rattle.std.proofs.lemmas.Bool.Decides.{nat_tests}
use Rattle.trees.specs.Tree.{after, pair_answer, pairs_answer}

-- the pair is the last where none is left after it
last_pair : (k count : ℕ) → k < count → eqb (count - (k + 1)) 0 ≡ eqb (k + 1) count
last_pair k count l = grind (arith, nat_tests)

pub pair_more : (bytes : List ℕ) (k from count : ℕ) → k < count → pairs_answer bytes k from (count - k) ≡ after (pair_answer bytes k from (eqb (k + 1) count)) λ end. pairs_answer bytes (k + 1) end (count - (k + 1))
pair_more bytes k from count l =
    let more : count - k ≡ suc (count - (k + 1)) = omega arith in
    ap (pairs_answer bytes k from) more ∙ ap (λ t. after (pair_answer bytes k from t) λ end. pairs_answer bytes (k + 1) end (count - (k + 1))) (last_pair k count l)
