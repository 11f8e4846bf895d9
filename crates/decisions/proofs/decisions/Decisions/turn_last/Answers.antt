use Rattle.std.proofs.Common.{◌≡◌, ◌+◌, ◌-◌, [], ◌∷◌, ◌++◌, get_or, take, set, sym, ap, ◌∙◌, arith}
use Rattle.std.proofs.lemmas.List.{take_more_set}
use Rattle.decisions.specs.Decisions.{forbid}
use Rattle.decisions.specs.Branches.{turned_last}
use Rattle.decisions.proofs.Ends.{turned_push, front_last}
use Rattle.decisions.proofs.decisions.Decisions.turn_last.Goals as goal

pub returns-then-self-gt0 : goal.returns-then-self-gt0
returns-then-self-gt0 c =
    let x = c.args.self.now in
    let whole : x.len - 1 + 1 ≡ x.len = omega arith in
    let after = c.turn.new.self in
    let front = front_last x.entries x.len (forbid 0 0) c.if-self-gt0.true (omega (arith, x.few, x.long)) in
    ap (λ n. take n (set x.entries (x.len - 1) after)) (sym whole) ∙ take_more_set x.entries (x.len - 1) after (omega (arith, x.few, x.long)) ∙ ap (λ d. take (x.len - 1) x.entries ++ (d ∷ [])) c.turn.ensures ∙ sym (ap turned_last front ∙ turned_push (take (x.len - 1) x.entries) (get_or x.entries (x.len - 1) (forbid 0 0)))
