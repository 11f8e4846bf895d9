use Rattle.std.proofs.Common.{◌≡◌, map, length, drop, sym, ap, ◌∙◌, subst, arith, length-set}
use Rattle.checking.specs.Calls.{opening, answers}
use Rattle.checking.specs.Logs.{request}
use Rattle.checking.specs.Promise.{Promise}
use Rattle.checking.specs.States.{network_of, state_of}
use Rattle.checking.proofs.Leaves.{answer_bounds, answer_opens}
use Rattle.checking.proofs.Promises.{promise}
use Rattle.checking.proofs.Feeding.{one_more, all_answered, rest_kept}
use Rattle.checking.proofs.running.run_log.Goals as goal

pub loop-k-preserved : goal.loop-k-preserved
loop-k-preserved g c =
    let s = c.loop-k in
    let kept = s.invariant in
    record {
      within = omega arith;
      network = c.take.ensures.network ∙ kept.network;
      answered = one_more (g.M.Measure.meaning c.args.measure.now) g.N.Network.meaning c.args.calls.now s.answers s.k _ s.check c.take.new.self c.take.result (network_of c.new-check.result) (omega arith) (omega (arith, kept.room)) c.take.ensures kept.network kept.answered;
      rest = rest_kept s.answers c.args.answers.now s.k c.take.result kept.rest;
      room = length-set s.answers s.k c.take.result ∙ kept.room;
    }

pub returns : goal.returns
returns g c =
    let s = c.loop-k in
    let kept = s.invariant in
    let net = c.args.network in
    let calls = c.args.calls.now in
    let μ = g.M.Measure.meaning c.args.measure.now in
    let m = g.N.Network.meaning net in
    let laws = g.M.Measure.laws c.args.measure.now in
    let end : s.k ≡ length calls = omega (arith, kept.within) in
    let same = c.new-check.ensures.network in
    let all = all_answered μ (g.N.Network.meaning (network_of c.new-check.result)) (state_of s.check) calls s.answers s.k end kept.answered ∙ ap (λ n. answers μ (g.N.Network.meaning n) opening (map request calls)) same in
    record {
      network_back = c.end-network.ensures.network ∙ kept.network ∙ same;
      room = omega (arith, c.if-answers-calls.false);
      promise = subst (Promise μ m (map request calls)) (sym all) (promise μ m (g.N.Network.limits net) (answer_bounds μ laws) (answer_opens μ laws) (map request calls));
      rest = ap (λ n. drop n s.answers) (sym end) ∙ kept.rest ∙ ap (λ n. drop n c.args.answers.now) end;
    }
