use Rattle.std.proofs.Common.{◌≡◌, ◌*◌, ◌≤◌, length, drop}
use Rattle.replay.specs.Drive.{driven, drive_answer}
use Rattle.replay.proofs.drive.drive.Given as goal

abbrev pub invariant-loop-index : goal.invariant-loop-index
invariant-loop-index g l =
    let m = g.N.Network.meaning l.network in
    (l.index ≤ length l.listing) × (driven m l.van l.index (drop l.index l.listing) ≡ drive_answer m l.listing) × (l.van.ready ≤ 120000) × (l.van.load ≤ 10000) × (l.van.cost ≤ 1000000 * l.index) × (l.van.routes ≤ l.index)
