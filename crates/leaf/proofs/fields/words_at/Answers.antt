use Rattle.std.proofs.Common.{length, rules}
use Rattle.leaf.proofs.Bytes.{words_read}
use Rattle.leaf.proofs.fields.words_at.Goals as goal

pub returns : goal.returns
returns c = words_read c.args.bytes.now c.read_u64_into.new.dst c.args.at (length c.args.room.now) c.read_u64_into.auto.dst (λ k lt. search (rules, c.read_u64_into.ensures k))
