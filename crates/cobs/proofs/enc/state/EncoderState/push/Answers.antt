use Rattle.std.proofs.lemmas.Grind.{common_steps}
use Rattle.std.proofs.Common.{arith}
use Rattle.cobs.proofs.KeepingLemmas.{kept_zero, kept_full}
use Rattle.cobs.proofs.enc.state.EncoderState.push.Goals as goal

pub returns-then-byte-eq0-clause-keeps : goal.returns-then-byte-eq0-clause-keeps
returns-then-byte-eq0-clause-keeps c = λ p buffer message k. rw c.if-byte-eq0.true (kept_zero p c.args.self.now.code_at c.args.self.now.code buffer message c.args.self.now.begun k)

pub returns-then-code-clause-keeps : goal.returns-then-code-clause-keeps
returns-then-code-clause-keeps c = λ p buffer message k. kept_full p c.args.self.now.code_at c.args.byte buffer message (omega arith) (rw c.if-code.true at k)

pub returns-clause-keeps : goal.returns-clause-keeps
returns-clause-keeps c = grind (arith, common_steps)
