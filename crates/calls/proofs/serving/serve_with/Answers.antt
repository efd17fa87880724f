use Rattle.std.proofs.Common.{refl}
use Rattle.calls.proofs.serving.serve_with.Goals as goal

pub unreachable-requires : goal.unreachable-requires
unreachable-requires g c = let never = c.in-None.ensures.enough refl in cc

pub returns-clause-served : goal.returns-clause-served
returns-clause-served g c = c.in-Some.ensures.received

pub returns-clause-memory : goal.returns-clause-memory
returns-clause-memory g c = c.in-Some.ensures.memory
