use Rattle.std.proofs.Common.{refl, rules}
use Rattle.wire_c.proofs.CallsLemmas.{reads_by}
use Rattle.wire_c.proofs.reading.read.Goals as goal

pub returns-clause-lines : goal.returns-clause-lines
returns-clause-lines c = reads_by c.args.told.terms _ c.args.stream.now _ _ _ _ c.in-Ok-lines_of.ensures refl
    c.is_flag-2.ensures c.is_flag-3.ensures c.is_flag.ensures (search rules) c.is_flag-4.ensures c.is_flag-is_inside.ensures c.skipped-passed.ensures.is
