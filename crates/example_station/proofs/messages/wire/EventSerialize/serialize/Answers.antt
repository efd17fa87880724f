use Rattle.example_station.proofs.messages.wire.EventSerialize.serialize.Goals as goal

-- each variant writes what the call of its arm says, once the value is known to be that variant
pub returns-in-Started-clause-writes : goal.returns-in-Started-clause-writes
returns-in-Started-clause-writes g c = rw c.in-Started.is c.serialize_unit_variant.ensures.writes

pub returns-in-Stopped-clause-writes : goal.returns-in-Stopped-clause-writes
returns-in-Stopped-clause-writes g c = rw c.in-Stopped.is c.serialize_unit_variant-in-Stopped.ensures.writes

pub returns-in-Measured-clause-writes : goal.returns-in-Measured-clause-writes
returns-in-Measured-clause-writes g c = rw c.in-Measured.is c.serialize_newtype_variant.ensures.writes

pub returns-in-Measured-clause-valid : goal.returns-in-Measured-clause-valid
returns-in-Measured-clause-valid g c = rw c.in-Measured.is c.serialize_newtype_variant.ensures.valid

pub returns-in-Moved-clause-writes : goal.returns-in-Moved-clause-writes
returns-in-Moved-clause-writes g c = rw c.in-Moved.is c.serialize_newtype_variant-in-Moved.ensures.writes

pub returns-in-Moved-clause-valid : goal.returns-in-Moved-clause-valid
returns-in-Moved-clause-valid g c = rw c.in-Moved.is c.serialize_newtype_variant-in-Moved.ensures.valid

pub returns-in-Counted-clause-writes : goal.returns-in-Counted-clause-writes
returns-in-Counted-clause-writes g c = rw c.in-Counted.is c.serialize_newtype_variant-in-Counted.ensures.writes

pub returns-in-Counted-clause-valid : goal.returns-in-Counted-clause-valid
returns-in-Counted-clause-valid g c = rw c.in-Counted.is c.serialize_newtype_variant-in-Counted.ensures.valid

pub returns-in-Named-clause-writes : goal.returns-in-Named-clause-writes
returns-in-Named-clause-writes g c = rw c.in-Named.is c.serialize_newtype_variant-in-Named.ensures.writes

pub returns-in-Named-clause-valid : goal.returns-in-Named-clause-valid
returns-in-Named-clause-valid g c = rw c.in-Named.is c.serialize_newtype_variant-in-Named.ensures.valid

pub returns-in-Pair-clause-writes : goal.returns-in-Pair-clause-writes
returns-in-Pair-clause-writes g c = rw c.in-Pair.is c.serialize_newtype_variant-in-Pair.ensures.writes

pub returns-in-Pair-clause-valid : goal.returns-in-Pair-clause-valid
returns-in-Pair-clause-valid g c = rw c.in-Pair.is c.serialize_newtype_variant-in-Pair.ensures.valid

pub returns-in-Failed-clause-writes : goal.returns-in-Failed-clause-writes
returns-in-Failed-clause-writes g c = rw c.in-Failed.is c.serialize_newtype_variant-in-Failed.ensures.writes

pub returns-in-Failed-clause-valid : goal.returns-in-Failed-clause-valid
returns-in-Failed-clause-valid g c = rw c.in-Failed.is c.serialize_newtype_variant-in-Failed.ensures.valid

pub returns-in-Retried-clause-writes : goal.returns-in-Retried-clause-writes
returns-in-Retried-clause-writes g c = rw c.in-Retried.is c.serialize_newtype_variant-in-Retried.ensures.writes

pub returns-in-Retried-clause-valid : goal.returns-in-Retried-clause-valid
returns-in-Retried-clause-valid g c = rw c.in-Retried.is c.serialize_newtype_variant-in-Retried.ensures.valid

pub returns-in-Cleared-clause-writes : goal.returns-in-Cleared-clause-writes
returns-in-Cleared-clause-writes g c = rw c.in-Cleared.is c.serialize_unit_variant-in-Cleared.ensures.writes

pub returns-in-Paired-clause-writes : goal.returns-in-Paired-clause-writes
returns-in-Paired-clause-writes g c = rw c.in-Paired.is c.serialize_newtype_variant-in-Paired.ensures.writes

pub returns-in-Paired-clause-valid : goal.returns-in-Paired-clause-valid
returns-in-Paired-clause-valid g c = rw c.in-Paired.is c.serialize_newtype_variant-in-Paired.ensures.valid

pub returns-in-Reset-clause-writes : goal.returns-in-Reset-clause-writes
returns-in-Reset-clause-writes g c = rw c.in-Reset.is c.serialize_newtype_variant-in-Reset.ensures.writes

pub returns-in-Reset-clause-valid : goal.returns-in-Reset-clause-valid
returns-in-Reset-clause-valid g c = rw c.in-Reset.is c.serialize_newtype_variant-in-Reset.ensures.valid
