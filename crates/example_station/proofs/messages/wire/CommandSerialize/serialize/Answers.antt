use Rattle.example_station.proofs.messages.wire.CommandSerialize.serialize.Goals as goal

-- each variant writes what the call of its arm says, once the value is known to be that variant
pub returns-in-Stop-clause-writes : goal.returns-in-Stop-clause-writes
returns-in-Stop-clause-writes g c = rw c.in-Stop.is c.serialize_unit_variant.ensures.writes

pub returns-in-Sample-clause-writes : goal.returns-in-Sample-clause-writes
returns-in-Sample-clause-writes g c = rw c.in-Sample.is c.serialize_newtype_variant.ensures.writes

pub returns-in-Sample-clause-valid : goal.returns-in-Sample-clause-valid
returns-in-Sample-clause-valid g c = rw c.in-Sample.is c.serialize_newtype_variant.ensures.valid

pub returns-in-Move-clause-writes : goal.returns-in-Move-clause-writes
returns-in-Move-clause-writes g c = rw c.in-Move.is c.serialize_newtype_variant-in-Move.ensures.writes

pub returns-in-Move-clause-valid : goal.returns-in-Move-clause-valid
returns-in-Move-clause-valid g c = rw c.in-Move.is c.serialize_newtype_variant-in-Move.ensures.valid

pub returns-in-Both-clause-writes : goal.returns-in-Both-clause-writes
returns-in-Both-clause-writes g c = rw c.in-Both.is c.serialize_newtype_variant-in-Both.ensures.writes

pub returns-in-Both-clause-valid : goal.returns-in-Both-clause-valid
returns-in-Both-clause-valid g c = rw c.in-Both.is c.serialize_newtype_variant-in-Both.ensures.valid

pub returns-in-Say-clause-writes : goal.returns-in-Say-clause-writes
returns-in-Say-clause-writes g c = rw c.in-Say.is c.serialize_newtype_variant-in-Say.ensures.writes

pub returns-in-Say-clause-valid : goal.returns-in-Say-clause-valid
returns-in-Say-clause-valid g c = rw c.in-Say.is c.serialize_newtype_variant-in-Say.ensures.valid

pub returns-in-Many-clause-writes : goal.returns-in-Many-clause-writes
returns-in-Many-clause-writes g c = rw c.in-Many.is c.serialize_newtype_variant-in-Many.ensures.writes

pub returns-in-Many-clause-valid : goal.returns-in-Many-clause-valid
returns-in-Many-clause-valid g c = rw c.in-Many.is c.serialize_newtype_variant-in-Many.ensures.valid
