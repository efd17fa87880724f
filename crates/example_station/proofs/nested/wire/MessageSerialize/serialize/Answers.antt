use Rattle.example_station.proofs.nested.wire.MessageSerialize.serialize.Goals as goal

-- each variant writes what the call of its arm says, once the value is known to be that variant
pub returns-in-Text-clause-writes : goal.returns-in-Text-clause-writes
returns-in-Text-clause-writes g c = rw c.in-Text.is c.serialize_newtype_variant.ensures.writes

pub returns-in-Text-clause-valid : goal.returns-in-Text-clause-valid
returns-in-Text-clause-valid g c = rw c.in-Text.is c.serialize_newtype_variant.ensures.valid

pub returns-in-Drawing-clause-writes : goal.returns-in-Drawing-clause-writes
returns-in-Drawing-clause-writes g c = rw c.in-Drawing.is c.serialize_newtype_variant-in-Drawing.ensures.writes

pub returns-in-Drawing-clause-valid : goal.returns-in-Drawing-clause-valid
returns-in-Drawing-clause-valid g c = rw c.in-Drawing.is c.serialize_newtype_variant-in-Drawing.ensures.valid

pub returns-in-Holders-clause-writes : goal.returns-in-Holders-clause-writes
returns-in-Holders-clause-writes g c = rw c.in-Holders.is c.serialize_newtype_variant-in-Holders.ensures.writes

pub returns-in-Holders-clause-valid : goal.returns-in-Holders-clause-valid
returns-in-Holders-clause-valid g c = rw c.in-Holders.is c.serialize_newtype_variant-in-Holders.ensures.valid

pub returns-in-Seen-clause-writes : goal.returns-in-Seen-clause-writes
returns-in-Seen-clause-writes g c = rw c.in-Seen.is c.serialize_newtype_variant-in-Seen.ensures.writes

pub returns-in-Seen-clause-valid : goal.returns-in-Seen-clause-valid
returns-in-Seen-clause-valid g c = rw c.in-Seen.is c.serialize_newtype_variant-in-Seen.ensures.valid

pub returns-in-Lost-clause-writes : goal.returns-in-Lost-clause-writes
returns-in-Lost-clause-writes g c = rw c.in-Lost.is c.serialize_newtype_variant-in-Lost.ensures.writes

pub returns-in-Lost-clause-valid : goal.returns-in-Lost-clause-valid
returns-in-Lost-clause-valid g c = rw c.in-Lost.is c.serialize_newtype_variant-in-Lost.ensures.valid

pub returns-in-Kept-clause-writes : goal.returns-in-Kept-clause-writes
returns-in-Kept-clause-writes g c = rw c.in-Kept.is c.serialize_newtype_variant-in-Kept.ensures.writes

pub returns-in-Kept-clause-valid : goal.returns-in-Kept-clause-valid
returns-in-Kept-clause-valid g c = rw c.in-Kept.is c.serialize_newtype_variant-in-Kept.ensures.valid

pub returns-in-Numbers-clause-writes : goal.returns-in-Numbers-clause-writes
returns-in-Numbers-clause-writes g c = rw c.in-Numbers.is c.serialize_newtype_variant-in-Numbers.ensures.writes

pub returns-in-Numbers-clause-valid : goal.returns-in-Numbers-clause-valid
returns-in-Numbers-clause-valid g c = rw c.in-Numbers.is c.serialize_newtype_variant-in-Numbers.ensures.valid
