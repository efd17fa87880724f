-- The values that the types are read as by their schemas, kind by kind.
use Rattle.schema_table.specs.declared.value.Value.{Value}
use Rattle.schema_table.specs.Schemas.{AtTop, OfBool, OfU8, OfU16, OfU32, OfU64, OfI8, OfI16, OfI32, OfI64, OfChar, OfText, OfBytes, OfOption, OfList, OfGroup, OfVariant, EachHas}
use Rattle.schemas.specs.TypeSchemas.{NoneHave, OneThenHave, LastHas, FirstHas}

-- a group of a `u16`, a `u64`, an `i16` and a `bool`
abbrev pub sensor_reading_kinds : Value → Type 0
sensor_reading_kinds = AtTop (OfGroup (OneThenHave (AtTop OfU16) (OneThenHave (AtTop OfU64) (OneThenHave (AtTop OfI16) (OneThenHave (AtTop OfBool) NoneHave)))))

-- a variant of three, each without fields
abbrev pub level_kinds : Value → Type 0
level_kinds = AtTop (OfVariant (FirstHas (AtTop (OfGroup NoneHave)) (FirstHas (AtTop (OfGroup NoneHave)) (LastHas (AtTop (OfGroup NoneHave))))))

-- a group of a level, a `u64`, a text and an optional `u16`
abbrev pub log_record_kinds : Value → Type 0
log_record_kinds = AtTop (OfGroup (OneThenHave level_kinds (OneThenHave (AtTop OfU64) (OneThenHave (AtTop OfText) (OneThenHave (AtTop (OfOption (AtTop OfU16))) NoneHave)))))

-- a `u32`
abbrev pub address_kinds : Value → Type 0
address_kinds = AtTop OfU32

-- a group of nothing
abbrev pub ping_kinds : Value → Type 0
ping_kinds = AtTop (OfGroup NoneHave)

-- a variant of six: without fields, of a reading, of two pairs, of a text, of a list of readings
abbrev pub command_kinds : Value → Type 0
command_kinds = AtTop (OfVariant (FirstHas (AtTop (OfGroup NoneHave)) (FirstHas sensor_reading_kinds (FirstHas (AtTop (OfGroup (OneThenHave (AtTop OfI32) (OneThenHave (AtTop OfI32) NoneHave)))) (FirstHas (AtTop (OfGroup (OneThenHave (AtTop OfU8) (OneThenHave (AtTop OfU16) NoneHave)))) (FirstHas (AtTop OfText) (LastHas (AtTop (OfList (EachHas sensor_reading_kinds))))))))))

-- a group of a text, a list of readings, an optional level, four of `u16`, and pairs of a `u16` and a text
abbrev pub config_kinds : Value → Type 0
config_kinds = AtTop (OfGroup (OneThenHave (AtTop OfText) (OneThenHave (AtTop (OfList (EachHas sensor_reading_kinds))) (OneThenHave (AtTop (OfOption level_kinds)) (OneThenHave (AtTop (OfGroup (EachHas (AtTop OfU16)))) (OneThenHave (AtTop (OfList (EachHas (AtTop (OfGroup (OneThenHave (AtTop OfU16) (OneThenHave (AtTop OfText) NoneHave))))))) NoneHave))))))

-- a group of an address, a text and bytes
abbrev pub packet_kinds : Value → Type 0
packet_kinds = AtTop (OfGroup (OneThenHave address_kinds (OneThenHave (AtTop OfText) (OneThenHave (AtTop OfBytes) NoneHave))))

-- two rows of six numbers, characters and the like
abbrev pub report_kinds : Value → Type 0
report_kinds = AtTop (OfGroup (OneThenHave (AtTop (OfGroup (OneThenHave (AtTop OfU8) (OneThenHave (AtTop OfU16) (OneThenHave (AtTop OfU32) (OneThenHave (AtTop OfU64) (OneThenHave (AtTop OfI8) (OneThenHave (AtTop OfI16) NoneHave)))))))) (OneThenHave (AtTop (OfGroup (OneThenHave (AtTop OfI32) (OneThenHave (AtTop OfI64) (OneThenHave (AtTop OfBool) (OneThenHave (AtTop OfChar) (OneThenHave (AtTop (OfOption (AtTop OfU8))) (OneThenHave (AtTop (OfGroup (OneThenHave (AtTop OfU8) (OneThenHave (AtTop OfU16) NoneHave)))) NoneHave)))))))) NoneHave)))

-- a variant of twelve
abbrev pub event_kinds : Value → Type 0
event_kinds = AtTop (OfVariant (FirstHas (AtTop (OfGroup NoneHave)) (FirstHas (AtTop (OfGroup NoneHave)) (FirstHas sensor_reading_kinds (FirstHas (AtTop (OfGroup (OneThenHave (AtTop OfI32) (OneThenHave (AtTop OfI32) NoneHave)))) (FirstHas (AtTop OfU32) (FirstHas (AtTop OfChar) (FirstHas (AtTop (OfGroup (OneThenHave (AtTop OfU8) (OneThenHave (AtTop OfU8) NoneHave)))) (FirstHas level_kinds (FirstHas (AtTop (OfOption (AtTop OfU16))) (FirstHas (AtTop (OfGroup NoneHave)) (FirstHas (AtTop (OfGroup (OneThenHave (AtTop OfU8) (OneThenHave (AtTop OfU16) NoneHave)))) (LastHas (AtTop OfBool))))))))))))))
