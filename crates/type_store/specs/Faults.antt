-- The damage of a file that a fault of one of its streams is.
use Rattle.std.specs.Prelude.{ℕ}
use Rattle.info_stream.specs.declared.fault.InfoFault.{InfoFault}
use Rattle.info_stream.specs.declared.fault.InfoFault.TheVariants as info
use Rattle.leaf_grammar.specs.declared.grammar.Space.{Space}
use Rattle.leaf_grammar.specs.declared.grammar.Space.TheVariants.{Types, Items}
use Rattle.msf_image.specs.declared.fault.Damage.{Damage}
use Rattle.msf_image.specs.declared.fault.DamageKind.{DamageKind}
use Rattle.msf_image.specs.declared.fault.DamageKind.TheVariants as kind
use Rattle.msf_image.specs.declared.fault.OpenFault.{OpenFault}
use Rattle.msf_image.specs.declared.fault.OpenFault.TheVariants as fault
use Rattle.msf_image.specs.Faults.{fault_of_damage}
use Rattle.names_table.specs.declared.fault.NamesFault.{NamesFault}
use Rattle.names_table.specs.declared.fault.NamesFault.TheVariants as names
use Rattle.tpi_stream.specs.declared.fault.TpiFault.{TpiFault}
use Rattle.tpi_stream.specs.declared.fault.TpiFault.TheVariants as records

abbrev pub damage_at : DamageKind → ℕ → Damage
damage_at kind place = record { kind = kind; place = place }

-- of the PDB stream
abbrev pub info_damage : InfoFault → Damage
info_damage (info.Short at) = damage_at kind.InfoShort at
info_damage info.NoName = damage_at kind.NoNames 0

-- Of the stream of types. No judgement says that memory is wanted, so the last line stands for no damage, here as below.
abbrev pub types_damage : TpiFault → Damage
types_damage (records.Header at) = damage_at kind.TypesHeader at
types_damage (records.Version at) = damage_at kind.TypesVersion at
types_damage (records.Begin at) = damage_at kind.TypesBegin at
types_damage (records.Bytes at) = damage_at kind.TypesBytes at
types_damage (records.Record at) = damage_at kind.TypesRecord at
types_damage (records.Count at) = damage_at kind.TypesCount at
types_damage records.OutOfMemory = damage_at kind.TypesHeader 0

-- of the stream of items
abbrev pub items_damage : TpiFault → Damage
items_damage (records.Header at) = damage_at kind.ItemsHeader at
items_damage (records.Version at) = damage_at kind.ItemsVersion at
items_damage (records.Begin at) = damage_at kind.ItemsBegin at
items_damage (records.Bytes at) = damage_at kind.ItemsBytes at
items_damage (records.Record at) = damage_at kind.ItemsRecord at
items_damage (records.Count at) = damage_at kind.ItemsCount at
items_damage records.OutOfMemory = damage_at kind.ItemsHeader 0

abbrev pub record_damage : Space → TpiFault → Damage
record_damage Types fault = types_damage fault
record_damage Items fault = items_damage fault

-- that a stream is not there counts as one of no bytes
abbrev pub absent_damage : Space → Damage
absent_damage space = record_damage space (records.Header 0)

-- the number of the hash stream is none that it may have
abbrev pub hash_damage : Space → Damage
hash_damage Types = damage_at kind.TypesHash 20
hash_damage Items = damage_at kind.ItemsHash 20

-- of the stream of names
abbrev pub names_damage : NamesFault → Damage
names_damage (names.Header at) = damage_at kind.NamesHeader at
names_damage (names.Size at) = damage_at kind.NamesSize at
names_damage (names.Text at) = damage_at kind.NamesText at
names_damage names.OutOfMemory = damage_at kind.NamesHeader 0

-- what a fault of a stream is, where memory may be wanted too
abbrev pub record_fault : Space → TpiFault → OpenFault
record_fault space records.OutOfMemory = fault.OutOfMemory
record_fault space f = fault_of_damage (record_damage space f)

abbrev pub names_fault : NamesFault → OpenFault
names_fault names.OutOfMemory = fault.OutOfMemory
names_fault f = fault_of_damage (names_damage f)
