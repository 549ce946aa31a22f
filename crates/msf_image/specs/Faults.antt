-- The damage that the superblock or the directory has, and the damage in a fault.
use Rattle.std.specs.Prelude.{ℕ, List, Option, Some, None, codes}
use Rattle.msf_blocks.specs.declared.superblock.SuperFault.{SuperFault}
use Rattle.msf_blocks.specs.declared.superblock.SuperFault.TheVariants as superblock
use Rattle.stream_directory.specs.declared.fault.DirDamage.{DirDamage}
use Rattle.stream_directory.specs.declared.fault.DirDamage.TheVariants as directory
use Rattle.stream_directory.specs.declared.fault.DirFault.{DirFault}
use Rattle.stream_directory.specs.declared.fault.DirFault.TheVariants as directory_fault
use Rattle.msf_image.specs.declared.blocks.ReadFault.{ReadFault}
use Rattle.msf_image.specs.declared.blocks.ReadFault.TheVariants as read
use Rattle.msf_image.specs.declared.fault.Damage.{Damage}
use Rattle.msf_image.specs.declared.fault.DamageKind.{DamageKind}
use Rattle.msf_image.specs.declared.fault.DamageKind.TheVariants as kind
use Rattle.msf_image.specs.declared.fault.OpenFault.{OpenFault}
use Rattle.msf_image.specs.declared.fault.OpenFault.TheVariants as fault

-- the place is that of the number in the superblock
abbrev pub damage_of_superblock : SuperFault → Damage
damage_of_superblock superblock.Magic = record { kind = kind.Magic; place = 0 }
damage_of_superblock superblock.BlockSize = record { kind = kind.BlockSize; place = 32 }
damage_of_superblock superblock.FreeMap = record { kind = kind.FreeMap; place = 36 }
damage_of_superblock superblock.Blocks = record { kind = kind.Blocks; place = 40 }
damage_of_superblock superblock.Directory = record { kind = kind.Directory; place = 44 }
damage_of_superblock superblock.MapAddr = record { kind = kind.MapAddr; place = 52 }

-- the place is an offset in the directory, or a block's number
abbrev pub damage_of_directory : DirDamage → Damage
damage_of_directory (directory.Short at) = record { kind = kind.DirectoryShort; place = at }
damage_of_directory (directory.Extra at) = record { kind = kind.DirectoryExtra; place = at }
damage_of_directory (directory.ReservedBlock block) = record { kind = kind.ReservedBlock; place = block }
damage_of_directory (directory.OutsideFile block) = record { kind = kind.OutsideFile; place = block }
damage_of_directory (directory.BlockTwice block) = record { kind = kind.BlockTwice; place = block }

-- a used block that is free
abbrev pub free_damage : ℕ → Damage
free_damage block = record { kind = kind.BlockFree; place = block }

-- a damage as a fault, and the damage in a fault
abbrev pub fault_of_damage : Damage → OpenFault
fault_of_damage damage = fault.Damage damage.kind damage.place

abbrev pub damage_in : OpenFault → Option Damage
damage_in (fault.Damage kind place) = Some (record { kind = kind; place = place })
damage_in fault.DiskFault = None
damage_in fault.OutOfMemory = None

abbrev pub fault_of_superblock : SuperFault → OpenFault
fault_of_superblock damage = fault_of_damage (damage_of_superblock damage)

abbrev pub fault_of_directory : DirFault → OpenFault
fault_of_directory (directory_fault.Damage damage) = fault_of_damage (damage_of_directory damage)
fault_of_directory directory_fault.OutOfMemory = fault.OutOfMemory

-- why a file was not read on
abbrev pub fault_of_read : ReadFault → OpenFault
fault_of_read read.Failed = fault.DiskFault
fault_of_read read.OutOfMemory = fault.OutOfMemory

-- the word for a kind of damage
abbrev pub kind_text : DamageKind → List ℕ
kind_text kind.Magic = codes "magic"
kind_text kind.BlockSize = codes "block-size"
kind_text kind.FreeMap = codes "free-map"
kind_text kind.Blocks = codes "blocks"
kind_text kind.Directory = codes "directory"
kind_text kind.MapAddr = codes "map-addr"
kind_text kind.ReservedBlock = codes "reserved-block"
kind_text kind.OutsideFile = codes "outside-file"
kind_text kind.BlockTwice = codes "block-twice"
kind_text kind.DirectoryShort = codes "directory-short"
kind_text kind.DirectoryExtra = codes "directory-extra"
kind_text kind.BlockFree = codes "block-free"
kind_text kind.InfoShort = codes "info-short"
kind_text kind.NoNames = codes "no-names"
kind_text kind.TypesHeader = codes "types-header"
kind_text kind.TypesVersion = codes "types-version"
kind_text kind.TypesBegin = codes "types-begin"
kind_text kind.TypesBytes = codes "types-bytes"
kind_text kind.TypesRecord = codes "types-record"
kind_text kind.TypesCount = codes "types-count"
kind_text kind.TypesHash = codes "types-hash"
kind_text kind.ItemsHeader = codes "items-header"
kind_text kind.ItemsVersion = codes "items-version"
kind_text kind.ItemsBegin = codes "items-begin"
kind_text kind.ItemsBytes = codes "items-bytes"
kind_text kind.ItemsRecord = codes "items-record"
kind_text kind.ItemsCount = codes "items-count"
kind_text kind.ItemsHash = codes "items-hash"
kind_text kind.NamesStream = codes "names-stream"
kind_text kind.NamesHeader = codes "names-header"
kind_text kind.NamesSize = codes "names-size"
kind_text kind.NamesText = codes "names-text"
