-- The line of a file that reads as a container, and that of a damage.
use Rattle.std.specs.Prelude.{ℕ, List, ◌++◌, length, codes, decimal}
use Rattle.msf_image.specs.declared.fault.DamageKind.{DamageKind}
use Rattle.msf_image.specs.declared.image.Image.{Image}
use Rattle.msf_image.specs.Faults.{kind_text}

-- the block size, and how many blocks, streams and free blocks the file has
abbrev pub container_text : Image → List ℕ
container_text image =
    codes "msf block=" ++ decimal image.head.block ++ codes " blocks=" ++ decimal image.head.blocks ++ codes " streams=" ++ decimal (length image.directory)
    ++ codes " free=" ++ decimal (length image.free.free) ++ codes "\n"

-- the kind and the place of a damage
abbrev pub damage_text : DamageKind → ℕ → List ℕ
damage_text kind place = codes "damage " ++ kind_text kind ++ codes " " ++ decimal place ++ codes "\n"
