-- The commit that a file holds, said of its bytes; or the first test that it fails.
use Rattle.std.specs.Prelude.{◌≡◌, ℕ, List, [], ◌∷◌, Some, Result, Ok, Err}
use Rattle.msf_blocks.specs.Judging.{◌>>=◌}
use Rattle.msf_image.specs.declared.fault.Damage.{Damage}
use Rattle.msf_image.specs.declared.image.Image.{Image}
use Rattle.msf_image.specs.Reads.{read_file}
use Rattle.msf_image.specs.Relation.{contents_in}
use Rattle.table_model.specs.Bounds.{Bounds}
use Rattle.table_model.specs.Cut.{Cut}
use Rattle.type_store.specs.Holds.{Contents, Held, holding, tables_of}

-- The contents of all streams of an image. Stream 0 is not read: it counts as one of no bytes.
abbrev pub contents_of : List ℕ → Image → Contents
contents_of file image = Some [] ∷ contents_in file image

-- what the streams of a file hold, behind the tests of its container
abbrev pub held_from : Bounds → List ℕ → Image → Result Held Damage
held_from bounds file image = holding bounds (contents_of file image)

-- what a file holds, or the first test that it fails
unfoldable pub held_in : Bounds → List ℕ → Result Held Damage
held_in bounds file = do
  image ← read_file file bounds.blocks
  held_from bounds file image

-- the commit that is held
abbrev pub cut_held : Bounds → Held → Cut
cut_held bounds held = record { number = held.age; tables = tables_of bounds held }

abbrev pub cut_told : Bounds → Result Held Damage → Result Cut Damage
cut_told bounds (Ok held) = Ok (cut_held bounds held)
cut_told bounds (Err damage) = Err damage

-- The file holds a commit of this number, with these tables. A file holds at most one.
abbrev pub Holds : Bounds → List ℕ → Cut → Type 0
Holds bounds file cut = cut_told bounds (held_in bounds file) ≡ Ok cut

-- the file holds a commit that has P
abbrev pub HoldsOne : Bounds → (Cut → Type 0) → List ℕ → Type 0
HoldsOne bounds P file = (cut : Cut) × P cut × Holds bounds file cut
