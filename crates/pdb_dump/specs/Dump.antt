-- The lines of a file that holds tables: of its age and its tables, of its streams, and of each record and name.
use Rattle.std.specs.Prelude.{ℕ, ◌+◌, List, [], ◌∷◌, ◌++◌, length, take, drop, slice_index_or, codes, decimal, Option, None, Some}
use Rattle.std.specs.List.{flat_map, range_with_len}
use Rattle.byteorder.specs.Endian.{big_bytes, little_number}
use Rattle.hex.specs.Hex.{encode_lower}
use Rattle.msf_blocks.specs.Blocks.{blocks_of_size}
use Rattle.msf_image.specs.declared.image.Image.{Image}
use Rattle.stream_directory.specs.Directory.{StreamBlocks}
use Rattle.record_table.specs.Table.{index_at}
use Rattle.names_table.specs.Names.{bytes_of}
use Rattle.table_model.specs.Cut.{Cut}
use Rattle.pdb_dump.specs.Container.{container_text}

-- the age, and how many types, items and names there are
abbrev pub tables_text : Cut → List ℕ
tables_text cut =
    codes "pdb age=" ++ decimal cut.number ++ codes " types=" ++ decimal (length cut.tables.types.records) ++ codes " items=" ++ decimal (length cut.tables.items.records)
    ++ codes " names=" ++ decimal (length cut.tables.names.names) ++ codes "\n"

-- the two lines of a file that holds this commit
abbrev pub check_text : Image → Cut → List ℕ
check_text image cut = container_text image ++ tables_text cut

-- a line for each number below a count
abbrev pub lines : (ℕ → List ℕ) → ℕ → List ℕ
lines line count = flat_map line (range_with_len 0 count)

-- a stream: its size and how many blocks that takes, or that it is absent
abbrev pub stream_line : ℕ → ℕ → Option StreamBlocks → List ℕ
stream_line block_size i None = codes "stream " ++ decimal i ++ codes " absent\n"
stream_line block_size i (Some stream) =
    codes "stream " ++ decimal i ++ codes " size=" ++ decimal stream.size ++ codes " blocks=" ++ decimal (blocks_of_size block_size stream.size) ++ codes "\n"

abbrev pub stream_lines : Image → List ℕ
stream_lines image = lines (λ i. stream_line image.head.block i (slice_index_or image.directory i None)) (length image.directory)

-- a number of 32 bits in hexadecimal
abbrev pub number_text : ℕ → List ℕ
number_text n = encode_lower (big_bytes 4 n)

-- the kind of a record, in hexadecimal
abbrev pub kind_text : List ℕ → List ℕ
kind_text r = encode_lower (big_bytes 2 (little_number 2 (drop 2 r)))

-- a record: its index, its kind and its bytes
abbrev pub record_line : List ℕ → ℕ → List ℕ → List ℕ
record_line word index r = word ++ codes " " ++ number_text index ++ codes " " ++ kind_text r ++ codes " " ++ encode_lower r ++ codes "\n"

abbrev pub record_lines : List ℕ → List (List ℕ) → List ℕ
record_lines word records = lines (λ i. record_line word (index_at i) (slice_index_or records i [])) (length records)

-- a name: where it begins, and its bytes
abbrev pub name_line : ℕ → List ℕ → List ℕ
name_line offset name = codes "name " ++ number_text offset ++ codes " " ++ encode_lower name ++ codes "\n"

abbrev pub name_lines : List (List ℕ) → List ℕ
name_lines names = lines (λ i. name_line (bytes_of (take i names)) (slice_index_or names i [])) (length names)

-- all of a file that holds this commit
abbrev pub dump_text : Image → Cut → List ℕ
dump_text image cut =
    check_text image cut ++ stream_lines image ++ record_lines (codes "type") cut.tables.types.records ++ record_lines (codes "item") cut.tables.items.records
    ++ name_lines cut.tables.names.names
