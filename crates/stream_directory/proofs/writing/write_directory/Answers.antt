use Rattle.std.proofs.Common.{◌≡◌, ◌+◌, ◌*◌, length, refl}
use Rattle.std.specs.List.{flat_map}
use Rattle.stream_directory.specs.Directory.{Spells, blocks_in, directory_text}
use Rattle.stream_directory.proofs.Streams.{Spells-directory_text, length-directory_text, on_written}
use Rattle.stream_directory.proofs.writing.write_directory.Goals as goal

pub returns-clause-len : goal.returns-clause-len
returns-clause-len c =
    let d = c.args.d.now in
    on_written d c.put_directory.result (λ text. length text ≡ 4 + 4 * length d + 4 * length (flat_map blocks_in d)) c.put_directory.ensures (length-directory_text d)

pub returns-clause-spells : goal.returns-clause-spells
returns-clause-spells c = λ block_size none.
    let d = c.args.d.now in
    on_written d c.put_directory.result (λ text. Spells block_size text d) c.put_directory.ensures (Spells-directory_text block_size d (directory_text d) none refl)
