use Rattle.std.proofs.Common.{◌≡◌, ◌++◌, ℕ, List, ap, ◌∙◌, codes}
use Rattle.msf_image.specs.declared.image.Image.{Image}
use Rattle.table_model.specs.File.{newest_cut}
use Rattle.type_store.specs.Files.{cut_of}
use Rattle.type_store.specs.Views.{tables_in}
use Rattle.pdb_dump.specs.Dump.{check_text, name_lines, record_lines, stream_lines}
use Rattle.pdb_dump.proofs.tables.dump_text.Goals as goal

pub returns : goal.returns
returns g c =
    let tables = tables_in c.args.tables.now in
    let image = c.args.file.now.image in
    let lines = check_text image (cut_of (newest_cut c.args.file.now.file).number tables) in
    let text : c.in_ok-text.text.items ≡ lines = c.in_ok-text.ensures in
    let put_streams : c.put_streams.new.text.items ≡ c.in_ok-text.text.items ++ stream_lines c.image-image.result.now = c.in_ok-put_streams.ensures in
    let streams : c.put_streams.new.text.items ≡ lines ++ stream_lines image =
    put_streams ∙ ap (λ (x : List ℕ). x ++ stream_lines c.image-image.result.now) text ∙ ap (λ (m : Image). lines ++ stream_lines m) c.image-image.ensures.image
    in
    let put_types : c.put_records.new.text.items ≡ c.put_streams.new.text.items ++ record_lines (codes "type") c.records.result.now = c.in_ok-put_records.ensures in
    let types : c.put_records.new.text.items ≡ lines ++ stream_lines image ++ record_lines (codes "type") tables.types.records =
    put_types ∙ ap (λ (x : List ℕ). x ++ record_lines (codes "type") c.records.result.now) streams
    ∙ ap (λ (r : List (List ℕ)). lines ++ stream_lines image ++ record_lines (codes "type") r) c.records.ensures.records
    in
    let put_items : c.put_records-2.new.text.items ≡ c.put_records.new.text.items ++ record_lines (codes "item") c.records-2.result.now = c.in_ok-put_records-2.ensures in
    let items : c.put_records-2.new.text.items ≡ lines ++ stream_lines image ++ record_lines (codes "type") tables.types.records ++ record_lines (codes "item") tables.items.records =
    put_items ∙ ap (λ (x : List ℕ). x ++ record_lines (codes "item") c.records-2.result.now) types
    ∙ ap (λ (r : List (List ℕ)). lines ++ stream_lines image ++ record_lines (codes "type") tables.types.records ++ record_lines (codes "item") r) c.records-2.ensures.records
    in
    let put_names : c.put_names.new.text.items ≡ c.put_records-2.new.text.items ++ name_lines tables.names.names = c.in_ok-put_names.ensures in
    put_names ∙ ap (λ (x : List ℕ). x ++ name_lines tables.names.names) items
