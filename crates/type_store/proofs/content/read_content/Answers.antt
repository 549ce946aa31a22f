use Rattle.std.proofs.Common.{◌≡◌, ℕ, Bool, true, List, length, Option, None, Some, Result, Ok, Err, IfOk, refl, sym, ap, ◌∙◌}
use Rattle.std.specs.Option.{is_some, option_map}
use Rattle.msf_image.specs.declared.image.Image.{Image}
use Rattle.std.specs.Global.{Vec}
use Rattle.msf_image.specs.declared.fault.OpenFault.{OpenFault}
use Rattle.stream_directory.specs.Directory.{StreamBlocks, stream_at}
use Rattle.committer.specs.Stored.{newest}
use Rattle.type_store.proofs.content.read_content.Goals as goal

-- what is read of a stream that is there has its size
sized : (x : Option StreamBlocks) (r : Result (Vec ℕ) OpenFault) → is_some (option_map (λ (s : StreamBlocks). s.size) x) ≡ true
    → ((s : StreamBlocks) → x ≡ Some s → IfOk r (λ bytes. length bytes.items ≡ s.size)) → IfOk r (λ bytes. option_map (λ (s : StreamBlocks). s.size) x ≡ Some (length bytes.items))
sized None r there each = absurd cc
sized (Some s) (Ok bytes) there each = ap Some (sym (each s refl))
sized (Some s) (Err fault) there each = tt

pub returns-clause-size : goal.returns-clause-size
returns-clause-size g c =
    let streams = (newest c.args.store.now.file).directory in
    let size : c.size.result ≡ option_map (λ (s : StreamBlocks). s.size) (stream_at streams c.args.number) =
    c.size.ensures ∙ ap (λ (image : Image). option_map (λ (s : StreamBlocks). s.size) (stream_at image.directory c.args.number)) c.image.ensures.newest in
    let there : is_some c.size.result ≡ true = c.if-is_none.ensures in
    sized (stream_at streams c.args.number) c.read_stream.result (ap is_some (sym size) ∙ there) (λ s is. c.read_stream.ensures.size s c.requires.behind_first is)
