use Rattle.std.proofs.Common.{ap, ◌∙◌, take, arith}
use Rattle.std.proofs.lemmas.List.{length-take}
use Rattle.msf_image.proofs.Directories.{streams_err, streams_ok}
use Rattle.msf_image.proofs.open.read_streams.Goals as goal

pub returns-in_err-read_directory_behind-clause-reads : goal.returns-in_err-read_directory_behind-clause-reads
returns-in_err-read_directory_behind-clause-reads g c = λ tells.
    streams_err _ _ c.args.head.now _ c.args.listed.now _ c.in_err-read_directory_behind.field-0.0 (ap (take c.args.head.now.dir_bytes) (c.deref.ensures.value ∙ c.in_ok-bytes.ensures.bytes tells)) c.from_residual-in_err-read_directory_behind.ensures.1 c.in_err-read_directory_behind.ensures.exact

pub returns-clause-reads : goal.returns-clause-reads
returns-clause-reads g c = λ tells.
    streams_ok c.args.head.now _ c.args.listed.now _ _ (ap (take c.args.head.now.dir_bytes) (c.deref.ensures.value ∙ c.in_ok-bytes.ensures.bytes tells)) c.in_ok-read_directory_behind.ensures.exact

pub returns-clause-short : goal.returns-clause-short
returns-clause-short g c = record {
  text = _;
  spelled = c.in_ok-read_directory_behind.ensures.spelled;
  short = omega (arith, length-take c.args.head.now.dir_bytes c.deref.result.now);
}
