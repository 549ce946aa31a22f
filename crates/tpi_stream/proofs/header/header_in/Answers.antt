use Rattle.tpi_stream.specs.HeaderText.{header_in}
use Rattle.tpi_stream.proofs.header.header_in.Goals as goal

pub returns : goal.returns
unfolding header_in
returns c = λ i. record {
  version = c.word_at.ensures i;
  header_size = c.word_at-2.ensures i;
  begin = c.word_at-3.ensures i;
  end = c.word_at-4.ensures i;
  record_bytes = c.word_at-5.ensures i;
  hash_stream = c.half_at.ensures i;
  aux_stream = c.half_at-2.ensures i;
  key_size = c.word_at-6.ensures i;
  buckets = c.word_at-7.ensures i;
  values_at = c.word_at-8.ensures i;
  values_len = c.word_at-9.ensures i;
  offsets_at = c.word_at-10.ensures i;
  offsets_len = c.word_at-11.ensures i;
  adjusters_at = c.word_at-12.ensures i;
  adjusters_len = c.word_at-13.ensures i;
}
