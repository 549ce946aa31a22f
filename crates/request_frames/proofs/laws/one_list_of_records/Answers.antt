use Rattle.request_frames.proofs.Listing.{one_list}
use Rattle.request_frames.proofs.laws.one_list_of_records.Goals as goal

pub returns : goal.returns
returns c = one_list
