use Rattle.drawn_session.proofs.Counting.{session_count}
use Rattle.drawn_session.proofs.Reading.{session_read, session_stream}
use Rattle.drawn_session.proofs.laws.drawn_bytes_are_frames.Goals as goal

pub returns-clause-frames : goal.returns-clause-frames
returns-clause-frames c = session_read

pub returns-clause-all : goal.returns-clause-all
returns-clause-all c = session_stream

pub returns-clause-count : goal.returns-clause-count
returns-clause-count c = session_count
