use Rattle.request_frames.proofs.list.next_record.Goals as goal

pub returns-clause-record : goal.returns-clause-record
returns-clause-record c = rw (← c.behind.ensures) c.first_record.ensures.record

pub returns-clause-none : goal.returns-clause-none
returns-clause-none c = rw (← c.behind.ensures) c.first_record.ensures.none
