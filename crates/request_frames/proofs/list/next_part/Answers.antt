use Rattle.request_frames.proofs.list.next_part.Goals as goal

pub returns-clause-part : goal.returns-clause-part
returns-clause-part c = rw (← c.behind.ensures) c.first_part.ensures.part
