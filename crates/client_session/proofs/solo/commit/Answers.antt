use Rattle.std.proofs.Common.{refl}
use Rattle.type_store.specs.Views.{tables_in}
use Rattle.client_session.proofs.Answering.{commits_on, refused_stays}
use Rattle.client_session.proofs.solo.commit.Goals as goal

pub commit_to-answer-requires-clause-goes_on : goal.commit_to-answer-requires-clause-goes_on
commit_to-answer-requires-clause-goes_on g c = (c.book.invariant c.in-Some.file c.in-Some.is).on

pub commit_to-answer-requires-clause-bounds : goal.commit_to-answer-requires-clause-bounds
commit_to-answer-requires-clause-bounds g c = (c.book.invariant c.in-Some.file c.in-Some.is).bounds

pub invariant_of-book : goal.invariant_of-book
invariant_of-book g c =
    let done = c.commit_to-answer in
    commits_on (tables_in c.book.inside.tables) c.in-Some.file done.new.file (c.book.invariant c.in-Some.file c.in-Some.is) done.ensures.goes_on done.ensures.bounds

pub invariant_of-book-in_default-answer : goal.invariant_of-book-in_default-answer
invariant_of-book-in_default-answer g c =
    let done = c.commit_to-answer in
    commits_on (tables_in c.book.inside.tables) c.in-Some.file done.new.file (c.book.invariant c.in-Some.file c.in-Some.is) done.ensures.goes_on done.ensures.bounds

pub returns-in-Ok-clause-commits : goal.returns-in-Ok-clause-commits
returns-in-Ok-clause-commits g c =
    rw (← c.book.view_is) (record { before = c.in-Some.file; after = c.commit_to-answer.new.file; was = c.in-Some.is; is = refl; commits = c.in-Ok.ensures.commits })

pub returns-in_default-answer-clause-commits : goal.returns-in_default-answer-clause-commits
returns-in_default-answer-clause-commits g c =
    rw (← c.book.view_is) (record { before = c.in-Some.file; after = c.commit_to-answer.new.file; was = c.in-Some.is; is = refl; commits = c.commit_to-answer.ensures.commits })

pub returns-in_default-answer-clause-acked : goal.returns-in_default-answer-clause-acked
returns-in_default-answer-clause-acked g c =
    rw (← c.book.view_is) (refused_stays 136 c.book.inside.acked c.book.inside.acked c.commit_to-answer.result refl c.in_default-answer.not-Ok)
