use Rattle.request_frames.specs.Requests.{asked}
use Rattle.type_store.specs.Views.{tables_in}
use Rattle.client_session.proofs.Answering.{kept_on}
use Rattle.client_session.proofs.solo.SoloDesk.answer.Goals as goal

pub invariant_of-book : goal.invariant_of-book
invariant_of-book g c =
    let put = c.answer_by_tables.ensures in
    kept_on (tables_in c.book.inside.tables) (tables_in c.answer_by_tables.new.tables) c.book.inside.file (asked c.args.request.now) put.reply c.book.invariant put.answered.answered
