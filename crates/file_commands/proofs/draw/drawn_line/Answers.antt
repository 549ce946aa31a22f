use Rattle.std.proofs.Common.{◌∙◌, length, sym, ap, arith}
use Rattle.srv_edge.specs.declared.still.StillDevice.{StillDevice}
use Rattle.drawn_session.specs.Requests.{session_bytes}
use Rattle.hub.specs.Books.{BookView}
use Rattle.file_commands.proofs.Drawing.{drawn, if_ok_then, replies_to, same_line}
use Rattle.file_commands.proofs.draw.drawn_line.Goals as goal

pub returns : goal.returns
returns c =
    let new = c.hash_of_replies.new.book in
    let units = c.args.units in
    let seed = c.args.seed in
    let hash = c.in_ok-hash.hash in
    let replies = replies_to _ (session_bytes units seed) c.in_ok-bytes.bytes.items hash c.in_ok-book.book new c.in_ok-bytes.ensures c.in_ok-hash.ensures in
    let there = sym (ap (λ (b : BookView StillDevice). b.file) c.book.view_is) ∙ c.in-Some.is in
    let session = drawn _ units seed hash c.in_ok-book.book new c.in-Some.file (λ device image none. none) c.in_ok-book.ensures replies there (omega (arith, c.faults.ensures, c.if-faults-gt0.false)) in
    let types = c.len.ensures.count ∙ ap (λ (b : BookView StillDevice). length b.tables.types.records) c.book.view_is in
    let items = c.len-2.ensures.count ∙ ap (λ (b : BookView StillDevice). length b.tables.items.records) c.book.view_is in
    let names = c.len-3.ensures ∙ ap (λ (b : BookView StillDevice). length b.tables.names.names) c.book.view_is in
    if_ok_then c.line.result _ _
    (λ line is. record {
      tables = new.tables;
      sent = replies.sent;
      drawn = session;
      is = is ∙ same_line units _ _ _ _ _ _ _ _ types items names replies.hash_is;
    })
    c.line.ensures
