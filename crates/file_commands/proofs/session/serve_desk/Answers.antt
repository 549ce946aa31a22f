use Rattle.client_session.proofs.Course.{served}
use Rattle.srv_edge.specs.declared.limit.TheConstants.{SESSION_BYTES}
use Rattle.file_commands.proofs.session.serve_desk.Goals as goal

pub returns-clause-serves : goal.returns-clause-serves
returns-clause-serves g c =
    let serves = c.serve_link.ensures.serves in
    record {
      read = serves.read;
      sent = serves.sent;
      served = served g.D.Device (λ s. s.book.now) SESSION_BYTES c.args.desk.now c.serve_link.new.desk serves.read serves.sent c.serve_link.result serves.session serves.disk_faults_rose;
      came = serves.came;
      went = serves.went;
      none_left = serves.none_left;
      reads = serves.reads;
      writes = serves.writes;
      ends = c.serve_link.ensures.end;
      never_falls = serves.desk_count;
      loans = cc serves.desk_loans;
      file_there = c.serve_link.new.desk.there;
    }
