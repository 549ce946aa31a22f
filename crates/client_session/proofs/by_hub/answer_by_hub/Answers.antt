use Rattle.std.proofs.Common.{[], refl}
use Rattle.srv_edge.specs.Frames.{half_bytes, spoken}
use Rattle.table_model.specs.Calls.{index_answer}
use Rattle.table_model.specs.declared.call.Call.TheVariants as call
use Rattle.request_frames.specs.Requests.{hello, add_name, commit, bye, add_types, add_items}
use Rattle.leaf_grammar.specs.declared.grammar.Space.TheVariants.{Types, Items}
use Rattle.client_session.specs.Tables.{index_reply}
use Rattle.client_session.proofs.Ending.{made_by}
use Rattle.client_session.proofs.Passing.{calls_each, ended_by_it, ended_calls, place_of_index}
use Rattle.client_session.proofs.Sharing.{puts}
use Rattle.client_session.proofs.by_hub.answer_by_hub.Goals as goal

pub returns-in-Hello-clause-puts : goal.returns-in-Hello-clause-puts
returns-in-Hello-clause-puts g c =
    rw c.in-Hello.is (puts c.args.head c.args.pass.now (hello c.in-Hello.version) (record { kind = 129; body = half_bytes (spoken c.in-Hello.version) }) c.write_hello.new.out c.args.pass.now c.write_hello.ensures (refl, refl))

pub returns-in-AddType-clause-ended : goal.returns-in-AddType-clause-ended
returns-in-AddType-clause-ended g c =
    let added = c.add-answer in
    ended_by_it c.args.pass.now (call.AddType c.in-AddType.bytes.now) (index_answer added.result) added.new.pass added.ensures.called c.requires.ended

pub returns-in-AddItem-clause-ended : goal.returns-in-AddItem-clause-ended
returns-in-AddItem-clause-ended g c =
    let added = c.add-answer-in-AddItem in
    ended_by_it c.args.pass.now (call.AddItem c.in-AddItem.bytes.now) (index_answer added.result) added.new.pass added.ensures.called c.requires.ended

pub returns-in-AddName-clause-puts : goal.returns-in-AddName-clause-puts
returns-in-AddName-clause-puts g c =
    rw c.in-AddName.is (puts c.args.head c.args.pass.now (add_name c.in-AddName.name.now) (index_reply 132 c.add_name.result) c.write_index-in-AddName.new.out c.add_name.new.pass c.write_index-in-AddName.ensures
    (index_answer c.add_name.result, refl, record { made = place_of_index c.args.pass.now (call.AddName c.in-AddName.name.now) c.add_name.result c.add_name.new.pass c.add_name.ensures.reply; same = c.add_name.ensures.same; sound = c.add_name.ensures.sound }))

pub returns-in-AddName-clause-ended : goal.returns-in-AddName-clause-ended
returns-in-AddName-clause-ended g c =
    ended_by_it c.args.pass.now (call.AddName c.in-AddName.name.now) (index_answer c.add_name.result) c.add_name.new.pass
    (record { made = place_of_index c.args.pass.now (call.AddName c.in-AddName.name.now) c.add_name.result c.add_name.new.pass c.add_name.ensures.reply; same = c.add_name.ensures.same; sound = c.add_name.ensures.sound }) c.requires.ended

pub returns-in-GetType-clause-ended : goal.returns-in-GetType-clause-ended
returns-in-GetType-clause-ended g c = let put = c.get.ensures.puts in ended_by_it c.args.pass.now (call.GetType c.in-GetType.index) put.answered c.get.new.pass put.called c.requires.ended

pub returns-in-GetItem-clause-ended : goal.returns-in-GetItem-clause-ended
returns-in-GetItem-clause-ended g c = let put = c.get-in-GetItem.ensures.puts in ended_by_it c.args.pass.now (call.GetItem c.in-GetItem.index) put.answered c.get-in-GetItem.new.pass put.called c.requires.ended

pub returns-in-GetName-clause-ended : goal.returns-in-GetName-clause-ended
returns-in-GetName-clause-ended g c = let put = c.get-in-GetName.ensures.puts in ended_by_it c.args.pass.now (call.GetName c.in-GetName.offset) put.answered c.get-in-GetName.new.pass put.called c.requires.ended

pub returns-in-Commit-clause-puts : goal.returns-in-Commit-clause-puts
returns-in-Commit-clause-puts g c =
    let put = c.commit.ensures.puts in
    rw c.in-Commit.is (puts c.args.head c.args.pass.now commit (index_reply 136 put.answered) c.commit.new.out c.commit.new.pass put.spelled (put.answered, refl, put.called))

pub returns-in-Commit-clause-ended : goal.returns-in-Commit-clause-ended
returns-in-Commit-clause-ended g c = let put = c.commit.ensures.puts in (made_by c.args.pass.now put.answered c.commit.new.pass put.called).ended c.requires.ended

pub returns-in-Counts-clause-ended : goal.returns-in-Counts-clause-ended
returns-in-Counts-clause-ended g c = let put = c.count.ensures.puts in ended_by_it c.args.pass.now call.Counts put.answered c.count.new.pass put.called c.requires.ended

pub returns-in-Bye-clause-puts : goal.returns-in-Bye-clause-puts
returns-in-Bye-clause-puts g c = rw c.in-Bye.is (puts c.args.head c.args.pass.now bye (record { kind = 138; body = [] }) c.write_reply.new.out c.args.pass.now c.write_reply.ensures (refl, refl))

pub returns-in-AddTypes-clause-puts : goal.returns-in-AddTypes-clause-puts
returns-in-AddTypes-clause-puts g c =
    let added = c.add_list.ensures.puts in
    rw c.in-AddTypes.is (puts c.args.head c.args.pass.now (add_types c.in-AddTypes.list.now) (record { kind = 139; body = added.0 }) c.add_list.new.out c.add_list.new.pass added.1 (added.0, refl, added.2))

pub returns-in-AddTypes-clause-ended : goal.returns-in-AddTypes-clause-ended
returns-in-AddTypes-clause-ended g c =
    let added = c.add_list.ensures.puts in
    ended_calls c.args.pass.now c.add_list.new.pass (calls_each Types c.args.pass.now added.2.0 added.0 c.add_list.new.pass added.2.2) c.requires.ended

pub returns-in-AddItems-clause-puts : goal.returns-in-AddItems-clause-puts
returns-in-AddItems-clause-puts g c =
    let added = c.add_list-in-AddItems.ensures.puts in
    rw c.in-AddItems.is (puts c.args.head c.args.pass.now (add_items c.in-AddItems.list.now) (record { kind = 140; body = added.0 }) c.add_list-in-AddItems.new.out c.add_list-in-AddItems.new.pass added.1 (added.0, refl, added.2))

pub returns-in-AddItems-clause-ended : goal.returns-in-AddItems-clause-ended
returns-in-AddItems-clause-ended g c =
    let added = c.add_list-in-AddItems.ensures.puts in
    ended_calls c.args.pass.now c.add_list-in-AddItems.new.pass (calls_each Items c.args.pass.now added.2.0 added.0 c.add_list-in-AddItems.new.pass added.2.2) c.requires.ended
