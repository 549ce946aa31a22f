use denote.Param.Send.{IsSend, sendable}
use Rattle.std.proofs.Crossing.{crosses}
use Rattle.turnstile.specs.contracts.tests.Words as words
use Rattle.turnstile.proofs.Crossing.{moves}
use Rattle.turnstile.proofs.tests.file_in_two_threads.Goals as goal

words_send : IsSend words.the_row
words_send = search (sendable, crosses) depth 20

pub join-requires-send-F : goal.join-requires-send-F
join-requires-send-F g c κs within = search (sendable, crosses, moves, words_send) depth 20

pub join-requires-send-A : goal.join-requires-send-A
join-requires-send-A g c κs within = search (sendable, crosses, moves, words_send) depth 20
