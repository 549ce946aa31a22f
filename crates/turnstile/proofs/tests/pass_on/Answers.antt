use denote.Param.Send.{IsSend, sendable}
use Rattle.std.proofs.Crossing.{crosses}
use Rattle.turnstile.specs.contracts.tests.Words as words
use Rattle.turnstile.proofs.Crossing.{moves}
use Rattle.turnstile.proofs.tests.pass_on.Goals as goal

words_send : IsSend words.the_row
words_send = search (sendable, crosses) depth 20

pub join-one-requires-send-F : goal.join-one-requires-send-F
join-one-requires-send-F g c κs within = search (sendable, crosses, moves, words_send) depth 20

pub join-one-requires-send-A : goal.join-one-requires-send-A
join-one-requires-send-A g c κs within = search (sendable, crosses, moves, words_send) depth 20

pub join-two-requires-send-F : goal.join-two-requires-send-F
join-two-requires-send-F g c κs within = search (sendable, crosses, moves, words_send) depth 20

pub join-two-requires-send-A : goal.join-two-requires-send-A
join-two-requires-send-A g c κs within = search (sendable, crosses, moves, words_send) depth 20
