-- A body that is no refusal's is none of any reply of that kind.
use Rattle.std.proofs.Common.{◌≢◌, ◌≤◌, ℕ, List, ap, arith}
use Rattle.srv_edge.specs.declared.kind.TheConstants as kinds
use Rattle.srv_edge.specs.Frames.{refused}
use Rattle.request_frames.specs.Replies.{IsReply, reply_message}
use Rattle.request_frames.specs.declared.reply.Reply.{Reply}
use Rattle.request_frames.specs.declared.reply.Reply.TheVariants.{Hello, AddedType, AddedItem, AddedName, GotType, GotItem, GotName, Committed, Counted, Bye, Parts, Refused}

pub no_refusal : (version : ℕ) (body : List ℕ) → ((code a b : ℕ) → 1 ≤ code → code ≤ 9 → (refused code a b).body ≢ body)
    → (reply : Reply) → IsReply version reply → reply_message reply ≢ record { kind = kinds.REFUSED; body = body }
no_refusal version body bad (Hello v) is = λ e. omega (arith, ap (λ m. m.kind) e)
no_refusal version body bad (AddedType index) is = λ e. omega (arith, ap (λ m. m.kind) e)
no_refusal version body bad (AddedItem index) is = λ e. omega (arith, ap (λ m. m.kind) e)
no_refusal version body bad (AddedName offset) is = λ e. omega (arith, ap (λ m. m.kind) e)
no_refusal version body bad (GotType r) is = λ e. omega (arith, ap (λ m. m.kind) e)
no_refusal version body bad (GotItem r) is = λ e. omega (arith, ap (λ m. m.kind) e)
no_refusal version body bad (GotName name) is = λ e. omega (arith, ap (λ m. m.kind) e)
no_refusal version body bad (Committed number) is = λ e. omega (arith, ap (λ m. m.kind) e)
no_refusal version body bad (Counted types items names) is = λ e. omega (arith, ap (λ m. m.kind) e)
no_refusal version body bad Bye is = λ e. omega (arith, ap (λ m. m.kind) e)
no_refusal version body bad (Parts space parts) is = λ e. omega (arith, is.1, ap (λ m. m.kind) e)
no_refusal version body bad (Refused code a b) is = λ e. bad code a b is.0 is.1 (ap (λ m. m.body) e)
