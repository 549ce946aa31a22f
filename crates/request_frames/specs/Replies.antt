-- Replies as messages, in both versions.
use Rattle.std.specs.Prelude.{◌≡◌, ◌≢◌, ◌≤◌, ◌+◌, ◌⊎◌, ⊤, ℕ, [], ◌++◌, length, All}
use Rattle.srv_edge.specs.declared.code.TheConstants as codes
use Rattle.srv_edge.specs.declared.kind.TheConstants as kinds
use Rattle.srv_edge.specs.declared.space.TheConstants as spaces
use Rattle.srv_edge.specs.Frames.{Message, half_bytes, refused, word_bytes}
use Rattle.request_frames.specs.Lists.{IsPartsLength}
use Rattle.request_frames.specs.declared.reply.Reply.{Reply}
use Rattle.request_frames.specs.declared.reply.Reply.TheVariants.{Hello, AddedType, AddedItem, AddedName, GotType, GotItem, GotName, Committed, Counted, Bye, Parts, Refused}

-- the message of a reply; the parts of the reply to a list are of a space
abbrev pub reply_message : Reply → Message
reply_message (Hello version) = record { kind = kinds.HELLO + kinds.REPLY; body = half_bytes version }
reply_message (AddedType index) = record { kind = kinds.ADD_TYPE + kinds.REPLY; body = word_bytes index }
reply_message (AddedItem index) = record { kind = kinds.ADD_ITEM + kinds.REPLY; body = word_bytes index }
reply_message (AddedName offset) = record { kind = kinds.ADD_NAME + kinds.REPLY; body = word_bytes offset }
reply_message (GotType r) = record { kind = kinds.GET_TYPE + kinds.REPLY; body = r.now }
reply_message (GotItem r) = record { kind = kinds.GET_ITEM + kinds.REPLY; body = r.now }
reply_message (GotName name) = record { kind = kinds.GET_NAME + kinds.REPLY; body = name.now }
reply_message (Committed number) = record { kind = kinds.COMMIT + kinds.REPLY; body = word_bytes number }
reply_message (Counted types items names) = record { kind = kinds.COUNTS + kinds.REPLY; body = word_bytes types ++ word_bytes items ++ word_bytes names }
reply_message Bye = record { kind = kinds.BYE + kinds.REPLY; body = [] }
reply_message (Parts space parts) = record { kind = kinds.ADD_TYPES + space + kinds.REPLY; body = parts.now }
reply_message (Refused code a b) = refused code a b

-- the kinds of replies of both versions
abbrev pub IsCommonReplyKind : ℕ → Type 0
IsCommonReplyKind kind =
    (kind ≡ kinds.HELLO + kinds.REPLY)
    ⊎ (kind ≡ kinds.ADD_TYPE + kinds.REPLY)
    ⊎ (kind ≡ kinds.ADD_ITEM + kinds.REPLY)
    ⊎ (kind ≡ kinds.ADD_NAME + kinds.REPLY)
    ⊎ (kind ≡ kinds.GET_TYPE + kinds.REPLY)
    ⊎ (kind ≡ kinds.GET_ITEM + kinds.REPLY)
    ⊎ (kind ≡ kinds.GET_NAME + kinds.REPLY)
    ⊎ (kind ≡ kinds.COMMIT + kinds.REPLY)
    ⊎ (kind ≡ kinds.COUNTS + kinds.REPLY)
    ⊎ (kind ≡ kinds.BYE + kinds.REPLY)
    ⊎ (kind ≡ kinds.REFUSED)

-- the kinds of replies of a version
abbrev pub IsReplyKind : ℕ → ℕ → Type 0
IsReplyKind version kind =
    IsCommonReplyKind kind ⊎ ((version ≡ 2) × ((kind ≡ kinds.ADD_TYPES + kinds.REPLY) ⊎ (kind ≡ kinds.ADD_ITEMS + kinds.REPLY)))

-- what is answered in a version: one of the two versions, a name without NUL, in version 2 the parts of a list, a refusal of
-- one of the codes
abbrev pub IsReply : ℕ → Reply → Type 0
IsReply version (Hello v) = (1 ≤ v) × (v ≤ 2)
IsReply version (AddedType index) = ⊤
IsReply version (AddedItem index) = ⊤
IsReply version (AddedName offset) = ⊤
IsReply version (GotType r) = ⊤
IsReply version (GotItem r) = ⊤
IsReply version (GotName name) = All (λ b. b ≢ 0) name.now
IsReply version (Committed number) = ⊤
IsReply version (Counted types items names) = ⊤
IsReply version Bye = ⊤
IsReply version (Parts space parts) = (version ≡ 2) × (space ≤ spaces.ITEMS) × IsPartsLength (length parts.now)
IsReply version (Refused code a b) = (codes.BAD_LENGTH ≤ code) × (code ≤ codes.UNDERWAY)

-- a message whose body no reply of its kind has in a version
abbrev pub IsBadReply : ℕ → Message → Type 0
IsBadReply version m = IsReplyKind version m.kind × ((reply : Reply) → IsReply version reply → reply_message reply ≢ m)
