-- The hashes of bytes. All sums and products are modulo 2 ^ 32.
use Rattle.std.specs.Prelude.{ℕ, ◌+◌, ◌*◌, ◌/◌, ◌%◌, ◌^◌, ◌==◌, List, [], ◌∷◌, fold, bit_or, bit_xor, if◌then◌else◌}
use Rattle.byteorder.specs.Endian.{little_number}

-- a word of four bytes, and a half word of two, the lowest byte first
abbrev pub word : ℕ → ℕ → ℕ → ℕ → ℕ
word a b c d = little_number 4 (a ∷ b ∷ c ∷ d ∷ [])

abbrev pub half_word : ℕ → ℕ → ℕ
half_word a b = little_number 2 (a ∷ b ∷ [])

-- The bytes cut into words of four. Of a rest, two bytes are a half word, and then a last one stands alone.
abbrev pub words_and_halves : List ℕ → List ℕ
words_and_halves (a ∷ b ∷ c ∷ d ∷ bytes) = word a b c d ∷ words_and_halves bytes
words_and_halves (a ∷ b ∷ c ∷ []) = half_word a b ∷ c ∷ []
words_and_halves (a ∷ b ∷ []) = half_word a b ∷ []
words_and_halves (a ∷ []) = a ∷ []
words_and_halves [] = []

-- The bytes cut into words of four. Each byte of a rest stands alone.
abbrev pub words_and_bytes : List ℕ → List ℕ
words_and_bytes (a ∷ b ∷ c ∷ d ∷ bytes) = word a b c d ∷ words_and_bytes bytes
words_and_bytes (a ∷ b ∷ c ∷ []) = a ∷ b ∷ c ∷ []
words_and_bytes (a ∷ b ∷ []) = a ∷ b ∷ []
words_and_bytes (a ∷ []) = a ∷ []
words_and_bytes [] = []

-- x with x >> k joined in
abbrev pub folded : ℕ → ℕ → ℕ
folded x k = bit_xor x (x / 2 ^ k)

-- the first version: the words joined by exclusive-or, lower case, folded twice
unfoldable pub finished_v1 : ℕ → ℕ
finished_v1 x = folded (folded (bit_or x 0x20202020) 11) 16

unfoldable pub string_v1_of : List ℕ → ℕ
string_v1_of bytes = finished_v1 (fold bit_xor 0 (words_and_halves bytes))

-- the second version: one more word
unfoldable pub mixed : ℕ → ℕ → ℕ
mixed hash w =
    let added = (hash + w) % 2 ^ 32 in
    let shifted = (added + (added * 2 ^ 10) % 2 ^ 32) % 2 ^ 32 in
    folded shifted 6

unfoldable pub string_v2_of : List ℕ → ℕ
string_v2_of bytes = ((fold mixed 0xB170A1BF (words_and_bytes bytes) * 1664525) % 2 ^ 32 + 1013904223) % 2 ^ 32

-- The cyclic redundancy check of 32 bits with the reflected polynomial EDB88320: one bit more, the
-- lowest, and eight of them.
unfoldable pub crc_bit : ℕ → ℕ
crc_bit crc = if crc % 2 == 1 then bit_xor (crc / 2) 0xEDB88320 else crc / 2

abbrev pub eight_bits : ℕ → ℕ
eight_bits crc = crc_bit (crc_bit (crc_bit (crc_bit (crc_bit (crc_bit (crc_bit (crc_bit crc)))))))

unfoldable pub crc_byte : ℕ → ℕ → ℕ
crc_byte crc byte = eight_bits (bit_xor crc byte)

-- the check begins with 0, and its end is not inverted
unfoldable pub buffer_of : List ℕ → ℕ
buffer_of bytes = fold crc_byte 0 bytes
