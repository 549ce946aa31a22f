-- A request is read off its message.
use Rattle.std.proofs.Common.{◌≡◌, ◌<◌, ◌^◌, ◌==◌, ℕ, cond, [], refl, sym, ap, ◌∙◌}
use Rattle.std.proofs.lemmas.List.{append-nil}
use Rattle.byteorder.specs.Endian.{little_number}
use Rattle.srv_edge.specs.Frames.{Message, half_bytes, word_bytes}
use Rattle.srv_edge.proofs.Numbers.{little_number-half, little_number-word}
use Rattle.request_frames.specs.Requests.{Asked, IsAsked, request_message, hello, add_type, add_item, add_name, get_type, get_item, get_name, commit, counts, bye, add_types, add_items}

-- the request that a kind and a body stand for
abbrev read_back : Message → Asked
read_back f =
    cond (f.kind == 1) (hello (little_number 2 f.body))
    (cond (f.kind == 2) (add_type f.body)
    (cond (f.kind == 3) (add_item f.body)
    (cond (f.kind == 4) (add_name f.body)
    (cond (f.kind == 5) (get_type (little_number 4 f.body))
    (cond (f.kind == 6) (get_item (little_number 4 f.body))
    (cond (f.kind == 7) (get_name (little_number 4 f.body))
    (cond (f.kind == 8) commit
    (cond (f.kind == 9) counts
    (cond (f.kind == 10) bye
    (cond (f.kind == 11) (add_types f.body) (add_items f.body)))))))))))

half_back : (n : ℕ) → n < 2 ^ 16 → little_number 2 (half_bytes n) ≡ n
half_back n lt = ap (little_number 2) (sym (append-nil (half_bytes n))) ∙ little_number-half n [] lt

word_back : (n : ℕ) → n < 2 ^ 32 → little_number 4 (word_bytes n) ≡ n
word_back n lt = ap (little_number 4) (sym (append-nil (word_bytes n))) ∙ little_number-word n [] lt

reads_back : (version : ℕ) (a : Asked) → IsAsked version a → read_back (request_message a) ≡ a
reads_back version (hello v) is = ap hello (half_back v is.1)
reads_back version (add_type r) is = refl
reads_back version (add_item r) is = refl
reads_back version (add_name name) is = refl
reads_back version (get_type index) is = ap get_type (word_back index is)
reads_back version (get_item index) is = ap get_item (word_back index is)
reads_back version (get_name offset) is = ap get_name (word_back offset is)
reads_back version commit is = refl
reads_back version counts is = refl
reads_back version bye is = refl
reads_back version (add_types list) is = refl
reads_back version (add_items list) is = refl

pub one_request : (version : ℕ) (a b : Asked) → IsAsked version a → IsAsked version b → request_message a ≡ request_message b → a ≡ b
one_request version a b is is' e = sym (reads_back version a is) ∙ ap read_back e ∙ reads_back version b is'
