-- The words of a plan, and the plan of words.
use Rattle.std.proofs.Common.{◌≡◌, ◌∙◌, ◌<◌, ◌≤◌, ◌^◌, ◌-◌, ◌/◌, ◌++◌, ◌==◌, ◌&&◌, ℕ, zero, suc, Bool, cond, true, false, not, refl, sym, ap, subst, List, [], ◌∷◌, length, replicate, slice_index, Option, Some, None, codes, lt-ltb, ltb-true, arith}
use Rattle.std.specs.Prelude.{decimal, nat_lt, option_and_then, option_map}
use Rattle.std.specs.List.{list_all}
use Rattle.std.specs.Str.{bytes_eq}
use Rattle.std.proofs.lemmas.Bool.{and_parts}
use Rattle.hex.specs.Hex.{encode_lower, encode_with, lower_digits}
use Rattle.hex.proofs.HexLemmas.{length-encode_with}
use Rattle.msf_blocks.specs.Blocks.{IsBlockSize}
use Rattle.command_words.specs.Forms.{IsPlan, check_plan, dump_plan, form_of, gen_options, gen_plan, init_options, init_plan, only, only_positional, serve_options, serve_plan, session_plan, words_for}
use Rattle.command_words.specs.Lines.{Given, Line, Text, are_once, given_from, has_no_empty, is_plain, line_by, line_of, options_of, positionals_of, value_in}
use Rattle.command_words.specs.Values.{◌>>=◌, block_size_of, guid_of, number_of, option_given, option_or, sessions_of, units_of, workers_of}
use Rattle.command_words.specs.declared.plan.Plan.{Plan}
use Rattle.command_words.specs.declared.plan.Plan.TheVariants as plan
use Rattle.command_words.proofs.ReadValues.{IsGuid, decimal_in, decimal_plain, decimal_read, decimal_there, given_only, guid_only, guid_read, no_guid, number_only, size_only, size_read, small_only, value_only}

-- the line of an `init` with all options
init_line : (block guid signature path : Text) → is_plain block ≡ true → is_plain guid ≡ true → is_plain signature ≡ true
    → nat_lt 0 (length block) ≡ true → nat_lt 0 (length guid) ≡ true → nat_lt 0 (length signature) ≡ true → nat_lt 0 (length path) ≡ true
    → line_of init_options (codes "--block" ∷ block ∷ codes "--guid" ∷ guid ∷ codes "--signature" ∷ signature ∷ codes "--" ∷ path ∷ [])
    ≡ Some (record { positionals = path ∷ []; options = (codes "block", block) ∷ (codes "guid", guid) ∷ (codes "signature", signature) ∷ [] })
init_line block guid signature path pb pg ps b g s p = rw (pb, pg, ps, b, g, s, p) refl

-- the line of a `gen` with its option
gen_line : (seed units : Text) → is_plain seed ≡ true → nat_lt 0 (length seed) ≡ true → nat_lt 0 (length units) ≡ true
    → line_of gen_options (codes "--seed" ∷ seed ∷ codes "--" ∷ units ∷ []) ≡ Some (record { positionals = units ∷ []; options = (codes "seed", seed) ∷ [] })
gen_line seed units ps s u = rw (ps, s, u) refl

-- the line of a `serve` with all options
serve_line : (listen sessions workers path : Text) → is_plain sessions ≡ true → is_plain workers ≡ true
    → nat_lt 0 (length listen) ≡ true → nat_lt 0 (length sessions) ≡ true → nat_lt 0 (length workers) ≡ true → nat_lt 0 (length path) ≡ true
    → line_of serve_options ((codes "--listen=" ++ listen) ∷ codes "--sessions" ∷ sessions ∷ codes "--workers" ∷ workers ∷ codes "--" ∷ path ∷ [])
    ≡ Some (record { positionals = path ∷ []; options = (codes "listen", listen) ∷ (codes "sessions", sessions) ∷ (codes "workers", workers) ∷ [] })
serve_line listen sessions workers path ps pw l s w p = rw (ps, pw, l, s, w, p) refl

-- no digit is a dash
no_dash : (digits : List ℕ) → list_all (λ c. not (c == 45)) digits ≡ true → (d : ℕ) → not (slice_index digits d == 45) ≡ true
no_dash [] each d = refl
no_dash (c ∷ digits) each zero = (and_parts _ _ each).0
no_dash (c ∷ digits) each (suc d) = no_dash digits (and_parts _ _ each).1 d

guid_plain : (guid : List ℕ) → is_plain (encode_lower guid) ≡ true
unfolding encode_with
guid_plain [] = refl
guid_plain (b ∷ rest) = no_dash lower_digits refl (b / 16)

guid_there : (guid : List ℕ) → length guid ≡ 16 → 0 < length (encode_lower guid)
guid_there guid long = omega (arith, length-encode_with lower_digits guid, long)

small_size : (size : ℕ) → IsBlockSize size → size < 2 ^ 32
small_size size is = grind (arith, is)

pub read : (p : Plan) → IsPlan p → form_of (words_for p) ≡ Some p
read (plan.Session path) is = rw (lt-ltb 0 (length path) is) refl
read (plan.Check path) is = rw (lt-ltb 0 (length path) is) refl
read (plan.Dump path) is = rw (lt-ltb 0 (length path) is) refl
read (plan.Init path block guid signature) is =
    rw (
      init_line (decimal block) (encode_lower guid) (decimal signature) path
          (decimal_plain block (small_size block is.block_size)) (guid_plain guid) (decimal_plain signature is.small)
          (decimal_there block (small_size block is.block_size)) (lt-ltb 0 _ (guid_there guid is.guid_length)) (decimal_there signature is.small) (lt-ltb 0 (length path) is.path_there),
      size_read block (small_size block is.block_size) is.block_size,
      guid_read guid is.guid_length is.guid_bytes,
      decimal_read signature is.small,
    ) refl
read (plan.Gen units seed) is =
    let small : units < 2 ^ 32 = omega (arith, is.few_units) in
    rw (
      gen_line (decimal seed) (decimal units) (decimal_plain seed is.small) (decimal_there seed is.small) (decimal_there units small),
      decimal_in units small 1 10000 is.some_units is.few_units,
      decimal_read seed is.small,
    ) refl
read (plan.Serve path listen sessions workers) is =
    let small : workers < 2 ^ 32 = omega (arith, is.few_workers) in
    rw (
      serve_line listen (decimal sessions) (decimal workers) path
          (decimal_plain sessions is.few_sessions) (decimal_plain workers small)
          (lt-ltb 0 (length listen) is.listen_there) (decimal_there sessions is.few_sessions) (decimal_there workers small) (lt-ltb 0 (length path) is.path_there),
      decimal_in sessions is.few_sessions 1 (2 ^ 32 - 1) is.some_sessions (omega (arith, is.few_sessions)),
      decimal_in workers small 1 64 is.some_workers is.few_workers,
    ) refl

-- ---- words stand for plans with a path alone

some_is : {X : Type 0} (x y : X) → Some x ≡ Some y → x ≡ y
some_is x y e = cc

filled : (given : List Given) (path : Text) → has_no_empty given ≡ true → only (positionals_of given) ≡ Some path → 0 < length path
filled [] path each is = cc
filled ((None, text) ∷ []) path each is =
    subst (λ t. 0 < length t) (some_is text path is) (ltb-true 0 (length text) (and_parts _ _ each).0)
filled ((None, text) ∷ given) path each is = go (positionals_of given) refl is
  where
    go : (texts : List Text) → positionals_of given ≡ texts → only (text ∷ positionals_of given) ≡ Some path → 0 < length path
    go [] e o = subst (λ t. 0 < length t) (some_is text path (sym (ap (λ ts. only (text ∷ ts)) e) ∙ o)) (ltb-true 0 (length text) (and_parts _ _ each).0)
    go (other ∷ texts) e o = let none : None ≡ Some path = sym (ap (λ ts. only (text ∷ ts)) e) ∙ o in cc
filled ((Some name, text) ∷ given) path each is = filled given path (and_parts _ _ each).1 is

-- the value of an option has a byte or more
value_filled : (name : Text) (given : List Given) (value : Text) → has_no_empty given ≡ true → value_in name (options_of given) ≡ Some value → 0 < length value
value_filled name [] value each is = cc
value_filled name ((None, text) ∷ given) value each is = value_filled name given value (and_parts _ _ each).1 is
value_filled name ((Some own, text) ∷ given) value each is =
    go (bytes_eq own name) (value_filled name given value (and_parts _ _ each).1) is
  where
    go : (b : Bool) → (value_in name (options_of given) ≡ Some value → 0 < length value)
        → cond b (Some text) (value_in name (options_of given)) ≡ Some value → 0 < length value
    go true later e = subst (λ t. 0 < length t) (some_is text value e) (ltb-true 0 (length text) (and_parts _ _ each).0)
    go false later e = later e

abbrev line_with : List Given → Line
line_with given = record { positionals = positionals_of given; options = options_of given }

-- what all plans of a command are, by what is given to it
from_line : (read : Line → Option Plan) (p : Plan) → ((given : List Given) → has_no_empty given ≡ true → read (line_with given) ≡ Some p → IsPlan p)
    → (given : Option (List Given)) → option_and_then read (option_and_then line_by given) ≡ Some p → IsPlan p
from_line read p each None e = cc
from_line read p each (Some given) e = go (has_no_empty given && are_once (options_of given)) refl e
  where
    go : (b : Bool) → (has_no_empty given && are_once (options_of given)) ≡ b
        → option_and_then read (cond b (Some (line_with given)) None) ≡ Some p → IsPlan p
    go true t e = each given (and_parts _ _ t).0 e
    go false t e = cc

-- what came of two steps came of both
both_steps : {A B : Type 0} (o : Option A) (f : A → Option B) (y : B) → (o >>= f) ≡ Some y → (x : A) × (o ≡ Some x) × (f x ≡ Some y)
both_steps None f y e = cc
both_steps (Some x) f y e = (x, refl, e)

path_is : (of : Text → Plan) (o : Option Text) (p : Plan) → option_map of o ≡ Some p → (path : Text) × (o ≡ Some path) × (of path ≡ p)
path_is of None p e = cc
path_is of (Some path) p e = (path, refl, some_is _ _ e)

-- a plan with the one path of a line
path_only : (of : Text → Plan) → ((path : Text) → 0 < length path → IsPlan (of path)) → (given : Option (List Given)) (p : Plan)
    → option_and_then (λ line. option_map of (only_positional line)) (option_and_then line_by given) ≡ Some p → IsPlan p
path_only of long given p e = from_line (λ line. option_map of (only_positional line)) p each given e
  where
    each : (given : List Given) → has_no_empty given ≡ true → option_map of (only (positionals_of given)) ≡ Some p → IsPlan p
    each given full e =
        let is = path_is of (only (positionals_of given)) p e in
        subst IsPlan is.2 (long is.0 (filled given is.0 full is.1))

-- the parts of an `init`
pub record HasParts (path : Option Text) (block : Option ℕ) (guid : Option (List ℕ)) (signature : Option ℕ) (p : Plan) : Type 0 where
  pub path_is : Text
  pub block_is : ℕ
  pub guid_is : List ℕ
  pub signature_is : ℕ
  pub has_path : path ≡ Some path_is
  pub has_block : block ≡ Some block_is
  pub has_guid : guid ≡ Some guid_is
  pub has_signature : signature ≡ Some signature_is
  pub whole : plan.Init path_is block_is guid_is signature_is ≡ p

parts_of : (path : Option Text) (block : Option ℕ) (guid : Option (List ℕ)) (signature : Option ℕ) (p : Plan)
    → (path >>= λ a. block >>= λ b. guid >>= λ g. signature >>= λ s. Some (plan.Init a b g s)) ≡ Some p → HasParts path block guid signature p
parts_of None block guid signature p e = cc
parts_of (Some a) None guid signature p e = cc
parts_of (Some a) (Some b) None signature p e = cc
parts_of (Some a) (Some b) (Some g) None p e = cc
parts_of (Some a) (Some b) (Some g) (Some s) p e = record {
  path_is = a;
  block_is = b;
  guid_is = g;
  signature_is = s;
  has_path = refl;
  has_block = refl;
  has_guid = refl;
  has_signature = refl;
  whole = some_is _ _ e;
}

init_only : (p : Plan) (given : List Given) → has_no_empty given ≡ true → init_plan (line_with given) ≡ Some p → IsPlan p
init_only p given full e =
    let line = line_with given in
    let h = parts_of (only_positional line) (option_or 4096 block_size_of (codes "block") line) (option_or (replicate 16 0) guid_of (codes "guid") line) (option_or 0 number_of (codes "signature") line) p e in
    let guid : IsGuid h.guid_is = value_only IsGuid (replicate 16 0) guid_of no_guid guid_only (value_in (codes "guid") line.options) h.guid_is h.has_guid in
    subst IsPlan h.whole (record {
      path_there = filled given h.path_is full h.has_path;
      block_size = value_only IsBlockSize 4096 block_size_of refl size_only (value_in (codes "block") line.options) h.block_is h.has_block;
      guid_length = guid.long;
      guid_bytes = guid.bytes;
      small = value_only (λ n. n < 2 ^ 32) 0 number_of (omega arith) small_only (value_in (codes "signature") line.options) h.signature_is h.has_signature;
    })

gen_only : (p : Plan) (given : List Given) → has_no_empty given ≡ true → gen_plan (line_with given) ≡ Some p → IsPlan p
gen_only p given full e =
    let line = line_with given in
    let seed = option_or 1 number_of (codes "seed") line in
    let a = both_steps (only_positional line) (λ text. units_of text >>= λ units. seed >>= λ seed. Some (plan.Gen units seed)) p e in
    let b = both_steps (units_of a.0) (λ units. seed >>= λ seed. Some (plan.Gen units seed)) p a.2 in
    let c = both_steps seed (λ seed. Some (plan.Gen b.0 seed)) p b.2 in
    let units = number_only 1 10000 a.0 b.0 b.1 in
    subst IsPlan (some_is _ _ c.2) (record {
      some_units = units.0;
      few_units = units.1;
      small = value_only (λ n. n < 2 ^ 32) 1 number_of (omega arith) small_only (value_in (codes "seed") line.options) c.0 c.1;
    })

-- a number from one to another
abbrev IsFrom : ℕ → ℕ → ℕ → Type 0
IsFrom least most n = (least ≤ n) × (n ≤ most)

serve_only : (p : Plan) (given : List Given) → has_no_empty given ≡ true → serve_plan (line_with given) ≡ Some p → IsPlan p
serve_only p given full e =
    let line = line_with given in
    let listen = value_in (codes "listen") line.options in
    let sessions = option_given sessions_of (codes "sessions") line in
    let workers = option_or 4 workers_of (codes "workers") line in
    let a = both_steps (only_positional line) (λ path. listen >>= λ listen. sessions >>= λ sessions. workers >>= λ workers. Some (plan.Serve path listen sessions workers)) p e in
    let b = both_steps listen (λ listen. sessions >>= λ sessions. workers >>= λ workers. Some (plan.Serve a.0 listen sessions workers)) p a.2 in
    let c = both_steps sessions (λ sessions. workers >>= λ workers. Some (plan.Serve a.0 b.0 sessions workers)) p b.2 in
    let d = both_steps workers (λ workers. Some (plan.Serve a.0 b.0 c.0 workers)) p c.2 in
    let some = given_only (IsFrom 1 (2 ^ 32 - 1)) sessions_of (number_only 1 (2 ^ 32 - 1)) (value_in (codes "sessions") line.options) c.0 c.1 in
    let few = value_only (IsFrom 1 64) 4 workers_of (omega arith, omega arith) (number_only 1 64) (value_in (codes "workers") line.options) d.0 d.1 in
    subst IsPlan (some_is _ _ d.2) (record {
      path_there = filled given a.0 full a.1;
      listen_there = value_filled (codes "listen") given b.0 full b.1;
      some_sessions = some.0;
      few_sessions = omega (arith, some.1);
      some_workers = few.0;
      few_workers = few.1;
    })

pub plans_only : (words : List Text) (p : Plan) → form_of words ≡ Some p → IsPlan p
plans_only [] p e = cc
plans_only (command ∷ words) p e =
    go (bytes_eq command (codes "session")) (bytes_eq command (codes "check")) (bytes_eq command (codes "dump")) (bytes_eq command (codes "init"))
    (bytes_eq command (codes "gen")) (bytes_eq command (codes "serve")) e
  where
    go : (a b c d f g : Bool)
        → cond a (option_and_then session_plan (line_of [] words)) (cond b (option_and_then check_plan (line_of [] words)) (cond c (option_and_then dump_plan (line_of [] words))
        (cond d (option_and_then init_plan (line_of init_options words)) (cond f (option_and_then gen_plan (line_of gen_options words)) (cond g (option_and_then serve_plan (line_of serve_options words)) None))))) ≡ Some p
        → IsPlan p
    go true b c d f g e = path_only plan.Session (λ path long. long) (given_from [] words None) p e
    go false true c d f g e = path_only plan.Check (λ path long. long) (given_from [] words None) p e
    go false false true d f g e = path_only plan.Dump (λ path long. long) (given_from [] words None) p e
    go false false false true f g e = from_line init_plan p (init_only p) (given_from init_options words None) e
    go false false false false true g e = from_line gen_plan p (gen_only p) (given_from gen_options words None) e
    go false false false false false true e = from_line serve_plan p (serve_only p) (given_from serve_options words None) e
    go false false false false false false e = cc
