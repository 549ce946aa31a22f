-- The forms of a command line.
use Rattle.std.specs.Prelude.{◌≡◌, ◌⊎◌, ◌<◌, ◌≤◌, ◌^◌, ◌++◌, ℕ, length, List, [], ◌∷◌, Option, Some, None, Result, MatchResult, if◌then◌else◌, option_and_then, option_map, codes, decimal, replicate}
use Rattle.std.specs.Str.{bytes_eq}
use Rattle.hex.specs.Hex.{IsBytes, encode_lower}
use Rattle.msf_blocks.specs.Blocks.{IsBlockSize}
use Rattle.command_words.specs.declared.plan.Plan.{Plan}
use Rattle.command_words.specs.declared.plan.Plan.TheVariants as plan
use Rattle.command_words.specs.declared.plan.Usage.{Usage}
use Rattle.command_words.specs.declared.plan.Usage.TheVariants as usage
use Rattle.command_words.specs.Lines.{Line, Text, line_of, value_in}
use Rattle.command_words.specs.Values.{◌>>=◌, block_size_of, guid_of, number_of, option_given, option_or, sessions_of, units_of, workers_of}

-- What a reader answers where `value` is what the words say: that, or want of memory, or no form where they say nothing.
abbrev pub Answers : {X : Type 0} → Option X → Result X Usage → Type 0
Answers value answer = MatchResult answer (λ x. value ≡ Some x) (λ why. (why ≡ usage.OutOfMemory) ⊎ ((why ≡ usage.NotAForm) × (value ≡ None)))

-- the one text of a list
abbrev pub only : List Text → Option Text
only [] = None
only (text ∷ []) = Some text
only (text ∷ other ∷ texts) = None

-- the one positional of a line
abbrev pub only_positional : Line → Option Text
only_positional line = only line.positionals

-- `session PATH`
abbrev pub session_plan : Line → Option Plan
session_plan line = option_map plan.Session (only_positional line)

-- `check PATH`
abbrev pub check_plan : Line → Option Plan
check_plan line = option_map plan.Check (only_positional line)

-- `dump PATH`
abbrev pub dump_plan : Line → Option Plan
dump_plan line = option_map plan.Dump (only_positional line)

-- the options of `init`
abbrev pub init_options : List Text
init_options = codes "block" ∷ codes "guid" ∷ codes "signature" ∷ []

-- `init PATH [--block N] [--guid HEX] [--signature N]`
abbrev pub init_plan : Line → Option Plan
init_plan line = do
  path ← only_positional line
  block ← option_or 4096 block_size_of (codes "block") line
  guid ← option_or (replicate 16 0) guid_of (codes "guid") line
  signature ← option_or 0 number_of (codes "signature") line
  Some (plan.Init path block guid signature)

-- the options of `gen`
abbrev pub gen_options : List Text
gen_options = codes "seed" ∷ []

-- `gen UNITS [--seed N]`
abbrev pub gen_plan : Line → Option Plan
gen_plan line = do
  text ← only_positional line
  units ← units_of text
  seed ← option_or 1 number_of (codes "seed") line
  Some (plan.Gen units seed)

-- the options of `serve`
abbrev pub serve_options : List Text
serve_options = codes "listen" ∷ codes "sessions" ∷ codes "workers" ∷ []

-- `serve PATH --listen SOCKET --sessions N [--workers N]`
abbrev pub serve_plan : Line → Option Plan
serve_plan line = do
  path ← only_positional line
  listen ← value_in (codes "listen") line.options
  sessions ← option_given sessions_of (codes "sessions") line
  workers ← option_or 4 workers_of (codes "workers") line
  Some (plan.Serve path listen sessions workers)

-- the plan of a command and the words behind it
abbrev pub form_by : Text → List Text → Option Plan
form_by command words =
    if bytes_eq command (codes "session") then option_and_then session_plan (line_of [] words)
    else (if bytes_eq command (codes "check") then option_and_then check_plan (line_of [] words)
    else (if bytes_eq command (codes "dump") then option_and_then dump_plan (line_of [] words)
    else (if bytes_eq command (codes "init") then option_and_then init_plan (line_of init_options words)
    else (if bytes_eq command (codes "gen") then option_and_then gen_plan (line_of gen_options words)
    else (if bytes_eq command (codes "serve") then option_and_then serve_plan (line_of serve_options words) else None)))))

-- the plan that words stand for
abbrev pub form_of : List Text → Option Plan
form_of [] = None
form_of (command ∷ words) = form_by command words

-- what an `init` is asked for
pub record IsInit (path : Text) (block : ℕ) (guid : List ℕ) (signature : ℕ) : Type 0 where
  pub path_there : 0 < length path
  pub block_size : IsBlockSize block
  pub guid_length : length guid ≡ 16
  pub guid_bytes : IsBytes guid
  pub small : signature < 2 ^ 32

-- what a `gen` is asked for
pub record IsGen (units seed : ℕ) : Type 0 where
  pub some_units : 1 ≤ units
  pub few_units : units ≤ 10000
  pub small : seed < 2 ^ 32

-- what a `serve` is asked for
pub record IsServe (path listen : Text) (sessions workers : ℕ) : Type 0 where
  pub path_there : 0 < length path
  pub listen_there : 0 < length listen
  pub some_sessions : 1 ≤ sessions
  pub few_sessions : sessions < 2 ^ 32
  pub some_workers : 1 ≤ workers
  pub few_workers : workers ≤ 64

-- a plan has paths of at least one byte, and numbers within their ranges
abbrev pub IsPlan : Plan → Type 0
IsPlan (plan.Session path) = 0 < length path
IsPlan (plan.Check path) = 0 < length path
IsPlan (plan.Dump path) = 0 < length path
IsPlan (plan.Init path block guid signature) = IsInit path block guid signature
IsPlan (plan.Gen units seed) = IsGen units seed
IsPlan (plan.Serve path listen sessions workers) = IsServe path listen sessions workers

-- the words of a command with one path. Behind two dashes each path may stand.
abbrev pub path_words : Text → Text → List Text
path_words command path = command ∷ codes "--" ∷ path ∷ []

-- words that stand for a plan
abbrev pub words_for : Plan → List Text
words_for (plan.Session path) = path_words (codes "session") path
words_for (plan.Check path) = path_words (codes "check") path
words_for (plan.Dump path) = path_words (codes "dump") path
words_for (plan.Init path block guid signature) =
    codes "init" ∷ codes "--block" ∷ decimal block ∷ codes "--guid" ∷ encode_lower guid ∷ codes "--signature" ∷ decimal signature ∷ codes "--" ∷ path ∷ []
words_for (plan.Gen units seed) = codes "gen" ∷ codes "--seed" ∷ decimal seed ∷ codes "--" ∷ decimal units ∷ []
words_for (plan.Serve path listen sessions workers) =
    codes "serve" ∷ (codes "--listen=" ++ listen) ∷ codes "--sessions" ∷ decimal sessions ∷ codes "--workers" ∷ decimal workers ∷ codes "--" ∷ path ∷ []
