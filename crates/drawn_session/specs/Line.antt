-- The line of a drawn session.
use Rattle.std.specs.Prelude.{ℕ, ◌+◌, ◌*◌, ◌/◌, List, ◌++◌, codes, decimal}
use Rattle.byteorder.specs.Endian.{big_bytes}
use Rattle.hex.specs.Hex.{encode_lower}
use Rattle.drawn_session.specs.declared.report.Outcome.{Outcome}

-- how many commits, and how many requests, a session of so many units has
abbrev pub commit_count : ℕ → ℕ
commit_count units = units / 100

abbrev pub request_count : ℕ → ℕ
request_count units = 64 + 200 * units + commit_count units + 1

-- How many units, requests, types, items, names and commits there are, and the hash of the replies.
abbrev pub line_text : ℕ → Outcome → List ℕ
line_text units o =
    codes "gen units=" ++ decimal units ++ codes " requests=" ++ decimal (request_count units) ++ codes " types=" ++ decimal o.types ++ codes " items=" ++ decimal o.items
    ++ codes " names=" ++ decimal o.names ++ codes " commits=" ++ decimal (commit_count units) ++ codes " replies=" ++ encode_lower (big_bytes 4 o.hash) ++ codes "\n"
