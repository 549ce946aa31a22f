-- A new file is written for empty tables.
use Rattle.std.proofs.Common.{◌≡◌, ◌≤◌, ℕ, List, [], Some, length, refl, ap, sym, arith, inl}
use Rattle.srv_edge.specs.declared.failed.Limits.{Limits}
use Rattle.table_model.specs.Bounds.{bounds_of}
use Rattle.info_stream.specs.Text.{new_info, with_age}
use Rattle.info_stream.proofs.Ages.{named-new_info}
use Rattle.tpi_stream.specs.Hashes.{hash_values, index_offsets}
use Rattle.tpi_stream.specs.Written.{CanBeKept}
use Rattle.record_table.specs.Table.{IsKept}
use Rattle.table_model.specs.Tables.{empty_tables, table_within}
use Rattle.type_store.specs.NewFile.{new_contents, new_kept, new_numbers}
use Rattle.type_store.specs.Written.{AreWithin, CanKeep, IsWritten}

pub same_age : (guid : List ℕ) (signature : ℕ) → with_age (new_info guid signature) 1 ≡ new_info guid signature
unfolding new_info
same_age guid signature = refl

pub new_can : (hash_stream : ℕ) → hash_stream ≤ 7 → CanBeKept (new_kept hash_stream)
new_can hash_stream le = record { hash_stream = omega (arith, le); aux_stream = omega arith; least_buckets = omega arith; most_buckets = omega arith }

pub new_can_keep : (guid : List ℕ) (signature : ℕ) → length guid ≡ 16 → CanKeep new_numbers (new_info guid signature)
new_can_keep guid signature len = record {
  types = new_can 5 (omega arith);
  items = new_can 6 (omega arith);
  names = named-new_info guid signature len;
  type_hashes = omega arith;
  item_hashes = omega arith;
  names_stream = omega arith;
  two_hashes = λ e. omega (arith, e);
  names_no_types = λ e. omega (arith, e);
  names_no_items = λ e. omega (arith, e);
}

pub new_written : (guid : List ℕ) (signature : ℕ) (limits : Limits) → IsWritten new_numbers (new_info guid signature) 1 (empty_tables limits) (new_contents guid signature)
unfolding hash_values index_offsets
new_written guid signature limits = record {
  info_stream = ap Some (sym (same_age guid signature));
  types = refl;
  items = refl;
  type_hashes = refl;
  item_hashes = refl;
  names = refl;
}

pub empty_kept : (limits : Limits) → IsKept (table_within limits [])
empty_kept limits = record { all = grind arith; within = record { few = omega arith; short = omega arith }; most_records = limits.few_records; most_bytes = limits.few_bytes }

pub empty_within : (limits : Limits) → AreWithin (bounds_of limits) (empty_tables limits)
empty_within limits = record {
  types = empty_kept limits;
  items = empty_kept limits;
  names = record { names = grind arith; bytes = limits.some_name_bytes; limit = limits.few_name_bytes; version = inl refl };
  type_limits = refl;
  item_limits = refl;
  name_limit = refl;
}
