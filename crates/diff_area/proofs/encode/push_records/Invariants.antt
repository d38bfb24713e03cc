use Rattle.std.proofs.Common.{◌≡◌, ◌≤◌, ◌+◌, ◌*◌, ◌++◌, take, vec_len, vec_capacity}
use Rattle.std.specs.List.{flat_map}
use Rattle.diff_area.specs.AreaValue.{record_bytes}
use Rattle.diff_area.proofs.encode.push_records.Given as goal

abbrev pub invariant-loop-row : goal.invariant-loop-row
invariant-loop-row l = (l.page.items ≡ l.initial.page.items ++ flat_map record_bytes (take l.row-index l.rows)) × (vec_len l.page ≡ vec_len l.initial.page + 16 * l.row-index) × (vec_capacity l.initial.page ≤ vec_capacity l.page)
