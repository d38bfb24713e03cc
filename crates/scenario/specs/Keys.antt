-- The table of a script's rows: each stands under a number that its kind of order and its nth make, and no two orders make
-- the same number.
use Rattle.std.specs.Prelude.{ℕ, ◌≡◌, ◌<◌, ◌+◌, ◌*◌}
use Rattle.vss_names.specs.declared.order.Order.{Order}
use Rattle.set_agenda.specs.Agenda.{order_code}
use Rattle.writer_calls.specs.declared.scripted.Scripted.{Scripted}

abbrev pub key_of : Order → ℕ → ℕ
key_of order nth = order_code order * 4294967296 + nth

abbrev pub row_in : ℕ × Scripted → Scripted
row_in e = e.1

pub record IsKeyed (e : ℕ × Scripted) : Type 0 where
  pub key : e.0 ≡ key_of e.1.order e.1.nth
  pub small : e.1.nth < 4294967296
