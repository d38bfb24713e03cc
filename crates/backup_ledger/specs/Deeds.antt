-- The deeds of a backup, which of them may come after others, and what a kept set is: a version of one moment. (This project's own.)
use Rattle.std.specs.List.{list_all, list_any}
use Rattle.std.specs.Prelude.{ℕ, Bool, true, false, List, [], ◌∷◌, ◌++◌, filter, not, ◌==◌, ◌&&◌, if◌then◌else◌, ◌≡◌}
use Rattle.vss_names.specs.declared.order.Order.{Order}
use Rattle.vss_names.specs.declared.order.Order.TheVariants as order
use Rattle.writer_calls.specs.declared.answer.Answer.{Answer}
use Rattle.writer_calls.specs.declared.answer.Answer.TheVariants as said
use Rattle.backup_ledger.specs.declared.deed.Deed.{Deed}
use Rattle.backup_ledger.specs.declared.deed.Deed.TheVariants.{Said, Heard, ToldAbort, Near, Read, Kept}

-- ## The deeds of a backup, and which of them may come after others. (This project's own.)

-- what a contract sees of a ledger: the writers that take part, the volumes of the set, and the deeds in order
pub record LedgerValue : Type 0 where
  pub writers : List ℕ
  pub volumes : List ℕ
  pub deeds : List Deed

-- ## one deed

-- writer w says that it is frozen
abbrev pub is_froze : ℕ → Deed → Bool
is_froze w (Heard u order.Freeze said.Ok) = u == w
is_froze w _ = false

-- writer w says that it stood frozen to its thaw
abbrev pub is_stood : ℕ → Deed → Bool
is_stood w (Heard u order.Thaw said.Ok) = u == w
is_stood w _ = false

-- writer w is told to freeze
abbrev pub is_freeze_said : ℕ → Deed → Bool
is_freeze_said w (Said u n order.Freeze nth) = u == w
is_freeze_said w _ = false

-- writer w is told to thaw
abbrev pub is_thaw_said : ℕ → Deed → Bool
is_thaw_said w (Said u n order.Thaw nth) = u == w
is_thaw_said w _ = false

-- a writer is let go: it is told to thaw, or of an abort
abbrev pub is_thaw : Deed → Bool
is_thaw (Said u n order.Thaw nth) = true
is_thaw (ToldAbort u) = true
is_thaw _ = false

-- writer w is told of the abort
abbrev pub is_told : ℕ → Deed → Bool
is_told w (ToldAbort u) = u == w
is_told w _ = false

-- some writer is
abbrev pub is_abort : Deed → Bool
is_abort (ToldAbort u) = true
is_abort _ = false

-- the last part of volume v is read
abbrev pub is_read_out : ℕ → Deed → Bool
is_read_out v (Read u true) = u == v
is_read_out v _ = false

abbrev pub is_kept : Deed → Bool
is_kept (Kept n) = true
is_kept _ = false

-- it is the copier's
abbrev pub is_copy : Deed → Bool
is_copy Near = true
is_copy (Read v last) = true
is_copy (Kept n) = true
is_copy _ = false

-- what the copier did
abbrev pub copied : List Deed → List Deed
copied ds = filter is_copy ds

-- orders that tell a writer that there is a set
abbrev pub is_later : Order → Bool
is_later order.PostSnapshot = true
is_later order.BackupComplete = true
is_later _ = false

-- ## some deeds

abbrev pub all_froze : List ℕ → List Deed → Bool
all_froze writers ds = list_all (λ w. list_any (is_froze w) ds) writers

abbrev pub all_stood : List ℕ → List Deed → Bool
all_stood writers ds = list_all (λ w. list_any (is_stood w) ds) writers

abbrev pub all_told : List ℕ → List Deed → Bool
all_told writers ds = list_all (λ w. list_any (is_told w) ds) writers

abbrev pub all_read : List ℕ → List Deed → Bool
all_read volumes ds = list_all (λ v. list_any (is_read_out v) ds) volumes

-- ## what may come next

-- volume v may be read: all are frozen, nobody was let go, and it was not read to its end
abbrev pub may_read : List ℕ → List Deed → ℕ → Bool
may_read writers ds v = all_froze writers ds && not (list_any is_thaw ds) && not (list_any (is_read_out v) ds)

-- a set may be kept: all volumes were read, all stood frozen to their thaw, nobody was told of an abort, and none was kept
abbrev pub may_keep : List ℕ → List ℕ → List Deed → Bool
may_keep writers volumes ds = all_read volumes ds && all_stood writers ds && not (list_any is_abort ds) && not (list_any is_kept ds)

-- an order may be said: one that tells of a set only once there is one
abbrev pub may_say : Order → List Deed → Bool
may_say o ds = if is_later o then list_any is_kept ds else true

-- an answer to an order may be heard: one to freeze or to thaw only of a writer that was told so
abbrev pub may_hear : List Deed → ℕ → Order → Bool
may_hear ds w order.Freeze = list_any (is_freeze_said w) ds
may_hear ds w order.Thaw = list_any (is_thaw_said w) ds
may_hear ds w _ = true

-- a deed may come after these
abbrev pub may_come : List ℕ → List ℕ → List Deed → Deed → Bool
may_come writers volumes ds (Read v last) = may_read writers ds v
may_come writers volumes ds (Kept n) = may_keep writers volumes ds
may_come writers volumes ds (Said w n o nth) = may_say o ds
may_come writers volumes ds (Heard w o answer) = may_hear ds w o
may_come writers volumes ds _ = true

-- each of these deeds may come after those before it
abbrev pub are_right : List ℕ → List ℕ → List Deed → List Deed → Bool
are_right writers volumes before [] = true
are_right writers volumes before (d ∷ ds) = may_come writers volumes before d && are_right writers volumes (before ++ d ∷ []) ds

-- ## What a kept set is: a version of one moment. And what is left of a backup that is over. (This project's own.)

-- a set that is kept after these deeds is of one moment
pub record IsOfOneMoment (writers volumes : List ℕ) (before : List Deed) : Type 0 where
  -- each volume of the set was read to its end
  pub whole : all_read volumes before ≡ true
  -- at each part that was read, each writer that takes part had said that it is frozen, and nobody had been let go; and no part of a volume
  -- was read again behind its last
  pub still : (a b : List Deed) (v : ℕ) (last : Bool) → before ≡ a ++ Read v last ∷ b
      → (all_froze writers a ≡ true) × (list_any is_thaw a ≡ false) × (list_any (is_read_out v) a ≡ false)
  -- who answers an order to freeze or to thaw had been told so; so an ok to thaw comes behind every part that was read
  pub asked : (a b : List Deed) (w : ℕ) (o : Order) (answer : Answer) → before ≡ a ++ Heard w o answer ∷ b → may_hear a w o ≡ true
  -- each writer that takes part then said that it stood frozen to its thaw
  pub stood : all_stood writers before ≡ true
  -- nobody was told of an abort, and this is the only set
  pub given_up : list_any is_abort before ≡ false
  pub once : list_any is_kept before ≡ false

-- each set that was kept is
abbrev pub AreOfOneMoment : LedgerValue → Type 0
AreOfOneMoment l = (before rest : List Deed) (n : ℕ) → l.deeds ≡ before ++ Kept n ∷ rest → IsOfOneMoment l.writers l.volumes before

-- it is over: if nothing is kept, each writer that takes part was told of the abort
abbrev pub IsEnded : LedgerValue → Type 0
IsEnded l = list_any is_kept l.deeds ≡ false → all_told l.writers l.deeds ≡ true
