-- What may go to another thread, or be shared by several: a note owns nothing, and the table gives the machine to one
-- seat at a time.
use denote.RattleType.{RattleType}
use denote.Param.Send.{IsSend, IsSync, sendable}
use Rattle.std.proofs.Crossing.{crosses, send, sync, frees}
use Rattle.std.specs.contracts.alloc.Global as Heap
use Rattle.std.specs.contracts.impls.GlobalAllocator.TheImpl.{ghosts}
use Rattle.atomic_table.specs.declared.shared.TableRule as rule
use Rattle.atomic_table.specs.contracts.owned.Table as Table
use Rattle.atomic_table.proofs.owned.Table.TheSendSync as table
use Rattle.atomic_table.proofs.shared.Seat.TheSendSync as seat
use Rattle.turn_cell.specs.contracts.caller.Caller as Caller
use Rattle.turn_cell.specs.contracts.desk.Note as Note
use Rattle.turn_cell.specs.contracts.desk.Desk as Desk
use Rattle.turn_cell.specs.contracts.turn.Turn as Turn
use Rattle.turn_cell.specs.contracts.view.View as View
use Rattle.turn_cell.specs.contracts.law.Law as Law
use Rattle.turn_cell.specs.contracts.law.Opening as Opening
use Rattle.turn_cell.specs.contracts.law.LawTableRuleDeskCallReplyViewCallReplyOpening.TheImpl as impl
use Rattle.turn_cell.specs.declared.machine.Machine.{Ghosts}

note_send : (C R : RattleType) → IsSend (Note.the_row C R)
note_send C R = search (sendable, crosses) depth 20

pub desk_send : (M C R : RattleType) → IsSend M → IsSend (Desk.the_row M C R)
desk_send M C R s = let n = note_send C R in search (sendable, crosses) depth 20

-- at the heap, since `search` finds no allocator's ghost members in a row
table_sync : (S V K P : RattleType) (h : rule.Ghosts P.Denot S.Denot V.Denot K.Denot) → IsSend S → IsSync (Table.the_field S V K P Heap.the_row h ghosts).row
table_sync S V K P h s = table.the_field_sync S V K P Heap.the_row h ghosts s send sync frees

pub turn_sync : (M C R : RattleType) (g : Ghosts M.Denot C.Denot R.Denot) → IsSend M → IsSync (Turn.the_row M C R g)
turn_sync M C R g s =
    let t = table_sync (Desk.the_row M C R) (View.the_row M C R) (Opening.the_row M) (Law.the_row M) (impl.ghosts M C R g impl.no_dict) (desk_send M C R s) in
    search sendable depth 30

-- for a caller's `Send` and `Sync`, beside `sendable` and std's `crosses`
pub ruleset turns_cross = (desk_send, turn_sync, seat.the_send)
