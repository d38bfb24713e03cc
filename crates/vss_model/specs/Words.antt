-- The words of the model and of what is below it, from one place.
pub use Rattle.component_doc.specs.Document.{document_text}
pub use Rattle.component_doc.specs.Over.{Held, IsSelectedOver}
pub use Rattle.component_doc.specs.Selection.{Named, Pair}
pub use Rattle.component_doc.specs.declared.add_fault.AddFault.{AddFault}
pub use Rattle.component_doc.specs.declared.add_fault.AddFault.TheVariants.{AlreadyExists, NotFound, OutOfMemory}
pub use Rattle.requestor.specs.Check.{allows, check, check_other, owner_only, verdict_of}
pub use Rattle.requestor.specs.Requestor.{Sessions, after_agenda}
pub use Rattle.requestor.specs.Session.{Session, has_writers}
pub use Rattle.requestor.specs.declared.mode.Mode.{Mode}
pub use Rattle.requestor.specs.declared.mode.Mode.TheVariants.{All, Components}
pub use Rattle.requestor.specs.declared.session_call.SessionCall.{SessionCall}
pub use Rattle.requestor.specs.declared.verdict.Verdict.{Verdict}
pub use Rattle.requestor.specs.declared.verdict.Verdict.TheVariants.{Blocked, Go, Refused}
pub use Rattle.scenario.specs.Bounds.{IsBlock, IsInGroup, IsOp, IsPlan, group_slots}
pub use Rattle.scenario.specs.Calls.{Target, call_in, call_of, line_of, target_in}
pub use Rattle.scenario.specs.Fields.{bytes_of}
pub use Rattle.scenario.specs.Named.{Differ, Distinct, HasNames, writer_spans}
pub use Rattle.scenario.specs.Places.{IsPlaceOf, blocks_in_group, count_if, of_group, of_group_if, place_in, volume_after, volume_in}
pub use Rattle.scenario.specs.Plan.{GroupPlan, Plan, WriterPlan, acts_as, blocks_in, blocks_of, group_of, placed, placed_in, slots_in, slots_of, token}
pub use Rattle.scenario.specs.declared.line.Line.TheVariants.{Calls, Reads, Reverts, ShowsBlock, ShowsImage, Writes}
pub use Rattle.scenario.specs.declared.op.Op.{Op}
pub use Rattle.scenario.specs.declared.op.Op.TheVariants.{Add, Component, DeleteImage, DeleteSet, Document, End, ImageBlock, ImageDigest, Properties, Query, Read, Revert, Start, Tick}
pub use Rattle.scenario.specs.declared.span.Span.{Span}
pub use Rattle.scenario.specs.declared.volume_row.VolumeRow.{VolumeRow}
pub use Rattle.set_agenda.specs.Agenda.{Agenda, Entry, Open, all_say, at_level, at_place, group_code, groups_left, has_said, head_or_0, is_among, is_done, is_orders, is_over_volumes, is_snapshot}
pub use Rattle.set_agenda.specs.Agenda.{is_working, left, left_from, level_code, members_of, next_member, next_volume, open_group, open_place, order_now, places, plain, same_place, volume_if}
pub use Rattle.set_agenda.specs.Agenda.{waited_for, with_group}
pub use Rattle.set_agenda.specs.Advance.{are_distinct}
pub use Rattle.set_agenda.specs.Course.{Course, begun, change_at, course_start, member_if, members_from, outcome_after, released, settled_if, settled_in, stepped, timed}
pub use Rattle.set_agenda.specs.WriterSet.{writers_of}
pub use Rattle.set_agenda.specs.declared.group.Group.{Group}
pub use Rattle.set_agenda.specs.declared.group.Group.TheVariants.{Commit, Cut, Flush, Hold, Orders, PostCommit, PreCommit, Release}
pub use Rattle.set_agenda.specs.declared.kind.Kind.{Kind}
pub use Rattle.set_agenda.specs.declared.kind.Kind.TheVariants.{Gather, Prepare, Snapshot}
pub use Rattle.set_agenda.specs.declared.member.Member.{Member}
pub use Rattle.set_agenda.specs.declared.place.Place.{Place}
pub use Rattle.vss_model.specs.Acts.{Act, after, allows_by, enabled, event_allows, idle_now, is_free, line_allows, line_enabled, may_do, may_stop_after, may_write, reply}
pub use Rattle.vss_model.specs.Acts.{restorable, state}
pub use Rattle.vss_model.specs.Changes.{Change, after_changes, fails, goes_on, made_at, passes, session_calls, steps}
pub use Rattle.vss_model.specs.Cut.{is_cut_group}
pub use Rattle.vss_model.specs.Effects.{ended_of, evicted, evicted_at, evicted_for, lost, lost_after, lost_order, lost_order_if, ticks_by, volumes_losing}
pub use Rattle.vss_model.specs.Steps.{AgendaEnds, Ending, NothingEnds, SetFails, ending, row_settled, runs, is_failed_step, is_flush, row_cut, with_cut}
pub use Rattle.vss_model.specs.Facts.{AllLive, AreLive, IsNewest, IsOfSession, NumberedFrom, OverButNewest, has_failed, is_live}
pub use Rattle.vss_model.specs.Images.{cleared, count_images, going_up_to, has_lost_image, is_backup, is_in_set, read_as}
pub use Rattle.vss_model.specs.Images.{reply_of_mark, revert_refusal, set_loses_image}
pub use Rattle.vss_model.specs.Outcome.{EndsAs, HasLists, IsOutcome, told_act, Fits, IsDigestIf, IsFirstIf, mark_if, mark_of}
pub use Rattle.vss_model.specs.Reply.{leaves_all, BlockOf, BlocksOf, Coded, Deleted, Faulted, FaultedAfter, Fine, KeptSets, PropertiesOf, Reply, StatusOf}
pub use Rattle.vss_model.specs.Sessions.{add_refusal, has_no_volume, call_reply, known_metas, most_images, most_volumes, new_set, selected, volumes_of, with_volume}
pub use Rattle.vss_model.specs.State.{Kept, SetRow, State, has_image, history_in, history_of, in_progress, is_complete, is_held, is_kept_set, is_running, kept, kept_at, kept_if, kept_image, kept_of}
pub use Rattle.vss_model.specs.State.{left_now, row_changed, row_of, row_of_writer, start}
pub use Rattle.vss_model.specs.Trail.{act_of, is_fault}
pub use Rattle.vss_names.specs.Faults.{Rose}
pub use Rattle.vss_names.specs.declared.context.Context.{Context}
pub use Rattle.vss_names.specs.declared.context.Context.TheVariants.{Backup}
pub use Rattle.vss_names.specs.declared.level.Level.{Level}
pub use Rattle.vss_names.specs.declared.level.Level.TheVariants.{BackEnd, FrontEnd, System}
pub use Rattle.vss_names.specs.declared.order.Order.{Order}
pub use Rattle.vss_names.specs.declared.order.Order.TheVariants.{BackupComplete, Freeze, Identify, PrepareBackup, PrepareSnapshot}
pub use Rattle.vss_names.specs.declared.set_outcome.SetOutcome.{SetOutcome}
pub use Rattle.vss_names.specs.declared.set_outcome.SetOutcome.TheVariants.{Complete, Failed, Running}
pub use Rattle.vss_names.specs.declared.vss_result.VssResult.{VssResult}
pub use Rattle.vss_names.specs.declared.vss_result.VssResult.TheVariants.{AsyncCancelled, AsyncPending, BadState, InsufficientStorage, MaximumNumberOfSnapshotsReached, MaximumNumberOfVolumesReached}
pub use Rattle.vss_names.specs.declared.vss_result.VssResult.TheVariants.{ObjectAlreadyExists, ObjectNotFound, SnapshotSetInProgress, UnexpectedProviderError, UnsupportedContext}
pub use Rattle.write_history.specs.History.{AreInTime, AreLater, History, Image, Write, after_set, blocks_named, content, contents, cut, dropped, fresh, point_in, reverted, reverted_in_part, sets_of}
pub use Rattle.write_history.specs.History.{to_restore, without_set, written}
pub use Rattle.write_history.specs.Slots.{Copy, Placed, copies, copies_from, copies_of, copy_of, evicted_of, evicted_up_to, gone_up_to, group_used, lacks_slot, named, needs_slot_in, used, used_by}
pub use Rattle.write_history.specs.Slots.{writes_since}
pub use Rattle.write_history.specs.declared.evicted.Evicted.{Evicted}
pub use Rattle.write_history.specs.declared.mark.Mark.{Mark}
pub use Rattle.write_history.specs.declared.mark.Mark.TheVariants.{Clean, Fault, FaultAfter}
pub use Rattle.writer_calls.specs.Script.{said_of}
pub use Rattle.writer_meta.specs.Metadata.{Meta, meta_of}
pub use Rattle.writer_meta.specs.declared.metadata.Metadata.{Metadata}
pub use Rattle.writer_state.specs.WriterState.{first_row, row_gathered}
pub use Rattle.writer_state.specs.declared.said.Said.{Said}
pub use Rattle.writer_state.specs.declared.said.Said.TheVariants.{Ok}
pub use Rattle.writer_state.specs.declared.writer_row.WriterRow.{WriterRow}
