-- The words of the definitions and of what is below them that this crate's proofs share, from one place.
pub use Rattle.block_data.specs.BlockBytes.{payload_bytes}
pub use Rattle.block_data.specs.declared.payload.Payload.TheVariants.{Fill, Stamp}
pub use Rattle.component_doc.specs.Over.{is_ascending, is_selectable_of, meta_at, names_selectable}
pub use Rattle.component_doc.specs.Selection.{IsNamedAlready, IsNotFound, IsNotSelectable, Names, Naming, Pair, found_in, found_of, has_pair, is_taker, naming}
pub use Rattle.component_doc.specs.Selection.{naming_found, naming_if, naming_of, takers, with_pair, known_from as known_of}
pub use Rattle.requestor.specs.Check.{check, check_begin, check_other, goes_beside_agenda, is_stage, is_start, owner_only, verdict_of}
pub use Rattle.requestor.specs.Session.{Session, agenda_ended, context_of, has_writers, makes_set, opened, set_failed, stage_after, started}
pub use Rattle.requestor.specs.declared.mode.Mode.{Mode}
pub use Rattle.requestor.specs.declared.mode.Mode.TheVariants.{All, Components}
pub use Rattle.requestor.specs.declared.session_call.SessionCall.{SessionCall}
pub use Rattle.requestor.specs.declared.stage.Stage.{Stage}
pub use Rattle.requestor.specs.declared.stage.Stage.TheVariants.{Done, Gathered, Opened, Prepared, Started}
pub use Rattle.requestor.specs.declared.verdict.Verdict.{Verdict}
pub use Rattle.requestor.specs.declared.verdict.Verdict.TheVariants.{Blocked, Go, Refused}
pub use Rattle.scenario.specs.Bounds.{IsLane, IsPlan, agenda_lines, begins_agenda, ends_sessions, has_end, is_begin, is_end}
pub use Rattle.scenario.specs.Calls.{Target, line_of, target_in, target_of}
pub use Rattle.scenario.specs.Plan.{LaneLine, LanePlan, Plan, WriterPlan, acts_as, blocks_of, lines_in, lines_of, token}
pub use Rattle.scenario.specs.declared.line.Line.TheVariants.{Calls, DeletesImage, DeletesSet, Reads, ShowsBlock, ShowsImage, ShowsProperties, ShowsSets, Ticks}
pub use Rattle.scenario.specs.declared.op.Op.{Op}
pub use Rattle.scenario.specs.declared.op.Op.TheVariants.{Abort, Add, Await, Begin, Component, DeleteImage, DeleteSet, Disable, Document, End, ImageBlock}
pub use Rattle.scenario.specs.declared.op.Op.TheVariants.{ImageDigest, Properties, Query, Read, Revert, Start, Status, Tick, WriteFill, WriteStamp}
pub use Rattle.scenario.specs.declared.volume_row.VolumeRow.{VolumeRow}
pub use Rattle.set_agenda.proofs.CourseRule.{IsAsked, IsKeptFrom, IsKeptInCourse, course_answered, course_begun, course_stepped, course_timed, from_answered}
pub use Rattle.set_agenda.proofs.CourseRule.{from_begun, from_settled, from_stepped, from_timed, IsSpentHere, spent_here}
pub use Rattle.set_agenda.specs.Advance.{advance, unasked}
pub use Rattle.set_agenda.specs.Agenda.{Agenda, Entry, Open, all_say, at_level, at_place, group_code, groups_left, has_frozen, has_said, has_thawed, is_among}
pub use Rattle.set_agenda.specs.Agenda.{is_asking, is_at, is_done, is_freeze, is_orders, is_snapshot, is_thaw, is_working, left, left_from, level_code}
pub use Rattle.set_agenda.specs.Agenda.{members_of, next_member, next_volume, open_group, open_order, open_place, order_now, order_of, places, plain}
pub use Rattle.set_agenda.specs.Agenda.{same_place, waited_for, waits_now, with_group, writers_at, is_held as holds, is_frozen as freezes, is_asked}
pub use Rattle.set_agenda.specs.Course.{Course, answered, change_at, completing, decided, fails_set, freeze_limit, gathered, has_row_failed, is_decisive}
pub use Rattle.set_agenda.specs.Course.{is_member, limit_of, limits_now, lost, lost_decided, lost_to, member_if, members_from, outcome_after, prepared}
pub use Rattle.set_agenda.specs.Course.{rows_where, settled_if, snapshot_begun, stepped, timed, treated, treated_as}
unfoldable pub use Rattle.set_agenda.specs.Course.{begun, failed, posted, released, settled, told, worked}
pub use Rattle.set_agenda.specs.Limits.{answer_runs, first_hold, first_time, freeze_opened_at, freeze_runs, hold_running, hold_runs, is_hold, last_time}
pub use Rattle.set_agenda.specs.Limits.{opened_at, running_at, running_limits, runs_if, spent_of, ticks_to_spend, Running as RunningLimit}
pub use Rattle.set_agenda.specs.declared.group.Group.{Group}
pub use Rattle.set_agenda.specs.declared.group.Group.TheVariants.{Commit, Cut, Flush, Hold, Orders, PostCommit, PreCommit, Release}
pub use Rattle.set_agenda.specs.declared.kind.Kind.{Kind}
pub use Rattle.set_agenda.specs.declared.kind.Kind.TheVariants.{Complete, Gather, Prepare, Snapshot}
pub use Rattle.set_agenda.specs.declared.limit.Limit.{Limit}
pub use Rattle.set_agenda.specs.declared.member.Member.{Member}
pub use Rattle.set_agenda.specs.declared.place.Place.{Place}
pub use Rattle.std.proofs.Math.Seq.{drop-length, take-append-add, take-append_seam}
pub use Rattle.std.proofs.lemmas.Bool.{and_from, and_left, and_parts, and_right, cases_lt, cond-false, cond-true, eq-eqb, eqb-true, false_from_ne_true}
pub use Rattle.std.proofs.lemmas.Bool.{ltb-false, ltb-true, ne_eqb, or_from, or_left, or_parts, or_right}
pub use Rattle.std.proofs.lemmas.Bool.Decides.{nat_tests}
pub use Rattle.std.proofs.lemmas.Grind.{common_steps}
pub use Rattle.std.proofs.lemmas.List.{append-nil, append_assoc, length-append, length-map, length_push}
pub use Rattle.std.proofs.lemmas.List.Folds.{list_any-append}
pub use Rattle.std.proofs.lemmas.List.Sums.{fold-append, sum_by-append, sum_by-cons}
pub use Rattle.std.specs.List.{list_all, list_any, range_with_len}
pub use Rattle.tick_limits.specs.Time.{answer_limit, default_freeze, hold_limit, is_spent, ticks_until}
pub use Rattle.vss_model.specs.Acts.{Act, answer_reply, changes, enabled, idle_now, is_free, line_enabled, order_of_writer, reply, state, step_reply}
unfoldable pub use Rattle.vss_model.specs.Acts.{after}
pub use Rattle.vss_model.specs.Causes.{freezes_writers, frozen_too_long, gives_cause, has_passed, held_too_long, holds_volumes, is_elsewhere, is_flush_step}
pub use Rattle.vss_model.specs.Causes.{is_hold_step, is_late, is_late_at, is_late_in, last_of, line_gives_cause, owns, prepares_snapshot, unanswered_too_long}
pub use Rattle.vss_model.specs.Changes.{AddsVolume, Change, CourseIs, Drops, DropsSet, Evicts, IsCutAt, Makes, Passes, Reverts, RevertsPart, SessionIs, Settles}
pub use Rattle.vss_model.specs.Changes.{StartsSet, Writes, adds, after_changes, answers, apply, begins, calls, closes, cuts, deletes, does_change}
pub use Rattle.vss_model.specs.Changes.{drops, ends, event_changes, fails, goes_on, made_at, makes, makes_room, names, next_step, opens_as, passes, puts, releases, reverts}
pub use Rattle.vss_model.specs.Changes.{session_calls, steps}
pub use Rattle.vss_model.specs.Cut.{IsShownAt, cut, cut_from, is_cut_group, is_cut_of, is_provider, is_set}
pub use Rattle.vss_model.specs.Effects.{ended_of, line_ticks, ticks_of}
pub use Rattle.vss_model.specs.Steps.{AgendaEnds, Ending, NothingEnds, SetFails, ending, row_settled, runs, is_failed_step, is_flush, row_cut, with_cut}
pub use Rattle.vss_model.specs.Facts.{AllLive, AreLive, IsAgendaOf, IsNewest, IsOfSession, IsOfStage, IsOrderly, NumberedFrom, OverButNewest, WaitsFor}
pub use Rattle.vss_model.specs.Facts.{has_failed, holds_for, is_early, is_live, snapshot_stage}
pub use Rattle.vss_model.specs.Turns.{CanGoOn, EndsSessions, most_moves, turns_left, turns_of_agenda, turns_of_lanes, turns_of_line, turns_of_lines, waiting}
pub use Rattle.vss_model.specs.Headline.{IsFailed, IsFrozenForSet, IsHeldForSet, KeepsSet, LeavesNothing, MakesEachLineOnce, ReadsAsAtTheCut}
pub use Rattle.vss_model.specs.Images.{block_reply, cleared, count_images, delete_image_reply, has_lost_image, image_reply, is_in_set, properties_reply}
pub use Rattle.vss_model.specs.Images.{query_reply, read_reply, reply_of_mark, revert_refusal, revert_reply, set_loses_image}
pub use Rattle.vss_model.specs.Laws.{IsKeptByChanges, IsKeptByWrites, LetsGo, RunsSnapshot}
pub use Rattle.vss_model.specs.Reply.{is_fine, is_numbered, is_pending, is_pending_code, leaves_all, Coded, Deleted, Faulted, FaultedAfter, Fine, Idled}
pub use Rattle.vss_model.specs.Reply.{NotSelectable, Numbered, Reply, StatusOf}
pub use Rattle.vss_model.specs.Sessions.{add_refusal, add_reply, await_reply, call_reply, component_reply, fine_unless, first_reply, has_failed_identify}
pub use Rattle.vss_model.specs.Sessions.{has_no_volume, is_disabled, is_identify_failure, is_known, judged_reply, known_from, known_metas, most_images}
pub use Rattle.vss_model.specs.Sessions.{most_volumes, naming_reply, new_number, new_set, selected, selected_in, session_reply, volumes_of, with_volume}
pub use Rattle.vss_model.specs.State.{Kept, SetRow, State, has_image, history_in, history_of, in_progress, is_frozen, is_held, is_kept_set, is_running}
pub use Rattle.vss_model.specs.State.{kept_image, kept_of, left_now, row_changed, row_of, start}
pub use Rattle.vss_model.specs.Trail.{Run, act_of, acts, acts_from, acts_if, after_event, allows, answer_event, begin, can_act, cursor, event_enabled, event_of}
pub use Rattle.vss_model.specs.Trail.{faults, is_complete, is_fault, is_lane, is_legal, is_legal_from, is_legal_move, is_over, is_used_up, line_event, may_move}
pub use Rattle.vss_model.specs.Trail.{moved, next_line, none_can_act, run, run_from, script_event}
pub use Rattle.vss_model.specs.declared.event.Event.{Event}
pub use Rattle.vss_model.specs.declared.event.Event.TheVariants.{Idle, Line, Provider, Answer as AnswerEvent}
pub use Rattle.vss_names.specs.declared.context.Context.{Context}
pub use Rattle.vss_names.specs.declared.context.Context.TheVariants.{AppRollback, Backup, NasRollback}
pub use Rattle.vss_names.specs.declared.level.Level.{Level}
pub use Rattle.vss_names.specs.declared.level.Level.TheVariants.{BackEnd, FrontEnd, System}
pub use Rattle.vss_names.specs.declared.order.Order.{Order}
pub use Rattle.vss_names.specs.declared.order.Order.TheVariants.{BackupComplete, Freeze, Identify, PostSnapshot, PrepareBackup, PrepareSnapshot, Thaw}
pub use Rattle.vss_names.specs.declared.set_outcome.SetOutcome.{SetOutcome}
pub use Rattle.vss_names.specs.declared.set_outcome.SetOutcome.TheVariants.{Failed, Running, Complete as CompleteSet}
pub use Rattle.vss_names.specs.declared.vss_result.VssResult.{VssResult}
pub use Rattle.vss_names.specs.declared.vss_result.VssResult.TheVariants.{AsyncCancelled, AsyncPending, BadState, InsufficientStorage}
pub use Rattle.vss_names.specs.declared.vss_result.VssResult.TheVariants.{MaximumNumberOfSnapshotsReached, MaximumNumberOfVolumesReached, ObjectAlreadyExists}
pub use Rattle.vss_names.specs.declared.vss_result.VssResult.TheVariants.{ObjectNotFound, UnexpectedProviderError, UnsupportedContext}
pub use Rattle.write_history.specs.History.{AreInTime, AreLater, History, Image, Write, after_set, blocks_named, content, dropped, fresh, point_in, reverted}
pub use Rattle.write_history.specs.History.{reverted_in_part, up_to_set, without_set, written, cut as history_cut}
pub use Rattle.write_history.specs.Slots.{Copy, Placed, copies, copies_from, copies_of, copy_of, gone_up_to, named, used_by}
pub use Rattle.write_history.specs.declared.actor.Actor.{Actor}
pub use Rattle.write_history.specs.declared.actor.Actor.TheVariants.{Advance, Lane, Writer, Idle as IdleActor}
pub use Rattle.write_history.specs.declared.mark.Mark.{Mark}
pub use Rattle.write_history.specs.declared.mark.Mark.TheVariants.{Clean, Fault, FaultAfter}
pub use Rattle.write_history.specs.declared.move_item.Move.{Move}
pub use Rattle.writer_calls.specs.Script.{said_of}
pub use Rattle.writer_calls.specs.declared.answer.Answer.{Answer}
pub use Rattle.writer_meta.specs.Metadata.{Meta}
pub use Rattle.writer_state.specs.WriterState.{row_aborted, row_after, row_ended, row_gathered, is_ok}
pub use Rattle.writer_state.specs.declared.said.Said.{Said}
pub use Rattle.writer_state.specs.declared.said.Said.TheVariants.{Ok, Lost}
pub use Rattle.writer_state.specs.declared.writer_row.WriterRow.{WriterRow}
pub use Rattle.scenario.specs.declared.line.Line.{Line as Does}
pub use Rattle.set_agenda.proofs.Closings.{unless}
