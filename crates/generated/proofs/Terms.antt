-- The words of the definitions and of what is below them that this crate's proofs share, from one place.
pub use Rattle.block_data.specs.BlockBytes.{HasTaken, zeros}
pub use Rattle.block_data.specs.declared.block_buf.TheConstants.{BLOCK}
pub use Rattle.generated.specs.Scenario.{Adds, AreAsked, Asked, Awaits, Begins, Completes, Ends, Gathers, IsAsked, Names, Prepares, Snapshots, Starts}
pub use Rattle.generated.specs.Scenario.{four_sets, one_set, plan_of, writing_lane, IsGenerated, Shape, database, own_shape, shape_of, system, web}
pub use Rattle.generated.specs.Contents.{stamped, final_digests, summary, summary_head, volume_line, volume_lines}
unfoldable pub use Rattle.generated.specs.Contents.{final_blocks, final_bytes, writes_to, final_digest}
unfoldable pub use Rattle.generated.specs.Draws.{block_at, drawn, stamp_at, stands_at, volume_at}
pub use Rattle.generated.specs.ScenarioText.{as_lines, acting, declarations, drawn_text, gen_text, lane_text, lanes_text, set_lines, write_text}
unfoldable pub use Rattle.generated.specs.ScenarioText.{writes_text}
pub use Rattle.generated.specs.Smooth.{AreAlone, IsSmooth, is_write, writes, Free, Place, Spot, Stands, Waits, added, completes_sets, is_at_end, is_free}
pub use Rattle.generated.specs.Smooth.{is_full, spot_after, stage_next, volumes_next, with_volumes}
pub use Rattle.generated.specs.Draws.{write_at, writes_of_lane}
unfoldable pub use Rattle.hex.specs.Hex.{encode_with}
pub use Rattle.requestor.specs.declared.stage.Stage.TheVariants.{Failed, Finished}
pub use Rattle.scenario.proofs.Whole.{agendas_cons, lines_cons, lines_more}
pub use Rattle.scenario.specs.Bounds.{IsOp, IsRangedBy}
pub use Rattle.scenario.specs.Declarations.{described, document_field, has_volume_room, lane_if, lane_of, own_row, volume_of, writer_if}
unfoldable pub use Rattle.scenario.specs.Declarations.{acting_lane_of, free_lane_of, name_field, opening_of, own_volume_of, writer_of}
pub use Rattle.scenario.specs.Grammar.{has_lane, has_line_room, is_printable, is_skipped, may_stand, placed_row_of, said_of, IsScenario, goes_on, read_from}
unfoldable pub use Rattle.scenario.specs.Grammar.{row_of, saying_of, reading_of}
pub use Rattle.scenario.specs.Fields.{bytes_of, fields_for, fields_of, rest_fields, text_field, words_from}
pub use Rattle.scenario.specs.Lines.{lines_from, span_from}
pub use Rattle.scenario.specs.Names.{lane_names, place_of, volume_names, writer_names}
unfoldable pub use Rattle.scenario.specs.Names.{lane_named, volume_named, writer_named}
pub use Rattle.scenario.specs.Numbers.{in_range, is_digit}
unfoldable pub use Rattle.scenario.specs.Numbers.{number_in}
pub use Rattle.scenario.specs.Ops.{add_of, payload_of, ◌>>=◌}
unfoldable pub use Rattle.scenario.specs.Ops.{begin_of, component_of, image_of, number_field, op_of, read_of, volume_alone, volume_field, write_of}
unfoldable pub use Rattle.scenario.specs.Ops.{writer_field}
pub use Rattle.scenario.specs.Plan.{blocks_in, placed, placed_in, script_in, script_of, slots_in}
pub use Rattle.scenario.specs.SoFar.{Saying, SoFar, agenda_count, closed_lane, implied_end, line_count, nothing, plan_in, with_line}
pub use Rattle.scenario.specs.Words.{name_of}
unfoldable pub use Rattle.scenario.specs.Words.{word_of}
pub use Rattle.scenario.specs.declared.line.Line.TheVariants.{Writes}
pub use Rattle.scenario.specs.declared.op.Op.TheVariants.{Complete, Gather, Prepare, Snapshot}
pub use Rattle.scenario.specs.declared.reason.Reason.{Reason}
pub use Rattle.scenario.specs.declared.reason.Reason.TheVariants.{BadByte, Misplaced, OutOfRange, TooMany, UnknownName, UnknownWord}
pub use Rattle.scenario.specs.declared.span.Span.{Span}
pub use Rattle.serde_json.specs.Data.{Data, array, boolean, item, member, no_items, no_members, number, object, string, unsigned}
pub use Rattle.set_agenda.specs.Agenda.{is_asked, order_if}
pub use Rattle.set_agenda.specs.Course.{answered_to, sent, settled_in}
pub use Rattle.std.proofs.Math.Nat.{mod-lt, mul-add, mul-le-mul_right, mul-one, mul_comm}
pub use Rattle.std.proofs.Math.Seq.{drop-append_seam}
pub use Rattle.std.proofs.lemmas.Fmt.{decimal_digit, decimal_step, length-decimal-le}
pub use Rattle.std.proofs.lemmas.List.{map_push}
pub use Rattle.std.proofs.lemmas.List.FromFn.{length-range_with_len, map-range_with_len_more}
pub use Rattle.std.proofs.lemmas.List.Sums.{sum_by_push}
pub use Rattle.std.specs.Fmt.{decimal}
unfoldable pub use Rattle.std.specs.Fmt.{digits}
pub use Rattle.std.specs.List.{concat, flat_map}
pub use Rattle.std.specs.Str.{bytes_eq}
unfoldable pub use Rattle.std.specs.Str.{chars, is_utf8}
pub use Rattle.vss_model.proofs.Appending.{moves-run, state-append, state-run}
pub use Rattle.vss_model.proofs.Completed.{complete_before, completes_imaged, as_many_after, snapshots}
pub use Rattle.vss_model.proofs.CourseCalls.{not_ok_of_ok}
pub use Rattle.vss_model.proofs.Headline.{live_at}
pub use Rattle.vss_model.proofs.GoesOn.{cursor_more, cursor_same}
pub use Rattle.vss_model.proofs.OneCut.{all_taken, images_in_time}
pub use Rattle.vss_model.proofs.Orderly.{find-append_new, find-map, find-settled_over, find-settled_running, newest-map, true_not_false}
pub use Rattle.vss_model.proofs.OrderlyActs.{orderly, same_changed}
pub use Rattle.vss_model.proofs.Rows.{apart, has_complete, kind_is}
pub use Rattle.vss_model.proofs.StateForm.{add, add_to, await_last, change_set, cleared, concluded, cut_set, does, failed_in, happens, image_made, line}
pub use Rattle.vss_model.proofs.StateForm.{named_as, pending, put, refused, session_line, step_made, with_room_if}
unfoldable pub use Rattle.vss_model.proofs.StateForm.{called, closed, followed, write}
pub use Rattle.vss_model.proofs.Terms.{Act, Actor, Add, Advance, Agenda, AgendaEnds, AllLive, AppRollback, AreInTime, AreLater, AreLive, AsyncCancelled, Await}
pub use Rattle.vss_model.proofs.Terms.{BadState, Begin, Clean, Commit, Component, Course, Cut, Done, End, Ending, Fill, Flush, Gathered, Group, History, Hold}
pub use Rattle.vss_model.proofs.Terms.{Image, IsNamedAlready, IsNotFound, IsNotSelectable, IsOfSession, IsOrderly, Kind, Lane, LaneLine, LanePlan, Mark, Member}
pub use Rattle.vss_model.proofs.Terms.{Meta, Move, Naming, NothingEnds, NumberedFrom, Ok, Op, Open, Opened, Order, Orders, OverButNewest, Placed, Plan}
pub use Rattle.vss_model.proofs.Terms.{PostCommit, PreCommit, Prepared, Release, Run, Running, Session, SetOutcome, SetRow, Stage, Stamp, Start, Started, State}
pub use Rattle.vss_model.proofs.Terms.{VolumeRow, VssResult, Write, WriteFill, WriteStamp, Writer, WriterPlan, act_of, acts, acts_from, acts_if, add_refusal}
pub use Rattle.vss_model.proofs.Terms.{after_event, after_set, agenda_ended, agenda_lines, all_say, allows, and_from, answer_event, answered, begin}
pub use Rattle.vss_model.proofs.Terms.{begins_agenda, blocks_of, can_act, change_at, check, completing, content, context_of, cursor, decided, enabled, ending}
pub use Rattle.vss_model.proofs.Terms.{ends_sessions, event_enabled, event_of, faults, fresh, gathered, gone_up_to, groups_left, has_end, has_failed, has_image}
pub use Rattle.vss_model.proofs.Terms.{has_lost_image, has_no_volume, has_row_failed, has_said, history_in, history_of, in_progress, is_among, is_asking}
pub use Rattle.vss_model.proofs.Terms.{is_begin, is_decisive, is_disabled, is_early, is_end, is_fault, is_lane, is_legal, is_legal_from, is_legal_move, is_live}
pub use Rattle.vss_model.proofs.Terms.{is_orders, is_over, is_running, is_snapshot, is_used_up, is_working, known_metas, left, left_from, left_now, length-map}
pub use Rattle.vss_model.proofs.Terms.{length_push, line_enabled, line_event, line_of, lines_in, lines_of, list_all, list_any, makes_set, may_move, member_if}
pub use Rattle.vss_model.proofs.Terms.{members_from, members_of, moved, naming, nat_tests, new_number, new_set, next_line, next_member, next_volume}
pub use Rattle.vss_model.proofs.Terms.{none_can_act, open_group, open_order, open_place, or_right, order_of_writer, payload_bytes, places, plain, point_in}
pub use Rattle.vss_model.proofs.Terms.{prepared, range_with_len, row_cut, row_ended, row_gathered, row_settled, run, run_from, runs, same_place, script_event}
pub use Rattle.vss_model.proofs.Terms.{selected, set_loses_image, snapshot_begun, start, state, stepped, sum_by-cons, take-append_seam, takers, target_of}
pub use Rattle.vss_model.proofs.Terms.{token, volumes_of, waited_for, with_cut, with_group, with_volume, writers_at, written}
unfoldable pub use Rattle.vss_model.proofs.Terms.{after, begun, failed, posted, released, settled, told, worked}
pub use Rattle.vss_model.proofs.Volumes.{as_many_change, each_change}
pub use Rattle.vss_model.specs.declared.event.Event.{Event}
pub use Rattle.vss_model.specs.Acts.{is_blocked}
pub use Rattle.vss_model.specs.Effects.{evicted, evicted_at, evicted_for, volumes_losing}
pub use Rattle.vss_model.specs.Facts.{IsOfNone}
pub use Rattle.vss_model.specs.State.{is_complete, kept, row_of_writer}
pub use Rattle.vss_model.specs.declared.event.Event.TheVariants.{Answer, Line, Provider}
unfoldable pub use Rattle.vss_names.specs.Context.{context_of_number}
unfoldable pub use Rattle.vss_names.specs.Names.{is_name}
pub use Rattle.vss_report.proofs.Joined.{both, first_of_both, second_of_both}
pub use Rattle.vss_report.proofs.LegibleWords.{are_digits, number_back}
unfoldable pub use Rattle.vss_report.specs.Report.{effects_text, move_text}
pub use Rattle.write_history.specs.History.{contents, last_bytes, names, sets_of}
pub use Rattle.write_history.specs.Slots.{evicted_of, evicted_up_to, group_used, lacks_slot, needs_slot, needs_slot_in, used, writes_since}
pub use Rattle.write_history.specs.declared.actor.Actor.TheVariants.{Idle}
pub use Rattle.writer_calls.specs.Script.{scripted_answer}
pub use Rattle.writer_calls.specs.declared.scripted.Scripted.{Scripted}
pub use Rattle.writer_meta.proofs.Laws.{and_left, and_right}
unfoldable pub use Rattle.writer_meta.specs.Document.{class_in, component_name_in, components_in, double_after, freeze_timeout_in, kind_in, level_in}
unfoldable pub use Rattle.writer_meta.specs.Document.{list_of_parts, meta_in, metadata_in, name_in, part_in, parts_in, path_in, rows_of_meta, rows_of_part}
unfoldable pub use Rattle.writer_meta.specs.Document.{selectable_in, source_in, unknown_in, usage_in, value_of_text}
