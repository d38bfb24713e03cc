-- The words of the provider, and the lemmas of volumes and of the provider, from one place.
pub use Rattle.provider.specs.Words.{AreStored, Area, AreaRose, Cause, DeviceRose, Digested, Ghosts, GroupValue, HasTaken, Hasher, ImageFault, IsEvicted}
pub use Rattle.provider.specs.Words.{IsSameDevice, IsSync, IsUnfailed, LastsAt, NoSuchBlock, NoSuchImage, StandsFor, StillLasts, Volume, VolumeRose, blocks_at, changed_at, gone_group, gone_row}
pub use Rattle.provider.specs.Words.{history_in, is_among, is_there, made_room, sets_at, sets_in, sha256, told_in}
pub use Rattle.std.proofs.Math.Seq.{take-length}
pub use Rattle.std.proofs.lemmas.Bool.{and_parts, le-leb, leb-false, lt-leb, ne_eqb, true≢false}
pub use Rattle.std.proofs.lemmas.Bool.Decides.{nat_tests}
pub use Rattle.std.proofs.lemmas.List.{append-nil, length-append, length-map, map-append, map-id, set-append_left, set-append_right}
pub use Rattle.std.proofs.lemmas.List.Concat.{flat_map-cons}
pub use Rattle.std.proofs.lemmas.List.Elements.{All-cons, All-head, All-nil}
pub use Rattle.std.proofs.lemmas.List.Folds.{concat-append}
pub use Rattle.std.proofs.lemmas.List.FromFn.{map-range_with_len_more}
pub use Rattle.std.proofs.lemmas.Option.{get_or_from_slice_get, same_Some, slice_get_within}
pub use Rattle.std.proofs.lemmas.Result.{IfErr-weaker, IfOk-weaker}
pub use Rattle.std.specs.List.{concat, flat_map, range_with_len}
pub use Rattle.std.specs.Prelude.{unwrap_or}
pub use Rattle.vss_model.proofs.Words.{as_many_gone, get_some_left, one_place, same_number}
pub use Rattle.vss_model.specs.Words.{Commit, Copy, Evicted, Group, History, Image, IsPlaceOf, MaximumNumberOfSnapshotsReached, MaximumNumberOfVolumesReached, ObjectAlreadyExists, Placed, Plan, Rose}
pub use Rattle.vss_model.specs.Words.{VolumeRow, Write, after_set, blocks_in, blocks_in_group, blocks_of, change_at, content, contents, copies, copies_from, copies_of, count_if, count_images, dropped}
pub use Rattle.vss_model.specs.Words.{evicted_of, evicted_up_to, fresh, gone_up_to, group_of, group_used, has_image, lacks_slot, needs_slot_in, of_group, of_group_if, place_in, placed, placed_in}
pub use Rattle.vss_model.specs.Words.{point_in, sets_of, slots_in, slots_of, used, used_by, volume_after, volume_in, without_set}
pub use Rattle.cow_volume.proofs.DeviceCalls.{device_read}
pub use Rattle.cow_volume.proofs.Group.{length-slice_set, number_is, place_at, quiet_stands, slice_get-set_other, slice_get-set_same, slice_get_inside, slice_get_map, slice_set-same}
pub use Rattle.cow_volume.proofs.Kept.{unfailed_further}
pub use Rattle.cow_volume.proofs.Merging.{point_before}
pub use Rattle.cow_volume.proofs.Reverting.{take_next}
pub use Rattle.provider.specs.Calls.{AreWithout, GoUpTo, HasImage, HasImageCause, HasRoom, IfShown, IsDigestShown, IsDigestTold, IsDigestedAt, IsDropped, IsLastSet, IsPut, IsQuiet}
pub use Rattle.provider.specs.Calls.{IsRevert, IsRoomMade, IsShown, IsThere, holders, images_going, put_if, renumbered}
pub use Rattle.provider.specs.Groups.{AreKept, AreLasting, AreLater, HasCause, HasSyncCause, IsCallOn, IsKeptGroup, IsSynced, RoseAlone, area_place, counts_of}
pub use Rattle.provider.specs.Groups.{devices_of, fault_of, first_place, tells_from, tells_of, told_at, told_by, told_of, volume_place, volume_place_in}
pub use Rattle.provider.specs.Groups.{volumes_area, volumes_area_in, AreFresh, AreGroups, AreWhole, HasGroups, IfStandFor, IsGroup, IsPointOf, history_at}
pub use Rattle.provider.specs.GroupCalls.{AtPoint, HasDigestCause, ImageRose, IsDigestAt, IsGroupDrop, IsQuietGroup, IsWithout}
pub use Rattle.provider.specs.Preparing.{CanCutOn, HasStepCause, IsCutOn, IsProvider, ProviderValue, refusal, step_taken}
