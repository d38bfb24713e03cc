-- The promises together.
use Rattle.promises.proofs.Words.{Move, Plan, IsAsPromised}
use Rattle.std.proofs.Common.{List}
use Rattle.promises.proofs.Accepted.{accepts_in_order}
use Rattle.promises.proofs.Answers.{answers_say}
use Rattle.promises.proofs.Asked.{asks_its_own, completes_unfailed}
use Rattle.promises.proofs.LastResult.{await_tells}
use Rattle.promises.proofs.Moves.{calls_are_owned, waits_are_few, waits_are_due, stands_quiet, frozen_do_not_write, clock_moves, idles_shortest, marks_are_due}
use Rattle.promises.proofs.Moves.{refusals_change_nothing}
use Rattle.promises.proofs.Replies.{closes_as_kept, tells_the_end, replies_tell}
use Rattle.promises.proofs.Codes.{fails_by_code}
use Rattle.promises.proofs.Contents.{contents_change, copies_hold}
use Rattle.promises.proofs.ContextZero.{backups_end, is_done}
use Rattle.promises.proofs.CutTimes.{cuts_at_the_step, properties_tell}
use Rattle.promises.proofs.Evicted.{tells_evicted}
use Rattle.promises.proofs.Images.{images_go_for_cause}
use Rattle.promises.proofs.Once.{steps_in_turn}
use Rattle.promises.proofs.Refusals.{finds_the_kept, refuses_for_cause}
use Rattle.promises.proofs.KeptCopies.{keeps_copies}
use Rattle.promises.proofs.Levels.{has_its_numbers}
use Rattle.promises.proofs.Lost.{loses_the_late}
use Rattle.promises.proofs.Failing.{writes_fail_for_slots}
use Rattle.promises.proofs.Participants.{chosen_take_part, takes_part}
use Rattle.promises.proofs.Progress.{has_its_context}
use Rattle.promises.proofs.RowChanges.{rows_change}
use Rattle.promises.proofs.Scripts.{answers_by_script}
use Rattle.promises.proofs.SetRows.{keeps_rows, volumes_are_distinct}
use Rattle.promises.proofs.Slots.{slots_suffice}
use Rattle.promises.proofs.Times.{stands_still}
use Rattle.promises.proofs.Within.{orders_end, stands_within_limits}
use Rattle.promises.proofs.Whole.{complete_by_the_way}
use Rattle.promises.proofs.Documents.{tells_document}
use Rattle.promises.proofs.Owing.{nobody_owes}

pub as_promised : (s : Plan) (trail : List Move) → IsAsPromised s trail
as_promised s trail = record {
  each_act = λ so_far rest act e. record {
    participants = takes_part s so_far act;
    completes = complete_by_the_way s so_far act;
    code = fails_by_code s so_far act;
    full = writes_fail_for_slots s so_far act;
    sets = keeps_rows s so_far act;
    images = images_go_for_cause s so_far act;
    evicted = tells_evicted s so_far act;
    kept = finds_the_kept s so_far act;
    done = is_done s so_far act;
    contents = contents_change s so_far act;
    clock = clock_moves s so_far act;
    calls = calls_are_owned s so_far act;
    accepts = accepts_in_order s so_far act;
    refuses = refusals_change_nothing s so_far act;
    answers = answers_say s so_far act;
    replies = replies_tell s so_far act;
    properties = properties_tell s so_far act;
    awaits = await_tells s so_far act;
    rows = rows_change s so_far act;
    loses = loses_the_late s so_far act;
    document = tells_document s so_far act;
    cuts = cuts_at_the_step s so_far act;
    turns = steps_in_turn s so_far act;
    ends = tells_the_end s so_far act;
    refused = refuses_for_cause s so_far act;
  };
  each_state = λ so_far rest e. record {
    waits = waits_are_few s so_far;
    due = waits_are_due s so_far;
    quiet = stands_quiet s so_far;
    frozen = frozen_do_not_write s so_far;
    context = has_its_context s so_far;
    chosen = chosen_take_part s so_far;
    asks = asks_its_own s so_far;
    owes = nobody_owes s so_far;
    volumes = volumes_are_distinct s so_far;
    idles = idles_shortest s so_far;
    limits = stands_within_limits s so_far;
    numbers = has_its_numbers s so_far;
    orders = orders_end s so_far;
    completing = completes_unfailed s so_far;
    backups = backups_end s so_far;
    slots = slots_suffice s so_far;
    copies = copies_hold s so_far;
    still = stands_still s so_far;
    keeps = keeps_copies s so_far;
    marks = marks_are_due s so_far;
    closes = closes_as_kept s so_far;
  };
  scripts = answers_by_script s trail;
}
