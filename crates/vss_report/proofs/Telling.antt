-- The lines that are written of a move, and the report of a run whose devices all tell their blocks, the only one.
use Rattle.std.proofs.Common.{◌≡◌, ℕ, zero, suc, ◌+◌, ◌-◌, ◌/◌, ◌^◌, ◌<◌, ◌≤◌, List, [], ◌∷◌, ◌++◌, refl, Bool, true, false, cond, ap, sym, ◌∙◌, filter, arith}
use Rattle.std.proofs.Common.{subst, inl, inr, bit_and, nat_eq, length, take, map, Option, Some, None}
use Rattle.std.proofs.lemmas.Bool.{cases_lt}
use Rattle.std.proofs.lemmas.Grind.{common_steps}
use Rattle.std.proofs.lemmas.List.{append_assoc, append-nil}
use Rattle.std.proofs.lemmas.List.Elements.{All-tail}
use Rattle.std.proofs.lemmas.Nat.Bits.{shr_and_one}
use Rattle.std.specs.Fmt.{decimal}
use Rattle.std.specs.List.{flat_map, range_with_len}
use Rattle.std.specs.Prelude.{All, slice_get}
use Rattle.vss_names.specs.declared.order.Order.{Order}
use Rattle.vss_names.specs.declared.set_outcome.SetOutcome.{SetOutcome}
use Rattle.block_data.specs.BlockBytes.{sha256}
use Rattle.write_history.specs.History.{Image, History}
use Rattle.write_history.specs.declared.actor.Actor.{Actor}
use Rattle.write_history.specs.declared.evicted.Evicted.{Evicted}
use Rattle.write_history.specs.declared.mark.Mark.{Mark}
use Rattle.write_history.specs.declared.move_item.Move.{Move}
use Rattle.writer_state.specs.declared.writer_row.WriterRow.{WriterRow}
use Rattle.set_agenda.specs.WriterSet.{has_bit, writers, writers_of}
use Rattle.scenario.specs.Plan.{Plan}
use Rattle.scenario.specs.declared.volume_row.VolumeRow.{VolumeRow}
use Rattle.vss_model.specs.Acts.{Act, reply}
use Rattle.vss_model.specs.Effects.{evicted, lost, lost_order, ended}
use Rattle.vss_model.specs.Outcome.{IsOutcome, HasLists, EndsAs, Fits, mark_of, IsDigestIf, IsFirstIf}
use Rattle.vss_model.specs.Reply.{Reply}
use Rattle.vss_model.specs.State.{State, kept}
use Rattle.vss_model.specs.Trail.{Run, run, run_from, moved, act_of, begin, event_of}
use Rattle.vss_model.specs.declared.event.Event.{Event}
use Rattle.vss_model.specs.declared.outcome.Outcome.{Outcome}
use Rattle.vss_model.specs.declared.told.Told.{Told}
use Rattle.vss_report.specs.Report.{IsMoveText, IsLines, IsReportSoFar, first_line, reply_with, IsShownAs, IsReplyText, actor_text, effects_text, move_text}
use Rattle.vss_report.specs.Report.{IsTextOf, IsVolumeText, IsImageText, AreImageTexts, AreVolumeTexts, IsReport}
use Rattle.vss_report.specs.ToldLines.{told_text, told_actor, told_end, told_lines, IsLineOf, AreLinesOf, first_of, digest_of, told_reply, told_event}
use Rattle.vss_report.specs.ToldLines.{told_move, told_moves, told_image, told_images, told_volume, told_volumes, told_closing, told_report, all_tell}
use Rattle.vss_report.specs.Words.{lost_text, spaced, as_line, evicted_text}

-- ## The writers whose bits are set in a number, one after the other.

-- the members are among the first 64 numbers
pub from_first : (f : ℕ → List ℕ) (bits : ℕ) → flat_map f (writers_of bits) ≡ flat_map f (filter (has_bit bits) (range_with_len 0 64))
unfolding writers
from_first f bits = refl

member : (f : ℕ → List ℕ) (b : Bool) (w : ℕ) (ws : List ℕ) → flat_map f (cond b (w ∷ ws) ws) ≡ cond b (f w) [] ++ flat_map f ws
member f b w ws = grind arith

from_next : (f : ℕ → List ℕ) (p : ℕ → Bool) (w n k : ℕ) → n ≡ suc k → flat_map f (filter p (range_with_len w n)) ≡ cond (p w) (f w) [] ++ flat_map f (filter p (range_with_len (w + 1) k))
from_next f p w n k e = rw e (member f (p w) w (filter p (range_with_len (w + 1) k)))

-- what is left from a number on: its own text, where it is a member, and what is left from the next number on
from_number : (f : ℕ → List ℕ) (p : ℕ → Bool) (w : ℕ) → w < 64
    → flat_map f (filter p (range_with_len w (64 - w))) ≡ cond (p w) (f w) [] ++ flat_map f (filter p (range_with_len (w + 1) (64 - (w + 1))))
from_number f p w h = from_next f p w (64 - w) (64 - (w + 1)) (omega arith)

-- ## what holds for all members holds for one

head_of : (P : ℕ → Type 0) (b : Bool) (w : ℕ) (ws : List ℕ) → b ≡ true → All P (cond b (w ∷ ws) ws) → P w
head_of x0 b w ws e all = grind arith

tail_of : (P : ℕ → Type 0) (b : Bool) (w : ℕ) (ws : List ℕ) → All P (cond b (w ∷ ws) ws) → All P ws
tail_of P true w ws all = All-tail P w ws all
tail_of P false w ws all = all

holds_within : (P : ℕ → Type 0) (p : ℕ → Bool) (a n w : ℕ) → All P (filter p (range_with_len a n)) → a ≤ w → w < a + n → p w ≡ true → P w
holds_within P p a zero w all h l e = absurd (omega arith)
holds_within P p a (suc n) w all h l e = elim (cases_lt a w) [
  | inl below ↦ holds_within P p (a + 1) n w (tail_of P (p a) a (filter p (range_with_len (a + 1) n)) all) (omega arith) (omega arith) e
  | inr above ↦
      let same : a ≡ w = omega arith in
      subst P same (head_of P (p a) a (filter p (range_with_len (a + 1) n)) (ap p same ∙ e) all)
]

pub holds_for : (P : ℕ → Type 0) (bits w : ℕ) → All P (writers_of bits) → w < 64 → has_bit bits w ≡ true → P w
unfolding writers
holds_for P bits w all h e = holds_within P (has_bit bits) 0 64 w all (omega arith) (omega arith) e

-- the test of a bit
pub bit_is : (bits w : ℕ) → nat_eq (bit_and (bits / 2 ^ w) 1) 1 ≡ has_bit bits w
bit_is bits w = ap (λ b. nat_eq b 1) (shr_and_one bits w)

-- without an order there is no line
no_order : (s : Plan) (ws : List ℕ) → flat_map (lost_text s None) ws ≡ []
no_order s [] = refl
no_order s (w ∷ ws) = no_order s ws

-- ## steps of the loop over all writers

-- the member's own text is written, and then what is left from the next number on
pub one_more : (f : ℕ → List ℕ) (p : ℕ → Bool) (w : ℕ) (before after whole : List ℕ) → w < 64 → after ≡ before ++ cond (p w) (f w) []
    → before ++ flat_map f (filter p (range_with_len w (64 - w))) ≡ whole
    → after ++ flat_map f (filter p (range_with_len (w + 1) (64 - (w + 1)))) ≡ whole
one_more f p w before after whole h is all = grind (arith, append_assoc, from_number)

pub none_lost : (s : Plan) (o : Option Order) (ws : List ℕ) (text : List ℕ) → o ≡ None → text ≡ text ++ flat_map (lost_text s o) ws
none_lost s o ws text e = sym (ap (λ x. text ++ flat_map (lost_text s x) ws) e ∙ ap (λ b. text ++ b) (no_order s ws) ∙ append-nil text)

-- ## What one more move adds to the lines of a report.

append_nothing : (xs : List ℕ) → xs ++ [] ≡ xs
append_nothing xs = grind (arith, common_steps)

IsLines-append : (s : Plan) (tells : List Bool) (r : Run) (ms : List Move) (m : Move) (text own : List ℕ) → IsLines s tells r ms text → IsMoveText s tells (run_from s r ms) m own → IsLines s tells r (ms ++ m ∷ []) (text ++ own)
IsLines-append s tells r [] m text own e h = (own, [], h, refl, ap (λ xs. xs ++ own) e ∙ sym (append_nothing own))
IsLines-append s tells r (n ∷ ms) m text own h last = grind (arith, common_steps, append_assoc, IsLines-append s tells (moved s r n) ms m h.1 own h.3 last)

pub so_far_none : (s : Plan) (tells : List Bool) → IsReportSoFar s tells [] first_line
so_far_none s tells = record { moves = []; lines = refl; is = sym (append_nothing first_line) }

pub so_far_one : (s : Plan) (tells : List Bool) (trail : List Move) (m : Move) (text own : List ℕ) → IsReportSoFar s tells trail text → IsMoveText s tells (run s trail) m own → IsReportSoFar s tells (trail ++ m ∷ []) (text ++ own)
so_far_one s tells trail m text own h last = grind (arith, IsLines-append, append_assoc)

-- ## The lines that are written of what a move was told are lines of the move.

-- ## the reply

-- a reply that shows no bytes of a volume
plain_text : (s : Plan) (tells : List Bool) (r : Reply) (text : List ℕ) → IsShownAs tells r [] [] → text ≡ reply_with s [] [] r → IsReplyText s tells r text
plain_text s tells r text shown e = record { first = []; digest = []; shown = shown; is = e }

reply_text : (s : Plan) (tells : List Bool) (listed : List ℕ) (rows : List WriterRow) (t : Told) (r : Reply) → Fits tells r t → HasLists r listed rows
    → IsReplyText s tells r (told_text s listed rows t)
reply_text s tells listed rows t r f h = grind (arith, plain_text)

-- ## who moves

actor_is : (s : Plan) (r : Run) (line : ℕ) (a : Actor) → IsLineOf s r a line → told_actor s line a ≡ actor_text s r a
actor_is s r line a e = grind arith

-- ## the effects

effects_are : (s : Plan) (st : State) (act : Act) (images : List Evicted) (bits : ℕ) (o : Option Order) (n : ℕ) (end : SetOutcome)
    → images ≡ evicted s st act.event → writers_of bits ≡ lost st act.event → o ≡ lost_order st act.event → EndsAs (ended s st act) n end
    → flat_map (evicted_text s) images ++ flat_map (lost_text s o) (writers_of bits) ++ told_end n end ≡ effects_text s st act
unfolding effects_text
effects_are s st act images bits o n end images_are lost_are order_is ends = grind arith

-- ## the whole

grouped : (a b c d : List ℕ) → a ++ b ++ c ++ d ≡ a ++ (b ++ c ++ d)
grouped a b c d = append_assoc (a ++ b) c d ∙ append_assoc a b (c ++ d) ∙ ap (λ x. a ++ x) (sym (append_assoc b c d))

first_is : (n k : ℕ) (a b text : List ℕ) → n ≡ k → a ≡ b → as_line (decimal n ++ spaced a ++ spaced text) ≡ as_line (decimal k ++ spaced b ++ spaced text)
first_is n k a b text same actor = grind arith

lines_are : (s : Plan) (tells : List Bool) (n line : ℕ) (r : Run) (actor : Actor) (event : Event) (o : Outcome) (listed : List ℕ) (images : List Evicted) (rows : List WriterRow)
    → IsOutcome tells s r.state event o listed images rows → n ≡ length r.moves + 1 → IsLineOf s r actor line
    → told_lines s n line actor o listed images rows ≡ move_text s r actor (act_of (mark_of o.told) event) (told_text s listed rows o.told)
unfolding move_text
lines_are s tells n line r actor event o listed images rows outcome number is_line =
    let act : Act = act_of (mark_of o.told) event in
    let text : List ℕ = told_text s listed rows o.told in
    grouped (as_line (decimal n ++ spaced (told_actor s line actor) ++ spaced text)) (flat_map (evicted_text s) images) (flat_map (lost_text s o.lost_order) (writers_of o.lost)) (told_end o.set o.result)
    ∙ ap (λ x. x ++ (flat_map (evicted_text s) images ++ flat_map (lost_text s o.lost_order) (writers_of o.lost) ++ told_end o.set o.result))
    (first_is n (length r.moves + 1) (told_actor s line actor) (actor_text s r actor) text number (actor_is s r line actor is_line))
    ∙ ap (λ x. as_line (decimal (length r.moves + 1) ++ spaced (actor_text s r actor) ++ spaced text) ++ x)
    (effects_are s r.state act images o.lost o.lost_order o.set o.result outcome.evicts outcome.loses outcome.order outcome.ends)

pub are_lines : (s : Plan) (n line : ℕ) (m : Move) (o : Outcome) (listed : List ℕ) (images : List Evicted) (rows : List WriterRow)
    → AreLinesOf s n line m o listed images rows (told_lines s n line m.actor o listed images rows)
are_lines s n line m o listed images rows tells r event is_event is_mark outcome number is_line =
    let fact = reply_text s tells listed rows o.told (reply s r.state (act_of (mark_of o.told) event)) outcome.fits outcome.lists in
    grind (arith, common_steps, lines_are s tells n line r m.actor event o listed images rows outcome)

-- ## The report of a run whose devices all tell their blocks is a report, and the only one.

digest_told : (rows : List VolumeRow) (v : ℕ) (bytes : List ℕ) → IsDigestIf (slice_get (map (λ _. true) rows) v) bytes (sha256 bytes)
digest_told [] zero bytes = refl
digest_told [] (suc v) bytes = refl
digest_told (r ∷ rows) zero bytes = refl
digest_told (r ∷ rows) (suc v) bytes = digest_told rows v bytes

first_told : (rows : List VolumeRow) (v : ℕ) (bytes : List ℕ) → IsFirstIf (slice_get (map (λ _. true) rows) v) bytes (take 8 bytes)
first_told [] zero bytes = refl
first_told [] (suc v) bytes = refl
first_told (r ∷ rows) zero bytes = refl
first_told (r ∷ rows) (suc v) bytes = first_told rows v bytes

is_shown : (s : Plan) (reply : Reply) → IsShownAs (all_tell s) reply (first_of reply) (digest_of reply)
is_shown s reply = grind (arith, first_told, digest_told)

is_told_reply : (s : Plan) (reply : Reply) → IsReplyText s (all_tell s) reply (told_reply s reply)
is_told_reply s reply = record { first = first_of reply; digest = digest_of reply; shown = is_shown s reply; is = refl }

is_told_event : (s : Plan) (r : Run) (actor : Actor) (event : Option Event) (mark : Mark) → IsTextOf s (all_tell s) r actor event mark (told_event s r actor event mark)
is_told_event s r actor event mark = grind (arith, is_told_reply)

are_told_moves : (s : Plan) (r : Run) (ms : List Move) → IsLines s (all_tell s) r ms (told_moves s r ms)
are_told_moves s r [] = refl
are_told_moves s r (m ∷ ms) = (told_move s r m, told_moves s (moved s r m) ms, is_told_event s r m.actor (event_of s r m.actor) m.mark, are_told_moves s (moved s r m) ms, refl)

are_told_images : (s : Plan) (v : ℕ) (row : VolumeRow) (h : History) (images : List Image) → AreImageTexts s (all_tell s) v row h images (told_images s v row h images)
are_told_images s v row h [] = refl
are_told_images s v row h (i ∷ images) = (told_image s v row h i, told_images s v row h images, record { digest = _; is_digest = digest_told s.volumes v _; is = refl }, are_told_images s v row h images, refl)

are_told_volumes : (s : Plan) (st : State) (v : ℕ) (rows : List VolumeRow) (hs : List History) → AreVolumeTexts s (all_tell s) st v rows hs (told_volumes s st v rows hs)
are_told_volumes s st v [] hs = refl
are_told_volumes s st v (row ∷ rows) [] = refl
are_told_volumes s st v (row ∷ rows) (h ∷ hs) = (
  told_volume s v row h,
  told_images s v row h (kept st h),
  told_volumes s st (v + 1) rows hs,
  record { digest = _; is_digest = digest_told s.volumes v _; is = refl },
  are_told_images s v row h (kept st h),
  are_told_volumes s st (v + 1) rows hs,
  refl,
)

pub is_told_report : (s : Plan) (trail : List Move) → IsReport s (all_tell s) trail (told_report s trail)
is_told_report s trail = record {
  so_far = first_line ++ told_moves s (begin s) trail;
  closing = told_closing s (run s trail);
  is_so_far = record { moves = told_moves s (begin s) trail; lines = are_told_moves s (begin s) trail; is = refl };
  is_closing = record { volumes = told_volumes s (run s trail).state 0 s.volumes (run s trail).state.volumes; are_volumes = are_told_volumes s (run s trail).state 0 s.volumes (run s trail).state.volumes; is = refl };
  is = refl;
}

-- ## no other

digest_only : (rows : List VolumeRow) (v : ℕ) (bytes digest : List ℕ) → IsDigestIf (slice_get (map (λ _. true) rows) v) bytes digest → digest ≡ sha256 bytes
digest_only [] zero bytes digest h = h
digest_only [] (suc v) bytes digest h = h
digest_only (r ∷ rows) zero bytes digest h = h
digest_only (r ∷ rows) (suc v) bytes digest h = digest_only rows v bytes digest h

first_only : (rows : List VolumeRow) (v : ℕ) (bytes first : List ℕ) → IsFirstIf (slice_get (map (λ _. true) rows) v) bytes first → first ≡ take 8 bytes
first_only [] zero bytes first h = h
first_only [] (suc v) bytes first h = h
first_only (r ∷ rows) zero bytes first h = h
first_only (r ∷ rows) (suc v) bytes first h = first_only rows v bytes first h

shown_only : (s : Plan) (reply : Reply) (first digest : List ℕ) → IsShownAs (all_tell s) reply first digest → reply_with s first digest reply ≡ told_reply s reply
shown_only s reply first digest h = grind (arith, first_only, digest_only)

reply_only : (s : Plan) (reply : Reply) (text : List ℕ) → IsReplyText s (all_tell s) reply text → text ≡ told_reply s reply
reply_only s reply text h = h.is ∙ shown_only s reply h.first h.digest h.shown

event_only : (s : Plan) (r : Run) (actor : Actor) (event : Option Event) (mark : Mark) (text : List ℕ) → IsTextOf s (all_tell s) r actor event mark text → text ≡ told_event s r actor event mark
event_only s r actor None mark text h = h
event_only s r actor (Some event) mark text h = h.is ∙ ap (move_text s r actor (act_of mark event)) (reply_only s (reply s r.state (act_of mark event)) h.reply_text h.is_reply)

both_only : (text own rest own_told rest_told : List ℕ) → text ≡ own ++ rest → own ≡ own_told → rest ≡ rest_told → text ≡ own_told ++ rest_told
both_only text own rest own_told rest_told e f g = e ∙ ap (λ x. x ++ rest) f ∙ ap (λ x. own_told ++ x) g

moves_only : (s : Plan) (r : Run) (ms : List Move) (text : List ℕ) → IsLines s (all_tell s) r ms text → text ≡ told_moves s r ms
moves_only s r [] text h = h
moves_only s r (m ∷ ms) text h = both_only text h.0 h.1 (told_move s r m) (told_moves s (moved s r m) ms) h.4 (event_only s r m.actor (event_of s r m.actor) m.mark h.0 h.2) (moves_only s (moved s r m) ms h.1 h.3)

volume_only : (s : Plan) (v : ℕ) (row : VolumeRow) (h : History) (text : List ℕ) → IsVolumeText s (all_tell s) v row h text → text ≡ told_volume s v row h
volume_only s v row h text is = grind (arith, digest_only)

image_only : (s : Plan) (v : ℕ) (row : VolumeRow) (h : History) (i : Image) (text : List ℕ) → IsImageText s (all_tell s) v row h i text → text ≡ told_image s v row h i
image_only s v row h i text is = grind (arith, digest_only)

images_only : (s : Plan) (v : ℕ) (row : VolumeRow) (h : History) (images : List Image) (text : List ℕ) → AreImageTexts s (all_tell s) v row h images text → text ≡ told_images s v row h images
images_only s v row h [] text are = are
images_only s v row h (i ∷ images) text are = both_only text are.0 are.1 (told_image s v row h i) (told_images s v row h images) are.4 (image_only s v row h i are.0 are.2) (images_only s v row h images are.1 are.3)

volumes_only : (s : Plan) (st : State) (v : ℕ) (rows : List VolumeRow) (hs : List History) (text : List ℕ) → AreVolumeTexts s (all_tell s) st v rows hs text → text ≡ told_volumes s st v rows hs
volumes_only s st v [] hs text are = are
volumes_only s st v (row ∷ rows) [] text are = are
volumes_only s st v (row ∷ rows) (h ∷ hs) text are =
    both_only text (are.0 ++ are.1) are.2 (told_volume s v row h ++ told_images s v row h (kept st h)) (told_volumes s st (v + 1) rows hs) are.6
    (both_only (are.0 ++ are.1) are.0 are.1 (told_volume s v row h) (told_images s v row h (kept st h)) refl (volume_only s v row h are.0 are.3) (images_only s v row h (kept st h) are.1 are.4))
    (volumes_only s st (v + 1) rows hs are.2 are.5)

pub only_told_report : (s : Plan) (trail : List Move) (text : List ℕ) → IsReport s (all_tell s) trail text → text ≡ told_report s trail
only_told_report s trail text h = grind (arith, both_only, moves_only, volumes_only)
