-- What a volume with images has said to commands: one command, one more, and the first ones of a list.
use Rattle.std.proofs.Common.{◌≡◌, ℕ, ◌+◌, ◌<◌, ◌≤◌, List, [], ◌∷◌, length, ap, arith, Bool, true, false, ◌++◌, refl, ◌∙◌, inl, Option, Some, None}
use Rattle.std.proofs.Common.{zero, suc, take, drop}
use Rattle.std.proofs.lemmas.Grind.{common_steps}
use Rattle.std.proofs.lemmas.List.{map-append, length-append, length-map}
use Rattle.std.proofs.lemmas.List.Elements.{All-head, All-tail, All-cons}
use Rattle.std.specs.Prelude.{All, filter, if◌then◌else◌, ◌⊎◌, slice_get}
use Rattle.std.proofs.lemmas.Bool.Decides.{nat_tests}
use Rattle.vss_names.specs.Faults.{Rose}
use Rattle.block_data.specs.BlockBytes.{sha256}
use Rattle.write_history.specs.History.{History, Image as Shown, sets_of, content, point_in}
use Rattle.cow_volume.specs.Calls.{is_among}
use Rattle.cow_volume.proofs.Merging.{and_left, and_right, point_of}
use Rattle.cow_volume.proofs.Reverting.{take_next}
use Rattle.mirror_volume.specs.Contract.{IsSame, IsNoLessReady}
use Rattle.mirror_volume.specs.Replies.{AreAllowed, MayBeGiven, after, after_write, after_cut, after_drop, Kind, after_all, IsReply, IsStep, IsRun, reply_of}
use Rattle.mirror_volume.specs.Replies.{replies_of, is_plain, are_plain, used_by_all, AreUsedUp, IsRefused, kind_of, IsReadReply, IsImageReply}
use Rattle.mirror_volume.specs.declared.command.Command.{Command}
use Rattle.mirror_volume.specs.declared.command.Command.TheVariants.{Write, Cut, Drop, Image}
use Rattle.mirror_volume.specs.declared.said.Said.{Said}
use Rattle.mirror_volume.specs.declared.said.Said.TheVariants.{Bytes, NoSuchImage, Fault, Ok as SaidOk}

-- ## Which commands may be given as others were: what is left of a list.

All-weaken : {X : Type 0} → (P Q : X → Type 0) (xs : List X) → ((x : X) → P x → Q x) → All P xs → All Q xs
All-weaken x0 x1 xs weaker all = grind arith

-- sets of fewer images
record AreFewer (fewer more : List Shown) : Type 0 where
  all : (n : ℕ) → All (λ s. s ≤ n) (sets_of more) → All (λ s. s ≤ n) (sets_of fewer)
  long : length fewer ≤ length more

fewer_filter : (test : Shown → Bool) (images : List Shown) → AreFewer (filter test images) images
fewer_filter test [] = record { all = λ n are. are; long = omega arith }
fewer_filter test (i ∷ images) = by_test (test i) (fewer_filter test images) where
  by_test : (t : Bool) → AreFewer (filter test images) images → AreFewer (if t then i ∷ filter test images else filter test images) (i ∷ images)
  by_test true rest = record {
    all = λ n are. All-cons (λ s. s ≤ n) i.set (sets_of (filter test images)) (All-head (λ s. s ≤ n) i.set (sets_of images) are) (rest.all n (All-tail (λ s. s ≤ n) i.set (sets_of images) are));
    long = let long = rest.long in omega arith;
  }
  by_test false rest = record { all = λ n are. rest.all n (All-tail (λ s. s ≤ n) i.set (sets_of images) are); long = let long = rest.long in omega arith }

fewer_itself : (images : List Shown) → AreFewer images images
fewer_itself images = record { all = λ n are. are; long = omega arith }

write_fewer : (b x : ℕ) (said : Said) (h : History) → AreFewer (after_write b x said h).images h.images
write_fewer b x said h = grind (arith, common_steps, fewer_filter, fewer_itself)

drop_fewer : (set : ℕ) (said : Said) (h : History) → AreFewer (after_drop set said h).images h.images
drop_fewer set said h = grind (arith, common_steps, fewer_filter, fewer_itself)

-- after a command that adds no image the rest may be given
with_fewer : (n newest room : ℕ) (rest : List Command) (now before : List Shown) → AreFewer now before → All (λ s. s ≤ newest) (sets_of before) → length (sets_of before) + room ≤ 512
    → AreAllowed n newest room rest → MayBeGiven n (sets_of now) rest
with_fewer n newest room rest now before fewer most few allowed = grind (arith, length-map)

cut_given : (n newest room left set : ℕ) (rest : List Command) (said : Said) (h : History) → All (λ s. s ≤ newest) (sets_of h.images) → length (sets_of h.images) + room ≤ 512 → room ≡ left + 1
    → newest < set → AreAllowed n set left rest
    → MayBeGiven n (sets_of (after_cut set said h).images) rest
cut_given n newest room left set rest said h most few one less allowed = grind (arith, common_steps, All-weaken, map-append, length-append)

-- the rest of commands may be given once the first was
pub given_rest : (n : ℕ) (c : Command) (rest : List Command) (said : Said) (h : History) → MayBeGiven n (sets_of h.images) (c ∷ rest) → MayBeGiven n (sets_of (after h c said).images) rest
given_rest n (Write b x) rest said h may = with_fewer n may.newest may.room rest (after_write b x said h).images h.images (write_fewer b x said h) may.at_most may.few may.allowed.1
given_rest n (Cut set) rest said h may = cut_given n may.newest may.room may.allowed.0 set rest said h may.at_most may.few may.allowed.1 may.allowed.2 may.allowed.3
given_rest n (Drop set) rest said h may = with_fewer n may.newest may.room rest (after_drop set said h).images h.images (drop_fewer set said h) may.at_most may.few may.allowed
given_rest n _ rest said h may = with_fewer n may.newest may.room rest h.images h.images (fewer_itself h.images) may.at_most may.few may.allowed.1

-- ## Runs of commands: one command more, the definition's replies, and why a cut is refused.

-- ## one command more

pub after_all-more : (h : History) (commands : List Command) (said : List Said) (c : Command) (s : Said) → length said ≡ length commands
    → after_all h (commands ++ c ∷ []) (said ++ s ∷ []) ≡ after (after_all h commands said) c s
after_all-more h [] [] c s long = refl
after_all-more h [] (t ∷ said) c s long = absurd (omega arith)
after_all-more h (d ∷ commands) [] c s long = absurd (omega arith)
after_all-more h (d ∷ commands) (t ∷ said) c s long = after_all-more (after h d t) commands said c s (omega arith)

pub run-more : (kind : Kind) (tells : Bool) (h : History) (ready count mid_ready mid_count now_ready now_count : ℕ) (commands : List Command) (said : List Said) (c : Command) (s : Said)
    → IsRun kind tells h ready count commands said mid_ready mid_count → IsStep kind tells (after_all h commands said) c s mid_ready mid_count now_ready now_count
    → IsRun kind tells h ready count (commands ++ c ∷ []) (said ++ s ∷ []) now_ready now_count
run-more kind tells h ready count mid_ready mid_count now_ready now_count [] [] c s run step = grind (arith, common_steps)
run-more kind tells h ready count mid_ready mid_count now_ready now_count [] (t ∷ said) c s run step = absurd run
run-more kind tells h ready count mid_ready mid_count now_ready now_count (d ∷ commands) [] c s run step = absurd run
run-more kind tells h ready count mid_ready mid_count now_ready now_count (d ∷ commands) (t ∷ said) c s run step =
    (run.0, run.1, run.2, run-more kind tells (after h d t) run.0 run.1 mid_ready mid_count now_ready now_count commands said c s run.3 step)

-- ## the definition's replies

reply_plain : (kind : Kind) (h : History) (ready : ℕ) (rose : Type 0) (c : Command) (s : Said) → IsReply kind true h ready rose c s → is_plain s ≡ true → s ≡ reply_of h c
reply_plain kind h ready rose c s is plain = grind arith

-- where no device failed, no image was evicted and no cut refused, each reply is the definition's
pub plain_replies : (kind : Kind) (h : History) (ready count now_ready now_count : ℕ) (commands : List Command) (said : List Said) → IsRun kind true h ready count commands said now_ready now_count
    → are_plain said ≡ true → said ≡ replies_of h commands
plain_replies kind h ready count now_ready now_count [] [] run plain = refl
plain_replies kind h ready count now_ready now_count [] (s ∷ said) run plain = absurd run
plain_replies kind h ready count now_ready now_count (c ∷ commands) [] run plain = absurd run
plain_replies kind h ready count now_ready now_count (c ∷ commands) (s ∷ said) run plain =
    let fact = plain_replies kind (after h c s) run.0 run.1 now_ready now_count commands said run.3 (and_right (is_plain s) (are_plain said) plain) in
    grind (arith, common_steps, reply_plain, and_left, and_right)

-- ## cuts that are used up

later_rose : (a b c : ℕ) → a ≤ b → Rose a b → b ≤ c → Rose a c
later_rose a b c m x4 l = grind arith

pub run_later : (kind : Kind) (tells : Bool) (h : History) (ready count now_ready now_count : ℕ) (commands : List Command) (said : List Said)
    → IsRun kind tells h ready count commands said now_ready now_count → count ≤ now_count
run_later kind tells h ready count now_ready now_count [] [] run = let same = run.1 in omega arith
run_later kind tells h ready count now_ready now_count [] (s ∷ said) run = absurd run
run_later kind tells h ready count now_ready now_count (c ∷ commands) [] run = absurd run
run_later kind tells h ready count now_ready now_count (c ∷ commands) (s ∷ said) run =
    let rest = run_later kind tells (after h c s) run.0 run.1 now_ready now_count commands said run.3 in let first = run.2.later in omega arith

-- a run leaves a volume ready for no fewer cuts than it began with, but for those that were used up; or a count rose
pub spent : (kind : Kind) (tells : Bool) (h : History) (ready count now_ready now_count : ℕ) (commands : List Command) (said : List Said)
    → IsRun kind tells h ready count commands said now_ready now_count
    → (ready ≤ now_ready + used_by_all kind.per_cut commands said) ⊎ Rose count now_count
spent kind tells h ready count now_ready now_count [] [] run = inl (let same = run.0 in omega arith)
spent kind tells h ready count now_ready now_count [] (s ∷ said) run = absurd run
spent kind tells h ready count now_ready now_count (c ∷ commands) [] run = absurd run
spent kind tells h ready count now_ready now_count (c ∷ commands) (s ∷ said) run =
    grind (arith, common_steps, later_rose, run_later, spent kind tells (after h c s) run.0 run.1 now_ready now_count commands said run.3)

-- ## a cut that is refused

run_split : (kind : Kind) (tells : Bool) (h : History) (ready count now_ready now_count : ℕ) (commands later : List Command) (said more : List Said) → length said ≡ length commands
    → IsRun kind tells h ready count (commands ++ later) (said ++ more) now_ready now_count
    → (then_ready : ℕ) × (then_count : ℕ) × IsRun kind tells h ready count commands said then_ready then_count × IsRun kind tells
    (after_all h commands said) then_ready then_count later more now_ready now_count
run_split kind tells h ready count now_ready now_count [] later [] more long run = (ready, count, (refl, refl), run)
run_split kind tells h ready count now_ready now_count [] later (s ∷ said) more long run = absurd (omega arith)
run_split kind tells h ready count now_ready now_count (c ∷ commands) later [] more long run = absurd (omega arith)
run_split kind tells h ready count now_ready now_count (c ∷ commands) later (s ∷ said) more long run =
    let rest = run_split kind tells (after h c s) run.0 run.1 now_ready now_count commands later said more (omega arith) run.3 in
    (rest.0, rest.1, (run.0, run.1, run.2, rest.2), rest.3)

-- the cause stands in the commands before
pub refused_before : (kind : Kind) (tells : Bool) (h : History) (ready count : ℕ) (commands : List Command) (said : List Said) → IsRefused kind tells h ready count commands said
    → AreUsedUp kind tells h ready count commands said
refused_before kind tells h ready count commands said is = grind (arith, run_split, spent)

-- ## What a volume with images says to one command is what its call came to.

-- no image of a set that is not among them
none_point : (set : ℕ) (images : List Shown) → is_among set (sets_of images) ≡ false → point_in set images ≡ None
none_point set [] none = refl
none_point set (i ∷ images) none = grind (arith, common_steps, none_point set images)

pub step_of : (kind : Kind) (tells : Bool) (h : History) (c : Command) (said : Said) (ready count now_ready now_count : ℕ) → IsReply kind tells h ready (Rose count now_count) c said
    → count ≤ now_count → (ready ≤ now_ready) ⊎ Rose count now_count
    → IsStep kind tells h c said ready count now_ready now_count
step_of kind tells h c said ready count now_ready now_count reply later still = grind arith

module _ {V : Type 0} (stands : V → History → Type 0) (tells : V → Bool) (size : V → ℕ) (slots : V → Option ℕ) (ready count : V → ℕ) (sets : V → List ℕ) (per : ℕ) (old new : V) (h : History) where
  at_point : (set b : ℕ) (said : Said) → sets old ≡ sets_of h.images → is_among set (sets old) ≡ true
      → ((p : ℕ) → point_in set h.images ≡ Some p → IsReadReply (tells old) (content h.writes p b) (Rose (count old) (count new)) said)
      → IsImageReply (tells old) h b (point_in set h.images) (Rose (count old) (count new)) said
  at_point set b said are among reply = grind (arith, point_of)

  pub image_step : (set b : ℕ) (bytes digest : List ℕ) → sets old ≡ sets_of h.images → is_among set (sets old) ≡ true
      → ((p : ℕ) → tells old ≡ true → point_in set h.images ≡ Some p → bytes ≡ content h.writes p b) → digest ≡ sha256 bytes
      → IsSame tells size slots count old new → IsNoLessReady ready count old new
      → IsStep (kind_of size slots per old) (tells old) h (Image set b) (Bytes digest) (ready old) (count old) (ready new) (count new)
  image_step set b bytes digest are among shown is same still = grind (arith, step_of, at_point)

  pub image_fault_step : (set b : ℕ) → sets old ≡ sets_of h.images → is_among set (sets old) ≡ true → Rose (count old) (count new) → IsSame tells size slots count old new
      → IsNoLessReady ready count old new
      → IsStep (kind_of size slots per old) (tells old) h (Image set b) (Fault 0) (ready old) (count old) (ready new) (count new)
  image_fault_step set b are among rose same still = grind (arith, step_of, at_point)

  pub no_image_step : (set b : ℕ) → sets old ≡ sets_of h.images → is_among set (sets old) ≡ false → IsSame tells size slots count old new → IsNoLessReady ready count old new
      → IsStep (kind_of size slots per old) (tells old) h (Image set b) NoSuchImage (ready old) (count old) (ready new) (count new)
  no_image_step set b are none same still = grind (arith, step_of, none_point)

  pub drop_step : (set : ℕ) → sets old ≡ sets_of h.images → is_among set (sets old) ≡ true → IsSame tells size slots count old new → IsNoLessReady ready count old new
      → IsStep (kind_of size slots per old) (tells old) h (Drop set) SaidOk (ready old) (count old) (ready new) (count new)
  drop_step set are among same still = grind (arith, point_of, step_of)

  pub no_drop_step : (set : ℕ) → sets old ≡ sets_of h.images → is_among set (sets old) ≡ false → IsSame tells size slots count old new → IsNoLessReady ready count old new
      → IsStep (kind_of size slots per old) (tells old) h (Drop set) NoSuchImage (ready old) (count old) (ready new) (count new)
  no_drop_step set are none same still = grind (arith, step_of, none_point)

-- ## What a volume with images has said to the first commands of a list.

drop_suc : {X : Type 0} → (xs : List X) (k : ℕ) (x : X) → slice_get xs k ≡ Some x → drop k xs ≡ x ∷ drop (suc k) xs
drop_suc [] k x at = cc
drop_suc (y ∷ xs) zero x at = let same : y ≡ x = cc in ap (λ z. z ∷ xs) same
drop_suc (y ∷ xs) (suc k) x at = drop_suc xs k x at

drop_one : {X : Type 0} → (xs : List X) (k : ℕ) (x : X) → slice_get xs k ≡ Some x → drop k xs ≡ x ∷ drop (k + 1) xs
drop_one xs k x at = let next : suc k ≡ k + 1 = omega arith in drop_suc xs k x at ∙ ap (λ (n : ℕ). x ∷ drop n xs) next

long_take : {X : Type 0} → (xs : List X) (k : ℕ) (x : X) → slice_get xs k ≡ Some x → length (take k xs) ≡ k
long_take [] k x at = cc
long_take (y ∷ xs) zero x at = refl
long_take (y ∷ xs) (suc k) x at = ap suc (long_take xs k x at)

abbrev kind_with : ℕ → ℕ → Option ℕ → Kind
kind_with per n slots = record { blocks = n; slots = slots; per_cut = per }

same_kind : (per n m : ℕ) (slots also : Option ℕ) → n ≡ m → slots ≡ also → kind_with per n slots ≡ kind_with per m also
same_kind per n m slots also same such = ap (λ (k : ℕ). kind_with per k slots) same ∙ ap (λ (o : Option ℕ). kind_with per m o) such

-- the first k commands were given, and this was said to them
pub record HaveSaid {V : Type 0} (stands : V → History → Type 0) (tells : V → Bool) (size : V → ℕ) (slots : V → Option ℕ) (ready count : V → ℕ) (sets : V → List ℕ) (per : ℕ) (first now : V)
    (commands : List Command) (k : ℕ) (said : List Said) : Type 0 where
  pub long : length said ≡ k
  pub tells_is : tells now ≡ tells first
  pub size_is : size now ≡ size first
  pub slots_is : slots now ≡ slots first
  pub run : (h : History) → stands first h → IsRun (kind_of size slots per first) (tells first) h (ready first) (count first) (take k commands) said (ready now) (count now)
  pub stands_now : (h : History) → stands first h → stands now (after_all h (take k commands) said)
  pub allowed : MayBeGiven (size first) (sets now) (drop k commands)

module _ {V : Type 0} (stands : V → History → Type 0) (tells : V → Bool) (size : V → ℕ) (slots : V → Option ℕ) (ready count : V → ℕ) (sets : V → List ℕ) (per : ℕ) where
  pub one_said : (first now next : V) (commands : List Command) (k : ℕ) (said : List Said) (c : Command) (s : Said) (h0 : History) → stands first h0
      → ((v : V) (h : History) → stands v h → sets v ≡ sets_of h.images)
      → HaveSaid stands tells size slots ready count sets per first now commands k said → slice_get commands k ≡ Some c
      → ((h : History) → stands now h → IsStep (kind_of size slots per now) (tells now) h c s (ready now) (count now) (ready next) (count next))
      → ((h : History) → stands now h → stands next (after h c s)) → tells next ≡ tells now → size next ≡ size now → slots next ≡ slots now
      → HaveSaid stands tells size slots ready count sets per first next commands (k + 1) (said ++ s ∷ [])
  one_said first now next commands k said c s h0 stood are have at step after_is tell sized slotted =
      let fact = length-append said (s ∷ []) in
      let fact1 = take_next commands k c in
      grind (arith, common_steps, nat_tests, run-more, same_kind, after_all-more, given_rest, long_take commands k c, drop_one commands k c)
