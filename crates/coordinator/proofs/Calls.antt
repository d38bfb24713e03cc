-- What the calls of a coordinator do to what is kept of a course.
use Rattle.std.proofs.Common.{◌≡◌, ◌≢◌, ℕ, zero, suc, ◌+◌, ◌-◌, ◌<◌, ◌≤◌, ◌^◌, List, [], ◌∷◌, ◌++◌, length, drop, map, min, Option, Some, None, refl, Bool, true, false, cond, ap, sym, ◌∙◌, subst, arith, append-nil, append_assoc}
use Rattle.std.specs.Prelude.{◌==◌, fold, option_map, replicate, slice_get}
use Rattle.std.specs.Prelude.{Ok as OkResult}
use Rattle.std.proofs.lemmas.Bool.Decides.{nat_tests}
use Rattle.std.proofs.lemmas.Grind.{common_steps}
use Rattle.vss_names.specs.declared.order.Order.{Order}
use Rattle.vss_names.specs.declared.order.Order.TheVariants.{Identify}
use Rattle.vss_names.specs.declared.vss_result.VssResult.{VssResult}
use Rattle.vss_names.specs.declared.set_outcome.SetOutcome.{SetOutcome}
use Rattle.vss_names.specs.declared.set_outcome.SetOutcome.TheVariants.{Running}
use Rattle.writer_state.specs.declared.said.Said.{Said}
use Rattle.writer_state.specs.declared.writer_row.WriterRow.{WriterRow}
use Rattle.writer_state.specs.WriterState.{row_ended}
use Rattle.writer_calls.specs.declared.mailbox.Mailbox.{Mailbox}
use Rattle.writer_calls.specs.declared.order_counts.OrderCounts.{OrderCounts}
use Rattle.writer_calls.specs.declared.standing.Standing.{Standing}
use Rattle.writer_calls.specs.Mailbox.{answer_to, closed, count_of, empty, mailbox_at, number_of, standing, standing_of, total, with_mailbox}
use Rattle.writer_calls.proofs.Counts.{total-one_more}
use Rattle.set_agenda.specs.declared.limit.Limit.{Limit}
use Rattle.set_agenda.specs.declared.member.Member.{Member}
use Rattle.set_agenda.specs.declared.place.Place.{Place}
use Rattle.set_agenda.specs.Agenda.{Open, is_among, left, open_order, open_place, order_now, waits_now}
use Rattle.set_agenda.specs.Limits.{Running as RunningLimit, spent_of}
use Rattle.set_agenda.specs.Course.{Course, OrderGroup, answered, answered_to, course_start, failed, limit_of, limits_now, lost_writers, member_if, members_from, opens, posted, released, timed, treated}
use Rattle.set_agenda.proofs.WriterSets.{writers-none}
use Rattle.coordinator.specs.declared.kept_course.KeptCourse.{KeptCourse}
use Rattle.coordinator.specs.KeptCourse.{FitsRun, Follows, IsSound, IsTaken, StandsFor, kind_if_done, least_if, left_now, lost_by, treated_by}
use Rattle.coordinator.specs.OpenOrders.{AreFit, AreReady, HasRoom, IsReady, SentAtMost, counts_in, mailbox_in, nth_in, number_in, posted_to, standing_in, stays}
use Rattle.coordinator.proofs.Following.{left-is}
use Rattle.coordinator.specs.Coordinator.{CoordinatorState, Stands, failed_if_running, is_running}
use Rattle.coordinator.proofs.GroupsAfter.{goes-answered, goes-treated, leaves-answered, opened-answered, opened-failed, opened-treated}
use Rattle.coordinator.proofs.OpenOrders.{GoesOn, at-changed, at-other, count-more, counts-more, counts-not, ready-fit}

-- ## the mailbox of a writer

-- the nth of an order is the count of its groups
count_of-in : (gs : List OrderGroup) (w : ℕ) (o : Order) → count_of o (counts_in gs w) ≡ nth_in gs w o
count_of-in gs w Identify = refl
count_of-in gs w _ = refl

total-with : (gs : List OrderGroup) (w : ℕ) (g : OrderGroup) (b : Bool) → is_among w g.members ≡ b → total (counts_in (gs ++ g ∷ []) w) ≡ cond b (total (counts_in gs w) + 1) (total (counts_in gs w))
total-with gs w g b e = grind (arith, common_steps, counts-more, total-one_more, counts-not)

-- the groups in the order in which they opened, from the first on
more-from : (gs hs : List OrderGroup) (w : ℕ) → total (counts_in gs w) ≡ number_in gs w → total (counts_in (gs ++ hs) w) ≡ number_in (gs ++ hs) w
more-from gs [] w e = ap (λ xs. total (counts_in xs w)) (append-nil gs) ∙ e ∙ ap (λ xs. number_in xs w) (sym (append-nil gs))
more-from gs (h ∷ hs) w e =
    let step : total (counts_in (gs ++ h ∷ []) w) ≡ number_in (gs ++ h ∷ []) w
    = total-with gs w h (is_among w h.members) refl ∙ ap (λ n. cond (is_among w h.members) (n + 1) n) e ∙ sym (count-more (λ (g : OrderGroup). is_among w g.members) gs h (is_among w h.members) refl) in
    let all : (gs ++ h ∷ []) ++ hs ≡ gs ++ h ∷ hs = append_assoc gs (h ∷ []) hs in
    ap (λ xs. total (counts_in xs w)) (sym all) ∙ more-from (gs ++ h ∷ []) hs w step ∙ ap (λ xs. number_in xs w) all

-- a writer's number counts the groups that asked it anything
pub total-in : (gs : List OrderGroup) (w : ℕ) → total (counts_in gs w) ≡ number_in gs w
total-in gs w = more-from [] gs w refl

standing-at : (gs : List OrderGroup) (w : ℕ) (x : Option Order) → option_map (standing_of (counts_in gs w)) x ≡ option_map (λ (o : Order). record { number = number_in gs w; order = o; nth = nth_in gs w o }) x
standing-at gs w None = refl
standing-at gs w (Some o) = rw (total-in gs w, count_of-in gs w o) refl

pub standing-is : (ms : List Mailbox) (c : Course) (w : ℕ) → AreFit ms (left c.agenda) c.opened → w < 64 → standing (mailbox_at ms w) ≡ standing_in c w
standing-is ms c w f l = ap standing (f w l) ∙ standing-at c.opened w (open_order (left c.agenda) w)

-- ## an answer is taken

answered-at : (number : ℕ) (counts : OrderCounts) (s : Standing) (x : Option Order) → OkResult s ≡ answer_to number (option_map (standing_of counts) x) → x ≡ Some s.order
answered-at number counts s x e = grind arith

-- the order that was answered is the writer's open one
pub order-answered : (ms : List Mailbox) (os : List Open) (gs : List OrderGroup) (w number : ℕ) (s : Standing) → AreFit ms os gs → w < 64 → OkResult s ≡ answer_to number (standing (mailbox_at ms w)) → open_order os w ≡ Some s.order
order-answered ms os gs w number s f l e = answered-at number (counts_in gs w) s (open_order os w) (e ∙ ap (λ m. answer_to number (standing m)) (f w l))

same_from : (a w : ℕ) → (a == w) ≡ true → a ≡ w
same_from a w e = grind (arith, nat_tests)

other_from : (a w : ℕ) → (a == w) ≡ false → a ≢ w
other_from a w e = grind (arith, nat_tests)

ready-at : (ms : List Mailbox) (c : Course) (w x : ℕ) (o : Order) (said : Said) (now : ℕ) (b : Bool) → (w == x) ≡ b → AreFit ms (left c.agenda) c.opened → w < length ms → x < 64
    → IsReady (mailbox_at (with_mailbox w closed ms) x) (left c.agenda) (left (answered_to (Some o) w said now c).agenda) c.opened x
ready-at ms c w x o said now true e f l m =
    let s : w ≡ x = same_from w x e in
    let box : mailbox_at (with_mailbox w closed ms) x ≡ closed (mailbox_in (left c.agenda) c.opened x) = ap (mailbox_at (with_mailbox w closed ms)) (sym s) ∙ at-changed w closed ms l ∙ ap (λ y. closed (mailbox_at ms y)) s ∙ ap closed (f x m) in
    record {
      counts = ap (λ (y : Mailbox). y.sent) box;
      order = λ t. let b : false ≡ true = leaves-answered o w said now c (subst (λ y. stays (left c.agenda) (left (answered_to (Some o) w said now c).agenda) y ≡ true) (sym s) t) in cc;
    }
ready-at ms c w x o said now false e f l m =
    let s : x ≢ w = λ q. other_from w x e (sym q) in
    subst (λ y. IsReady y (left c.agenda) (left (answered_to (Some o) w said now c).agenda) c.opened x) (sym (at-other w closed ms x s))
    (ready-fit ms (left c.agenda) (left (answered_to (Some o) w said now c).agenda) c.opened (goes-answered o w said now c) f x m)

-- once its answer is taken, the other mailboxes are ready, and the writer's is
pub ready-answered : (ms ns : List Mailbox) (c : Course) (w : ℕ) (o : Order) → ns ≡ with_mailbox w closed ms → AreFit ms (left c.agenda) c.opened → w < length ms
    → (said : Said) (now : ℕ) → AreReady ns (left c.agenda) (left (answered_to (Some o) w said now c).agenda) c.opened
ready-answered ms ns c w o n f l said now = λ x m. subst (λ ys. IsReady (mailbox_at ys x) (left c.agenda) (left (answered_to (Some o) w said now c).agenda) c.opened x) (sym n) (ready-at ms c w x o said now (w == x) refl f l m)

room-at : (ms : List Mailbox) (w x : ℕ) (b : Bool) → (w == x) ≡ b → w < length ms → number_of (mailbox_at (with_mailbox w closed ms) x) ≡ number_of (mailbox_at ms x)
room-at ms w x b e l = grind (arith, common_steps, same_from, at-changed, other_from, at-other)

fresh-at : (n w : ℕ) → mailbox_at (replicate n empty) w ≡ empty
fresh-at n w = grind (arith, common_steps)

pub sent-answered : (ms ns : List Mailbox) (w : ℕ) → ns ≡ with_mailbox w closed ms → w < length ms → (n : ℕ) → SentAtMost n ms → SentAtMost n ns
sent-answered ms ns w e l n h = λ x m. subst (λ ys. number_of (mailbox_at ys x) ≤ n) (sym e) (subst (λ y. y ≤ n) (sym (room-at ms w x (w == x) refl l)) (h x m))

number-posted : (b : Bool) (o : Option Order) (m : Mailbox) (n : ℕ) → number_of m ≤ n → number_of (posted_to b o m) ≤ n + 1
number-posted b o m n h = grind arith

-- each writer is sent one order more at most
pub sent-posted : (ms ns : List Mailbox) (b : Bool) (os : List Open) → ((w : ℕ) → w < 64 → mailbox_at ns w ≡ posted_to b (open_order os w) (mailbox_at ms w)) → (n : ℕ) → SentAtMost n ms → SentAtMost (n + 1) ns
sent-posted ms ns b os f n h = λ w l. subst (λ y. number_of y ≤ n + 1) (sym (f w l)) (number-posted b (open_order os w) (mailbox_at ms w) n (h w l))

pub sent-closed : (ms ns : List Mailbox) → ((w : ℕ) → w < 64 → mailbox_at ns w ≡ closed (mailbox_at ms w)) → (n : ℕ) → SentAtMost n ms → SentAtMost n ns
sent-closed ms ns f n h = λ w l. subst (λ y. number_of y ≤ n) (sym (f w l)) (h w l)

pub sent-new : (k : ℕ) (ms : List Mailbox) → ms ≡ replicate k empty → SentAtMost 0 ms
sent-new k ms e = λ w l. subst (λ y. number_of y ≤ 0) (sym (ap (λ xs. mailbox_at xs w) e ∙ fresh-at k w)) (omega arith)

-- where so few orders were sent there is room for one more
pub room-of : (ms ns : List Mailbox) (n : ℕ) → ns ≡ ms → n < 2 ^ 32 - 1 → SentAtMost n ms → HasRoom ns
room-of ms ns n e l h = λ w m. subst (λ xs. number_of (mailbox_at xs w) < 2 ^ 32 - 1) (sym e) (let b = h w m in omega (arith, b, l))

-- ## mailboxes and the course

-- the mailboxes play no part in what follows the course
pub follows-boxes : (k : KeptCourse) (ns : List Mailbox) (c : Course) → Follows k c → Follows (record k { mailboxes = ns }) c
follows-boxes k ns c h = grind arith

stands-posted : (k : KeptCourse) (ns : List Mailbox) (c d : Course) → Follows k d → d.opened ≡ c.opened → AreFit ns (left d.agenda) (c.opened ++ opens (left c.agenda) (left d.agenda)) → StandsFor (record k { mailboxes = ns }) (posted c d)
unfolding posted
stands-posted k ns c d h e f = grind (arith, common_steps)

pub post-stands : (k : KeptCourse) (ns : List Mailbox) (p : Place) (c d : Course)
    → ((os : List Open) (gs : List OrderGroup) → p ≡ open_place os → AreReady k.mailboxes os (left_now k.running) gs → AreFit ns (left_now k.running) (gs ++ opens os (left_now k.running)))
    → p ≡ open_place (left c.agenda) → Follows k d → d.opened ≡ c.opened → AreReady k.mailboxes (left c.agenda) (left d.agenda) c.opened → StandsFor (record k { mailboxes = ns }) (posted c d)
post-stands k ns p c d fit e h o r =
    let l : left_now k.running ≡ left d.agenda = left-is k d h in
    stands-posted k ns c d h o
    (subst (λ ps. AreFit ns ps (c.opened ++ opens (left c.agenda) ps)) l (fit (left c.agenda) c.opened e (subst (λ ps. AreReady k.mailboxes (left c.agenda) ps c.opened) (sym l) r)))

pub close-stands : (k : KeptCourse) (ns : List Mailbox) (c d : Course) → ((w : ℕ) → w < 64 → mailbox_at ns w ≡ closed (mailbox_at k.mailboxes w)) → AreFit k.mailboxes (left c.agenda) c.opened
    → left d.agenda ≡ [] → d.opened ≡ c.opened → Follows k d → StandsFor (record k { mailboxes = ns }) d
close-stands k ns c d f b l o h = record {
  follows = follows-boxes k ns d h;
  mailboxes = λ w m. f w m ∙ ap closed (b w m) ∙ ap (λ gs. mailbox_in [] gs w) (sym o) ∙ ap (λ ps. mailbox_in ps d.opened w) (sym l);
}

-- ## a new coordinator

pub stands-new : (k : KeptCourse) (n : ℕ) → k.rows ≡ [] → k.mailboxes ≡ replicate n empty → k.members ≡ [] → k.disabled ≡ [] → k.running ≡ None → k.outcome ≡ Running → StandsFor k (course_start [])
stands-new k n r b m d u o = grind (arith, writers-none, fresh-at)

-- ## the freeze limit

least-step : (rows : List WriterRow) (t : ℕ → Bool) (limit n : ℕ) (r : WriterRow) (rest : List Member) (b : Bool) → t n ≡ b → slice_get rows n ≡ Some r
    → fold (λ l (m : Member). min l (limit_of (slice_get rows m.writer))) (least_if b limit r.limit) rest
    ≡ fold (λ l (m : Member). min l (limit_of (slice_get rows m.writer))) limit (member_if b n r ++ rest)
least-step rows t limit n r rest b e g = grind arith

drop-suc : (rows : List WriterRow) (n : ℕ) (r : WriterRow) → n < length rows → Some r ≡ slice_get rows n → drop n rows ≡ r ∷ drop (suc n) rows
drop-suc [] n r h g = absurd (omega arith)
drop-suc (x ∷ xs) zero r h g = let e : r ≡ x = cc in ap (λ y. y ∷ xs) (sym e)
drop-suc (x ∷ xs) (suc n) r h g = drop-suc xs n r (omega arith) g

pub drop-at : (rows : List WriterRow) (n : ℕ) (r : WriterRow) → n < length rows → Some r ≡ slice_get rows n → drop n rows ≡ r ∷ drop (n + 1) rows
drop-at rows n r h g = let e : suc n ≡ n + 1 = omega arith in drop-suc rows n r h g ∙ ap (λ m. r ∷ drop m rows) e

-- the next row is looked at
pub least-next : (rows : List WriterRow) (t : ℕ → Bool) (limit n : ℕ) (r : WriterRow) → n < length rows → Some r ≡ slice_get rows n
    → fold (λ l (m : Member). min l (limit_of (slice_get rows m.writer))) (least_if (t n) limit r.limit) (members_from t (n + 1) (drop (n + 1) rows))
    ≡ fold (λ l (m : Member). min l (limit_of (slice_get rows m.writer))) limit (members_from t n (drop n rows))
least-next rows t limit n r h g =
    least-step rows t limit n r (members_from t (n + 1) (drop (n + 1) rows)) (t n) refl (sym g)
    ∙ ap (λ rs. fold (λ l (m : Member). min l (limit_of (slice_get rows m.writer))) limit (members_from t n rs)) (sym (drop-at rows n r h g))

-- ## the session ends

none-at : (i : ℕ) (rs : List WriterRow) → [] ≡ members_from (λ w. false) i rs
none-at i [] = refl
none-at i (r ∷ rs) = none-at (i + 1) rs

none-from : (i : ℕ) (ms : List ℕ) (rs : List WriterRow) → ms ≡ [] → [] ≡ members_from (λ w. is_among w ms) i rs
none-from i ms rs e = none-at i rs ∙ ap (λ xs. members_from (λ w. is_among w xs) i rs) (sym e)

pub follows-released : (k n : KeptCourse) (c : Course) → n.rows ≡ map row_ended k.rows → n.members ≡ [] → n.disabled ≡ [] → n.running ≡ None → n.outcome ≡ Running → Follows k c → Follows n (released c)
unfolding released
follows-released k n c r m d u o h = record {
  rows = r ∙ ap (map row_ended) h.rows;
  members = none-from 0 n.members (map row_ended c.rows) m;
  participants = m ∙ sym writers-none;
  disabled = d ∙ sym writers-none;
  outcome = o;
  agenda = subst (λ x. FitsRun x None) (sym u) tt;
}

-- ## the calls

-- what holds of what a coordinator keeps holds of its fields
pub held : (s t : CoordinatorState) (d : Course) → s ≡ t → Stands t d → Stands s d
held s t d e h = subst (λ x. Stands x d) (sym e) h

-- orders are sent and closed after an act, and then it stands for what became of the course
abbrev pub Posts : KeptCourse → KeptCourse → Place → Type 0
Posts m n p = (c e : Course) → p ≡ open_place (left c.agenda) → Follows m e → e.opened ≡ c.opened → AreReady m.mailboxes (left c.agenda) (left e.agenda) c.opened → StandsFor n (posted c e)

pub act-stands : (k m n : KeptCourse) (p : Place) (d e : Course) → m.mailboxes ≡ k.mailboxes → Follows m e → Posts m n p → p ≡ open_place (left d.agenda) → e.opened ≡ d.opened → GoesOn (left d.agenda) (left e.agenda) → StandsFor k d → StandsFor n (posted d e)
act-stands k m n p d e b f posts q o g h = grind arith

pub sound-after : (k n : KeptCourse) (d : Course) → length n.rows ≡ length k.rows → length n.mailboxes ≡ 64 → kind_if_done n.running ≡ None → StandsFor n d → IsSound k → IsSound n
sound-after k n d r b l s h = record { few = subst (λ x. x ≤ 64) (sym r) h.few; boxes = b; live = l; course = d; stands = s }

pub answered-stands : (k m n : KeptCourse) (p : Place) (d : Course) (w : ℕ) (o : Order) (said heard : Said) (now : ℕ) → heard ≡ said → IsTaken o w k d → m.mailboxes ≡ k.mailboxes
    → Follows m (answered_to (Some o) w heard now d) → Posts m n p → p ≡ open_place (left d.agenda) → StandsFor n (answered w said now d)
answered-stands k m n p d w o said heard now s t b f posts q =
    subst (λ y. StandsFor n (answered w y now d)) s
    (subst (λ x. StandsFor n (posted d (answered_to x w heard now d))) (sym t.order)
    (posts d (answered_to (Some o) w heard now d) q f (opened-answered o w heard now d) (subst (λ ms. AreReady ms (left d.agenda) (left (answered_to (Some o) w heard now d).agenda) d.opened) (sym b) (t.ready heard now))))

treated-is : (x : Option RunningLimit) (now : ℕ) (d : Course) → treated_by (option_map (λ (l : RunningLimit). l.limit) x) now d ≡ treated x now d
treated-is x now d = grind arith

pub timed-stands : (k m n : KeptCourse) (p : Place) (d : Course) (spent : Option Limit) (now : ℕ) → spent ≡ option_map (λ (l : RunningLimit). l.limit) (spent_of now (limits_now d)) → m.mailboxes ≡ k.mailboxes
    → Follows m (treated_by spent now d) → Posts m n p → p ≡ open_place (left d.agenda) → StandsFor k d → StandsFor n (timed now d)
timed-stands k m n p d spent now s b f posts q h = grind (arith, treated-is, act-stands, opened-treated, goes-treated)

pub lost-told : (k : KeptCourse) (d : Course) (spent : Option Limit) (now : ℕ) → spent ≡ option_map (λ (l : RunningLimit). l.limit) (spent_of now (limits_now d)) → Follows k d
    → lost_by spent (order_now (left_now k.running)) (waits_now (left_now k.running)) ≡ lost_writers now d
lost-told k d spent now s h = grind arith

left-failed : (why : VssResult) (d : Course) → left (failed why d).agenda ≡ []
unfolding failed
left-failed why d = refl

left-released : (d : Course) → left (released d).agenda ≡ []
unfolding released
left-released d = refl

opened-released : (d : Course) → (released d).opened ≡ d.opened
unfolding released
opened-released d = refl

-- all orders are closed after an act, and then it stands for what became of the course
abbrev pub Closes : KeptCourse → KeptCourse → Type 0
Closes m n = (c e : Course) → AreFit m.mailboxes (left c.agenda) c.opened → left e.agenda ≡ [] → e.opened ≡ c.opened → Follows m e → StandsFor n e

-- a set in progress fails, and another does not
pub fails-running : (o : SetOutcome) (why : VssResult) (d : Course) → is_running o ≡ true → o ≡ d.outcome → failed why d ≡ failed_if_running d.outcome why d
fails-running o why d runs e = grind arith

pub stays-ended : (o : SetOutcome) (why : VssResult) (d : Course) → is_running o ≡ false → o ≡ d.outcome → d ≡ failed_if_running d.outcome why d
stays-ended o why d over e = grind arith

pub failed-stands : (k m n : KeptCourse) (d : Course) (why : VssResult) → m.mailboxes ≡ k.mailboxes → Follows m (failed why d) → Closes m n → StandsFor k d → StandsFor n (failed why d)
failed-stands k m n d why b f closes h = closes d (failed why d) (subst (λ ms. AreFit ms (left d.agenda) d.opened) (sym b) h.mailboxes) (left-failed why d) (opened-failed why d) f

pub released-stands : (k m n : KeptCourse) (d : Course) → m.mailboxes ≡ k.mailboxes → Follows m (released d) → Closes m n → StandsFor k d → StandsFor n (released d)
released-stands k m n d b f closes h = closes d (released d) (subst (λ ms. AreFit ms (left d.agenda) d.opened) (sym b) h.mailboxes) (left-released d) (opened-released d) f
