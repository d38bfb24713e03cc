-- The members whom an agenda asks, and an agenda that begins, in what is kept of the course and in the course.
use Rattle.std.proofs.Common.{◌≡◌, ℕ, zero, suc, ◌+◌, ◌<◌, ◌≤◌, List, [], ◌∷◌, ◌++◌, length, refl, Bool, true, false, cond, ap, sym, ◌∙◌, arith, filter, map}
use Rattle.std.proofs.Common.{drop, Some, append-nil, subst}
use Rattle.std.proofs.lemmas.Bool.{eqb-true}
use Rattle.std.proofs.lemmas.Grind.{common_steps}
use Rattle.std.proofs.lemmas.List.Concat.{flat_map-cons}
use Rattle.std.proofs.lemmas.List.Elements.{All-nil, filter-append}
use Rattle.std.proofs.lemmas.Map.Views.{any-filter_same}
use Rattle.std.specs.List.{flat_map, range_with_len}
use Rattle.std.specs.Prelude.{◌==◌, ◌&&◌, ◌||◌, nat_lt, slice_get, All, not, is_some}
use Rattle.writer_state.specs.WriterState.{row_gathered}
use Rattle.writer_state.specs.declared.writer_row.WriterRow.{WriterRow}
use Rattle.set_agenda.specs.Agenda.{is_among, Agenda, left, open_place}
use Rattle.set_agenda.specs.Advance.{are_distinct, by_writer, unspoken}
use Rattle.set_agenda.specs.Course.{member_if, members_from, Course, begun, has_row_failed, is_member, posted, settled}
use Rattle.set_agenda.specs.WriterSet.{writers}
use Rattle.set_agenda.specs.declared.kind.Kind.{Kind}
use Rattle.set_agenda.specs.declared.kind.Kind.TheVariants.{Gather, Prepare, Snapshot, Complete}
use Rattle.set_agenda.specs.declared.member.Member.{Member}
use Rattle.set_agenda.specs.declared.place.Place.{Place}
use Rattle.set_agenda.proofs.GroupsLeft.{any-map}
use Rattle.set_agenda.proofs.WriterSets.{among-writers, writers-agree, writers-none}
use Rattle.component_doc.specs.Over.{Held}
use Rattle.component_doc.specs.Selection.{takers}
use Rattle.coordinator.specs.Beginning.{asked_by, asks, begun_as, enabled, ready_for, volumes_if}
use Rattle.coordinator.specs.Coordinator.{Registered, is_disabled}
use Rattle.coordinator.specs.KeptCourse.{Follows, StandsFor}
use Rattle.coordinator.specs.OpenOrders.{AreFit}
use Rattle.coordinator.specs.RunningAgenda.{Fits}
use Rattle.coordinator.specs.declared.kept_course.KeptCourse.{KeptCourse}
use Rattle.coordinator.specs.declared.row_change.RowChange.TheVariants.{Gathered}
use Rattle.coordinator.specs.declared.running_agenda.RunningAgenda.{RunningAgenda}
use Rattle.coordinator.proofs.Calls.{drop-at, Posts}
use Rattle.coordinator.proofs.GroupsAfter.{goes-begun, opened-settled}
use Rattle.coordinator.proofs.Registering.{member-below, member-above, member-here, members-agree, members-map, disabled-is}
use Rattle.coordinator.proofs.OpenOrders.{GoesOn, ready-fit}

-- ## The members whom an agenda asks, in the order of their writers.

-- ## each writer is one member, and has a number below 64

abbrev number_of : Member → ℕ
number_of m = m.writer

distinct-step : (b : Bool) (i : ℕ) (r : WriterRow) (ms : List Member) → is_among i (map number_of ms) ≡ false → are_distinct (map number_of ms) ≡ true → are_distinct (map number_of (member_if b i r ++ ms)) ≡ true
distinct-step b i r ms h d = grind arith

pub members-distinct : (t : ℕ → Bool) (i : ℕ) (rs : List WriterRow) → are_distinct (map number_of (members_from t i rs)) ≡ true
members-distinct t i [] = refl
members-distinct t i (r ∷ rs) = distinct-step (t i) i r (members_from t (i + 1) rs)
    (any-map (λ x. x == i) number_of (members_from t (i + 1) rs) ∙ member-below t (i + 1) rs i (omega arith)) (members-distinct t (i + 1) rs)

abbrev IsSmall : Member → Type 0
IsSmall m = m.writer < 64

small-step : (b : Bool) (i : ℕ) (r : WriterRow) (ms : List Member) → i < 64 → All IsSmall ms → All IsSmall (member_if b i r ++ ms)
small-step b i r ms h a = grind arith

pub members-small : (t : ℕ → Bool) (i : ℕ) (rs : List WriterRow) → i + length rs ≤ 64 → All IsSmall (members_from t i rs)
members-small t i [] h = All-nil IsSmall
members-small t i (r ∷ rs) h = small-step (t i) i r (members_from t (i + 1) rs) (omega arith) (members-small t (i + 1) rs (omega arith))

-- ## they are in the order of their numbers

abbrev of_writer : List Member → ℕ → List Member
of_writer ms w = filter (λ (m : Member). m.writer == w) ms

flat-none : (f : ℕ → List Member) (xs : List ℕ) → ((x : ℕ) → f x ≡ []) → flat_map f xs ≡ []
flat-none f [] h = refl
flat-none f (x ∷ xs) h = flat_map-cons f x xs ∙ ap (λ ms. ms ++ flat_map f xs) (h x) ∙ flat-none f xs h

flat-agree : (f g : ℕ → List Member) (a n : ℕ) → ((i : ℕ) → a ≤ i → f i ≡ g i) → flat_map f (range_with_len a n) ≡ flat_map g (range_with_len a n)
flat-agree f g a zero h = refl
flat-agree f g a (suc n) h = let ih = flat-agree f g (a + 1) n (λ i l. h i (omega arith)) in grind (arith, common_steps, flat_map-cons)

member_if-of : (b : Bool) (i : ℕ) (r : WriterRow) (w : ℕ) (c : Bool) → (i == w) ≡ c → of_writer (member_if b i r) w ≡ cond c (member_if b i r) []
member_if-of b i r w c e = grind arith

of-below : (t : ℕ → Bool) (i : ℕ) (rs : List WriterRow) (w : ℕ) → w < i → of_writer (members_from t i rs) w ≡ []
of-below t i [] w h = refl
of-below t i (r ∷ rs) w h = let ih = of-below t (i + 1) rs w (omega arith) in grind (arith, common_steps, filter-append, member_if-of)

of-here : (t : ℕ → Bool) (i : ℕ) (r : WriterRow) (rs : List WriterRow) → of_writer (members_from t i (r ∷ rs)) i ≡ member_if (t i) i r
of-here t i r rs = grind (arith, filter-append, member_if-of, of-below)

of-later : (t : ℕ → Bool) (i : ℕ) (r : WriterRow) (rs : List WriterRow) (w : ℕ) → i + 1 ≤ w → of_writer (members_from t i (r ∷ rs)) w ≡ of_writer (members_from t (i + 1) rs) w
of-later t i r rs w h = grind arith

in-order : (t : ℕ → Bool) (i n : ℕ) (rs : List WriterRow) → length rs ≤ n → flat_map (of_writer (members_from t i rs)) (range_with_len i n) ≡ members_from t i rs
in-order t i n [] h = flat-none (of_writer []) (range_with_len i n) (λ x. refl)
in-order t i zero (r ∷ rs) h = absurd (omega arith)
in-order t i (suc n) (r ∷ rs) h = let ih = in-order t (i + 1) n rs (omega arith) in grind (arith, common_steps, flat_map-cons, of-here, flat-agree, of-later)

pub members-ordered : (t : ℕ → Bool) (rs : List WriterRow) → length rs ≤ 64 → by_writer (members_from t 0 rs) ≡ members_from t 0 rs
unfolding by_writer
members-ordered t rs h = in-order t 0 64 rs h

-- ## who passes a test more

filter-if : (b c : Bool) (i : ℕ) (r : WriterRow) (g : ℕ → Bool) → g i ≡ c → filter (λ (m : Member). g m.writer) (member_if b i r) ≡ member_if (b && c) i r
filter-if b c i r g e = grind arith

pub filter-members : (t g : ℕ → Bool) (i : ℕ) (rs : List WriterRow) → filter (λ (m : Member). g m.writer) (members_from t i rs) ≡ members_from (λ w. t w && g w) i rs
filter-members t g i [] = refl
filter-members t g i (r ∷ rs) = let ih = filter-members t g (i + 1) rs in grind (arith, common_steps, filter-append, filter-if)

-- ## a set of writers that is made one after another

below-step : (p : ℕ → Bool) (n w : ℕ) (c : Bool) → (n == w) ≡ c → ((nat_lt w n && p w) || (p n && c)) ≡ (nat_lt w (n + 1) && p w)
below-step p n w c e = grind arith

pub below-none : (p : ℕ → Bool) → [] ≡ writers (λ w. nat_lt w 0 && p w)
below-none p = grind (arith, writers-agree, writers-none)

pub below-next : (p : ℕ → Bool) (n : ℕ) → writers (λ w. (nat_lt w n && p w) || (p n && (n == w))) ≡ writers (λ w. nat_lt w (n + 1) && p w)
below-next p n = writers-agree (λ w. (nat_lt w n && p w) || (p n && (n == w))) (λ w. nat_lt w (n + 1) && p w) (λ w l. below-step p n w (n == w) refl)

-- one writer more, where it is so
pub inserted : (old new : List ℕ) (writer : ℕ) (really : Bool) → really ≡ true → new ≡ writers (λ w. is_among w old || (writer == w)) → (p : ℕ → Bool) → old ≡ writers p → new ≡ writers (λ w. p w || (really && (writer == w)))
inserted old new writer really e f p h = grind (arith, writers-agree, among-writers)

-- the next row is looked at
pub members-next : (rows : List WriterRow) (t : ℕ → Bool) (n : ℕ) (r : WriterRow) (xs ys : List Member) → n < length rows → Some r ≡ slice_get rows n → ys ≡ xs ++ member_if (t n) n r
    → ys ++ members_from t (n + 1) (drop (n + 1) rows) ≡ xs ++ members_from t n (drop n rows)
members-next rows t n r xs ys h g e = grind (arith, common_steps, drop-at)

drop-past : (rs : List WriterRow) (n : ℕ) → length rs ≤ n → drop n rs ≡ []
drop-past rs n h = grind (arith, common_steps)

-- all rows were looked at
pub members-end : (rows : List WriterRow) (t : ℕ → Bool) (n : ℕ) (xs ms : List Member) → length rows ≤ n → xs ++ members_from t n (drop n rows) ≡ ms → xs ≡ ms
members-end rows t n xs ms h e = sym (append-nil xs) ∙ ap (λ rs. xs ++ members_from t n rs) (sym (drop-past rows n h)) ∙ e

-- ## An agenda that begins, in what is kept of the course and in the course.

-- ## who is asked

asked-at : (kind : Kind) (ws : List Registered) (k : KeptCourse) (ts : List ℕ) (w : ℕ) → w < length k.rows → w < 64 → is_among w (asked_by kind ws k ts) ≡ asks kind ws k ts w
asked-at kind ws k ts w l m = grind (arith, among-writers)

asked-above : (kind : Kind) (ws : List Registered) (k : KeptCourse) (ts : List ℕ) (w : ℕ) → length k.rows ≤ w → w < 64 → is_among w (asked_by kind ws k ts) ≡ false
asked-above kind ws k ts w l m = grind (arith, among-writers)

abbrev asked_members : Kind → List Registered → KeptCourse → List ℕ → Course → List Member
asked_members kind ws k ts c = members_from (λ w. is_among w (asked_by kind ws k ts)) 0 c.rows

member-at : (t : ℕ → Bool) (rs : List WriterRow) (w n : ℕ) → n ≡ length rs → (w < n → is_member (members_from t 0 rs) w ≡ t w) × (n ≤ w → is_member (members_from t 0 rs) w ≡ false)
member-at t rs w n e = ((λ l. member-here t 0 rs w (omega arith) (omega (arith, e, l))), (λ l. member-above t 0 rs w (omega (arith, e, l))))

split-at : (P : Type 0) (w n : ℕ) (b : Bool) → nat_lt w n ≡ b → (w < n → P) → (n ≤ w → P) → P
split-at x0 w n b e f g = grind arith

-- those that are asked are the members made of them
pub asked-participants : (kind : Kind) (ws : List Registered) (k : KeptCourse) (ts : List ℕ) (c : Course) → Follows k c → asked_by kind ws k ts ≡ writers (is_member (asked_members kind ws k ts c))
asked-participants kind ws k ts c h = grind (arith, writers-agree, among-writers, split-at, member-at, asked-above)

members-asked : (kind : Kind) (ws : List Registered) (k : KeptCourse) (ts : List ℕ) (c : Course) (t : ℕ → Bool) → length k.rows ≤ 64 → Follows k c → ((w : ℕ) → w < length k.rows → t w ≡ asks kind ws k ts w) → members_from t 0 c.rows ≡ asked_members kind ws k ts c
members-asked kind ws k ts c t f h same = grind (arith, members-agree, asked-at)

-- ## what becomes of the course

begun-posted : (kind : Kind) (ms : List Member) (vs : List ℕ) (now : ℕ) (c : Course) → begun kind ms vs now c ≡ posted c (settled (record c { agenda = Some (unspoken kind ms vs now) }))
unfolding begun
begun-posted kind ms vs now c = refl

and-swapped : (a b : Bool) → (a && b) ≡ (b && a)
and-swapped a b = grind arith

enabled-among : (ws : List Registered) (ds ts : List ℕ) (w : ℕ) → is_among w (enabled ws ds ts) ≡ (is_among w ts && not (is_disabled ws ds w))
enabled-among ws ds ts w = grind (arith, any-filter_same, eqb-true, and-swapped)

begun-at : (kind : Kind) (ws : List Registered) (s : Held) (k : KeptCourse) (ts vs : List ℕ) (now : ℕ) (c : Course) → length ws ≤ 64 → length k.rows ≤ 64 → ts ≡ takers s.writers s.selected → Follows k c
    → begun_as kind ws s vs now c ≡ begun kind (asked_members kind ws k ts c) (volumes_if kind vs) now (ready_for kind (asked_members kind ws k ts c) c)
begun-at Gather ws s k ts vs now c n f e h = grind (arith, common_steps, members-asked, disabled-is)
begun-at Prepare ws s k ts vs now c n f e h = ap (λ ms. begun Prepare ms [] now (record c { members = ms }))
    (members-asked Prepare ws k ts c _ f h (λ w l.
    enabled-among ws c.disabled (takers s.writers s.selected) w
    ∙ ap (λ xs. is_among w xs && not (is_disabled ws c.disabled w)) (sym e)
    ∙ ap (λ b. is_among w ts && not b) (sym (disabled-is k c ws w n h))))
begun-at Snapshot ws s k ts vs now c n f e h = ap (λ ms. begun Snapshot ms vs now c) (h.members ∙ members-asked Snapshot ws k ts c (λ w. is_among w k.members) f h (λ w l. refl))
begun-at Complete ws s k ts vs now c n f e h = ap (λ ms. begun Complete ms [] now c)
    (ap (filter (λ (m : Member). not (has_row_failed c.rows m.writer))) h.members
    ∙ filter-members (λ w. is_among w k.members) (λ w. not (has_row_failed c.rows w)) 0 c.rows
    ∙ members-asked Complete ws k ts c (λ w. is_among w k.members && not (has_row_failed c.rows w)) f h (λ w l. ap (λ rs. is_among w k.members && not (has_row_failed rs w)) (sym h.rows)))

-- ## what is kept

pub follows-gathered : (k n : KeptCourse) (c : Course) (ms : List Member) → n ≡ record k { rows = n.rows } → n.rows ≡ map row_gathered k.rows → Follows k c → Follows n (ready_for Gather ms c)
follows-gathered k n c ms e r h =
    subst (λ x. Follows x (ready_for Gather ms c)) (sym e) (record {
      rows = r ∙ ap (map row_gathered) h.rows;
      members = h.members ∙ sym (members-map Gathered (λ w. is_among w k.members) 0 c.rows);
      participants = h.participants;
      disabled = h.disabled;
      outcome = h.outcome;
      agenda = h.agenda;
    })

pub follows-prepared : (k : KeptCourse) (ws : List ℕ) (c : Course) → ws ≡ writers (is_member (members_from (λ w. is_among w ws) 0 c.rows)) → Follows k c → Follows (record k { members = ws }) (ready_for Prepare (members_from (λ w. is_among w ws) 0 c.rows) c)
follows-prepared k ws c e h = record { rows = h.rows; members = refl; participants = e; disabled = h.disabled; outcome = h.outcome; agenda = h.agenda }

pub follows-running : (k : KeptCourse) (r : RunningAgenda) (c : Course) (a : Agenda) → Fits r a → Follows k c → Follows (record k { running = Some r }) (record c { agenda = Some a })
follows-running k r c a f h = grind arith

-- ## the call

ready-agenda : (kind : Kind) (ms : List Member) (c : Course) → (ready_for kind ms c).agenda ≡ c.agenda
ready-agenda kind ms c = grind arith

ready-opened : (kind : Kind) (ms : List Member) (c : Course) → (ready_for kind ms c).opened ≡ c.opened
ready-opened kind ms c = grind arith

idle-left : (k : KeptCourse) (c : Course) → is_some k.running ≡ false → Follows k c → left c.agenda ≡ []
idle-left k c e h = grind arith

pub begun-stands : (kind : Kind) (ws : List Registered) (s : Held) (k m n : KeptCourse) (p : Place) (ts vs : List ℕ) (now : ℕ) (c : Course) → length ws ≤ 64 → length k.rows ≤ 64 → ts ≡ takers s.writers s.selected → is_some k.running ≡ false
    → m.mailboxes ≡ k.mailboxes → Posts m n p → p ≡ open_place (left c.agenda)
    → Follows m (settled (record (ready_for kind (asked_members kind ws k ts c) c) { agenda = Some (unspoken kind (asked_members kind ws k ts c) (volumes_if kind vs) now) }))
    → StandsFor k c → StandsFor n (begun_as kind ws s vs now c)
begun-stands kind ws s k m n p ts vs now c l f e i b posts q g h =
    let ms : List Member = asked_members kind ws k ts c in
    let c0 : Course = ready_for kind ms c in
    let c1 : Course = settled (record c0 { agenda = Some (unspoken kind ms (volumes_if kind vs) now) }) in
    let nil : left c0.agenda ≡ [] = ap left (ready-agenda kind ms c) ∙ idle-left k c i h.follows in
    let fit : AreFit m.mailboxes (left c0.agenda) c0.opened = subst (λ gs. AreFit m.mailboxes (left c0.agenda) gs) (sym (ready-opened kind ms c)) (subst (λ os. AreFit m.mailboxes os c.opened) (ap left (sym (ready-agenda kind ms c))) (subst (λ xs. AreFit xs (left c.agenda) c.opened) (sym b) h.mailboxes)) in
    let goes : GoesOn (left c0.agenda) (left c1.agenda) = subst (λ os. GoesOn os (left c1.agenda)) (sym nil) (goes-begun (left c1.agenda)) in
    subst (StandsFor n) (sym (begun-at kind ws s k ts vs now c l f e h.follows ∙ begun-posted kind ms (volumes_if kind vs) now c0))
    (posts c0 c1 (q ∙ ap (λ ag. open_place (left ag)) (sym (ready-agenda kind ms c))) g (opened-settled (record c0 { agenda = Some (unspoken kind ms (volumes_if kind vs) now) })) (ready-fit m.mailboxes (left c0.agenda) (left c1.agenda) c0.opened goes fit))

-- the call, from what its parts say
pub begun-call : (kind : Kind) (ws : List Registered) (s : Held) (k m m2 n : KeptCourse) (p : Place) (ts vs asked us : List ℕ) (now : ℕ) (r : RunningAgenda) (ms : List Member) (c : Course) → length ws ≤ 64 → length k.rows ≤ 64 → ts ≡ takers s.writers s.selected → is_some k.running ≡ false
    → asked ≡ asked_by kind ws k ts → ms ≡ members_from (λ w. is_among w asked) 0 k.rows → by_writer ms ≡ ms → us ≡ volumes_if kind vs → Fits r (unspoken kind (by_writer ms) us now)
    → ((d : Course) → Follows k d → asked ≡ writers (is_member (members_from (λ w. is_among w asked) 0 d.rows)) → Follows m (ready_for kind (members_from (λ w. is_among w asked) 0 d.rows) d))
    → ((d : Course) (a : Agenda) → Follows m d → Fits r a → Follows m2 (settled (record d { agenda = Some a })))
    → m2.mailboxes ≡ k.mailboxes → Posts m2 n p → p ≡ open_place (left c.agenda) → StandsFor k c → StandsFor n (begun_as kind ws s vs now c)
begun-call kind ws s k m m2 n p ts vs asked us now r ms c l f e i q me mo u fit prep begin b posts at h =
    let made : by_writer ms ≡ asked_members kind ws k ts c = mo ∙ me ∙ ap (λ xs. members_from (λ w. is_among w xs) 0 k.rows) q ∙ ap (members_from (λ w. is_among w (asked_by kind ws k ts)) 0) h.follows.rows in
    let fits : Fits r (unspoken kind (asked_members kind ws k ts c) (volumes_if kind vs) now) = subst (λ xs. Fits r (unspoken kind (asked_members kind ws k ts c) xs now)) u (subst (λ xs. Fits r (unspoken kind xs us now)) made fit) in
    let ready : Follows m (ready_for kind (asked_members kind ws k ts c) c)
    = subst (λ xs. xs ≡ writers (is_member (members_from (λ w. is_among w xs) 0 c.rows)) → Follows m (ready_for kind (members_from (λ w. is_among w xs) 0 c.rows) c)) q (prep c h.follows) (asked-participants kind ws k ts c h.follows) in
    begun-stands kind ws s k m2 n p ts vs now c l f e i b posts at
    (begin (ready_for kind (asked_members kind ws k ts c) c) (unspoken kind (asked_members kind ws k ts c) (volumes_if kind vs) now) ready fits) h
