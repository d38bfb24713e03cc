-- Orders that are sent as a group opens, and closed as it waits for nobody.
use Rattle.std.proofs.Common.{◌≡◌, ◌≢◌, ℕ, ◌+◌, ◌<◌, List, [], ◌∷◌, ◌++◌, length, Option, Some, None, refl, Bool, true, false, cond, ap, sym, ◌∙◌, arith, append-nil}
use Rattle.std.specs.Prelude.{◌&&◌, not, ◌==◌, count_by}
use Rattle.std.proofs.lemmas.List.{get_or-set_other, get_or-set_same}
use Rattle.std.proofs.lemmas.List.Sums.{sum_by-append}
use Rattle.std.proofs.lemmas.Bool.{and_parts, and_right}
use Rattle.std.proofs.lemmas.Grind.{common_steps}
use Rattle.vss_names.specs.declared.order.Order.{Order}
use Rattle.set_agenda.specs.declared.group.Group.{Group}
use Rattle.set_agenda.specs.declared.place.Place.{Place}
use Rattle.set_agenda.specs.Agenda.{Open, group_code, is_among, is_asked, open_order, open_place, order_if, order_now, order_of, same_order, same_place, waits_now}
use Rattle.set_agenda.specs.Course.{OrderGroup, group_of_orders, opens}
use Rattle.writer_calls.specs.declared.mailbox.Mailbox.{Mailbox}
use Rattle.writer_calls.specs.declared.order_counts.OrderCounts.{OrderCounts}
use Rattle.writer_calls.specs.Mailbox.{closed, empty, mailbox_at, one_more, sent_to, with_mailbox}
use Rattle.coordinator.specs.OpenOrders.{AreFit, AreReady, IsReady, counts_in, is_elsewhere, mailbox_in, nth_in, posted_to, stays}

-- ## one mailbox changes

pub at-changed : (w : ℕ) (f : Mailbox → Mailbox) (ms : List Mailbox) → w < length ms → mailbox_at (with_mailbox w f ms) w ≡ f (mailbox_at ms w)
at-changed w f ms h = get_or-set_same ms w (f (mailbox_at ms w)) empty h

pub at-other : (w : ℕ) (f : Mailbox → Mailbox) (ms : List Mailbox) (x : ℕ) → x ≢ w → mailbox_at (with_mailbox w f ms) x ≡ mailbox_at ms x
at-other w f ms x h = get_or-set_other ms w x (f (mailbox_at ms w)) empty h

-- ## counts

pub count-more : {X : Type 0} (p : X → Bool) (xs : List X) (x : X) (b : Bool) → p x ≡ b → count_by p (xs ++ x ∷ []) ≡ cond b (count_by p xs + 1) (count_by p xs)
count-more p xs x b e = grind (arith, sum_by-append)

-- a group of another order, or without the writer
nth-not : (gs : List OrderGroup) (w : ℕ) (o p : Order) (ws : List ℕ) → (same_order o p && is_among w ws) ≡ false → nth_in (gs ++ record { order = o; members = ws } ∷ []) w p ≡ nth_in gs w p
nth-not gs w o p ws e = count-more (λ (g : OrderGroup). same_order g.order p && is_among w g.members) gs (record { order = o; members = ws }) false e

-- a group of this order, with the writer
nth-more : (gs : List OrderGroup) (w : ℕ) (o p : Order) (ws : List ℕ) → (same_order o p && is_among w ws) ≡ true → nth_in (gs ++ record { order = o; members = ws } ∷ []) w p ≡ nth_in gs w p + 1
nth-more gs w o p ws e = count-more (λ (g : OrderGroup). same_order g.order p && is_among w g.members) gs (record { order = o; members = ws }) true e

counts-are : (a b c d e f g : ℕ) (n : OrderCounts) → a ≡ n.identify → b ≡ n.prepare_backup → c ≡ n.prepare_snapshot → d ≡ n.freeze → e ≡ n.thaw → f ≡ n.post_snapshot → g ≡ n.backup_complete
    → record { identify = a; prepare_backup = b; prepare_snapshot = c; freeze = d; thaw = e; post_snapshot = f; backup_complete = g } ≡ n
counts-are a b c d e f g n ea eb ec ed ee ef eg = rw (ea, eb, ec, ed, ee, ef, eg) refl

abbrev with_more : List OrderGroup → Order → List ℕ → List OrderGroup
with_more gs o ws = gs ++ record { order = o; members = ws } ∷ []

-- a group without the writer
pub counts-not : (gs : List OrderGroup) (w : ℕ) (o : Order) (ws : List ℕ) → is_among w ws ≡ false → counts_in (with_more gs o ws) w ≡ counts_in gs w
counts-not gs w o ws e = grind (arith, common_steps, counts-are, nth-not, and_right)

-- a group with the writer
pub counts-more : (gs : List OrderGroup) (w : ℕ) (o : Order) (ws : List ℕ) → is_among w ws ≡ true → counts_in (with_more gs o ws) w ≡ one_more o (counts_in gs w)
counts-more gs w o ws e = grind (arith, common_steps, counts-are, nth-more, nth-not)

-- ## the group that opens

-- PreCommit asks no writer
pub order-precommit : (g : Group) → (7 == group_code g) ≡ true → order_of g ≡ None
order-precommit g e = grind arith

-- no group opens where the place is the same
opens-same : (os ps : List Open) → is_elsewhere (open_place os) ps ≡ false → opens os ps ≡ []
opens-same os ps e = grind (arith, common_steps, order-precommit, and_parts)

-- another group opens where the place is another
opens-elsewhere : (os ps : List Open) → is_elsewhere (open_place os) ps ≡ true → opens os ps ≡ group_of_orders (order_now ps) (waits_now ps)
opens-elsewhere os ps e = grind (arith, common_steps)

-- ## a mailbox after an act

asked-order : (b : Bool) (x : Option Order) (o : Order) → order_if b x ≡ Some o → (b ≡ true) × (x ≡ Some o)
asked-order b x o e = grind arith

unasked-order : (b : Bool) (x : Option Order) (o : Order) → x ≡ Some o → order_if b x ≡ None → b ≡ false
unasked-order b x o e f = grind arith

-- an order that is open is one of a group of writers
asked-among : (ps : List Open) (w : ℕ) (o : Order) → order_now ps ≡ Some o → is_asked w ps ≡ is_among w (waits_now ps)
asked-among ps w o e = grind arith

mailbox-is : (m : Mailbox) (s : OrderCounts) (x : Option Order) → m.sent ≡ s → m.open_order ≡ x → m ≡ record { sent = s; open_order = x }
mailbox-is m s x e f = rw (sym e, sym f) refl

-- the group with this order, if it has one, was not open before
counts-opened : (gs : List OrderGroup) (ps : List Open) (w : ℕ) (x : Option Order) → order_now ps ≡ x → open_order ps w ≡ None → counts_in (gs ++ group_of_orders x (waits_now ps)) w ≡ counts_in gs w
counts-opened gs ps w x e f = grind (arith, common_steps, counts-not, asked-among, unasked-order)

posted-none : (m : Mailbox) (os ps : List Open) (gs : List OrderGroup) (w : ℕ) (b : Bool) → is_elsewhere (open_place os) ps ≡ b → open_order ps w ≡ None → m.sent ≡ counts_in gs w
    → closed m ≡ mailbox_in ps (gs ++ opens os ps) w
posted-none m os ps gs w true e f s = grind (arith, common_steps, mailbox-is, counts-opened, opens-elsewhere)
posted-none m os ps gs w false e f s = grind (arith, common_steps, mailbox-is, opens-same)

posted-new : (m : Mailbox) (os ps : List Open) (gs : List OrderGroup) (w : ℕ) (o : Order) → is_elsewhere (open_place os) ps ≡ true → open_order ps w ≡ Some o → m.sent ≡ counts_in gs w
    → sent_to o (closed m) ≡ mailbox_in ps (gs ++ opens os ps) w
posted-new m os ps gs w o e f s =
    let a : (is_asked w ps ≡ true) × (order_now ps ≡ Some o) = asked-order (is_asked w ps) (order_now ps) o f in
    let among : is_among w (waits_now ps) ≡ true = sym (asked-among ps w o a.1) ∙ a.0 in
    mailbox-is (sent_to o (closed m)) (counts_in (gs ++ opens os ps) w) (open_order ps w)
    (ap (one_more o) s ∙ sym (counts-more gs w o (waits_now ps) among) ∙ ap (λ x. counts_in (gs ++ group_of_orders x (waits_now ps)) w) (sym a.1) ∙ ap (λ hs. counts_in (gs ++ hs) w) (sym (opens-elsewhere os ps e))) (sym f)

posted-same : (m : Mailbox) (os ps : List Open) (gs : List OrderGroup) (w : ℕ) (o : Order) → is_elsewhere (open_place os) ps ≡ false → open_order ps w ≡ Some o → IsReady m os ps gs w
    → m ≡ mailbox_in ps (gs ++ opens os ps) w
posted-same m os ps gs w o e f r =
    let a : (is_asked w ps ≡ true) × (order_now ps ≡ Some o) = asked-order (is_asked w ps) (order_now ps) o f in
    mailbox-is m (counts_in (gs ++ opens os ps) w) (open_order ps w)
    (r.counts ∙ ap (λ hs. counts_in hs w) (sym (append-nil gs)) ∙ ap (λ hs. counts_in (gs ++ hs) w) (sym (opens-same os ps e)))
    (r.order (both (same_place (open_place os) (open_place ps)) (is_asked w ps) e a.0))
  where
    both : (b c : Bool) → not b ≡ false → c ≡ true → (b && c) ≡ true
    both true c e f = f
    both false c e f = cc

posted-at : (m : Mailbox) (os ps : List Open) (gs : List OrderGroup) (w : ℕ) (b : Bool) (x : Option Order) → is_elsewhere (open_place os) ps ≡ b → open_order ps w ≡ x → IsReady m os ps gs w
    → posted_to b x m ≡ mailbox_in ps (gs ++ opens os ps) w
posted-at m os ps gs w b None e f r = posted-none m os ps gs w b e f r.counts
posted-at m os ps gs w true (Some o) e f r = posted-new m os ps gs w o e f r.counts
posted-at m os ps gs w false (Some o) e f r = posted-same m os ps gs w o e f r

-- all mailboxes, once each is posted to
pub fit-posted : (ms ns : List Mailbox) (b : Bool) (p : Place) (ps : List Open) → b ≡ is_elsewhere p ps → ((w : ℕ) → w < 64 → mailbox_at ns w ≡ posted_to b (open_order ps w) (mailbox_at ms w))
    → (os : List Open) (gs : List OrderGroup) → p ≡ open_place os → AreReady ms os ps gs → AreFit ns ps (gs ++ opens os ps)
fit-posted ms ns b p ps e f os gs h r = grind (arith, posted-at)

-- ## ready mailboxes

-- the open group after an act waits for nobody that it did not wait for before
abbrev pub GoesOn : List Open → List Open → Type 0
GoesOn os ps = (w : ℕ) → stays os ps w ≡ true → open_order os w ≡ open_order ps w

pub ready-fit : (ms : List Mailbox) (os ps : List Open) (gs : List OrderGroup) → GoesOn os ps → AreFit ms os gs → AreReady ms os ps gs
ready-fit ms os ps gs g f = λ w l. record { counts = ap (λ (m : Mailbox). m.sent) (f w l); order = λ s. ap (λ (m : Mailbox). m.open_order) (f w l) ∙ g w s }
